-- What below_of counts is what Applies says.
use Prim.Native.Nat.{ℕ, ◌+◌, ◌-◌, ◌≤◌, ◌<◌}
use mathlib.Core.Path.{◌≡◌, refl, ap, ◌∙◌, sym}
use mathlib.Core.Bool.{Bool, true, false}
use mathlib.Core.List.{List, [], ◌∷◌, ◌++◌}
use lib.ListN.{length, take, drop, length-append, length-map, take-append-drop}
use lib.Seq.{length-take-le}
use native.Mathlib.Omega.{arith}
use borrow.Author.Tests.{eq-eqb, eqb-true}
use Rattle.names.specs.Standard.{Unit, label, bit, key_unit, keys}
use Rattle.octets.proofs.SameLaws.{same_eq, same_refl, by_eq, by_refl}
use Rattle.rewriting.specs.Rewrite.{same_unit, same_units, Applies, below_of}

part_refl : (u : Unit) → same_unit u u ≡ true
unfolding same_unit
part_refl (label l) = same_refl l
part_refl (bit b) = eq-eqb b b refl

part_eq : (u v : Unit) → same_unit u v ≡ true → u ≡ v
unfolding same_unit
part_eq (label l) (label m) h = ap label (same_eq l m h)
part_eq (label l) (bit c) h = cc
part_eq (bit b) (label m) h = cc
part_eq (bit b) (bit c) h = ap bit (eqb-true b c h)

units_refl : (us : List Unit) → same_units us us ≡ true
units_refl = by_refl same_unit part_refl

units_eq : (us vs : List Unit) → same_units us vs ≡ true → us ≡ vs
units_eq = by_eq same_unit part_eq

drop_front : (below us : List Unit) → drop (length below) (below ++ us) ≡ us
drop_front [] us = refl
drop_front (b ∷ below) us = drop_front below us

-- the two branches
pub below_yes : (owner name : List Unit) → keys (drop (length name - length owner) name) ≡ keys owner → below_of owner name ≡ length name - length owner
unfolding below_of
below_yes owner name d =
    let s : same_units (keys (drop (length name - length owner) name)) (keys owner) ≡ true = rw d (units_refl (keys owner)) in
    rw (below_of, s)

pub below_no : (owner name : List Unit) → (keys (drop (length name - length owner) name) ≡ keys owner → ⊥) → below_of owner name ≡ 0
unfolding below_of
below_no owner name d = go (same_units (keys (drop (length name - length owner) name)) (keys owner)) refl
  where
    go : (b : Bool) → same_units (keys (drop (length name - length owner) name)) (keys owner) ≡ b → below_of owner name ≡ 0
    go true e = absurd (d (units_eq (keys (drop (length name - length owner) name)) (keys owner) e))
    go false e = rw (below_of, e)

-- what is below is not the whole name
pub below_most : (owner name : List Unit) → below_of owner name ≤ length name - length owner
unfolding below_of
below_most owner name = go (same_units (keys (drop (length name - length owner) name)) (keys owner)) refl
  where
    go : (b : Bool) → same_units (keys (drop (length name - length owner) name)) (keys owner) ≡ b → below_of owner name ≤ length name - length owner
    go true e = rw (below_of, e) (omega arith)
    go false e = rw (below_of, e) (omega arith)

pub below_few : (owner name : List Unit) → length name ≤ length owner → below_of owner name ≡ 0
below_few owner name h = let m = below_most owner name in omega arith

-- units that count alike are as many
pub keys_many : (us vs : List Unit) → keys us ≡ keys vs → length us ≡ length vs
keys_many us vs e = sym (length-map us key_unit) ∙ ap length e ∙ length-map vs key_unit

-- a name that a rule applies to has the units below, and as many more as the owner
pub applies_length : (owner name below : List Unit) → Applies owner name below → length name ≡ length below + length owner
applies_length owner name below a = ap length a.whole ∙ length-append below a.rest ∙ ap (λ (k : ℕ). length below + k) (keys_many a.rest owner a.alike)

-- where a DNAME applies, below_of is the number of units below its owner
pub applies_below : (owner name below : List Unit) → Applies owner name below → below_of owner name ≡ length below
applies_below owner name below a =
    let n = applies_length owner name below a in
    let e : length name - length owner ≡ length below = omega (arith, n) in
    let d : drop (length below) name ≡ a.rest = ap (drop (length below)) a.whole ∙ drop_front below a.rest in
    below_yes owner name (ap (λ (k : ℕ). keys (drop k name)) e ∙ ap keys d ∙ a.alike) ∙ e

-- where below_of is 0 the DNAME does not apply, whatever is thought to be below
pub below_none : (owner name below : List Unit) → below_of owner name ≡ 0 → Applies owner name below → ⊥
below_none owner name below z a = omega (arith, applies_below owner name below a, a.strict)

-- and where below_of is not 0 the DNAME applies, to what the rewrite keeps
pub below_applies : (owner name : List Unit) → 0 < below_of owner name → Applies owner name (take (below_of owner name) name)
unfolding below_of
below_applies owner name h = go (same_units (keys (drop (length name - length owner) name)) (keys owner)) refl
  where
    go : (b : Bool) → same_units (keys (drop (length name - length owner) name)) (keys owner) ≡ b → Applies owner name (take (below_of owner name) name)
    go true e =
        let k : below_of owner name ≡ length name - length owner = rw (below_of, e) in
        let t = length-take-le (length name - length owner) name (omega arith) in
        record {
          rest = drop (length name - length owner) name;
          whole = rw k (sym (take-append-drop (length name - length owner) name));
          alike = units_eq (keys (drop (length name - length owner) name)) (keys owner) e;
          strict = rw k (omega (arith, k));
        }
    go false e = let z : below_of owner name ≡ 0 = rw (below_of, e) in let y : ⊥ = omega arith in absurd y
