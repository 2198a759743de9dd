-- Laws of a record's faults: the fields in their order, and what a record without a fault is like.
use Prim.Native.Nat.{ℕ, zero, suc, ◌≤◌, ◌<◌}
use mathlib.Core.Path.{◌≡◌, refl, ap, ◌∙◌, sym}
use mathlib.Core.Bool.{Bool, true, false, not}
use mathlib.Core.List.{List, [], ◌∷◌}
use lib.ListN.{get_or}
use Rattle.std.specs.Prelude.{Some, if◌then◌else◌}
use Rattle.plan.specs.declared.Field.{Field}
use Rattle.plan.specs.declared.Field.TheVariants.{Kind, Prefix, Zero, Address, Owner, Target, Ttl}
use Rattle.plan.specs.Faults.{field_number}
use mathlib.Core.Logic.{◌⊎◌, inl, inr}
use lib.Dec.{leb, eqb}
use native.Mathlib.Omega.{arith}
use borrow.Author.Tests.{eq-eqb, ne_eqb, eqb-true, eqb-false, le-leb, leb-true, not-false}
use Rattle.octets.proofs.BoolLaws.{and_false}
use Rattle.octets.specs.Octets.{blank, same}
use Rattle.octets.proofs.SameLaws.{same_eq, same_refl}
use Rattle.names.specs.Standard.{in_standard_form}
use Rattle.address.specs.Address.{clear_to}
use Rattle.chains.specs.Graph.{max_ttl}
use Rattle.address.proofs.ClearLaws.{clear_zero}
use Rattle.plan.specs.Layout.{slot_size, a6, dname, type_of, prefix_of, zero_of, address_of, owner_slot, target_slot, ttl_of, name_in, slot_of, is_a6, is_type}
use Rattle.plan.specs.Check.{slot_good, slot_empty, type_good, prefix_good, address_good, targetless, target_good, ttl_good, field_count, tests_of, field_good, fault_of}
use Rattle.plan.specs.First.{first_from}
use Rattle.plan.specs.Good.{Holds, Good}
use Rattle.plan.proofs.FirstLaws.{first_none, none_first}

-- a field has a number
pub number_known : (f : Field) → field_number (Some f) < field_count
number_known Kind = omega arith
number_known Prefix = omega arith
number_known Zero = omega arith
number_known Address = omega arith
number_known Owner = omega arith
number_known Target = omega arith
number_known Ttl = omega arith

-- the first field at fault by the answers of the tests, in their order
pub fault_by : (r : List ℕ) → fault_of r ≡ (
    if not (type_good r) then 0 else if not (prefix_good r) then 1 else if not (eqb (zero_of r) 0) then 2 else if not (address_good r) then 3 else
    if not (slot_good (owner_slot r)) then 4 else if not (target_good r) then 5 else if not (ttl_good r) then 6 else field_count)
unfolding fault_of field_good tests_of first_from
fault_by r = go (type_good r) (prefix_good r) (eqb (zero_of r) 0) (address_good r) (slot_good (owner_slot r)) (target_good r) (ttl_good r)
  where
    go : (a b c d e f g : Bool) → first_from (λ i. not (get_or (a ∷ b ∷ c ∷ d ∷ e ∷ f ∷ g ∷ []) i true)) 0 7 ≡ (
        if not a then 0 else if not b then 1 else if not c then 2 else if not d then 3 else if not e then 4 else if not f then 5 else if not g then 6 else 7)
    go false b c d e f g = refl
    go true false c d e f g = refl
    go true true false d e f g = refl
    go true true true false e f g = refl
    go true true true true false f g = refl
    go true true true true true false g = refl
    go true true true true true true false = refl
    go true true true true true true true = refl

-- a record without a fault passes each test
pub fault_none : (r : List ℕ) → ((f : ℕ) → f < field_count → field_good r f ≡ true) → fault_of r ≡ field_count
unfolding fault_of
fault_none r h = none_first (λ i. not (field_good r i)) field_count (λ f l. ap not (h f l))

pub none_fault : (r : List ℕ) → fault_of r ≡ field_count → (f : ℕ) → f < field_count → field_good r f ≡ true
unfolding fault_of
none_fault r h f l = not-false (field_good r f) (first_none (λ i. not (field_good r i)) field_count h f l)

-- the tests of the fields, by the type
module _ (r : List ℕ) where
  pub type_is : {k : ℕ} → type_of r ≡ k → is_type k r ≡ true
  unfolding is_type
  type_is {k} h = eq-eqb (type_of r) k h

  pub type_not : {k : ℕ} → (type_of r ≡ k → ⊥) → is_type k r ≡ false
  unfolding is_type
  type_not {k} h = ne_eqb (type_of r) k h

  pub is_type_lem : {k : ℕ} → is_type k r ≡ true → type_of r ≡ k
  unfolding is_type
  is_type_lem {k} h = eqb-true (type_of r) k h

  pub type_a6 : type_of r ≡ a6 → type_good r ≡ true
  unfolding type_good
  type_a6 h = rw (type_is h)

  pub type_other : (type_of r ≡ a6 → ⊥) → type_good r ≡ eqb (type_of r) dname
  unfolding type_good is_type
  type_other h = rw (type_not h)

  pub prefix_a6 : type_of r ≡ a6 → prefix_good r ≡ leb (prefix_of r) 128
  unfolding prefix_good
  prefix_a6 h = rw (prefix_good, type_is h)

  pub prefix_other : (type_of r ≡ a6 → ⊥) → prefix_good r ≡ eqb (prefix_of r) 0
  unfolding prefix_good
  prefix_other h = rw (prefix_good, type_not h)

  pub address_a6 : type_of r ≡ a6 → address_good r ≡ clear_to (prefix_of r) (address_of r)
  unfolding address_good
  address_a6 h = rw (address_good, type_is h)

  pub address_other : (type_of r ≡ a6 → ⊥) → address_good r ≡ clear_to 128 (address_of r)
  unfolding address_good
  address_other h = rw (address_good, type_not h)

  pub targetless_is : type_of r ≡ a6 → targetless r ≡ eqb (prefix_of r) 0
  unfolding targetless
  targetless_is h = rw (type_is h)

  pub targetless_on : (prefix_of r ≡ 0 → ⊥) → targetless r ≡ false
  unfolding targetless
  targetless_on h = rw (ne_eqb (prefix_of r) 0 h) (and_false (is_a6 r))

  pub target_none : targetless r ≡ true → target_good r ≡ slot_empty (target_slot r)
  unfolding target_good
  target_none h = rw (target_good, h)

  pub target_some : targetless r ≡ false → target_good r ≡ slot_good (target_slot r)
  unfolding target_good
  target_some h = rw (target_good, h)

  pub ttl_lived : ttl_good r ≡ true → ttl_of r ≤ max_ttl
  unfolding ttl_good
  ttl_lived h = leb-true (ttl_of r) max_ttl h

  pub lived_ttl : ttl_of r ≤ max_ttl → ttl_good r ≡ true
  unfolding ttl_good
  lived_ttl h = le-leb (ttl_of r) max_ttl h

-- a good slot holds its name, and a slot that holds its name is good
pub slot_holds : (s : List ℕ) → slot_good s ≡ true → Holds s
unfolding slot_good
slot_holds s h = go (in_standard_form (name_in s)) refl
  where
    go : (t : Bool) → in_standard_form (name_in s) ≡ t → Holds s
    go true e = let k : same s (slot_of (name_in s)) ≡ true = rw e at h in record { name = e; whole = same_eq s (slot_of (name_in s)) k }
    go false e = let k : false ≡ true = rw e at h in let z : ◌≡◌ {A = ℕ} 0 1 = cc in let y : ⊥ = omega arith in absurd y

pub holds_slot : (s : List ℕ) → Holds s → slot_good s ≡ true
unfolding slot_good
holds_slot s h = rw h.name (ap (same s) (sym h.whole) ∙ same_refl s)

empty_eq : (s : List ℕ) → slot_empty s ≡ true → s ≡ blank slot_size
unfolding slot_empty
empty_eq s h = same_eq s (blank slot_size) h

eq_empty : (s : List ℕ) → s ≡ blank slot_size → slot_empty s ≡ true
unfolding slot_empty
eq_empty s h = rw h (same_refl (blank slot_size))

-- the fields of a record without a fault pass their tests
record Passes (r : List ℕ) : Type 0 where
  kind : type_good r ≡ true
  prefix : prefix_good r ≡ true
  nought : zero_of r ≡ 0
  address : address_good r ≡ true
  owner : slot_good (owner_slot r) ≡ true
  target : target_good r ≡ true
  ttl : ttl_good r ≡ true

passes : (r : List ℕ) → ((f : ℕ) → f < field_count → field_good r f ≡ true) → Passes r
unfolding tests_of field_good
passes r h = record {
  kind = h 0 (omega arith);
  prefix = h 1 (omega arith);
  nought = eqb-true (zero_of r) 0 (h 2 (omega arith));
  address = h 3 (omega arith);
  owner = h 4 (omega arith);
  target = h 5 (omega arith);
  ttl = h 6 (omega arith);
}

passing : (r : List ℕ) → Passes r → (f : ℕ) → f < field_count → field_good r f ≡ true
unfolding tests_of field_good
passing r p zero l = p.kind
passing r p (suc zero) l = p.prefix
passing r p (suc (suc zero)) l = eq-eqb (zero_of r) 0 p.nought
passing r p (suc (suc (suc zero))) l = p.address
passing r p (suc (suc (suc (suc zero)))) l = p.owner
passing r p (suc (suc (suc (suc (suc zero))))) l = p.target
passing r p (suc (suc (suc (suc (suc (suc zero)))))) l = p.ttl
passing r p (suc (suc (suc (suc (suc (suc (suc f))))))) l = let z : ⊥ = omega arith in absurd z

-- Theorem: a record without a fault has its fields as the layout says
pub fault_good : (r : List ℕ) → fault_of r ≡ field_count → Good r
fault_good r h = by_type (eqb (type_of r) a6) refl
  where
    w : Passes r
    w = passes r (none_fault r h)

    target : targetless r ≡ false → Holds (target_slot r)
    target e = slot_holds (target_slot r) (sym (target_some r e) ∙ w.target)

    none : targetless r ≡ true → target_slot r ≡ blank slot_size
    none e = empty_eq (target_slot r) (sym (target_none r e) ∙ w.target)

    lived : ttl_of r ≤ max_ttl
    lived = ttl_lived r w.ttl

    by_type : (t : Bool) → eqb (type_of r) a6 ≡ t → Good r
    by_type true e =
        let k = eqb-true (type_of r) a6 e in
        record {
          kind = inl k;
          prefix = leb-true (prefix_of r) 128 (sym (prefix_a6 r k) ∙ w.prefix);
          nought = w.nought;
          clear = sym (address_a6 r k) ∙ w.address;
          owner = slot_holds (owner_slot r) w.owner;
          bare = λ d. let z : ⊥ = omega arith in absurd z;
          target = target;
          none = none;
          lived = lived;
        }
    by_type false e =
        let k : type_of r ≡ a6 → ⊥ = eqb-false (type_of r) a6 e in
        let d = eqb-true (type_of r) dname (sym (type_other r k) ∙ w.kind) in
        let l = eqb-true (prefix_of r) 0 (sym (prefix_other r k) ∙ w.prefix) in
        let c = sym (address_other r k) ∙ w.address in
        record {
          kind = inr d;
          prefix = omega arith;
          nought = w.nought;
          clear = rw l (clear_zero (address_of r));
          owner = slot_holds (owner_slot r) w.owner;
          bare = λ _. (l, c);
          target = target;
          none = none;
          lived = lived;
        }

-- Theorem: a record whose fields are as the layout says has no fault
pub good_fault : (r : List ℕ) → Good r → fault_of r ≡ field_count
good_fault r g = fault_none r (passing r (by_type g.kind))
  where
    target : (t : Bool) → targetless r ≡ t → target_good r ≡ true
    target true e = target_none r e ∙ eq_empty (target_slot r) (g.none e)
    target false e = target_some r e ∙ holds_slot (target_slot r) (g.target e)

    by_type : (type_of r ≡ a6) ⊎ (type_of r ≡ dname) → Passes r
    by_type (inl k) = record {
      kind = type_a6 r k;
      prefix = prefix_a6 r k ∙ le-leb (prefix_of r) 128 g.prefix;
      nought = g.nought;
      address = address_a6 r k ∙ g.clear;
      owner = holds_slot (owner_slot r) g.owner;
      target = target (targetless r) refl;
      ttl = lived_ttl r g.lived;
    }
    by_type (inr d) =
        let k : type_of r ≡ a6 → ⊥ = λ e. omega arith in
        let b = g.bare d in
        record {
          kind = type_other r k ∙ eq-eqb (type_of r) dname d;
          prefix = prefix_other r k ∙ eq-eqb (prefix_of r) 0 b.0;
          nought = g.nought;
          address = address_other r k ∙ b.1;
          owner = holds_slot (owner_slot r) g.owner;
          target = target (targetless r) refl;
          ttl = lived_ttl r g.lived;
        }
