-- `address::is_clear` meets its contract: whole octets, and the bits of the one after them.
use Prim.Native.Nat.{ℕ, ◌-◌, ◌*◌, ◌/◌, ◌%◌, ◌^◌, ◌<◌}
use mathlib.Core.Path.{◌≡◌, refl, ap, ◌∙◌, sym}
use mathlib.Core.Bool.{Bool, true}
use mathlib.Core.List.{List, [], ◌∷◌}
use lib.Dec.{eqb}
use lib.ListN.{length, take, drop, length-drop}
use native.Mathlib.Omega.{arith}
use borrow.Author.Rules.{rules}
use denote.Ref.{Bor}
use Rattle.std.specs.Prelude.{Option, Some, None, MatchOption}
use Rattle.std.specs.Option.{option_copied}
use Rattle.std.specs.List.{list_all, slice_get}
use Rattle.std.proofs.Common.{tests}
use Rattle.std.proofs.lemmas.Iterator.{YieldsList-from_slice}
use Rattle.std.proofs.lemmas.Iterator.Search.{all_from_yields_List}
use Rattle.octets.specs.Octets.{Small}
use Rattle.octets.proofs.OctetLaws.{under_drop}
use Rattle.address.specs.Address.{clear_to}
use Rattle.address.proofs.ClearLaws.{clear_split, clear_part, clear_none}
use Rattle.address.proofs.is_clear.Goals.{After-all}
use Rattle.address.proofs.is_clear.Goals as goal

-- what the octet after the whole ones tells, if there is one
tells : (n k : ℕ) (rest : List ℕ) (first : Option (Bor ℕ)) (r : Bool) (P : Bor ℕ → Type 0) → Small rest → (0 < length rest → n - k * 8 ≡ n % 8)
    → option_copied first ≡ slice_get rest 0 → MatchOption first (r ≡ true) P → ((x : Bor ℕ) → P x → r ≡ eqb (x.now / 2 ^ (8 - n % 8)) 0) → r ≡ clear_to (n - k * 8) rest
tells n k [] None r P s h e p f = p ∙ sym (clear_none (n - k * 8))
tells n k [] (Some x) r P s h e p f = cc
tells n k (y ∷ ys) None r P s h e p f = cc
tells n k (y ∷ ys) (Some x) r P s h e p f =
    let q : x.now ≡ y = cc in
    let m = h (omega arith) in
    f x p ∙ rw (q, m) (sym (clear_part (n % 8) y ys (omega arith) (s 0)))

-- the whole octets, in the figures of the code
whole : (c : After-all) → c.all.result ≡ list_all (λ x. eqb x 0) (take c.min.result c.args.a.now)
whole c = all_from_yields_List (λ x. eqb x 0) _ _ _ c.all.ensures.ran (YieldsList-from_slice _ (c.iter.ensures.rest ∙ c.split_at.ensures.front)) (λ x b q k. search (rules, tests))

pub returns-then-all : goal.returns-then-all
returns-then-all c =
    let w = whole (goal.at.returns-then-all c).After-all in
    let a = c.args in
    let k = c.min.result in
    let s : Small a.a.now = λ i. omega (arith, c.type_inv.a i) in
    let l = length-drop k a.a.now in
    let p = tells a.n k (drop k a.a.now) c.first.result c.is_none_or.result _ (under_drop 256 k a.a.now s) (λ h. omega arith) (c.first.ensures.value ∙ ap (λ (xs : List ℕ). slice_get xs 0) c.split_at.ensures.back)
    c.is_none_or.ensures (λ x p. search (rules, tests)) in
    p ∙ sym (clear_split a.n k a.a.now s (omega arith) ∙ rw (sym w ∙ c.if-all.true) refl)

pub returns-else-all : goal.returns-else-all
returns-else-all c =
    let w = whole (goal.at.returns-else-all c).After-all in
    let a = c.args in
    let s : Small a.a.now = λ i. omega (arith, c.type_inv.a i) in
    c.if-all.false ∙ sym (clear_split a.n c.min.result a.a.now s (omega arith) ∙ rw (sym w ∙ c.if-all.false) refl)
