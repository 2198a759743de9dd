-- The text of an address by its run of zero groups. Assumes nothing.
use Prim.Native.Nat.{ℕ, ◌+◌, ◌-◌, ◌≤◌, ◌<◌}
use mathlib.Core.Path.{◌≡◌, refl, ap, sym, ◌∙◌}
use mathlib.Core.Bool.{Bool, true, false}
use mathlib.Core.List.{List, [], ◌∷◌, ◌++◌}
use lib.Dec.{eqb}
use lib.ListN.{length, take, drop, length-drop}
use lib.Seq.{take_all}
use native.Mathlib.Omega.{arith}
use borrow.Author.Tests.{eqb-true, eqb-false}
use Rattle.text.specs.declared.addresses.Run.{Run}
use Rattle.text.specs.Groups.{groups_of, zeros_at, longest, place_of, run_of, before_run, after_run}
use Rattle.text.specs.AddressText.{groups_text, short_text, write_address}
use Rattle.text.proofs.GroupLaws.{zeros_more, zeros_none, place_run}
use Rattle.text.proofs.RoundTrip.{text_full, text_short}

-- no more zero groups than groups
zeros_few : (gs : List ℕ) → zeros_at gs ≤ length gs
zeros_few [] = unfold zeros_at in omega arith
zeros_few (g ∷ gs) = go (eqb g 0) refl (zeros_few gs)
  where
    go : (t : Bool) → eqb g 0 ≡ t → zeros_at gs ≤ length gs → zeros_at (g ∷ gs) ≤ length (g ∷ gs)
    go true e k = let z = zeros_more g gs (eqb-true g 0 e) in omega arith
    go false e k = let z = zeros_none g gs (eqb-false g 0 e) in omega arith

-- a run that is not empty ends within the groups
pub run_within : (gs : List ℕ) → 0 < (run_of gs).count → (run_of gs).place + (run_of gs).count ≤ length gs
unfolding run_of
run_within gs h =
    let p = place_run gs in
    let f = zeros_few (drop (place_of (longest gs) gs) gs) in
    let l = length-drop (place_of (longest gs) gs) gs in
    omega arith

pub address_full : (a gs : List ℕ) (r : Run) → gs ≡ groups_of a → r ≡ run_of gs → r.count < 2 → groups_text gs ≡ write_address a
unfolding write_address run_of
address_full a gs r e f h =
    let k : longest gs < 2 = rw f at h in
    sym (text_full gs k) ∙ ap short_text e

short_named : (gs : List ℕ) → 2 ≤ (run_of gs).count → groups_text (take (run_of gs).place gs) ++ (58 ∷ 58 ∷ groups_text (drop ((run_of gs).place + (run_of gs).count) gs)) ≡ short_text gs
unfolding run_of before_run after_run
short_named gs h = sym (text_short gs h)

-- the rest of eight groups, to their end
pub address_short : (a gs : List ℕ) (r : Run) → gs ≡ groups_of a → r ≡ run_of gs → 2 ≤ r.count → length gs ≡ 8
    → (r.place + r.count ≤ 8) × (groups_text (take r.place gs) ++ (58 ∷ 58 ∷ groups_text (take (8 - (r.place + r.count)) (drop (r.place + r.count) gs))) ≡ write_address a)
unfolding write_address
address_short a gs r e f h n =
    let k : 2 ≤ (run_of gs).count = rw f at h in
    let w : r.place + r.count ≤ length gs = rw f (run_within gs (omega arith)) in
    let l = length-drop (r.place + r.count) gs in
    let t : take (8 - (r.place + r.count)) (drop (r.place + r.count) gs) ≡ drop (r.place + r.count) gs = take_all _ _ (omega arith) in
    (omega arith, rw t (rw f (short_named gs k ∙ ap short_text e)))
