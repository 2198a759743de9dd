-- Laws of the search for the run to shorten, and of groups from a place on.
use Prim.Native.Nat.{ℕ, suc, ◌+◌, ◌-◌, ◌*◌, ◌≤◌, ◌<◌}
use mathlib.Core.Path.{◌≡◌, refl, ap, sym, ◌∙◌}
use mathlib.Core.Bool.{Bool, true, false}
use mathlib.Core.List.{List, [], ◌∷◌, ◌++◌}
use lib.Dec.{ltb, eqb}
use Rattle.std.specs.Int.{w16, from_be_bytes}
use Rattle.std.specs.List.{prefix_len, take_while}
use Rattle.std.proofs.lemmas.List.Folds.{length-prefix_len}
use lib.ListN.{length, get_or, take, drop, length-drop}
use lib.Seq.{take_all}
use native.Mathlib.Omega.{arith}
use Rattle.text.proofs.PlaceLaws.{past, from_place}
use native.Mathlib.Numerals.{add-one}
use borrow.Author.Tests.{lt-ltb, le-ltb, ltb-true, ltb-false, eqb-true, eqb-false}
use Rattle.text.specs.declared.addresses.Run.{Run}
use Rattle.text.specs.Digits.{number_text}
use Rattle.text.specs.Groups.{groups_of, zeros_at, longest, place_of, run_of}
use Rattle.text.specs.AddressText.{more_text, groups_text}
use Rattle.text.proofs.GroupLaws.{zeros_more, zeros_none, place_here, place_later, longest_most}

-- zero groups at the start, as the library counts them
zeros_prefix : (gs : List ℕ) → prefix_len (λ g. eqb g 0) gs ≡ zeros_at gs
zeros_prefix [] = unfold zeros_at in refl
zeros_prefix (g ∷ gs) = go (eqb g 0) refl (zeros_prefix gs)
  where
    go : (t : Bool) → eqb g 0 ≡ t → prefix_len (λ g. eqb g 0) gs ≡ zeros_at gs → prefix_len (λ g. eqb g 0) (g ∷ gs) ≡ zeros_at (g ∷ gs)
    go true e k = let z = zeros_more g gs (eqb-true g 0 e) in rw (e, z) (omega arith)
    go false e k = let z = zeros_none g gs (eqb-false g 0 e) in rw (e, z)

pub zeros_while : (gs : List ℕ) → length (take_while (λ g. eqb g 0) gs) ≡ zeros_at gs
zeros_while gs = length-prefix_len (λ g. eqb g 0) gs ∙ zeros_prefix gs

-- text of groups from a place on
pub more_turn : (gs : List ℕ) (i : ℕ) → i < length gs → more_text (drop i gs) ≡ 58 ∷ (number_text 16 (get_or gs i 0) ++ more_text (drop (i + 1) gs))
unfolding more_text
more_turn gs i h = ap more_text (from_place gs i h)

pub more_end : (gs : List ℕ) (i : ℕ) → length gs ≤ i → more_text (drop i gs) ≡ []
unfolding more_text
more_end gs i h = rw (past gs i h)

pub groups_parts : (gs : List ℕ) (g : ℕ) (more : List ℕ) → gs ≡ g ∷ more → groups_text gs ≡ number_text 16 g ++ more_text more
unfolding groups_text
groups_parts gs g more e = rw e

pub groups_none : (gs : List ℕ) → length gs ≡ 0 → groups_text gs ≡ []
unfolding groups_text
groups_none [] h = refl
groups_none (g ∷ gs) h = let z : ⊥ = omega arith in absurd z

-- two octets as one number
pub group_is : (n x y : ℕ) → n ≡ from_be_bytes w16 (x ∷ y ∷ []) → n ≡ x * 256 + y
group_is n x y e = e ∙ omega arith

-- the groups of sixteen octets, one by one
groups_from_lem : (a : List ℕ) (k : ℕ) → k + 2 ≤ length a → groups_of (drop k a) ≡ (get_or a k 0 * 256 + get_or a (k + 1) 0) ∷ groups_of (drop (k + 2) a)
unfolding groups_of
groups_from_lem a k h =
    let e : k + 1 + 1 ≡ k + 2 = omega arith in
    ap groups_of (from_place a k (omega arith) ∙ ap (λ (l : List ℕ). get_or a k 0 ∷ l) (from_place a (k + 1) (omega arith)))
    ∙ ap (λ (n : ℕ). (get_or a k 0 * 256 + get_or a (k + 1) 0) ∷ groups_of (drop n a)) e

pub groups_sixteen : (a : List ℕ) → length a ≡ 16
    → groups_of a ≡ (get_or a 0 0 * 256 + get_or a 1 0) ∷ (get_or a 2 0 * 256 + get_or a 3 0) ∷ (get_or a 4 0 * 256 + get_or a 5 0) ∷ (get_or a 6 0 * 256 + get_or a 7 0)
    ∷ (get_or a 8 0 * 256 + get_or a 9 0) ∷ (get_or a 10 0 * 256 + get_or a 11 0) ∷ (get_or a 12 0 * 256 + get_or a 13 0) ∷ (get_or a 14 0 * 256 + get_or a 15 0) ∷ []
groups_sixteen a h =
    let e : groups_of (drop 16 a) ≡ [] = unfold groups_of in rw (past a 16 (omega arith)) in
    groups_from_lem a 0 (omega arith)
    ∙ rw (groups_from_lem a 2 (omega arith), groups_from_lem a 4 (omega arith), groups_from_lem a 6 (omega arith), groups_from_lem a 8 (omega arith), groups_from_lem a 10 (omega arith), groups_from_lem a 12 (omega arith), groups_from_lem a 14 (omega arith), e)

-- the better of a run and the longest run of groups that start at place i
unfoldable pub run_over : ℕ → Run → List ℕ → Run
run_over i run ds = elim (ltb run.count (longest ds)) [ true ↦ record { place = i + place_of (longest ds) ds; count = longest ds } | false ↦ run ]

over_new : (i : ℕ) (run : Run) (ds : List ℕ) → run.count < longest ds → run_over i run ds ≡ record { place = i + place_of (longest ds) ds; count = longest ds }
unfolding run_over
over_new i run ds h = rw (lt-ltb run.count (longest ds) h, run_over)

over_old : (i : ℕ) (run : Run) (ds : List ℕ) → longest ds ≤ run.count → run_over i run ds ≡ run
unfolding run_over
over_old i run ds h = rw (le-ltb run.count (longest ds) h, run_over)

run_eq : (p q m n : ℕ) → p ≡ q → m ≡ n → ◌≡◌ {A = Run} (record { place = p; count = m }) (record { place = q; count = n })
run_eq p q m n e f = λ i. record { place = e i; count = f i }

-- a longer run stands further on
over_later : (i : ℕ) (run : Run) (g : ℕ) (ds : List ℕ) → zeros_at (g ∷ ds) < longest ds → run.count < longest ds
    → record { place = suc i + place_of (longest ds) ds; count = longest ds } ≡ run_over i run (g ∷ ds)
unfolding longest
over_later i run g ds z h =
    let m : longest (g ∷ ds) ≡ longest ds = omega arith in
    let p = place_later (longest (g ∷ ds)) g ds (omega arith) in
    let q : place_of (longest (g ∷ ds)) ds ≡ place_of (longest ds) ds = ap (λ (k : ℕ). place_of k ds) m in
    run_eq (suc i + place_of (longest ds) ds) (i + place_of (longest (g ∷ ds)) (g ∷ ds)) (longest ds) (longest (g ∷ ds)) (omega arith) (omega arith)
    ∙ sym (over_new i run (g ∷ ds) (omega arith))

over_cons_new : (i : ℕ) (run : Run) (g : ℕ) (ds : List ℕ) → run.count < zeros_at (g ∷ ds) → run_over (suc i) (record { place = i; count = zeros_at (g ∷ ds) }) ds ≡ run_over i run (g ∷ ds)
unfolding longest
over_cons_new i run g ds h = go (ltb (zeros_at (g ∷ ds)) (longest ds)) refl
  where
    go : (t : Bool) → ltb (zeros_at (g ∷ ds)) (longest ds) ≡ t → run_over (suc i) (record { place = i; count = zeros_at (g ∷ ds) }) ds ≡ run_over i run (g ∷ ds)
    go true e =
        let l = ltb-true (zeros_at (g ∷ ds)) (longest ds) e in
        over_new (suc i) (record { place = i; count = zeros_at (g ∷ ds) }) ds l ∙ over_later i run g ds l (omega arith)
    go false e =
        let l = ltb-false (zeros_at (g ∷ ds)) (longest ds) e in
        let m : longest (g ∷ ds) ≡ zeros_at (g ∷ ds) = omega arith in
        let p = place_here (longest (g ∷ ds)) g ds (sym m) in
        over_old (suc i) (record { place = i; count = zeros_at (g ∷ ds) }) ds l
        ∙ run_eq i (i + place_of (longest (g ∷ ds)) (g ∷ ds)) (zeros_at (g ∷ ds)) (longest (g ∷ ds)) (omega arith) (omega arith)
        ∙ sym (over_new i run (g ∷ ds) (omega arith))

over_cons_old : (i : ℕ) (run : Run) (g : ℕ) (ds : List ℕ) → zeros_at (g ∷ ds) ≤ run.count → run_over (suc i) run ds ≡ run_over i run (g ∷ ds)
unfolding longest
over_cons_old i run g ds h = go (ltb run.count (longest ds)) refl
  where
    go : (t : Bool) → ltb run.count (longest ds) ≡ t → run_over (suc i) run ds ≡ run_over i run (g ∷ ds)
    go true e = let l = ltb-true run.count (longest ds) e in over_new (suc i) run ds l ∙ over_later i run g ds (omega arith) l
    go false e =
        let l = ltb-false run.count (longest ds) e in
        let m : longest (g ∷ ds) ≤ run.count = omega arith in
        over_old (suc i) run ds l ∙ sym (over_old i run (g ∷ ds) m)

-- a turn of the loop over the places: a longer run stands there, or none
module _ (gs : List ℕ) (i : ℕ) (run : Run) (h : i < length gs) where
  pub run_new : run.count < zeros_at (drop i gs) → run_over (i + 1) (record { place = i; count = zeros_at (drop i gs) }) (drop (i + 1) gs) ≡ run_over i run (drop i gs)
  run_new l = rw (from_place gs i h, add-one i) (over_cons_new i run (get_or gs i 0) (drop (suc i) gs) (rw (from_place gs i h, add-one i) at l))

  pub run_old : zeros_at (drop i gs) ≤ run.count → run_over (i + 1) run (drop (i + 1) gs) ≡ run_over i run (drop i gs)
  run_old l = rw (from_place gs i h, add-one i) (over_cons_old i run (get_or gs i 0) (drop (suc i) gs) (rw (from_place gs i h, add-one i) at l))

pub run_end : (gs : List ℕ) (i : ℕ) (run : Run) → length gs ≤ i → run_over i run (drop i gs) ≡ run
unfolding longest
run_end gs i run h = ap (λ (l : List ℕ). run_over i run l) (past gs i h) ∙ over_old i run [] (omega arith)

pub run_start : (gs : List ℕ) → run_over 0 (record { place = 0; count = 0 }) gs ≡ run_of gs
unfolding run_of
run_start gs = go (ltb 0 (longest gs)) refl
  where
    none : (gs : List ℕ) → longest gs ≡ 0 → place_of (longest gs) gs ≡ 0
    none [] e = unfold place_of in refl
    none (g ∷ gs) e = let l = longest_most (g ∷ gs) 0 in place_here (longest (g ∷ gs)) g gs (omega arith)

    go : (t : Bool) → ltb 0 (longest gs) ≡ t → run_over 0 (record { place = 0; count = 0 }) gs ≡ record { place = place_of (longest gs) gs; count = longest gs }
    go true e =
        over_new 0 (record { place = 0; count = 0 }) gs (ltb-true 0 (longest gs) e)
        ∙ run_eq (0 + place_of (longest gs) gs) (place_of (longest gs) gs) (longest gs) (longest gs) (omega arith) refl
    go false e =
        let l = ltb-false 0 (longest gs) e in
        let z : longest gs ≡ 0 = omega arith in
        over_old 0 (record { place = 0; count = 0 }) gs (omega arith) ∙ run_eq 0 (place_of (longest gs) gs) 0 (longest gs) (sym (none gs z)) (sym z)

-- all groups from a place on are the rest
pub rest_whole : (gs : List ℕ) (k : ℕ) → take (length gs - k) (drop k gs) ≡ drop k gs
rest_whole gs k = take_all (length gs - k) (drop k gs) (rw (length-drop k gs) (omega arith))
