-- Laws of groups and of the run that is shortened.
use Prim.Native.Nat.{ℕ, zero, suc, ◌+◌, ◌*◌, ◌/◌, ◌%◌, ◌≤◌, ◌<◌}
use mathlib.Core.Path.{◌≡◌, refl, ap, sym, ◌∙◌}
use mathlib.Core.Bool.{Bool, true, false}
use mathlib.Core.List.{List, [], ◌∷◌, ◌++◌}
use lib.Dec.{eqb}
use lib.ListN.{length, take, drop, take-append-drop}
use lib.Seq.{drop-drop, drop-nil}
use native.Mathlib.Omega.{arith}
use borrow.Author.Tests.{eq-eqb, ne_eqb, eqb-true, eqb-false}
use Rattle.octets.specs.Octets.{blank, Small}
use Rattle.octets.specs.Each.{Under}
use Rattle.octets.proofs.OctetLaws.{under_cons}
use Rattle.text.specs.Groups.{groups_of, octets_of, zeros_at, longest, place_of, before_run, after_run}

-- octets by twos are the octets of their groups
pub octets_groups : (k : ℕ) (a : List ℕ) → length a ≡ k * 2 → Small a → octets_of (groups_of a) ≡ a
unfolding octets_of groups_of
octets_groups zero [] h s = refl
octets_groups zero (x ∷ a) h s = let z : ⊥ = omega arith in absurd z
octets_groups (suc k) [] h s = refl
octets_groups (suc k) (x ∷ []) h s = let z : ⊥ = omega arith in absurd z
octets_groups (suc k) (x ∷ y ∷ a) h s =
    let l : y < 256 = s 1 in
    let p : (x * 256 + y) / 256 ≡ x = omega arith in
    let q : (x * 256 + y) % 256 ≡ y = omega arith in
    rw (p, q, octets_groups k a (omega arith) (λ i. s (suc (suc i))))

pub groups_length : (k : ℕ) (a : List ℕ) → length a ≡ k * 2 → length (groups_of a) ≡ k
unfolding groups_of
groups_length zero [] h = refl
groups_length zero (x ∷ a) h = let z : ⊥ = omega arith in absurd z
groups_length (suc k) [] h = let z : ⊥ = omega arith in absurd z
groups_length (suc k) (x ∷ []) h = let z : ⊥ = omega arith in absurd z
groups_length (suc k) (x ∷ y ∷ a) h = ap suc (groups_length k a (omega arith))

pub groups_under : (k : ℕ) (a : List ℕ) → length a ≡ k * 2 → Small a → Under 65536 (groups_of a)
unfolding groups_of
groups_under zero [] h s = λ i. omega arith
groups_under zero (x ∷ a) h s = let z : ⊥ = omega arith in absurd z
groups_under (suc k) [] h s = λ i. omega arith
groups_under (suc k) (x ∷ []) h s = λ i. omega arith
groups_under (suc k) (x ∷ y ∷ a) h s =
    let m : x < 256 = s 0 in
    let l : y < 256 = s 1 in
    under_cons 65536 (x * 256 + y) (groups_of a) (omega arith) (groups_under k a (omega arith) (λ i. s (suc (suc i))))

-- zero groups at the start
pub zeros_more : (g : ℕ) (gs : List ℕ) → g ≡ 0 → zeros_at (g ∷ gs) ≡ suc (zeros_at gs)
unfolding zeros_at
zeros_more g gs h = rw (eq-eqb g 0 h, zeros_at)

pub zeros_none : (g : ℕ) (gs : List ℕ) → (g ≡ 0 → ⊥) → zeros_at (g ∷ gs) ≡ 0
unfolding zeros_at
zeros_none g gs h = rw (ne_eqb g 0 h, zeros_at)

-- groups are the zeros that they start with, and the rest
pub zeros_split : (gs : List ℕ) → gs ≡ blank (zeros_at gs) ++ drop (zeros_at gs) gs
unfolding zeros_at blank
zeros_split [] = refl
zeros_split (g ∷ gs) = go (eqb g 0) refl (zeros_split gs)
  where
    go : (t : Bool) → eqb g 0 ≡ t → gs ≡ blank (zeros_at gs) ++ drop (zeros_at gs) gs → g ∷ gs ≡ blank (zeros_at (g ∷ gs)) ++ drop (zeros_at (g ∷ gs)) (g ∷ gs)
    go true e k = let z : g ≡ 0 = eqb-true g 0 e in rw (zeros_more g gs z, z) (ap (λ (l : List ℕ). 0 ∷ l) k)
    go false e k = rw (zeros_none g gs (eqb-false g 0 e))

pub place_here : (n g : ℕ) (gs : List ℕ) → zeros_at (g ∷ gs) ≡ n → place_of n (g ∷ gs) ≡ 0
unfolding place_of
place_here n g gs h = rw (eq-eqb (zeros_at (g ∷ gs)) n h, place_of)

pub place_later : (n g : ℕ) (gs : List ℕ) → (zeros_at (g ∷ gs) ≡ n → ⊥) → place_of n (g ∷ gs) ≡ suc (place_of n gs)
unfolding place_of
place_later n g gs h = rw (ne_eqb (zeros_at (g ∷ gs)) n h, place_of)

-- at its place the longest run stands
pub place_run : (gs : List ℕ) → zeros_at (drop (place_of (longest gs) gs) gs) ≡ longest gs
unfolding longest zeros_at place_of
place_run [] = refl
place_run (g ∷ gs) = go (eqb (zeros_at (g ∷ gs)) (longest (g ∷ gs))) refl (place_run gs)
  where
    go : (t : Bool) → eqb (zeros_at (g ∷ gs)) (longest (g ∷ gs)) ≡ t → zeros_at (drop (place_of (longest gs) gs) gs) ≡ longest gs
        → zeros_at (drop (place_of (longest (g ∷ gs)) (g ∷ gs)) (g ∷ gs)) ≡ longest (g ∷ gs)
    go true e k =
        let h : zeros_at (g ∷ gs) ≡ longest (g ∷ gs) = eqb-true (zeros_at (g ∷ gs)) (longest (g ∷ gs)) e in
        rw (place_here (longest (g ∷ gs)) g gs h) h
    go false e k =
        let h = eqb-false (zeros_at (g ∷ gs)) (longest (g ∷ gs)) e in
        let m : longest (g ∷ gs) ≡ longest gs = omega arith in
        rw (place_later (longest (g ∷ gs)) g gs h, m) k

-- no run is longer
pub longest_most : (gs : List ℕ) (i : ℕ) → zeros_at (drop i gs) ≤ longest gs
unfolding longest zeros_at
longest_most [] i = rw (drop-nil i) (omega arith)
longest_most (g ∷ gs) zero = omega arith
longest_most (g ∷ gs) (suc i) = let k = longest_most gs i in omega arith

-- and every run to the left of its place is shorter
pub place_first : (gs : List ℕ) (i : ℕ) → i < place_of (longest gs) gs → zeros_at (drop i gs) < longest gs
unfolding longest place_of
place_first [] i h = let z : ⊥ = omega arith in absurd z
place_first (g ∷ gs) i h = go (eqb (zeros_at (g ∷ gs)) (longest (g ∷ gs))) refl i h (place_first gs)
  where
    go : (t : Bool) → eqb (zeros_at (g ∷ gs)) (longest (g ∷ gs)) ≡ t → (j : ℕ) → j < place_of (longest (g ∷ gs)) (g ∷ gs)
        → ((k : ℕ) → k < place_of (longest gs) gs → zeros_at (drop k gs) < longest gs) → zeros_at (drop j (g ∷ gs)) < longest (g ∷ gs)
    go true e j l k =
        let p = place_here (longest (g ∷ gs)) g gs (eqb-true (zeros_at (g ∷ gs)) (longest (g ∷ gs)) e) in
        let z : ⊥ = omega arith in absurd z
    go false e zero l k = let u = eqb-false (zeros_at (g ∷ gs)) (longest (g ∷ gs)) e in omega (arith, longest_most (g ∷ gs) 0)
    go false e (suc j) l k =
        let u = eqb-false (zeros_at (g ∷ gs)) (longest (g ∷ gs)) e in
        let m : longest (g ∷ gs) ≡ longest gs = omega arith in
        let q = rw m at (place_later (longest (g ∷ gs)) g gs u) in
        let n : suc j < place_of (longest gs) (g ∷ gs) = rw m at l in
        rw m (k j (omega arith))

-- groups are those before the run, its zeros, and those after it
pub run_split : (gs : List ℕ) → before_run gs ++ (blank (longest gs) ++ after_run gs) ≡ gs
unfolding before_run after_run
run_split gs =
    let p = place_of (longest gs) gs in
    let e : drop p gs ≡ blank (longest gs) ++ drop (longest gs) (drop p gs) = zeros_split (drop p gs) ∙ ap (λ (n : ℕ). blank n ++ drop n (drop p gs)) (place_run gs) in
    ap (λ (l : List ℕ). take p gs ++ (blank (longest gs) ++ l)) (sym (drop-drop (longest gs) p gs)) ∙ ap (λ (l : List ℕ). take p gs ++ l) (sym e) ∙ take-append-drop p gs
