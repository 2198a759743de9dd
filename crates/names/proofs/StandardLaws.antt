-- When a name is in standard form, and what tells the same names.
use Prim.Native.Nat.{ℕ, ◌+◌, ◌≤◌, ◌<◌}
use mathlib.Core.Path.{◌≡◌, refl, ap, sym}
use mathlib.Core.Bool.{Bool, true, false}
use mathlib.Core.List.{List, [], ◌∷◌, ◌++◌, append-nil}
use lib.ListN.{length, length-append}
use native.Mathlib.Omega.{arith}
use Rattle.octets.specs.Octets.{same, Small}
use Rattle.labels.specs.Labels.{Label, ordinary, bits}
use Rattle.labels.specs.Scan.{Reading, refused, done, scan_of, apart, labels_of, fills, well_formed}
use Rattle.labels.specs.Answers.{scanned, standard_by}
use Rattle.names.specs.Standard.{units, units_of, bit_label, encode_from, encode, standard_of, key_of, Same, same_name, in_standard_form}
use Rattle.names.proofs.Written.{write_label, written}
use Rattle.names.proofs.Merged.{AllFit}
use Rattle.octets.proofs.SameLaws.{same_eq, same_refl}
use Rattle.names.proofs.WriteLaws.{encode_before, well_reads, written_back, standard_apart}
use Rattle.bits.proofs.PackingLaws.{pack_length}
use Rattle.names.proofs.RoundLaws.{encode_shorter, fit_labels}

begun : List ℕ → Bool
begun [] = false
begun (x ∷ xs) = true

bit_label_saves : (b run : List ℕ) → 0 < length b → 0 < length run → length (bit_label (b ++ run)) + 2 ≤ length (bit_label b) + length (bit_label run)
unfolding bit_label
bit_label_saves [] run h k = let z : ⊥ = omega arith in absurd z
bit_label_saves (x ∷ b) [] h k = let z : ⊥ = omega arith in absurd z
bit_label_saves (x ∷ b) (y ∷ run) h k =
    let l = pack_length ((x ∷ b) ++ (y ∷ run)) in
    let m = pack_length (x ∷ b) in
    let n = pack_length (y ∷ run) in
    let a = length-append b (y ∷ run) in
    omega arith

-- two adjacent bit labels make the standard form shorter
merge_saves : (run : List ℕ) (ls : List Label) → AllFit ls → apart (begun run) ls ≡ false → length (encode_from run (units ls)) < length (bit_label run) + length (written ls)
unfolding units encode_from written write_label apart begun
merge_saves run [] f h = let z : ◌≡◌ {A = ℕ} 0 1 = cc in let y : ⊥ = omega arith in absurd y
merge_saves run (ordinary l ∷ ls) f h =
    let ih = merge_saves [] ls f.1 h in
    let a = length-append (bit_label run) (length l ∷ (l ++ encode_from [] (units ls))) in
    let b = length-append l (encode_from [] (units ls)) in
    let c = length-append l (written ls) in
    omega arith
merge_saves [] (bits [] ∷ ls) f h = let z : ⊥ = omega (arith, f.0.0) in absurd z
merge_saves [] (bits (x ∷ b) ∷ ls) f h =
    let ih = merge_saves (x ∷ b) ls f.1 h in
    let a = length-append (bit_label (x ∷ b)) (written ls) in
    rw (encode_before (x ∷ b) [] (units ls), append-nil b) (omega arith)
merge_saves (y ∷ run) (bits b ∷ ls) f h =
    let ih = encode_shorter (b ++ (y ∷ run)) ls in
    let a = length-append (bit_label b) (written ls) in
    let c = bit_label_saves b (y ∷ run) f.0.0 (omega arith) in
    rw (encode_before b (y ∷ run) (units ls)) (omega arith)

-- Theorem: a well-formed name that is its own standard form has no two adjacent bit labels
pub apart_standard : (xs : List ℕ) → Small xs → well_formed xs ≡ true → standard_of xs ≡ xs → apart false (labels_of (scan_of xs)) ≡ true
unfolding standard_of units_of encode bit_label begun
apart_standard xs s w e = go (apart false (labels_of (scan_of xs))) refl
  where
    go : (t : Bool) → apart false (labels_of (scan_of xs)) ≡ t → apart false (labels_of (scan_of xs)) ≡ true
    go true h = h
    go false h =
        let b = written_back (well_reads xs w) s in
        let m = merge_saves [] (labels_of (scan_of xs)) (fit_labels (well_reads xs w)) h in
        let l : length (encode_from [] (units (labels_of (scan_of xs)))) ≡ length xs = ap length e in
        let z : ⊥ = omega (arith, b.used_is) in
        absurd z

well_fills : (xs : List ℕ) → well_formed xs ≡ true → fills (length xs) (scan_of xs) ≡ true
unfolding well_formed
well_fills xs w = w

-- what it is to be in standard form
pub in_standard : (xs : List ℕ) → in_standard_form xs ≡ true → (well_formed xs ≡ true) × (standard_of xs ≡ xs)
unfolding in_standard_form
in_standard xs h = go (well_formed xs) refl
  where
    go : (t : Bool) → well_formed xs ≡ t → (well_formed xs ≡ true) × (standard_of xs ≡ xs)
    go true e = let s : same (standard_of xs) xs ≡ true = rw e at h in (e, same_eq (standard_of xs) xs s)
    go false e = let s : false ≡ true = rw e at h in let z : ◌≡◌ {A = ℕ} 0 1 = cc in let y : ⊥ = omega arith in absurd y

pub standard_in : (xs : List ℕ) → well_formed xs ≡ true → standard_of xs ≡ xs → in_standard_form xs ≡ true
unfolding in_standard_form
standard_in xs w e = rw (w, e) (same_refl xs)

pub malformed_not : (xs : List ℕ) → well_formed xs ≡ false → in_standard_form xs ≡ false
unfolding in_standard_form
malformed_not xs w = rw w

-- Theorem: what a scan says of a name that fills its octets: the flag is set exactly when the name is in standard form
pub scan_standard : (xs : List ℕ) → Small xs → well_formed xs ≡ true → standard_by (scanned (scan_of xs)) ≡ in_standard_form xs
unfolding scanned labels_of fills
scan_standard xs s w = go (scan_of xs) refl
  where
    flag : (t : Bool) → apart false (labels_of (scan_of xs)) ≡ t → t ≡ in_standard_form xs
    flag true e = sym (standard_in xs w (standard_apart xs s w e))
    flag false e = other (in_standard_form xs) refl
      where
        other : (u : Bool) → in_standard_form xs ≡ u → false ≡ in_standard_form xs
        other true f = let a = apart_standard xs s w (in_standard xs f).1 in cc
        other false f = sym f

    go : (r : Reading) → scan_of xs ≡ r → standard_by (scanned (scan_of xs)) ≡ in_standard_form xs
    go (refused n) e = let z : false ≡ true = rw (e, fills) at (well_fills xs w) in let y : ◌≡◌ {A = ℕ} 0 1 = cc in let x : ⊥ = omega arith in absurd x
    go (done ls u) e = rw e (flag (apart false ls) (ap (λ (r : Reading). apart false (labels_of r)) e))

-- Theorem: where the test `same_name` holds, the names are the same
pub same_name_same : (m n : List ℕ) → same_name m n ≡ true → Same m n
unfolding same_name
same_name_same m n h = same_eq (key_of m) (key_of n) h

-- Theorem: where names are the same, the test `same_name` holds
pub same_same_name : (m n : List ℕ) → Same m n → same_name m n ≡ true
unfolding same_name
same_same_name m n h = rw h (same_refl (key_of n))
