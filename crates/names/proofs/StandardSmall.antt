-- The standard form of a name is octets.
use Prim.Native.Nat.{ℕ, ◌%◌}
use mathlib.Core.Path.{◌≡◌, refl, subst}
use mathlib.Core.List.{List, [], ◌∷◌, ◌++◌}
use lib.ListN.{length}
use lib.Seq.{take-append_seam, drop-append_seam}
use native.Mathlib.Omega.{arith}
use Rattle.octets.specs.Octets.{blank, Small}
use Rattle.octets.proofs.OctetLaws.{small_drop, small_take}
use Rattle.octets.proofs.SmallLaws.{small_cons, small_append, small_blank}
use Rattle.bits.specs.Bits.{pack}
use Rattle.bits.specs.Packing.{Bits}
use Rattle.bits.proofs.PackingLaws.{bits_append}
use Rattle.bits.proofs.UnpackLaws.{pack_small}
use Rattle.labels.specs.Labels.{Label, ordinary, bits}
use Rattle.labels.specs.Scan.{Reading, refused, done, scan_of, labels_of}
use Rattle.names.specs.Standard.{units, units_of, bit_label, encode_from, encode, standard_of}
use Rattle.names.proofs.Written.{written}
use Rattle.names.proofs.Merged.{AllFit}
use Rattle.names.proofs.WriteLaws.{scan_reads, written_back, encode_before}
use Rattle.names.proofs.RoundLaws.{fit_labels}

-- octets taken apart
small_left : (xs ys : List ℕ) → Small (xs ++ ys) → Small xs
small_left xs ys s = subst Small (take-append_seam xs ys) (small_take (length xs) (xs ++ ys) s)

small_right : (xs ys : List ℕ) → Small (xs ++ ys) → Small ys
small_right xs ys s = subst Small (drop-append_seam xs ys) (small_drop (length xs) (xs ++ ys) s)

bit_label_small : (run : List ℕ) → Bits run → Small (bit_label run)
unfolding bit_label
bit_label_small [] h = λ i. omega arith
bit_label_small (b ∷ bs) h =
    let n = length (b ∷ bs) % 256 in
    small_cons 65 (n ∷ pack (b ∷ bs)) (omega arith) (small_cons n (pack (b ∷ bs)) (omega arith) (pack_small (b ∷ bs) h))

-- labels that fit and are written in octets are encoded in octets: an ordinary label stands as it was written, and a run is packed again
encode_small : (run : List ℕ) (ls : List Label) → Bits run → AllFit ls → Small (written ls) → Small (encode_from run (units ls))
unfolding encode_from units written
encode_small run [] b f s = small_append (bit_label run) (0 ∷ []) (bit_label_small run b) s
encode_small run (ordinary l ∷ ls) b f s =
    let us = encode_from [] (units ls) in
    let ih = encode_small [] ls (λ i. omega arith) f.1 (small_right (length l ∷ l) (written ls) s) in
    small_append (bit_label run) (length l ∷ (l ++ us)) (bit_label_small run b) (small_append (length l ∷ l) us (small_left (length l ∷ l) (written ls) s) ih)
encode_small run (bits b ∷ ls) h f s =
    rw (encode_before b run (units ls)) (encode_small (b ++ run) ls (bits_append b run f.0.2 h) f.1 (small_right (bit_label b) (written ls) s))

-- the standard form of a name is octets; the name need not be well formed
pub standard_small : (name : List ℕ) → Small name → Small (standard_of name)
unfolding standard_of units_of encode encode_from units bit_label labels_of scan_of blank
standard_small name s = go (scan_of name) refl
  where
    go : (r : Reading) → scan_of name ≡ r → Small (encode_from [] (units (labels_of r)))
    go (refused n) e = small_blank 1
    go (done ls u) e =
        let r = scan_reads (length name) 0 0 name ls u (omega arith) e in
        let b = written_back r s in
        encode_small [] ls (λ i. omega arith) (fit_labels r) (small_left (written ls) b.rest (subst Small b.all s))
