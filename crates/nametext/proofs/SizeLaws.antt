-- How long the text of a name can be.
use Prim.Native.Nat.{ℕ, ◌+◌, ◌*◌, ◌≤◌}
use mathlib.Core.Path.{◌≡◌, ap}
use mathlib.Core.Bool.{true}
use mathlib.Core.List.{List, [], ◌∷◌, ◌++◌}
use lib.ListN.{length, length-append}
use native.Mathlib.Omega.{arith}
use Rattle.octets.specs.Octets.{Small}
use Rattle.bits.proofs.PackingLaws.{pack_length}
use Rattle.labels.specs.Labels.{Label, ordinary, bits}
use Rattle.labels.specs.Scan.{scan_of, labels_of, well_formed}
use Rattle.names.specs.Standard.{bit_label}
use Rattle.names.proofs.Written.{write_label, written}
use Rattle.names.proofs.Merged.{AllFit}
use Rattle.names.proofs.WriteLaws.{well_reads, written_back, bit_label_some}
use Rattle.names.proofs.MergeLaws.{reads_end}
use Rattle.names.proofs.RoundLaws.{fit_labels}
use Rattle.text.specs.Decimal.{write_decimal}
use Rattle.text.proofs.DecimalLaws.{decimal_few}
use Rattle.nametext.specs.Writing.{hex_text, bits_text, ordinary_text, label_text, dotted, labels_text, text_of}
use Rattle.nametext.proofs.BitsLaws.{hex_length}
use Rattle.nametext.proofs.WriterLaws.{ordinary_short}

-- at most 253 octets of text for 64 octets of a name, which a label of 63 octets that are all escaped takes
dotted_short : (ls : List Label) → AllFit ls → 64 * length (dotted ls) + 253 ≤ 253 * length (written ls)
unfolding dotted label_text written write_label bits_text
dotted_short [] f = omega arith
dotted_short (ordinary l ∷ ls) f =
    let ih = dotted_short ls f.1 in
    let a = length-append (ordinary_text l) (46 ∷ dotted ls) in
    let b = length-append l (written ls) in
    let s = ordinary_short l in
    omega (arith, f.0.1)
dotted_short (bits b ∷ ls) f =
    let ih = dotted_short ls f.1 in
    let w = bit_label_some b f.0.0 in
    let p = pack_length b in
    let h = hex_length b f.0.2 f.0.0 in
    let d = decimal_few (length b) 2 (omega (arith, f.0.1)) in
    let a1 = length-append (bits_text b) (46 ∷ dotted ls) in
    let a2 = length-append (hex_text b) (47 ∷ (write_decimal (length b) ++ (93 ∷ []))) in
    let a3 = length-append (write_decimal (length b)) (93 ∷ []) in
    let a4 = length-append (bit_label b) (written ls) in
    omega (arith, f.0.0, ap length w)

-- so a name's text has at most 1,004 octets
pub text_short : (name : List ℕ) → Small name → well_formed name ≡ true → length (text_of name) ≤ 1004
unfolding text_of labels_text
text_short name s w =
    let r = well_reads name w in
    let b = written_back r s in
    go (labels_of (scan_of name)) (fit_labels r) (omega (arith, b.used_is, (reads_end r).1))
  where
    go : (ls : List Label) → AllFit ls → length (written ls) ≤ 255 → length (labels_text ls) ≤ 1004
    go [] f h = omega arith
    go (l ∷ ls) f h = omega (arith, dotted_short (l ∷ ls) f)
