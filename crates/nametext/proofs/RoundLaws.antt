-- The round trip: the text of a name in standard form, read, gives that name.
use Prim.Native.Nat.{ℕ, suc, ◌+◌, ◌<◌}
use mathlib.Core.Path.{◌≡◌, refl, ap, ◌∙◌}
use mathlib.Core.Bool.{Bool, true, false}
use mathlib.Core.List.{List, [], ◌∷◌, ◌++◌, map, append_assoc}
use lib.Dec.{leb, eqb}
use lib.ListN.{length}
use lib.Seq.{take-append_seam, drop-append_seam}
use native.Mathlib.Omega.{arith}
use borrow.Author.Tests.{lt-ltb, le-leb, ne_eqb, eq-eqb}
use Rattle.octets.specs.Octets.{Small}
use Rattle.octets.proofs.OctetLaws.{small_drop, small_take}
use Rattle.octets.proofs.BoolLaws.{clash}
use Rattle.labels.specs.Labels.{Label, ordinary, bits}
use Rattle.labels.specs.Scan.{scan_of, apart, labels_of}
use Rattle.names.specs.Standard.{units, units_of, encode, standard_of, in_standard_form, bit_label}
use Rattle.names.proofs.Written.{write_label, written}
use Rattle.names.proofs.Merged.{Fit, AllFit}
use Rattle.names.proofs.WriteLaws.{well_reads, written_back}
use Rattle.names.proofs.MergeLaws.{reads_end}
use Rattle.names.proofs.RoundLaws.{fit_labels}
use Rattle.names.proofs.StandardLaws.{in_standard, apart_standard}
use Rattle.nametext.specs.Writing.{ordinary_text, bits_text, label_text, text_of}
use Rattle.nametext.specs.Reading.{is_bits_text, label_formed, label_in, label_ranged, parts_of, last_from, every, labels_short, labels_in, name_read, text_number}
use Rattle.nametext.proofs.CharacterLaws.{not_dot, Every}
use Rattle.nametext.proofs.OrdinaryLaws
use Rattle.nametext.proofs.BitsLaws
use Rattle.nametext.proofs.PartLaws.{Parted, parts_text, last_text}

-- a label whose text is read again
record Back (l : Label) : Type 0 where
  some : 0 < length (label_text l)
  no_dot : Every not_dot (label_text l)
  formed : label_formed (label_text l) ≡ true
  ranged : label_ranged (label_text l) ≡ true
  holds : label_in (label_text l) ≡ l

-- what an ordinary label holds are octets
abbrev pub Octets : Label → Type 0
Octets (ordinary l) = Small l
Octets (bits b) = record {}

abbrev pub AllOctets : List Label → Type 0
AllOctets [] = record {}
AllOctets (l ∷ ls) = Octets l × AllOctets ls

back_ordinary : (l : List ℕ) → Fit (ordinary l) → Small l → Back (ordinary l)
unfolding label_text label_formed label_ranged label_in
back_ordinary l f s =
    let n = OrdinaryLaws.text_no_bits l s in
    let p = OrdinaryLaws.text_some l f.0 in
    record {
      some = p;
      no_dot = OrdinaryLaws.text_no_dot l s;
      formed = rw (label_formed, n, ne_eqb (length (ordinary_text l)) 0 (λ e. omega arith)) (OrdinaryLaws.text_formed l s);
      ranged = rw (label_ranged, n, OrdinaryLaws.text_octets l s) (OrdinaryLaws.small_ranged l s);
      holds = rw (label_in, n, OrdinaryLaws.text_octets l s);
    }

back_bits : (b : List ℕ) → Fit (bits b) → Back (bits b)
unfolding label_text bits_text label_formed label_ranged label_in is_bits_text
back_bits b f =
    let p = f.0 in
    let m = f.1 in
    let h = f.2 in
    record {
      some = omega arith;
      no_dot = BitsLaws.text_no_dot b h p;
      formed = BitsLaws.text_formed b h p;
      ranged = ap (λ (n : ℕ). leb n 256) (BitsLaws.text_count b h p) ∙ le-leb (length b) 256 m;
      holds = ap bits (BitsLaws.text_bits b h p);
    }

back : (l : Label) → Fit l → Octets l → Back l
back (ordinary l) f s = back_ordinary l f s
back (bits b) f s = back_bits b f

-- all labels
module _ where
  all_parted : (ls : List Label) → AllFit ls → AllOctets ls → Parted ls
  all_parted [] f s = record {}
  all_parted (l ∷ ls) f s = let k = back l f.0 s.0 in ((k.some, k.no_dot), all_parted ls f.1 s.1)

  all_formed : (ls : List Label) → AllFit ls → AllOctets ls → every label_formed (map label_text ls) ≡ true
  unfolding every
  all_formed [] f s = refl
  all_formed (l ∷ ls) f s = rw (back l f.0 s.0).formed (all_formed ls f.1 s.1)

  all_ranged : (ls : List Label) → AllFit ls → AllOctets ls → every label_ranged (map label_text ls) ≡ true
  unfolding every
  all_ranged [] f s = refl
  all_ranged (l ∷ ls) f s = rw (back l f.0 s.0).ranged (all_ranged ls f.1 s.1)

  all_hold : (ls : List Label) → AllFit ls → AllOctets ls → map label_in (map label_text ls) ≡ ls
  all_hold [] f s = refl
  all_hold (l ∷ ls) f s = rw ((back l f.0 s.0).holds, all_hold ls f.1 s.1)

-- labels with no two adjacent bit labels are short enough
fit_short : (after : Bool) (run : ℕ) (ls : List Label) → AllFit ls → apart after ls ≡ true → (after ≡ false → run ≡ 0) → labels_short run ls ≡ true
unfolding labels_short apart
fit_short after run [] f a r = refl
fit_short after run (ordinary l ∷ ls) f a r = rw (lt-ltb (length l) 64 f.0.1) (fit_short false 0 ls f.1 a (λ e. refl))
fit_short true run (bits b ∷ ls) f a r = absurd (clash a refl)
fit_short false run (bits b ∷ ls) f a r =
    let z : run ≡ 0 = r refl in
    rw (le-leb (run + length b) 256 (omega (arith, f.0.1))) (fit_short true (run + length b) ls f.1 a (λ e. absurd (clash refl e)))

-- the labels of octets hold octets
written_octets : (ls : List Label) (rest : List ℕ) → Small (written ls ++ rest) → AllOctets ls
unfolding written write_label
written_octets [] rest s = record {}
written_octets (ordinary l ∷ ls) rest s =
    let t : Small ((l ++ written ls) ++ rest) = λ i. s (suc i) in
    let u : Small (l ++ (written ls ++ rest)) = rw append_assoc at t in (
      rw (take-append_seam l (written ls ++ rest)) at (small_take (length l) (l ++ (written ls ++ rest)) u),
      written_octets ls rest (rw (drop-append_seam l (written ls ++ rest)) at (small_drop (length l) (l ++ (written ls ++ rest)) u)),
    )
written_octets (bits b ∷ ls) rest s =
    let u : Small (bit_label b ++ (written ls ++ rest)) = rw append_assoc at s in
    (record {}, written_octets ls rest (rw (drop-append_seam (bit_label b) (written ls ++ rest)) at (small_drop (length (bit_label b)) (bit_label b ++ (written ls ++ rest)) u)))

-- what passes every test earns no number
number_none : (text : List ℕ) → eqb (last_from 0 text) 46 ≡ true → every label_formed (parts_of text) ≡ true → every label_ranged (parts_of text) ≡ true
    → labels_short 0 (labels_in text) ≡ true → leb (length (name_read text)) 255 ≡ true → text_number text ≡ 0
unfolding text_number
number_none text l f r q e = rw (text_number, l, f, r, q, e)

-- a name in standard form
module _ (name : List ℕ) (s : Small name) (st : in_standard_form name ≡ true) where
  fit : AllFit (labels_of (scan_of name))
  fit = fit_labels (well_reads name (in_standard name st).0)

  octets : AllOctets (labels_of (scan_of name))
  octets =
      let b = written_back (well_reads name (in_standard name st).0) s in
      written_octets (labels_of (scan_of name)) b.rest (rw b.all at s)

  parts_are : parts_of (text_of name) ≡ map label_text (labels_of (scan_of name))
  unfolding text_of
  parts_are = parts_text (labels_of (scan_of name)) (all_parted (labels_of (scan_of name)) fit octets)

  -- the labels read are those of the name
  pub read_labels : labels_in (text_of name) ≡ labels_of (scan_of name)
  unfolding labels_in
  read_labels = ap (map label_in) parts_are ∙ all_hold (labels_of (scan_of name)) fit octets

  -- the name read is the name written
  pub read_name : name_read (text_of name) ≡ name
  unfolding name_read standard_of units_of
  read_name = ap (λ (ls : List Label). encode (units ls)) read_labels ∙ (in_standard name st).1

  -- and nothing is refused
  pub read_number_lem : text_number (text_of name) ≡ 0
  unfolding text_number text_of
  read_number_lem =
      let ls = labels_of (scan_of name) in
      let w = (in_standard name st).0 in
      let l : eqb (last_from 0 (text_of name)) 46 ≡ true = eq-eqb (last_from 0 (text_of name)) 46 (last_text ls) in
      let f : every label_formed (parts_of (text_of name)) ≡ true = ap (every label_formed) parts_are ∙ all_formed ls fit octets in
      let r : every label_ranged (parts_of (text_of name)) ≡ true = ap (every label_ranged) parts_are ∙ all_ranged ls fit octets in
      let q : labels_short 0 (labels_in (text_of name)) ≡ true =
      ap (labels_short 0) read_labels ∙ fit_short false 0 ls fit (apart_standard name s w (in_standard name st).1) (λ e. refl) in
      let e : leb (length (name_read (text_of name))) 255 ≡ true =
      ap (λ (xs : List ℕ). leb (length xs) 255) read_name ∙ le-leb (length name) 255 (reads_end (well_reads name w)).1 in
      number_none (text_of name) l f r q e
