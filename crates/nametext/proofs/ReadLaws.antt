-- What is read is a name in standard form, so that it can be written and read again.
use Prim.Native.Nat.{ℕ, ◌+◌, ◌/◌, ◌%◌, ◌≤◌, ◌<◌}
use mathlib.Core.Path.{◌≡◌, refl, ap, ◌∙◌, sym}
use mathlib.Core.Bool.{Bool, true, false, not, ◌&&◌}
use mathlib.Core.List.{List, [], ◌∷◌, ◌++◌, map}
use lib.Dec.{leb, ltb, eqb}
use lib.ListN.{length, get_or, length-append, length-map}
use native.Mathlib.Omega.{arith}
use borrow.Author.Tests.{eq-eqb, eqb-true, eqb-false, ltb-true, leb-true, not-true, not-false}
use Rattle.octets.specs.Octets.{Small, same}
use Rattle.octets.proofs.SmallLaws.{small_cons, small_append}
use Rattle.octets.proofs.AnswerLaws.{earns_zero}
use Rattle.bits.specs.Bits.{unpack, pack}
use Rattle.bits.specs.Packing.{Bits}
use Rattle.bits.proofs.BitLaws.{unpack_length}
use Rattle.bits.proofs.PackingLaws.{bits_append, unpack_bits}
use Rattle.bits.proofs.UnpackLaws.{pack_small}
use Rattle.labels.specs.Labels.{Label, ordinary, bits}
use Rattle.labels.specs.Scan.{Reading, done, scan_of, labels_of, fills, well_formed}
use Rattle.names.specs.Standard.{units, units_of, bit_label, encode, standard_of, in_standard_form, before}
use Rattle.names.proofs.Written.{write_label, written}
use Rattle.names.proofs.Merged.{one_label, merged, AllFit}
use Rattle.names.proofs.WriteLaws.{bit_label_some}
use Rattle.names.proofs.RoundLaws.{fit_one, merged_written, merged_units, merged_apart, scan_written}
use Rattle.names.proofs.StandardLaws.{standard_in}
use Rattle.text.specs.Digits.{digit_in}
use Rattle.text.proofs.DecimalLaws.{both}
use Rattle.nametext.specs.Writing.{digits_for, text_of}
use Rattle.nametext.specs.Reading.{paired, octets_formed, octets_in, octets_ranged, is_bits_text, digits_in, count_formed, count_in, end_in, bit_octets, rest_clear, bits_formed, label_formed, label_in, label_ranged, parts_of, last_from, every, labels_short, labels_in, name_read, text_number}
use Rattle.nametext.proofs.RoundLaws.{Octets, AllOctets, read_name, read_number_lem}

-- what a label in order holds: something, of octets or bits
abbrev Some : Label → Type 0
Some (ordinary l) = 0 < length l
Some (bits b) = (0 < length b) × Bits b

abbrev AllSome : List Label → Type 0
AllSome [] = record {}
AllSome (l ∷ ls) = Some l × AllSome ls

-- ordinary labels
octets_some : (p : List ℕ) → 0 < length p → 0 < length (octets_in 0 p)
unfolding octets_in
octets_some [] h = h
octets_some (x ∷ p) h = go (eqb x 92) refl
  where
    go : (t : Bool) → eqb x 92 ≡ t → 0 < length (octets_in 0 (x ∷ p))
    go true e = rw (octets_in, e) (omega arith)
    go false e = rw (octets_in, e) (omega arith)

ranged_small : (l : List ℕ) → octets_ranged l ≡ true → Small l
unfolding octets_ranged
ranged_small [] h = λ i. omega arith
ranged_small (x ∷ l) h = let k = both (ltb x 256) (octets_ranged l) h in small_cons x l (ltb-true x 256 k.0) (ranged_small l k.1)

-- bit labels
paired_length : (ds : List ℕ) → length (paired ds) ≡ (length ds + 1) / 2
unfolding paired
paired_length [] = refl
paired_length (x ∷ []) = refl
paired_length (x ∷ y ∷ zs) = let ih = paired_length zs in omega arith

octets_length : (p : List ℕ) → length (bit_octets p) ≡ (length (digits_in p) + 1) / 2
unfolding bit_octets
octets_length p = paired_length (map digit_in (digits_in p)) ∙ ap (λ (k : ℕ). (k + 1) / 2) (length-map (digits_in p) digit_in)

bits_some : (p : List ℕ) → bits_formed p ≡ true → (length (unpack (count_in p) (bit_octets p)) ≡ count_in p) × (0 < count_in p)
unfolding bits_formed
bits_some p h =
    let t6 = rest_clear (count_in p) (bit_octets p) in
    let t5 = eqb (length (digits_in p)) (digits_for (count_in p)) && t6 in
    let t4 = same (end_in p) (93 ∷ []) && t5 in
    let t3 = count_formed p && t4 in
    let t2 = not (eqb (length (digits_in p)) 0) && t3 in
    let b = both (not (eqb (length (digits_in p)) 0)) t3 (both (eqb (get_or p 2 0) 120) t2 h).1 in
    let d = (both (same (end_in p) (93 ∷ [])) t5 (both (count_formed p) t4 b.1).1).1 in
    let e = (both (eqb (length (digits_in p)) (digits_for (count_in p))) t6 d).0 in
    let n : length (digits_in p) ≡ 0 → ⊥ = eqb-false (length (digits_in p)) 0 (not-true (eqb (length (digits_in p)) 0) b.0) in
    let k : length (digits_in p) ≡ digits_for (count_in p) = eqb-true (length (digits_in p)) (digits_for (count_in p)) e in
    let l = octets_length p in
    (unpack_length (count_in p) (bit_octets p) (omega arith), omega (arith, n))

label_some : (p : List ℕ) → label_formed p ≡ true → label_ranged p ≡ true → Some (label_in p) × Octets (label_in p)
unfolding label_formed label_ranged label_in
label_some p f r = go (is_bits_text p) refl
  where
    go : (t : Bool) → is_bits_text p ≡ t → Some (label_in p) × Octets (label_in p)
    go true e =
        let g : bits_formed p ≡ true = rw (label_formed, e) at f in
        let b = bits_some p g in
        rw (label_in, e) ((omega (arith, b.0, b.1), unpack_bits (count_in p) (bit_octets p)), record {})
    go false e =
        let g = both (not (eqb (length p) 0)) (octets_formed 0 p) (rw (label_formed, e) at f) in
        let n : length p ≡ 0 → ⊥ = eqb-false (length p) 0 (not-true (eqb (length p) 0) g.0) in
        let q : octets_ranged (octets_in 0 p) ≡ true = rw (label_ranged, e) at r in
        rw (label_in, e) (octets_some p (omega (arith, n)), ranged_small (octets_in 0 p) q)

labels_some : (ps : List (List ℕ)) → every label_formed ps ≡ true → every label_ranged ps ≡ true → AllSome (map label_in ps) × AllOctets (map label_in ps)
unfolding every
labels_some [] f r = (record {}, record {})
labels_some (p ∷ ps) f r =
    let a = both (label_formed p) (every label_formed ps) f in
    let b = both (label_ranged p) (every label_ranged ps) r in
    let ih = labels_some ps a.1 b.1 in
    let l = label_some p a.0 b.0 in
    ((l.0, ih.0), (l.1, ih.1))

-- merged, each label fits
fit_merged : (run : List ℕ) (ls : List Label) → Bits run → length run ≤ 256 → AllSome ls → labels_short (length run) ls ≡ true → AllFit (merged run ls)
unfolding merged labels_short
fit_merged run [] b l s h = fit_one run [] b l (record {})
fit_merged run (ordinary x ∷ ls) b l s h =
    let k = both (ltb (length x) 64) (labels_short 0 ls) h in
    fit_one run (ordinary x ∷ merged [] ls) b l ((s.0, ltb-true (length x) 64 k.0), fit_merged [] ls (λ i. omega arith) (omega arith) s.1 k.1)
fit_merged run (bits x ∷ ls) b l s h =
    let k = both (leb (length run + length x) 256) (labels_short (length run + length x) ls) h in
    let m = leb-true (length run + length x) 256 k.0 in
    let a = length-append x run in
    let e : length run + length x ≡ length (x ++ run) = omega arith in
    let t : labels_short (length (x ++ run)) ls ≡ true = rw e at k.1 in
    fit_merged (x ++ run) ls (bits_append x run s.0.1 b) (omega arith) s.1 t

octets_one : (run : List ℕ) (ls : List Label) → AllOctets ls → AllOctets (one_label run ls)
unfolding one_label
octets_one [] ls h = h
octets_one (b ∷ run) ls h = (record {}, h)

octets_merged : (run : List ℕ) (ls : List Label) → AllOctets ls → AllOctets (merged run ls)
unfolding merged
octets_merged run [] h = octets_one run [] h
octets_merged run (ordinary l ∷ ls) h = octets_one run (ordinary l ∷ merged [] ls) (h.0, octets_merged [] ls h.1)
octets_merged run (bits b ∷ ls) h = octets_merged (b ++ run) ls h.1

-- what is written are octets
written_small : (ls : List Label) → AllFit ls → AllOctets ls → Small (written ls)
unfolding written write_label
written_small [] f s = small_cons 0 [] (omega arith) (λ i. omega arith)
written_small (ordinary l ∷ ls) f s = small_cons (length l) (l ++ written ls) (omega (arith, f.0.1)) (small_append l (written ls) s.0 (written_small ls f.1 s.1))
written_small (bits b ∷ ls) f s =
    let w : bit_label b ≡ 65 ∷ length b % 256 ∷ pack b = bit_label_some b f.0.0 in
    rw w (small_cons 65 (length b % 256 ∷ (pack b ++ written ls)) (omega arith)
    (small_cons (length b % 256) (pack b ++ written ls) (omega arith) (small_append (pack b) (written ls) (pack_small b f.0.2) (written_small ls f.1 s.1))))

-- labels in order make a name in standard form
module _ (ls : List Label) (some : AllSome ls) (octets : AllOctets ls) (short : labels_short 0 ls ≡ true) (room : length (encode (units ls)) ≤ 255) where
  merged_fit : AllFit (merged [] ls)
  merged_fit = fit_merged [] ls (λ i. omega arith) (omega arith) some short

  encoded : encode (units ls) ≡ written (merged [] ls)
  unfolding encode
  encoded = sym (merged_written [] ls)

  pub encode_small : Small (encode (units ls))
  encode_small = rw encoded (written_small (merged [] ls) merged_fit (octets_merged [] ls octets))

  encode_scan : scan_of (encode (units ls)) ≡ done (merged [] ls) (length (encode (units ls)))
  unfolding scan_of
  encode_scan =
      let l : length (encode (units ls)) ≡ length (written (merged [] ls)) = ap length encoded in
      ap scan_of encoded ∙ scan_written false 0 0 (merged [] ls) merged_fit (merged_apart [] ls) (λ q. refl) (omega arith) ∙ ap (done (merged [] ls)) (omega arith)

  pub encode_standard : in_standard_form (encode (units ls)) ≡ true
  unfolding well_formed fills standard_of units_of labels_of before
  encode_standard =
      standard_in (encode (units ls)) (rw encode_scan (eq-eqb (length (encode (units ls))) (length (encode (units ls))) refl))
      (ap (λ (r : Reading). encode (units (labels_of r))) encode_scan ∙ ap encode (merged_units [] ls))

-- a text that earns no number
module _ (text : List ℕ) (e : text_number text ≡ 0) where
  record Passed : Type 0 where
    formed : every label_formed (parts_of text) ≡ true
    ranged : every label_ranged (parts_of text) ≡ true
    short : labels_short 0 (labels_in text) ≡ true
    room : length (name_read text) ≤ 255

  passed : Passed
  unfolding text_number
  passed =
      let a = earns_zero (not (eqb (last_from 0 text) 46 && every label_formed (parts_of text))) 19 _ e in
      let b = earns_zero (not (every label_ranged (parts_of text))) 20 _ a.1 in
      let c = earns_zero (not (labels_short 0 (labels_in text) && leb (length (name_read text)) 255)) 21 0 b.1 in
      let f = both (eqb (last_from 0 text) 46) (every label_formed (parts_of text)) (not-false (eqb (last_from 0 text) 46 && every label_formed (parts_of text)) a.0) in
      let s = both (labels_short 0 (labels_in text)) (leb (length (name_read text)) 255) (not-false (labels_short 0 (labels_in text) && leb (length (name_read text)) 255) c.0) in
      record { formed = f.1; ranged = not-false (every label_ranged (parts_of text)) b.0; short = s.0; room = leb-true (length (name_read text)) 255 s.1 }

  -- the name that it stands for is made of octets and in standard form
  pub read_small : Small (name_read text)
  unfolding name_read labels_in
  read_small = let s = labels_some (parts_of text) passed.formed passed.ranged in encode_small (labels_in text) s.0 s.1 passed.short passed.room

  pub read_standard : in_standard_form (name_read text) ≡ true
  unfolding name_read labels_in
  read_standard = let s = labels_some (parts_of text) passed.formed passed.ranged in encode_standard (labels_in text) s.0 s.1 passed.short passed.room

  -- what was read, written and read again, is the same name
  pub read_again : (name_read (text_of (name_read text)) ≡ name_read text) × (text_number (text_of (name_read text)) ≡ 0)
  read_again = (read_name (name_read text) read_small read_standard, read_number_lem (name_read text) read_small read_standard)
