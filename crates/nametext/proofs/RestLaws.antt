-- The labels that stand in a text from a place on.
use Prim.Native.Nat.{ℕ, ◌+◌, ◌-◌, ◌≤◌, ◌<◌}
use mathlib.Core.Path.{◌≡◌, refl, ap, ◌∙◌, sym}
use mathlib.Core.Bool.{Bool, true, false, not}
use mathlib.Core.List.{List, [], ◌∷◌, map}
use lib.Dec.{ltb, eqb}
use lib.ListN.{length, get_or, take, drop, length-drop, get_or-eq_default}
use lib.Seq.{get_or-take, length-take-le}
use native.Mathlib.Omega.{arith}
use borrow.Author.Tests.{ltb-true, ltb-false}
use Rattle.octets.proofs.BoolLaws.{and_false, clash}
use Rattle.bits.specs.Bits.{unpack}
use Rattle.labels.specs.Labels.{Label, ordinary, bits}
use Rattle.text.specs.Digits.{is_hex, leading}
use Rattle.text.proofs.DecimalLaws.{both}
use Rattle.text.proofs.PlaceLaws.{past}
use Rattle.nametext.specs.Writing.{digits_for}
use Rattle.nametext.specs.Reading.{octets_formed, octets_in, octets_ranged, is_bits_text, bits_formed, count_in, bit_octets, label_formed, label_ranged, label_in, parts_from, last_from, every}
use Rattle.nametext.specs.Places.{Dot, part_of, rest_of, Standing}
use Rattle.std.specs.Prelude.{Ok}
use Rattle.nametext.specs.declared.reading.Part.TheVariants.{Bits}
use Rattle.nametext.proofs.PlaceLaws.{begins_is}
use Rattle.nametext.proofs.BitPartLaws.{digits_length, formed_digits, formed_some, bits_size}
use Rattle.nametext.proofs.JudgeLaws.{formed_bits, formed_word, ranged_word, in_bits, in_word, part_good_bits}
use Rattle.nametext.proofs.DotLaws.{parts_whole, last_drop, dot_there, Read}

-- from the start of a text
pub standing_start : (text : List ℕ) → Read text → (length text ≡ 1 → ⊥) → Standing text 0
standing_start text r h =
    let e = parts_whole text h in
    record { inside = omega arith; dot = λ k. r.ended; formed = ap (every label_formed) (sym e) ∙ r.formed; ranged = ap (every label_ranged) (sym e) ∙ r.ranged }

-- the next part
module _ (text : List ℕ) (at r : ℕ) (s : Standing text at) (d : Dot text at r) (h : at < length text) where
  ended : last_from 0 text ≡ 46
  ended = sym (last_drop text at h) ∙ s.dot h

  pub dot_here : r < length text
  dot_here = dot_there text at r d h ended

  parts : parts_from [] (drop at text) ≡ take (r - at) (drop at text) ∷ parts_from [] (drop (r + 1) text)
  parts = (d.found dot_here).1

  forms : (label_formed (take (r - at) (drop at text)) ≡ true) × (every label_formed (parts_from [] (drop (r + 1) text)) ≡ true)
  unfolding every
  forms = both (label_formed (take (r - at) (drop at text))) (every label_formed (parts_from [] (drop (r + 1) text))) (ap (every label_formed) (sym parts) ∙ s.formed)

  ranges : (label_ranged (take (r - at) (drop at text)) ≡ true) × (every label_ranged (parts_from [] (drop (r + 1) text)) ≡ true)
  unfolding every
  ranges = both (label_ranged (take (r - at) (drop at text))) (every label_ranged (parts_from [] (drop (r + 1) text))) (ap (every label_ranged) (sym parts) ∙ s.ranged)

  pub standing_next : Standing text (r + 1)
  standing_next = record { inside = omega (arith, dot_here); dot = λ k. last_drop text (r + 1) k ∙ ended; formed = forms.1; ranged = ranges.1 }

  rest_is : rest_of text at ≡ label_in (take (r - at) (drop at text)) ∷ rest_of text (r + 1)
  rest_is = ap (map label_in) parts

  -- the part begins as the text from there on, since a dot ends it
  pub kind_is : is_bits_text (take (r - at) (drop at text)) ≡ is_bits_text (drop at text)
  unfolding is_bits_text
  kind_is =
      let n = length-drop at text in
      let t = dot_here in
      let l = length-take-le (r - at) (drop at text) (omega arith) in
      go (ltb (r - at) 2) refl (ltb (r - at) 1) refl n l
    where
      dotted : get_or text r 0 ≡ 46
      dotted = (d.found dot_here).0

      go : (b : Bool) → ltb (r - at) 2 ≡ b → (a : Bool) → ltb (r - at) 1 ≡ a → length (drop at text) ≡ length text - at → length (take (r - at) (drop at text)) ≡ r - at
          → is_bits_text (take (r - at) (drop at text)) ≡ is_bits_text (drop at text)
      go true e true f n l =
          let k = ltb-true (r - at) 1 f in
          let w = d.low in
          let i : r ≡ at = omega arith in
          let g : get_or text at 0 ≡ 46 = ap (λ (j : ℕ). get_or text j 0) (sym i) ∙ dotted in
          let z : get_or (take (r - at) (drop at text)) 0 0 ≡ 0 = get_or-eq_default (take (r - at) (drop at text)) 0 {n = 0} (omega arith) in
          rw z (sym (begins_is text at ∙ rw g))
      go true e false f n l =
          let k = ltb-false (r - at) 1 f in
          let j = ltb-true (r - at) 2 e in
          let i : r ≡ at + 1 = omega arith in
          let g : get_or text (at + 1) 0 ≡ 46 = ap (λ (m : ℕ). get_or text m 0) (sym i) ∙ dotted in
          let z : get_or (take (r - at) (drop at text)) 1 0 ≡ 0 = get_or-eq_default (take (r - at) (drop at text)) 0 {n = 1} (omega arith) in
          let u : is_bits_text (take (r - at) (drop at text)) ≡ false = rw z (and_false (eqb (get_or (take (r - at) (drop at text)) 0 0) 92)) in
          u ∙ sym (begins_is text at ∙ rw g (and_false (eqb (get_or text at 0) 92)))
      go false e a f n l =
          let j = ltb-false (r - at) 2 e in
          rw (get_or-take (r - at) (drop at text) 0 0 (omega arith), get_or-take (r - at) (drop at text) 1 0 (omega arith))

-- a bit label stands at a place
pub record AtBits (text : List ℕ) (at r n : ℕ) : Type 0 where
  pub inside : (at ≤ r) × (r < length text)
  pub standing : Standing text (r + 1)
  pub labels : rest_of text at ≡ bits (unpack n (bit_octets (take (r - at) (drop at text)))) ∷ rest_of text (r + 1)
  pub size : length (unpack n (bit_octets (take (r - at) (drop at text)))) ≡ n
  pub digits : digits_for n ≤ leading is_hex (drop 3 (take (r - at) (drop at text)))
  pub some : 0 < n

bits_inside : (text : List ℕ) (at : ℕ) → is_bits_text (drop at text) ≡ true → at < length text
unfolding is_bits_text
bits_inside text at h = go (ltb at (length text)) refl
  where
    go : (b : Bool) → ltb at (length text) ≡ b → at < length text
    go true e = ltb-true at (length text) e
    go false e = absurd (clash h (ap is_bits_text (past text at (ltb-false at (length text) e))))

-- its part is read as one
pub part_at : (text : List ℕ) (at r : ℕ) → Standing text at → Dot text at r → is_bits_text (drop at text) ≡ true → part_of (take (r - at) (drop at text)) ≡ Ok (Bits (count_in (take (r - at) (drop at text))))
part_at text at r s d b =
    let h = bits_inside text at b in
    part_good_bits (take (r - at) (drop at text)) (forms text at r s d h).0 (ranges text at r s d h).0 (kind_is text at r s d h ∙ b)

pub at_bits : (text : List ℕ) (at r n : ℕ) → Standing text at → Dot text at r → is_bits_text (drop at text) ≡ true → n ≡ count_in (take (r - at) (drop at text)) → AtBits text at r n
at_bits text at r c s d b n =
    let h = bits_inside text at b in
    let k : is_bits_text (take (r - at) (drop at text)) ≡ true = kind_is text at r s d h ∙ b in
    let f = (forms text at r s d h).0 in
    let g : bits_formed (take (r - at) (drop at text)) ≡ true = sym (formed_bits (take (r - at) (drop at text)) k) ∙ f in
    let m = formed_digits (take (r - at) (drop at text)) g in
    let q = digits_length (take (r - at) (drop at text)) in
    record {
      inside = (d.low, dot_here text at r s d h);
      standing = standing_next text at r s d h;
      labels = rw n (rest_is text at r s d h ∙ ap (λ (x : Label). x ∷ rest_of text (r + 1)) (in_bits (take (r - at) (drop at text)) k));
      size = rw n (bits_size (take (r - at) (drop at text)) g);
      digits = omega arith;
      some = rw n (formed_some (take (r - at) (drop at text)) g);
    }

-- an ordinary label stands at a place
pub record AtWord (text : List ℕ) (at r : ℕ) : Type 0 where
  pub inside : (at ≤ r) × (r < length text)
  pub standing : Standing text (r + 1)
  pub labels : rest_of text at ≡ ordinary (octets_in 0 (take (r - at) (drop at text))) ∷ rest_of text (r + 1)
  pub formed : octets_formed 0 (take (r - at) (drop at text)) ≡ true
  pub ranged : octets_ranged (octets_in 0 (take (r - at) (drop at text))) ≡ true

pub at_word : (text : List ℕ) (at r : ℕ) → Standing text at → Dot text at r → at < length text → is_bits_text (drop at text) ≡ false → AtWord text at r
at_word text at r s d h b =
    let k : is_bits_text (take (r - at) (drop at text)) ≡ false = kind_is text at r s d h ∙ b in
    let f = sym (formed_word (take (r - at) (drop at text)) k) ∙ (forms text at r s d h).0 in
    record {
      inside = (d.low, dot_here text at r s d h);
      standing = standing_next text at r s d h;
      labels = rest_is text at r s d h ∙ ap (λ (x : Label). x ∷ rest_of text (r + 1)) (in_word (take (r - at) (drop at text)) k);
      formed = (both (not (eqb (length (take (r - at) (drop at text))) 0)) (octets_formed 0 (take (r - at) (drop at text))) f).1;
      ranged = sym (ranged_word (take (r - at) (drop at text)) k) ∙ (ranges text at r s d h).0;
    }
