-- The number of a name's text, part by part.
use Prim.Native.Nat.{ℕ, zero, suc, ◌+◌, ◌≤◌, ◌<◌}
use mathlib.Core.Path.{◌≡◌, refl, ap, ◌∙◌, sym}
use mathlib.Core.Bool.{Bool, true, false, not, ◌&&◌}
use mathlib.Core.List.{List, [], ◌∷◌, ◌++◌, map}
use lib.Dec.{leb, ltb, eqb}
use lib.ListN.{length, length-append}
use native.Mathlib.Omega.{arith}
use native.Mathlib.Nat.{zero-add}
use borrow.Author.Tests.{lt-ltb, le-ltb, ltb-true, ltb-false, le-leb, lt-leb, leb-true, leb-false, eq-eqb, ne_eqb}
use Rattle.octets.specs.Answers.{earns}
use Rattle.octets.proofs.BoolLaws.{and_false, clash}
use Rattle.bits.specs.Bits.{octets_for, unpack, pack}
use Rattle.bits.proofs.PackingLaws.{pack_length}
use Rattle.labels.specs.Labels.{Label, ordinary, bits}
use Rattle.names.specs.Standard.{units, encode_from, encode, bit_label}
use Rattle.names.proofs.WriteLaws.{encode_before}
use Rattle.nametext.specs.Reading.{octets_formed, octets_in, octets_ranged, is_bits_text, bits_formed, count_in, bit_octets, label_formed, label_ranged, label_in, labels_short, parts_of, last_from, every, labels_in, name_read, text_number}
use Rattle.nametext.specs.Places.{part_by, ordinary_part, bit_part, part_of, run_size, size_from, tallied_word, tallied_bits, tallied, concluded, judge_from}
use Rattle.std.specs.Prelude.{Result, Ok, Err}
use Rattle.octets.specs.declared.Refusal.{Refusal}
use Rattle.octets.specs.declared.Refusal.TheVariants.{Form, Range, Name}
use Rattle.octets.specs.Refusals.{code_of, told, number_of}
use Rattle.octets.specs.contracts.Refusal.{the_type}
use Rattle.octets.proofs.RefusalLaws.{told_code}
use denote.Enum.Bare.{sameb, same_true}
use borrow.Author.Rules.{rules}
use Rattle.nametext.specs.declared.reading.Part.{Part}
use Rattle.nametext.specs.declared.reading.Part.TheVariants.{Word, Bits}
use Rattle.nametext.specs.declared.reading.Sizes.{Sizes}
use Rattle.nametext.proofs.BitPartLaws.{bits_size}

-- one label more
pub bits_over : (t : Sizes) (n : ℕ) → 256 < t.run + n → tallied_bits t n ≡ Err Name
unfolding tallied_bits
bits_over t n h = rw (tallied_bits, lt-leb (t.run + n) 256 h)

pub bits_fit : (t : Sizes) (n : ℕ) → t.run + n ≤ 256 → tallied_bits t n ≡ Ok (record { size = t.size; run = t.run + n })
unfolding tallied_bits
bits_fit t n h = rw (tallied_bits, le-leb (t.run + n) 256 h)

pub word_long : (t : Sizes) (n : ℕ) → 63 < n → tallied_word t n ≡ Err Name
unfolding tallied_word
word_long t n h = rw (tallied_word, le-ltb n 64 (omega arith))

pub word_large : (t : Sizes) (n : ℕ) → n ≤ 63 → 254 < t.size + (run_size t.run + (1 + n)) → tallied_word t n ≡ Err Name
unfolding tallied_word
word_large t n k h = rw (tallied_word, lt-ltb n 64 (omega arith), le-ltb (t.size + (run_size t.run + (1 + n))) 255 (omega arith))

pub word_fit : (t : Sizes) (n : ℕ) → n ≤ 63 → t.size + (run_size t.run + (1 + n)) ≤ 254 → tallied_word t n ≡ Ok (record { size = t.size + (run_size t.run + (1 + n)); run = 0 })
unfolding tallied_word
word_fit t n k h = rw (tallied_word, lt-ltb n 64 (omega arith), lt-ltb (t.size + (run_size t.run + (1 + n))) 255 (omega arith))

-- the end of the name
module _ (t : Sizes) where
  pub end_large : 255 < t.size + (run_size t.run + 1) → concluded (Ok t) ≡ 22
  end_large k = rw (lt-leb (t.size + (run_size t.run + 1)) 255 k)

  pub end_fit : t.size + (run_size t.run + 1) ≤ 255 → concluded (Ok t) ≡ 0
  end_fit k = rw (le-leb (t.size + (run_size t.run + 1)) 255 k)

-- the size of a run
pub run_none : run_size 0 ≡ 0
unfolding run_size
run_none = refl

pub run_some : (n : ℕ) → (n ≡ 0 → ⊥) → run_size n ≡ 2 + octets_for n
unfolding run_size
run_some zero h = absurd (h refl)
run_some (suc n) h = refl

-- a part by its kind
module _ (p : List ℕ) where
  pub part_bits : is_bits_text p ≡ true → part_of p ≡ bit_part p
  unfolding part_of
  part_bits e = rw (part_of, e)

  pub part_word : is_bits_text p ≡ false → part_of p ≡ ordinary_part p
  unfolding part_of
  part_word e = rw (part_of, e)

  pub formed_bits : is_bits_text p ≡ true → label_formed p ≡ bits_formed p
  unfolding label_formed
  formed_bits e = rw (label_formed, e)

  pub formed_word : is_bits_text p ≡ false → label_formed p ≡ (not (eqb (length p) 0) && octets_formed 0 p)
  unfolding label_formed
  formed_word e = rw (label_formed, e)

  ranged_bits : is_bits_text p ≡ true → label_ranged p ≡ leb (count_in p) 256
  unfolding label_ranged
  ranged_bits e = rw (label_ranged, e)

  pub ranged_word : is_bits_text p ≡ false → label_ranged p ≡ octets_ranged (octets_in 0 p)
  unfolding label_ranged
  ranged_word e = rw (label_ranged, e)

  pub in_bits : is_bits_text p ≡ true → label_in p ≡ bits (unpack (count_in p) (bit_octets p))
  unfolding label_in
  in_bits e = rw (label_in, e)

  pub in_word : is_bits_text p ≡ false → label_in p ≡ ordinary (octets_in 0 p)
  unfolding label_in
  in_word e = rw (label_in, e)

  whole_bits : is_bits_text p ≡ true → part_of p ≡ part_by (label_formed p) (label_ranged p) (Bits (count_in p))
  unfolding bit_part
  whole_bits e = part_bits e ∙ rw (formed_bits e, ranged_bits e)

  whole_word : is_bits_text p ≡ false → part_of p ≡ part_by (label_formed p) (label_ranged p) (Word (length (octets_in 0 p)))
  unfolding ordinary_part
  whole_word e = part_word e ∙ rw (formed_word e, ranged_word e)

  pub part_unformed : label_formed p ≡ false → part_of p ≡ Err Form
  unfolding part_by
  part_unformed f = go (is_bits_text p) refl
    where
      go : (b : Bool) → is_bits_text p ≡ b → part_of p ≡ Err Form
      go true e = whole_bits e ∙ rw f
      go false e = whole_word e ∙ rw f

  pub part_unranged : label_formed p ≡ true → label_ranged p ≡ false → part_of p ≡ Err Range
  unfolding part_by
  part_unranged f r = go (is_bits_text p) refl
    where
      go : (b : Bool) → is_bits_text p ≡ b → part_of p ≡ Err Range
      go true e = whole_bits e ∙ rw (f, r)
      go false e = whole_word e ∙ rw (f, r)

  pub part_good_bits : label_formed p ≡ true → label_ranged p ≡ true → is_bits_text p ≡ true → part_of p ≡ Ok (Bits (count_in p))
  unfolding part_by
  part_good_bits f r e = whole_bits e ∙ rw (f, r)

  pub part_good_word : label_formed p ≡ true → label_ranged p ≡ true → is_bits_text p ≡ false → part_of p ≡ Ok (Word (length (octets_in 0 p)))
  unfolding part_by
  part_good_word f r e = whole_word e ∙ rw (f, r)

  formed_number : label_formed p ≡ true → eqb (number_of (part_of p)) 20 ≡ false
  formed_number f = go (label_ranged p) refl (is_bits_text p) refl
    where
      go : (r : Bool) → label_ranged p ≡ r → (b : Bool) → is_bits_text p ≡ b → eqb (number_of (part_of p)) 20 ≡ false
      go false r b e = rw (part_unranged f r)
      go true r true e = rw (part_good_bits f r e)
      go true r false e = rw (part_good_word f r e)

  pub judge_unformed : (t : Result Sizes Refusal) (ps : List (List ℕ)) → label_formed p ≡ false → judge_from t (p ∷ ps) ≡ 20
  unfolding judge_from
  judge_unformed t ps f = rw (judge_from, part_unformed f)

  judge_formed : (t : Result Sizes Refusal) (ps : List (List ℕ)) → label_formed p ≡ true → judge_from t (p ∷ ps) ≡ judge_from (tallied t (part_of p)) ps
  unfolding judge_from
  judge_formed t ps f = rw (judge_from, formed_number f)

-- by the number of one part, as code sees it
pub judge_stop : (t : Result Sizes Refusal) (p : List ℕ) (ps : List (List ℕ)) → number_of (part_of p) ≡ 20 → judge_from t (p ∷ ps) ≡ 20
unfolding judge_from
judge_stop t p ps e = rw (judge_from, eq-eqb (number_of (part_of p)) 20 e)

pub judge_turn : (t : Result Sizes Refusal) (p : List ℕ) (ps : List (List ℕ)) → (number_of (part_of p) ≡ 20 → ⊥) → judge_from t (p ∷ ps) ≡ judge_from (tallied t (part_of p)) ps
unfolding judge_from
judge_turn t p ps e = rw (judge_from, ne_eqb (number_of (part_of p)) 20 e)

-- the three tests in order
abbrev verdict : Bool → Bool → Bool → ℕ
verdict formed ranged short = earns (not formed) 20 (earns (not ranged) 21 (earns (not short) 22 0))

judge_21 : (ps : List (List ℕ)) → judge_from (Err Range) ps ≡ verdict (every label_formed ps) false false
unfolding judge_from every
judge_21 [] = refl
judge_21 (p ∷ ps) = go (label_formed p) refl (judge_21 ps)
  where
    stays : label_formed p ≡ true → tallied (Err Range) (part_of p) ≡ Err Range
    stays f = yes (label_ranged p) refl (is_bits_text p) refl
      where
        yes : (r : Bool) → label_ranged p ≡ r → (b : Bool) → is_bits_text p ≡ b → tallied (Err Range) (part_of p) ≡ Err Range
        yes false r b e = rw (part_unranged p f r)
        yes true r true e = rw (part_good_bits p f r e)
        yes true r false e = rw (part_good_word p f r e)

    go : (b : Bool) → label_formed p ≡ b → judge_from (Err Range) ps ≡ verdict (every label_formed ps) false false → judge_from (Err Range) (p ∷ ps) ≡ verdict (label_formed p && every label_formed ps) false false
    go false f ih = judge_unformed p (Err Range) ps f ∙ rw f
    go true f ih = judge_formed p (Err Range) ps f ∙ ap (λ (t : Result Sizes Refusal). judge_from t ps) (stays f) ∙ ih ∙ rw f

judge_22 : (ps : List (List ℕ)) → judge_from (Err Name) ps ≡ verdict (every label_formed ps) (every label_ranged ps) false
unfolding judge_from every
judge_22 [] = refl
judge_22 (p ∷ ps) = go (label_formed p) refl (label_ranged p) refl (judge_22 ps)
  where
    stays : label_formed p ≡ true → label_ranged p ≡ true → tallied (Err Name) (part_of p) ≡ Err Name
    stays f r = yes (is_bits_text p) refl
      where
        yes : (b : Bool) → is_bits_text p ≡ b → tallied (Err Name) (part_of p) ≡ Err Name
        yes true e = rw (part_good_bits p f r e)
        yes false e = rw (part_good_word p f r e)

    go : (b : Bool) → label_formed p ≡ b → (d : Bool) → label_ranged p ≡ d → judge_from (Err Name) ps ≡ verdict (every label_formed ps) (every label_ranged ps) false
        → judge_from (Err Name) (p ∷ ps) ≡ verdict (label_formed p && every label_formed ps) (label_ranged p && every label_ranged ps) false
    go false f d r ih = judge_unformed p (Err Name) ps f ∙ rw f
    go true f false r ih = judge_formed p (Err Name) ps f ∙ ap (λ (t : Result Sizes Refusal). judge_from t ps) (ap (tallied (Err Name)) (part_unranged p f r)) ∙ judge_21 ps ∙ rw (f, r)
    go true f true r ih = judge_formed p (Err Name) ps f ∙ ap (λ (t : Result Sizes Refusal). judge_from t ps) (stays f r) ∙ ih ∙ rw (f, r)

-- the octets of the merged name
pub size_some : (run : ℕ) (ls : List Label) → 0 < size_from run ls
unfolding size_from
size_some run [] = omega arith
size_some run (ordinary l ∷ ls) = omega arith
size_some run (bits b ∷ ls) = size_some (run + length b) ls

pub label_size : (run : List ℕ) → length (bit_label run) ≡ run_size (length run)
unfolding bit_label run_size
label_size [] = refl
label_size (b ∷ bs) =
    let k = pack_length (b ∷ bs) in
    let m : suc (suc (length (pack (b ∷ bs)))) ≡ 2 + octets_for (length (b ∷ bs)) = omega arith in
    m

size_encoded : (run : List ℕ) (ls : List Label) → length (encode_from run (units ls)) ≡ size_from (length run) ls
unfolding encode_from units size_from
size_encoded run [] = length-append (bit_label run) (0 ∷ []) ∙ ap (λ (n : ℕ). n + 1) (label_size run)
size_encoded run (ordinary l ∷ ls) =
    let a = length-append (bit_label run) (length l ∷ (l ++ encode_from [] (units ls))) in
    let b = label_size run in
    let c = length-append l (encode_from [] (units ls)) in
    let d = size_encoded [] ls in
    let e : length (bit_label run) + suc (length (l ++ encode_from [] (units ls))) ≡ run_size (length run) + (1 + (length l + size_from 0 ls)) = omega arith in
    a ∙ e
size_encoded run (bits b ∷ ls) =
    let e : length b + length run ≡ length run + length b = omega arith in
    ap length (encode_before b run (units ls)) ∙ size_encoded (b ++ run) ls ∙ ap (λ (n : ℕ). size_from n ls) (length-append b run ∙ e)

-- sizes in order, where so much was tallied
abbrev fits : Sizes → List (List ℕ) → Bool
fits t ps = labels_short t.run (map label_in ps) && leb (t.size + size_from t.run (map label_in ps)) 255

-- each kind of label
module _ (t : Sizes) (p : List ℕ) (ps : List (List ℕ)) (f : label_formed p ≡ true) (r : label_ranged p ≡ true)
    (ih : (u : Sizes) → judge_from (Ok u) ps ≡ verdict (every label_formed ps) (every label_ranged ps) (fits u ps)) where
  after : (u : Result Sizes Refusal) → tallied (Ok t) (part_of p) ≡ u → judge_from (Ok t) (p ∷ ps) ≡ judge_from u ps
  after u e = judge_formed p (Ok t) ps f ∙ ap (λ (v : Result Sizes Refusal). judge_from v ps) e

  over_22 : tallied (Ok t) (part_of p) ≡ Err Name → fits t (p ∷ ps) ≡ false → judge_from (Ok t) (p ∷ ps) ≡ verdict (every label_formed ps) (every label_ranged ps) (fits t (p ∷ ps))
  over_22 e s = after (Err Name) e ∙ judge_22 ps ∙ rw s

  module _ (k : is_bits_text p ≡ false) where
    word_short : labels_short t.run (map label_in (p ∷ ps)) ≡ (ltb (length (octets_in 0 p)) 64 && labels_short 0 (map label_in ps))
    unfolding labels_short
    word_short = ap (λ (l : Label). labels_short t.run (l ∷ map label_in ps)) (in_word p k)

    word_size : size_from t.run (map label_in (p ∷ ps)) ≡ run_size t.run + (1 + (length (octets_in 0 p) + size_from 0 (map label_in ps)))
    unfolding size_from
    word_size = ap (λ (l : Label). size_from t.run (l ∷ map label_in ps)) (in_word p k)

    word_tallied : tallied (Ok t) (part_of p) ≡ tallied_word t (length (octets_in 0 p))
    word_tallied = ap (tallied (Ok t)) (part_good_word p f r k)

    judge_word : judge_from (Ok t) (p ∷ ps) ≡ verdict (every label_formed ps) (every label_ranged ps) (fits t (p ∷ ps))
    judge_word = go (ltb (length (octets_in 0 p)) 64) refl (ltb (t.size + (run_size t.run + (1 + length (octets_in 0 p)))) 255) refl
      where
        go : (a : Bool) → ltb (length (octets_in 0 p)) 64 ≡ a → (b : Bool) → ltb (t.size + (run_size t.run + (1 + length (octets_in 0 p)))) 255 ≡ b
            → judge_from (Ok t) (p ∷ ps) ≡ verdict (every label_formed ps) (every label_ranged ps) (fits t (p ∷ ps))
        go false a b e =
            let h = ltb-false (length (octets_in 0 p)) 64 a in
            over_22 (word_tallied ∙ word_long t (length (octets_in 0 p)) (omega arith)) (rw (word_short, a))
        go true a false e =
            let h = ltb-true (length (octets_in 0 p)) 64 a in
            let g = ltb-false (t.size + (run_size t.run + (1 + length (octets_in 0 p)))) 255 e in
            let s = size_some 0 (map label_in ps) in
            let w = word_size in
            over_22 (word_tallied ∙ word_large t (length (octets_in 0 p)) (omega arith) (omega arith))
            (rw (lt-leb (t.size + size_from t.run (map label_in (p ∷ ps))) 255 (omega arith)) (and_false (labels_short t.run (map label_in (p ∷ ps)))))
        go true a true e =
            let h = ltb-true (length (octets_in 0 p)) 64 a in
            let g = ltb-true (t.size + (run_size t.run + (1 + length (octets_in 0 p)))) 255 e in
            let q : t.size + (run_size t.run + (1 + length (octets_in 0 p))) + size_from 0 (map label_in ps) ≡ t.size + (run_size t.run + (1 + (length (octets_in 0 p) + size_from 0 (map label_in ps)))) =
            omega arith in
            after _ (word_tallied ∙ word_fit t (length (octets_in 0 p)) (omega arith) (omega arith)) ∙ ih _ ∙ rw (word_short, word_size, a, q)

  module _ (k : is_bits_text p ≡ true) where
    bits_label : label_in p ≡ bits (unpack (count_in p) (bit_octets p))
    bits_label = in_bits p k

    bits_count : length (unpack (count_in p) (bit_octets p)) ≡ count_in p
    bits_count = bits_size p (sym (formed_bits p k) ∙ f)

    bits_short : labels_short t.run (map label_in (p ∷ ps)) ≡ (leb (t.run + count_in p) 256 && labels_short (t.run + count_in p) (map label_in ps))
    unfolding labels_short
    bits_short =
        ap (λ (l : Label). labels_short t.run (l ∷ map label_in ps)) bits_label
        ∙ ap (λ (m : ℕ). leb (t.run + m) 256 && labels_short (t.run + m) (map label_in ps)) bits_count

    bits_sizes : size_from t.run (map label_in (p ∷ ps)) ≡ size_from (t.run + count_in p) (map label_in ps)
    unfolding size_from
    bits_sizes =
        ap (λ (l : Label). size_from t.run (l ∷ map label_in ps)) bits_label
        ∙ ap (λ (m : ℕ). size_from (t.run + m) (map label_in ps)) bits_count

    bits_tallied : tallied (Ok t) (part_of p) ≡ tallied_bits t (count_in p)
    bits_tallied = ap (tallied (Ok t)) (part_good_bits p f r k)

    judge_bits : judge_from (Ok t) (p ∷ ps) ≡ verdict (every label_formed ps) (every label_ranged ps) (fits t (p ∷ ps))
    judge_bits = go (leb (t.run + count_in p) 256) refl
      where
        go : (a : Bool) → leb (t.run + count_in p) 256 ≡ a → judge_from (Ok t) (p ∷ ps) ≡ verdict (every label_formed ps) (every label_ranged ps) (fits t (p ∷ ps))
        go false a = over_22 (bits_tallied ∙ bits_over t (count_in p) (leb-false (t.run + count_in p) 256 a)) (rw (bits_short, a))
        go true a = after _ (bits_tallied ∙ bits_fit t (count_in p) (leb-true (t.run + count_in p) 256 a)) ∙ ih _ ∙ rw (bits_short, bits_sizes, a)

judge_is : (t : Sizes) (ps : List (List ℕ)) → judge_from (Ok t) ps ≡ verdict (every label_formed ps) (every label_ranged ps) (fits t ps)
unfolding judge_from every labels_short size_from
judge_is t [] = refl
judge_is t (p ∷ ps) = go (label_formed p) refl (label_ranged p) refl (is_bits_text p) refl (λ u. judge_is u ps)
  where
    go : (b : Bool) → label_formed p ≡ b → (d : Bool) → label_ranged p ≡ d → (k : Bool) → is_bits_text p ≡ k
        → ((u : Sizes) → judge_from (Ok u) ps ≡ verdict (every label_formed ps) (every label_ranged ps) (fits u ps))
        → judge_from (Ok t) (p ∷ ps) ≡ verdict (label_formed p && every label_formed ps) (label_ranged p && every label_ranged ps) (fits t (p ∷ ps))
    go false f d r b k ih = judge_unformed p (Ok t) ps f ∙ rw f
    go true f false r b k ih =
        judge_formed p (Ok t) ps f ∙ ap (λ (u : Result Sizes Refusal). judge_from u ps) (ap (tallied (Ok t)) (part_unranged p f r)) ∙ judge_21 ps ∙ rw (f, r)
    go true f true r true k ih = judge_bits t p ps f r ih k ∙ rw (f, r)
    go true f true r false k ih = judge_word t p ps f r ih k ∙ rw (f, r)

abbrev pub begun : Sizes
begun = record { size = 0; run = 0 }

pub number_judged : (text : List ℕ) → last_from 0 text ≡ 46 → text_number text ≡ judge_from (Ok begun) (parts_of text)
unfolding text_number name_read encode labels_in
number_judged text e =
    let s = size_encoded [] (map label_in (parts_of text)) in
    rw (text_number, e, s)
    (ap (λ (n : ℕ). verdict (every label_formed (parts_of text)) (every label_ranged (parts_of text)) (labels_short 0 (map label_in (parts_of text)) && leb n 255)) (sym (zero-add (size_from 0 (map label_in (parts_of text)))))
    ∙ sym (judge_is begun (parts_of text)))

pub judge_none : (t : Result Sizes Refusal) → judge_from t [] ≡ concluded t
unfolding judge_from
judge_none t = refl

-- one part more, as code sees it: what its reader gives, and what is known after it
pub judge_next : (t u : Result Sizes Refusal) (p : List ℕ) (ps : List (List ℕ)) (r : Result Part Refusal) → r ≡ part_of p → (number_of r ≡ 20 → ⊥) → u ≡ tallied t r → judge_from u ps ≡ judge_from t (p ∷ ps)
judge_next t u p ps r e n h = rw h (rw e (sym (judge_turn t p ps (λ k. n (rw e k)))))

-- whether a refusal is one of form
pub form_is : (e : Refusal) → sameb the_type e Form ≡ true → code_of e ≡ 20
form_is e h = ap code_of (same_true the_type (search rules) e Form h)

pub form_not : (e : Refusal) → sameb the_type e Form ≡ false → code_of e ≡ 20 → ⊥
form_not e h k =
    let f : e ≡ Form = sym (told_code e) ∙ ap told k ∙ told_code Form in
    clash (ap (λ (r : Refusal). sameb the_type r Form) f) h
