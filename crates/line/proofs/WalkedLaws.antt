-- What is read of a word at its place.
use Prim.Native.Nat.{ℕ, zero, suc, ◌+◌, ◌-◌, ◌*◌, ◌≤◌, ◌<◌, min}
use mathlib.Core.Path.{◌≡◌, refl, ap, sym, ◌∙◌}
use mathlib.Core.Bool.{Bool, true, false, not, ◌&&◌, ◌||◌}
use mathlib.Core.List.{List, [], ◌∷◌}
use lib.Dec.{ltb, eqb}
use lib.ListN.{length, get_or, take, drop, length-take, length-drop}
use lib.Seq.{length-take-le, get_or-take, get_or-drop}
use native.Mathlib.Omega.{arith}
use borrow.Author.Tests.{eq-eqb, ne_eqb, lt-ltb, le-ltb, ltb-true, ltb-false, eqb-true, eqb-false}
use Rattle.std.specs.Prelude.{Result, ok_or}
use Rattle.std.specs.List.{starts_with}
use Rattle.octets.specs.Octets.{same_by, same}
use Rattle.octets.specs.declared.Refusal.{Refusal}
use Rattle.octets.specs.declared.Refusal.TheVariants.{Form}
use Rattle.octets.proofs.SameLaws.{same_eq, same_refl, by_pointwise}
use Rattle.text.specs.Digits.{digit_in, is_digit, leading}
use Rattle.text.specs.Decimal.{digit_count, decimal_from, decimal_of, is_decimal, decimal_at}
use Rattle.text.proofs.PlaceLaws.{from_place}
use Rattle.text.proofs.DecimalLaws.{value_figure, value_other, value_none, form_none}
use Rattle.octets.proofs.BoolLaws.{and_false}
use Rattle.octets.specs.Answers.{earns}
use Rattle.line.specs.Words.{is_blank_octet}
use Rattle.line.specs.Writing.{a6_word}
use Rattle.line.specs.Reading.{decimal_number, address_number}
use Rattle.text.specs.AddressText.{is_address, read_address, may_stand, address_count}
use Rattle.text.specs.Reading.{whole_of, address_part, address_at}
use Rattle.nametext.proofs.CharacterLaws.{Every}
use Rattle.line.specs.Walk.{not_blank, word_at, word_end, worse}
use Rattle.line.specs.Walked.{value_by, Ended, WordAt}
use Rattle.line.specs.declared.reading.Word.{Word}
use Rattle.line.proofs.WordLaws.{not_blank_lem, address_octets}
use Rattle.text.specs.declared.numbers.Decimal.{Decimal}
use Rattle.text.specs.declared.reading.Found.{Found}
use Rattle.line.proofs.OrderLaws.{decimal_known, address_known}
use Rattle.line.proofs.ValueLaws.{value_done, value_refused, word_ended}
use Rattle.text.proofs.LeadingLaws.{leading_more, leading_few, lead_turn, lead_stop, lead_end, lead_split, lead_take}
use Rattle.line.proofs.WalkLaws.{blank_not, other_not, word_stops, word_fails}

pub worse_left : (a b : ℕ) → a ≡ 0 → worse a b ≡ b
unfolding worse
worse_left a b e = rw (worse, eq-eqb a 0 e)

pub worse_right : (a b : ℕ) → (a ≡ 0 → ⊥) → b ≡ 0 → worse a b ≡ a
unfolding worse
worse_right a b e f = rw (worse, ne_eqb a 0 e, eq-eqb b 0 f)

pub worse_both : (a b : ℕ) → (a ≡ 0 → ⊥) → (b ≡ 0 → ⊥) → worse a b ≡ min a b
unfolding worse
worse_both a b e f = rw (worse, ne_eqb a 0 e, ne_eqb b 0 f)

-- a word ends at the end of the text, and at a blank
pub stops_end : (s : List ℕ) (i : ℕ) → length s ≤ i → eqb (leading not_blank (drop i s)) 0 ≡ true
stops_end s i h = eq-eqb (leading not_blank (drop i s)) 0 (lead_end not_blank s i h)

pub stops_at : (s : List ℕ) (i : ℕ) → i < length s → eqb (leading not_blank (drop i s)) 0 ≡ is_blank_octet (get_or s i 0)
stops_at s i h = go (is_blank_octet (get_or s i 0)) refl
  where
    go : (b : Bool) → is_blank_octet (get_or s i 0) ≡ b → eqb (leading not_blank (drop i s)) 0 ≡ is_blank_octet (get_or s i 0)
    go true e = eq-eqb (leading not_blank (drop i s)) 0 (lead_stop not_blank s i h (blank_not (get_or s i 0) e)) ∙ sym e
    go false e = let k = lead_turn not_blank s i h (other_not (get_or s i 0) e) in ne_eqb (leading not_blank (drop i s)) 0 (λ z. omega arith) ∙ sym e

-- how many octets a word has
pub word_length : (s : List ℕ) (at : ℕ) → length (word_at s at) ≡ leading not_blank (drop at s)
unfolding word_at
word_length s at = length-take-le (leading not_blank (drop at s)) (drop at s) (leading_few not_blank (drop at s))

-- only no octets are like none
none_same : (k : ℕ) (xs : List ℕ) → k ≤ length xs → same (take k xs) [] ≡ eqb k 0
unfolding same_by
none_same zero xs h = refl
none_same (suc k) [] h = let z : ⊥ = omega arith in absurd z
none_same (suc k) (x ∷ xs) h = sym (ne_eqb (suc k) 0 (λ z. omega arith))

-- a word that begins with two octets that are no blanks
word_two : (s : List ℕ) (at : ℕ) → at + 2 ≤ length s → not_blank (get_or s at 0) ≡ true → not_blank (get_or s (at + 1) 0) ≡ true
    → word_at s at ≡ get_or s at 0 ∷ get_or s (at + 1) 0 ∷ take (leading not_blank (drop (at + 2) s)) (drop (at + 2) s)
unfolding word_at
word_two s at h a b =
    let k = lead_turn not_blank s at (omega arith) a ∙ ap suc (lead_turn not_blank s (at + 1) (omega arith) b) in
    let f : at + 1 + 1 ≡ at + 2 = omega arith in
    let d : drop at s ≡ get_or s at 0 ∷ get_or s (at + 1) 0 ∷ drop (at + 2) s = from_place s at (omega arith) ∙ ap (λ (xs : List ℕ). get_or s at 0 ∷ xs) (from_place s (at + 1) (omega arith) ∙ ap (λ (n : ℕ). get_or s (at + 1) 0 ∷ drop n s) f) in
    (λ i. take (k i) (d i)) ∙ ap (λ (n : ℕ). get_or s at 0 ∷ get_or s (at + 1) 0 ∷ take (leading not_blank (drop n s)) (drop (at + 2) s)) f

plain_octet : (x y : ℕ) → x ≡ y → not_blank y ≡ true → not_blank x ≡ true
plain_octet x y e h = ap not_blank e ∙ h

pub type_stops : (s : List ℕ) (at : ℕ) → at + 2 ≤ length s → get_or s at 0 ≡ 65 → get_or s (at + 1) 0 ≡ 54 → same (word_at s at) a6_word ≡ eqb (leading not_blank (drop (at + 2) s)) 0
unfolding same_by not_blank is_blank_octet
type_stops s at h a b =
    let w = word_two s at h (plain_octet (get_or s at 0) 65 a refl) (plain_octet (get_or s (at + 1) 0) 54 b refl) in
    ap (λ (xs : List ℕ). same xs a6_word) w
    ∙ ap (λ (x : ℕ). same (x ∷ get_or s (at + 1) 0 ∷ take (leading not_blank (drop (at + 2) s)) (drop (at + 2) s)) a6_word) a
    ∙ ap (λ (x : ℕ). same (65 ∷ x ∷ take (leading not_blank (drop (at + 2) s)) (drop (at + 2) s)) a6_word) b
    ∙ none_same (leading not_blank (drop (at + 2) s)) (drop (at + 2) s) (leading_few not_blank (drop (at + 2) s))

-- digits are no blanks
digit_solid : (x : ℕ) → is_digit x ≡ true → not_blank x ≡ true
digit_solid = not_blank_lem is_digit refl refl

-- the digits of a word are those from its place on
word_digits : (s : List ℕ) (at : ℕ) → digit_count (word_at s at) ≡ digit_count (drop at s)
unfolding word_at
word_digits s at = let e = lead_split is_digit not_blank digit_solid (drop at s) in lead_take is_digit (leading not_blank (drop at s)) (drop at s) (omega arith)

-- a front of text that has all its digits writes the same number
from_take : (v n : ℕ) (xs : List ℕ) → digit_count xs ≤ n → decimal_from v (take n xs) ≡ decimal_from v xs
unfolding decimal_from
from_take v n [] h = go n
  where
    go : (m : ℕ) → decimal_from v (take m []) ≡ decimal_from v []
    go zero = refl
    go (suc m) = refl
from_take v zero (x ∷ xs) h = sym (value_none v (x ∷ xs) (omega arith))
from_take v (suc n) (x ∷ xs) h = go (is_digit x) refl (λ w. from_take w n xs)
  where
    go : (b : Bool) → is_digit x ≡ b → ((w : ℕ) → digit_count xs ≤ n → decimal_from w (take n xs) ≡ decimal_from w xs) → decimal_from v (x ∷ take n xs) ≡ decimal_from v (x ∷ xs)
    go true e k = let z = leading_more is_digit x xs e in rw (value_figure v x xs e, value_figure v x (take n xs) e) (k (v * 10 + (x - 48)) (omega arith))
    go false e k = rw (value_other v x xs e, value_other v x (take n xs) e)

word_value : (s : List ℕ) (at : ℕ) → decimal_of (word_at s at) ≡ decimal_of (drop at s)
unfolding word_at decimal_of
word_value s at = let e = lead_split is_digit not_blank digit_solid (drop at s) in from_take 0 (leading not_blank (drop at s)) (drop at s) (omega arith)

-- a form is told by the digits and the first of them
same_form : (xs ys : List ℕ) → digit_count xs ≡ digit_count ys → get_or xs 0 0 ≡ get_or ys 0 0 → is_decimal xs ≡ is_decimal ys
unfolding is_decimal
same_form xs ys e f = λ i. ltb 0 (e i) && (not (eqb (f i) 48) || eqb (e i) 1)

-- so is its form
word_decimal : (s : List ℕ) (at : ℕ) → is_decimal (word_at s at) ≡ is_decimal (drop at s)
unfolding word_at
word_decimal s at = go (digit_count (drop at s)) refl
  where
    go : (n : ℕ) → digit_count (drop at s) ≡ n → is_decimal (word_at s at) ≡ is_decimal (drop at s)
    go zero e = form_none (word_at s at) (word_digits s at ∙ e) ∙ sym (form_none (drop at s) e)
    go (suc n) e =
        let p : 0 < digit_count (drop at s) = omega arith in
        let l = lead_split is_digit not_blank digit_solid (drop at s) in
        same_form (word_at s at) (drop at s) (word_digits s at) (get_or-take (leading not_blank (drop at s)) (drop at s) 0 0 (omega arith))

-- a word whose digits are not followed by its end is no decimal
pub decimal_inside : (s : List ℕ) (at bound next : ℕ) → next ≡ at + digit_count (drop at s) → (leading not_blank (drop next s) ≡ 0 → ⊥) → decimal_number bound (word_at s at) ≡ 20
unfolding decimal_number
decimal_inside s at bound next e h =
    let f = word_fails is_digit digit_solid s at (λ z. h (ap (λ (n : ℕ). leading not_blank (drop n s)) e ∙ z)) in
    rw (ne_eqb (digit_count (word_at s at)) (length (word_at s at)) (λ z. omega arith), and_false (is_decimal (word_at s at)))

-- nor is one whose digits are none
pub decimal_unformed : (s : List ℕ) (at bound : ℕ) → is_decimal (drop at s) ≡ false → decimal_number bound (word_at s at) ≡ 20
unfolding decimal_number
decimal_unformed s at bound h = rw (word_decimal s at, h)

whole : (s : List ℕ) (at next : ℕ) → next ≡ at + digit_count (drop at s) → leading not_blank (drop next s) ≡ 0 → leading not_blank (drop at s) ≡ digit_count (drop at s)
whole s at next e h = word_stops is_digit digit_solid s at (ap (λ (n : ℕ). leading not_blank (drop n s)) (sym e) ∙ h)

-- a word of digits alone
pub decimal_end : (s : List ℕ) (at next : ℕ) → next ≡ at + digit_count (drop at s) → leading not_blank (drop next s) ≡ 0 → next ≡ word_end s at
unfolding word_end
decimal_end s at next e h = let w = whole s at next e h in omega arith

pub decimal_is : (s : List ℕ) (at bound next : ℕ) → next ≡ at + digit_count (drop at s) → leading not_blank (drop next s) ≡ 0 → is_decimal (drop at s) ≡ true
    → decimal_number bound (word_at s at) ≡ earns (ltb bound (decimal_of (drop at s))) 21 0
unfolding decimal_number
decimal_is s at bound next e h f =
    let w = whole s at next e h in
    let n = word_length s at in
    let d = word_digits s at in
    rw (eq-eqb (digit_count (word_at s at)) (length (word_at s at)) (omega arith), word_decimal s at, f, word_value s at)

-- what is read of a decimal
lesser_over : (bound d : ℕ) → ltb bound (min (bound + 1) d) ≡ ltb bound d
lesser_over bound d = go (ltb bound d) refl
  where
    go : (b : Bool) → ltb bound d ≡ b → ltb bound (min (bound + 1) d) ≡ ltb bound d
    go true e = let k = ltb-true bound d e in lt-ltb bound (min (bound + 1) d) (omega arith) ∙ sym e
    go false e = let k = ltb-false bound d e in le-ltb bound (min (bound + 1) d) (omega arith) ∙ sym e

ranged_by : (bound d : ℕ) → value_by (earns (ltb bound d) 21 0) (min (bound + 1) d) ≡ value_by (earns (ltb bound d) 21 0) d
unfolding value_by
ranged_by bound d = go (ltb bound d) refl
  where
    go : (b : Bool) → ltb bound d ≡ b → value_by (earns (ltb bound d) 21 0) (min (bound + 1) d) ≡ value_by (earns (ltb bound d) 21 0) d
    go true e = rw e
    go false e = let k = ltb-false bound d e in let m : min (bound + 1) d ≡ d = omega arith in rw m

module _ (s : List ℕ) (at bound : ℕ) (d : Decimal) (f : d ≡ decimal_at s at bound) where
  figures : decimal_of (drop at s) ≡ decimal_of (word_at s at)
  figures = sym (word_value s at)

  pub decimal_next : d.next ≡ at + digit_count (drop at s)
  unfolding decimal_at
  decimal_next = ap (λ (r : Decimal). r.next) f

  decimal_value : leading not_blank (drop d.next s) ≡ 0
      → value_by (earns (not d.formed) 20 (earns (ltb bound d.value) 21 0)) d.value ≡ value_by (decimal_number bound (word_at s at)) (decimal_of (word_at s at))
  unfolding decimal_at value_by
  decimal_value e = go (is_decimal (drop at s)) refl
    where
      formed : d.formed ≡ is_decimal (drop at s)
      formed = ap (λ (r : Decimal). r.formed) f

      value : d.value ≡ min (bound + 1) (decimal_of (drop at s))
      value = ap (λ (r : Decimal). r.value) f

      go : (b : Bool) → is_decimal (drop at s) ≡ b → value_by (earns (not d.formed) 20 (earns (ltb bound d.value) 21 0)) d.value ≡ value_by (decimal_number bound (word_at s at)) (decimal_of (word_at s at))
      go true t =
          (λ i. value_by (earns (not ((formed ∙ t) i)) 20 (earns (ltb bound (value i)) 21 0)) (value i))
          ∙ ap (λ b. value_by (earns b 21 0) (min (bound + 1) (decimal_of (drop at s)))) (lesser_over bound (decimal_of (drop at s)))
          ∙ ranged_by bound (decimal_of (drop at s))
          ∙ (λ i. value_by (sym (decimal_is s at bound d.next decimal_next e t) i) (figures i))
      go false t =
          (λ i. value_by (earns (not ((formed ∙ t) i)) 20 (earns (ltb bound d.value) 21 0)) d.value)
          ∙ ap (λ (n : ℕ). value_by n (decimal_of (word_at s at))) (sym (decimal_unformed s at bound t))

  pub decimal_ended : (value : Result ℕ Refusal) → value ≡ value_by (earns (not d.formed) 20 (earns (ltb bound d.value) 21 0)) d.value
      → (r : Result (Word ℕ) Refusal) → Ended value (eqb (leading not_blank (drop d.next s)) 0) d.next r
      → WordAt (decimal_number bound (word_at s at)) (decimal_of (word_at s at)) (word_end s at) r
  decimal_ended value v =
      word_ended (decimal_number bound (word_at s at)) (decimal_of (word_at s at)) (word_end s at) (decimal_known bound (word_at s at)) value _ d.next
      (λ t. let e = eqb-true (leading not_blank (drop d.next s)) 0 t in (v ∙ decimal_value e, decimal_end s at d.next decimal_next e))
      (λ t. decimal_inside s at bound d.next decimal_next (eqb-false (leading not_blank (drop d.next s)) 0 t))

-- nor are the octets of an address
stand_solid : (x : ℕ) → may_stand x ≡ true → not_blank x ≡ true
unfolding may_stand digit_in
stand_solid = not_blank_lem may_stand refl refl

leading_whole : (t : ℕ → Bool) (w : List ℕ) → Every t w → leading t w ≡ length w
unfolding leading
leading_whole t [] h = refl
leading_whole t (x ∷ w) h = leading_more t x w h.0 ∙ ap suc (leading_whole t w h.1)

-- a word with an octet after those of an address is none
pub address_inside : (s : List ℕ) (at next : ℕ) → next ≡ at + address_count (drop at s) → (leading not_blank (drop next s) ≡ 0 → ⊥) → is_address (word_at s at) ≡ false
address_inside s at next e h = go (is_address (word_at s at)) refl
  where
    go : (b : Bool) → is_address (word_at s at) ≡ b → is_address (word_at s at) ≡ false
    go false q = q
    go true q =
        let f = word_fails may_stand stand_solid s at (λ z. h (ap (λ (n : ℕ). leading not_blank (drop n s)) e ∙ z)) in
        let g = leading_whole may_stand (word_at s at) (address_octets (word_at s at) q) in
        let z : ⊥ = omega arith in
        absurd z

-- any other word is what stands there that may stand in an address
pub address_whole : (s : List ℕ) (at next : ℕ) → next ≡ at + address_count (drop at s) → leading not_blank (drop next s) ≡ 0
    → (address_part s at ≡ word_at s at) × (next ≡ word_end s at)
unfolding address_part word_at word_end
address_whole s at next e h =
    let w = word_stops may_stand stand_solid s at (ap (λ (n : ℕ). leading not_blank (drop n s)) (sym e) ∙ h) in
    (ap (λ (n : ℕ). take n (drop at s)) (sym w), omega arith)

-- where what may stand in an address is none, the word is none
pub address_unformed : (s : List ℕ) (at : ℕ) → is_address (address_part s at) ≡ false → is_address (word_at s at) ≡ false
address_unformed s at h = go (eqb (leading not_blank (drop (at + address_count (drop at s)) s)) 0) refl
  where
    next : ℕ
    next = at + address_count (drop at s)

    go : (b : Bool) → eqb (leading not_blank (drop next s)) 0 ≡ b → is_address (word_at s at) ≡ false
    go true e = sym (ap is_address (address_whole s at next refl (eqb-true (leading not_blank (drop next s)) 0 e)).0) ∙ h
    go false e = address_inside s at next refl (eqb-false (leading not_blank (drop next s)) 0 e)

-- what is read of an address
whole_by : (text : List ℕ) → ok_or (whole_of text) Form ≡ value_by (address_number text) (read_address text)
unfolding whole_of address_number
whole_by text = go (is_address text) refl
  where
    go : (b : Bool) → is_address text ≡ b → ok_or (whole_of text) Form ≡ value_by (address_number text) (read_address text)
    go true e = rw (whole_of, address_number, e) (value_done 0 (read_address text) refl)
    go false e = rw (whole_of, address_number, e) (value_refused 20 (read_address text) Form refl)

module _ (s : List ℕ) (at : ℕ) (d : Found) (f : d ≡ address_at s at) where
  address_next : d.next ≡ at + address_count (drop at s)
  unfolding address_at
  address_next = ap (λ (r : Found). r.next) f

  address_value : ok_or d.address Form ≡ value_by (address_number (address_part s at)) (read_address (address_part s at))
  unfolding address_at
  address_value = ap (λ (r : Found). ok_or r.address Form) f ∙ whole_by (address_part s at)

  pub address_ended : (value : Result (List ℕ) Refusal) → value ≡ ok_or d.address Form
      → (r : Result (Word (List ℕ)) Refusal) → Ended value (eqb (leading not_blank (drop d.next s)) 0) d.next r
      → WordAt (address_number (word_at s at)) (read_address (word_at s at)) (word_end s at) r
  unfolding address_number
  address_ended value v =
      word_ended (address_number (word_at s at)) (read_address (word_at s at)) (word_end s at) (address_known (word_at s at)) value _ d.next
      (λ t.
      let w = address_whole s at d.next address_next (eqb-true (leading not_blank (drop d.next s)) 0 t) in
      (v ∙ address_value ∙ ap (λ (x : List ℕ). value_by (address_number x) (read_address x)) w.0, w.1))
      (λ t. rw (address_inside s at d.next address_next (eqb-false (leading not_blank (drop d.next s)) 0 t)))

-- the word A6
begins_same : (xs : List ℕ) → starts_with eqb xs a6_word ≡ same a6_word (take 2 xs)
begins_same xs = by_pointwise eqb a6_word (take 2 xs)

pub type_begins : (s : List ℕ) (at : ℕ) → starts_with eqb (drop at s) a6_word ≡ true → (at + 2 ≤ length s) × (get_or s at 0 ≡ 65) × (get_or s (at + 1) 0 ≡ 54)
type_begins s at h =
    let e : a6_word ≡ take 2 (drop at s) = same_eq a6_word (take 2 (drop at s)) (sym (begins_same (drop at s)) ∙ h) in
    let n : 2 ≡ length (take 2 (drop at s)) = ap length e in
    let z : at ≡ at + 0 = omega arith in (
      omega (arith, n, length-take 2 (drop at s), length-drop at s),
      ap (λ (i : ℕ). get_or s i 0) z ∙ sym (get_or-take 2 (drop at s) 0 0 (omega arith) ∙ get_or-drop at s 0 0) ∙ ap (λ (xs : List ℕ). get_or xs 0 0) (sym e),
      sym (get_or-take 2 (drop at s) 1 0 (omega arith) ∙ get_or-drop at s 1 0) ∙ ap (λ (xs : List ℕ). get_or xs 1 0) (sym e),
    )

pub type_other : (s : List ℕ) (at : ℕ) → starts_with eqb (drop at s) a6_word ≡ false → same (word_at s at) a6_word ≡ false
unfolding word_at
type_other s at h = go (same (word_at s at) a6_word) refl
  where
    go : (b : Bool) → same (word_at s at) a6_word ≡ b → same (word_at s at) a6_word ≡ false
    go false q = q
    go true q =
        let w : word_at s at ≡ a6_word = same_eq (word_at s at) a6_word q in
        let k : leading not_blank (drop at s) ≡ 2 = sym (word_length s at) ∙ ap length w in
        let t : take 2 (drop at s) ≡ a6_word = ap (λ (n : ℕ). take n (drop at s)) (sym k) ∙ w in
        let z : true ≡ false = sym (same_refl a6_word) ∙ ap (same a6_word) (sym t) ∙ sym (begins_same (drop at s)) ∙ h in
        cc
