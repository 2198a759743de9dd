-- Laws of the words of a line: words parted by blanks are these words, and what has the form of a field is one word.
use Prim.Native.Nat.{ℕ, suc, ◌+◌, ◌-◌, ◌<◌}
use mathlib.Core.Path.{◌≡◌, refl, ap, ◌∙◌, sym}
use mathlib.Core.Bool.{Bool, true, false, not, ◌&&◌, ◌||◌}
use mathlib.Core.List.{List, [], ◌∷◌, ◌++◌, append-nil, append_assoc}
use lib.Dec.{eqb, ltb}
use lib.ListN.{length, take, drop, length-append}
use lib.Seq.{take_all, take_at, get_or_at}
use native.Mathlib.Omega.{arith}
use borrow.Author.Tests.{eqb-true, not-true}
use Rattle.octets.specs.Octets.{same}
use Rattle.octets.proofs.BoolLaws.{clash, or_true}
use Rattle.text.specs.Digits.{digit_in, is_digit, leading}
use Rattle.text.specs.Decimal.{digit_count, is_decimal}
use Rattle.text.specs.AddressText.{are_groups, is_side, two_colons, gap_of, has_gap, before_gap, after_gap, named, is_address, groups_from, may_stand}
use Rattle.text.proofs.DecimalLaws.{both, form_none}
use Rattle.text.proofs.RoundTrip.{is_plain_lem, is_short}
use Rattle.nametext.specs.Characters.{is_plain, may_name}
use Rattle.nametext.specs.Reading.{last_from, text_number}
use Rattle.nametext.proofs.CharacterLaws.{Every, every_weaken, leading_take}
use Rattle.nametext.proofs.NumberLaws.{number_form}
use Rattle.nametext.proofs.MayLaws.{every_may}
use Rattle.line.specs.Words.{is_blank_octet, words_from, words_of, word, body_of, end_of}
use Rattle.line.specs.Walk.{not_blank}
use Rattle.line.specs.Writing.{a6_word}
use Rattle.line.specs.Reading.{decimal_number, with_ttl, length_in, with_address}

-- octets that are one word: some, and no blank among them
pub record Word (w : List ℕ) : Type 0 where
  pub some : 0 < length w
  pub whole : Every not_blank w

-- ---- the words of text, octet by octet
module _ (begun : List ℕ) (x : ℕ) (xs : List ℕ) where
  -- an octet of a word
  pub words_octet : (after : Bool) → not_blank x ≡ true → words_from after begun (x ∷ xs) ≡ words_from false (begun ++ (x ∷ [])) xs
  unfolding words_from not_blank
  words_octet after h = rw (words_from, not-true (is_blank_octet x) h)

  -- the first blank after a word, and those that follow it
  pub words_blank : is_blank_octet x ≡ true → words_from false begun (x ∷ xs) ≡ begun ∷ words_from true [] xs
  unfolding words_from
  words_blank h = rw (words_from, h)

  pub words_again : is_blank_octet x ≡ true → words_from true begun (x ∷ xs) ≡ words_from true begun xs
  unfolding words_from
  words_again h = rw (words_from, h)

-- blanks after a blank
pub words_blanks : (begun xs rest : List ℕ) → Every is_blank_octet xs → words_from true begun (xs ++ rest) ≡ words_from true begun rest
words_blanks begun [] rest h = refl
words_blanks begun (x ∷ xs) rest h = words_again begun x (xs ++ rest) h.0 ∙ words_blanks begun xs rest h.1

-- the octets of a word
pub words_octets : (begun w rest : List ℕ) → Every not_blank w → words_from false begun (w ++ rest) ≡ words_from false (begun ++ w) rest
words_octets begun [] rest h = ap (λ (b : List ℕ). words_from false b rest) (sym (append-nil begun))
words_octets begun (x ∷ w) rest h =
    words_octet begun x (w ++ rest) false h.0 ∙ words_octets (begun ++ (x ∷ [])) w rest h.1
    ∙ ap (λ (b : List ℕ). words_from false b rest) (append_assoc begun (x ∷ []) w)

-- text that begins with no blank: whether a blank came before is all the same
pub words_after : (begun rest : List ℕ) → leading is_blank_octet rest ≡ 0 → words_from true begun rest ≡ words_from false begun rest
unfolding words_from leading
words_after begun [] z = refl
words_after begun (x ∷ xs) z = go (is_blank_octet x) refl
  where
    go : (t : Bool) → is_blank_octet x ≡ t → words_from true begun (x ∷ xs) ≡ words_from false begun (x ∷ xs)
    go true e = let k : suc (leading is_blank_octet xs) ≡ 0 = rw (leading, e) at z in let y : ⊥ = omega arith in absurd y
    go false e = rw (words_from, e)

-- a word begins with no blank
pub word_begins : (w rest : List ℕ) → Word w → leading is_blank_octet (w ++ rest) ≡ 0
unfolding leading not_blank
word_begins [] rest h = let k = h.some in let z : ⊥ = omega arith in absurd z
word_begins (x ∷ w) rest h = rw (leading, not-true (is_blank_octet x) h.whole.0)

-- ---- whole words
-- a word, blanks and more words
pub words_more : (w : List ℕ) (x : ℕ) (xs rest : List ℕ) → Every not_blank w → is_blank_octet x ≡ true → Every is_blank_octet xs → leading is_blank_octet rest ≡ 0
    → words_of (w ++ (x ∷ (xs ++ rest))) ≡ w ∷ words_of rest
unfolding words_of
words_more w x xs rest h b k z =
    words_octets [] w (x ∷ (xs ++ rest)) h ∙ words_blank w x (xs ++ rest) b ∙ ap (λ (ws : List (List ℕ)). w ∷ ws) (words_blanks [] xs rest k ∙ words_after [] rest z)

-- a word alone
pub words_last : (w : List ℕ) → Every not_blank w → words_of w ≡ w ∷ []
unfolding words_of words_from
words_last w h = ap words_of (sym (append-nil w)) ∙ words_octets [] w [] h

-- words parted by one space
unfoldable pub spaced : List (List ℕ) → List ℕ
spaced [] = []
spaced (w ∷ []) = w
spaced (w ∷ v ∷ ws) = w ++ (32 ∷ spaced (v ∷ ws))

abbrev pub Words : List (List ℕ) → Type 0
Words [] = record {}
Words (w ∷ ws) = Word w × Words ws

spaced_begins : (w : List ℕ) (ws : List (List ℕ)) → Word w → leading is_blank_octet (spaced (w ∷ ws)) ≡ 0
unfolding spaced
spaced_begins w [] h = ap (leading is_blank_octet) (sym (append-nil w)) ∙ word_begins w [] h
spaced_begins w (v ∷ ws) h = word_begins w (32 ∷ spaced (v ∷ ws)) h

-- are these words
pub words_spaced : (w : List ℕ) (ws : List (List ℕ)) → Words (w ∷ ws) → words_of (spaced (w ∷ ws)) ≡ w ∷ ws
unfolding spaced is_blank_octet
words_spaced w [] h = words_last w h.0.whole
words_spaced w (v ∷ ws) h =
    words_more w 32 [] (spaced (v ∷ ws)) h.0.whole refl (record {}) (spaced_begins v ws h.1.0) ∙ ap (λ (vs : List (List ℕ)). w ∷ vs) (words_spaced v ws h.1)

-- a line is its body and its last octet
module _ (body : List ℕ) (x : ℕ) where
  last_place : length (body ++ (x ∷ [])) - 1 ≡ length body
  last_place = let l = length-append body (x ∷ []) in omega arith

  pub body_is : body_of (body ++ (x ∷ [])) ≡ body
  unfolding body_of
  body_is = take_at body (x ∷ []) (length (body ++ (x ∷ [])) - 1) (sym last_place)

  pub end_is : end_of (body ++ (x ∷ [])) ≡ x
  unfolding end_of
  end_is = get_or_at body x [] 0 (length (body ++ (x ∷ [])) - 1) (sym last_place)

-- a line that leaves neither the TTL nor the address out
pub ttl_there : (ws : List (List ℕ)) → same (word ws 1) a6_word ≡ false → with_ttl ws ≡ ws
unfolding with_ttl
ttl_there ws e = rw (with_ttl, e)

pub address_there : (ws : List (List ℕ)) → (eqb (length_in ws) 128 && eqb (length ws) 5) ≡ false → with_address ws ≡ ws
unfolding with_address
address_there ws e = rw (with_address, e)

-- ---- what is one word
-- octets that pass a test which no blank passes
pub not_blank_lem : (t : ℕ → Bool) → t 32 ≡ false → t 9 ≡ false → (x : ℕ) → t x ≡ true → not_blank x ≡ true
unfolding not_blank is_blank_octet
not_blank_lem t a b x h = go (eqb x 32) refl (eqb x 9) refl
  where
    go : (s : Bool) → eqb x 32 ≡ s → (u : Bool) → eqb x 9 ≡ u → not (eqb x 32 || eqb x 9) ≡ true
    go true e u f = absurd (clash h (ap t (eqb-true x 32 e) ∙ a))
    go false e true f = absurd (clash h (ap t (eqb-true x 9 f) ∙ b))
    go false e false f = rw (e, f)

pub word_every : (t : ℕ → Bool) (w : List ℕ) → t 32 ≡ false → t 9 ≡ false → 0 < length w → Every t w → Word w
word_every t w a b s h = record { some = s; whole = every_weaken t not_blank w (not_blank_lem t a b) h }

-- text that has the form of a name
pub name_word : (w : List ℕ) → (text_number w ≡ 20 → ⊥) → Word w
unfolding may_name is_plain
name_word [] n = absurd (n (number_form [] (unfold last_from in refl)))
name_word (x ∷ w) n = word_every may_name (x ∷ w) refl refl (omega arith) (every_may (x ∷ w) n)

-- a decimal from end to end
pub leading_all : (t : ℕ → Bool) (w : List ℕ) → leading t w ≡ length w → Every t w
leading_all t w e = rw (take_all (leading t w) w (omega arith)) at (leading_take t w)

module _ (bound : ℕ) (w : List ℕ) (n : decimal_number bound w ≡ 20 → ⊥) where
  pub decimal_formed : (is_decimal w ≡ true) × (digit_count w ≡ length w)
  unfolding decimal_number
  decimal_formed = go (is_decimal w && eqb (digit_count w) (length w)) refl
    where
      go : (t : Bool) → (is_decimal w && eqb (digit_count w) (length w)) ≡ t → (is_decimal w ≡ true) × (digit_count w ≡ length w)
      go true e = let k = both (is_decimal w) (eqb (digit_count w) (length w)) e in (k.0, eqb-true (digit_count w) (length w) k.1)
      go false e = absurd (n (rw (decimal_number, e)))

  pub decimal_digits : Every is_digit w
  decimal_digits = leading_all is_digit w decimal_formed.1

  pub decimal_word : Word w
  decimal_word = word_every is_digit w refl refl (filled w decimal_formed.0) decimal_digits
    where
      filled : (v : List ℕ) → is_decimal v ≡ true → 0 < length v
      filled [] e = absurd (clash e (form_none [] (unfold leading in refl)))
      filled (x ∷ v) e = omega arith

-- an address: hexadecimal digits and colons
stand_colon : (c : ℕ) → eqb c 58 ≡ true → may_stand c ≡ true
unfolding may_stand
stand_colon c e = rw e

stand_digit : (c : ℕ) → ltb (digit_in c) 16 ≡ true → may_stand c ≡ true
unfolding may_stand
stand_digit c e = rw e (or_true (eqb c 58))

groups_stand : (n : ℕ) (xs : List ℕ) → are_groups n xs ≡ true → Every may_stand xs
unfolding are_groups
groups_stand n [] h = record {}
groups_stand n (c ∷ cs) h = go (eqb c 58) refl (groups_stand 0 cs) (groups_stand (suc n) cs)
  where
    go : (t : Bool) → eqb c 58 ≡ t → (are_groups 0 cs ≡ true → Every may_stand cs) → (are_groups (suc n) cs ≡ true → Every may_stand cs) → Every may_stand (c ∷ cs)
    go true e k l = (stand_colon c e, k (both (ltb 0 n) (are_groups 0 cs) (rw (are_groups, e) at h)).1)
    go false e k l =
        let f = both (ltb (digit_in c) 16 && ltb n 4) (are_groups (suc n) cs) (rw (are_groups, e) at h) in
        (stand_digit c (both (ltb (digit_in c) 16) (ltb n 4) f.0).0, l f.1)

side_stand : (xs : List ℕ) → is_side xs ≡ true → Every may_stand xs
unfolding is_side
side_stand [] h = record {}
side_stand (c ∷ cs) h = groups_stand 0 (c ∷ cs) h

colons_stand : (xs : List ℕ) → two_colons xs ≡ true → Every may_stand (drop 2 xs) → Every may_stand xs
unfolding two_colons
colons_stand [] e h = record {}
colons_stand (c ∷ []) e h = (stand_colon c (both (eqb c 58) false e).0, record {})
colons_stand (c ∷ d ∷ cs) e h = let k = both (eqb c 58) (eqb d 58) e in (stand_colon c k.0, (stand_colon d k.1, h))

gap_stand : (xs : List ℕ) → Every may_stand (take (gap_of xs) xs) → Every may_stand (drop (gap_of xs + 2) xs) → Every may_stand xs
unfolding gap_of
gap_stand [] h k = record {}
gap_stand (c ∷ cs) h k = go (two_colons (c ∷ cs)) refl (gap_stand cs)
  where
    go : (t : Bool) → two_colons (c ∷ cs) ≡ t → (Every may_stand (take (gap_of cs) cs) → Every may_stand (drop (gap_of cs + 2) cs) → Every may_stand cs) → Every may_stand (c ∷ cs)
    go true e ih = colons_stand (c ∷ cs) e (rw (gap_of, e) at k)
    go false e ih =
        let g : gap_of (c ∷ cs) ≡ suc (gap_of cs) = rw (gap_of, e) in
        let a : Every may_stand (take (suc (gap_of cs)) (c ∷ cs)) = rw g at h in
        let p : gap_of (c ∷ cs) + 2 ≡ suc (gap_of cs + 2) = omega arith in
        (a.0, ih a.1 (rw p at k))

module _ (w : List ℕ) (a : is_address w ≡ true) where
  pub address_octets : Every may_stand w
  unfolding before_gap after_gap
  address_octets = go (has_gap w) refl
    where
      go : (t : Bool) → has_gap w ≡ t → Every may_stand w
      go true e =
          let f = both (is_side (before_gap w) && is_side (after_gap w)) (ltb (named w) 8) (sym (is_short w e) ∙ a) in
          let g = both (is_side (before_gap w)) (is_side (after_gap w)) f.0 in
          gap_stand w (side_stand (before_gap w) g.0) (side_stand (after_gap w) g.1)
      go false e = groups_stand 0 w (both (are_groups 0 w) (eqb (length (groups_from 0 w)) 8) (sym (is_plain_lem w e) ∙ a)).0

  pub address_word : Word w
  unfolding may_stand digit_in
  address_word = word_every may_stand w refl refl (filled w a) address_octets
    where
      filled : (v : List ℕ) → is_address v ≡ true → 0 < length v
      filled [] e = absurd (clash e (is_plain_lem [] (unfold has_gap gap_of in refl) ∙ (unfold are_groups in refl)))
      filled (x ∷ v) e = omega arith
