-- Every octet of a text that has the form of a name may stand in one: so a line's octets that may stand in a name end where the name's text ends.
use Prim.Native.Nat.{ℕ, zero, suc}
use mathlib.Core.Path.{◌≡◌, refl, ap, sym, ◌∙◌}
use mathlib.Core.Bool.{Bool, true, false, not, ◌&&◌}
use mathlib.Core.List.{List, [], ◌∷◌, ◌++◌, append_assoc}
use lib.Dec.{eqb}
use lib.ListN.{length, get_or, take, drop, take-append-drop}
use native.Mathlib.Omega.{arith}
use borrow.Author.Tests.{eqb-true, eqb-false}
use Rattle.octets.specs.Octets.{Small, same}
use Rattle.octets.proofs.SameLaws.{same_eq}
use Rattle.labels.specs.Labels.{first_of}
use Rattle.names.specs.Standard.{in_standard_form}
use Rattle.text.specs.Digits.{is_digit, is_hex, leading}
use Rattle.text.specs.Decimal.{digit_count}
use Rattle.text.proofs.DecimalLaws.{both}
use Rattle.nametext.specs.Characters.{is_plain, may_name}
use Rattle.nametext.specs.Writing.{digits_for, text_of}
use Rattle.nametext.specs.Reading.{octets_formed, is_bits_text, digits_in, past_digits, is_counted, count_text, count_in, count_formed, end_in, bit_octets, rest_clear, bits_formed, label_formed, parts_from, parts_of, last_from, every, text_number}
use Rattle.nametext.proofs.CharacterLaws.{Every, every_append, every_weaken, leading_every, leading_take, plain_digit, hex_plain, plain_may}
use Rattle.nametext.proofs.NumberLaws.{number_form}
use Rattle.nametext.proofs.RoundLaws.{read_number_lem}

digit_may : (x : ℕ) → is_digit x ≡ true → may_name x ≡ true
digit_may x h = plain_may x (plain_digit x h)

hex_may : (x : ℕ) → is_hex x ≡ true → may_name x ≡ true
hex_may x h = plain_may x (hex_plain x h)

-- the first three octets, and the rest
three_may : (xs : List ℕ) → may_name (get_or xs 0 0) ≡ true → may_name (get_or xs 1 0) ≡ true → may_name (get_or xs 2 0) ≡ true → Every may_name (drop 3 xs) → Every may_name xs
three_may [] a b c h = record {}
three_may (x ∷ []) a b c h = (a, record {})
three_may (x ∷ y ∷ []) a b c h = (a, (b, record {}))
three_may (x ∷ y ∷ z ∷ zs) a b c h = (a, (b, (c, h)))

-- ordinary labels
octets_may : (skip : ℕ) (xs : List ℕ) → octets_formed skip xs ≡ true → Every may_name (drop skip xs)
unfolding octets_formed
octets_may zero [] h = record {}
octets_may (suc skip) [] h = record {}
octets_may (suc skip) (x ∷ xs) h = octets_may skip xs h
octets_may zero (x ∷ xs) h = go (eqb x 92) refl (octets_may 3 xs) (octets_may 0 xs)
  where
    go : (t : Bool) → eqb x 92 ≡ t → (octets_formed 3 xs ≡ true → Every may_name (drop 3 xs)) → (octets_formed 0 xs ≡ true → Every may_name xs) → Every may_name (x ∷ xs)
    go true e k l =
        let d1 = is_digit (get_or xs 1 0) && is_digit (get_or xs 2 0) in
        let f = both (is_digit (get_or xs 0 0) && d1) (octets_formed 3 xs) (rw (octets_formed, e) at h) in
        let g = both (is_digit (get_or xs 0 0)) d1 f.0 in
        let i = both (is_digit (get_or xs 1 0)) (is_digit (get_or xs 2 0)) g.1 in
        let m : may_name x ≡ true = unfold may_name is_plain in ap may_name (eqb-true x 92 e) in
        (m, three_may xs (digit_may (get_or xs 0 0) g.0) (digit_may (get_or xs 1 0) i.0) (digit_may (get_or xs 2 0) i.1) (k f.1))
    go false e k l =
        let f = both (is_plain x) (octets_formed 0 xs) (rw (octets_formed, e) at h) in
        (plain_may x f.0, l f.1)

-- octets that pass a test in front, and what comes after them
leading_may : (t : ℕ → Bool) → ((x : ℕ) → t x ≡ true → may_name x ≡ true) → (xs : List ℕ) → Every may_name (drop (leading t xs) xs) → Every may_name xs
leading_may t f xs h =
    rw (take-append-drop (leading t xs) xs) at (every_append may_name (take (leading t xs) xs) (drop (leading t xs) xs) (every_weaken t may_name (take (leading t xs) xs) f (leading_take t xs)) h)

slash_may : (xs : List ℕ) → eqb (first_of xs) 47 ≡ true → Every may_name (drop 1 xs) → Every may_name xs
unfolding may_name is_plain
slash_may [] e h = record {}
slash_may (x ∷ xs) e h = (ap may_name (eqb-true x 47 e), h)

bracket_may : Every may_name (93 ∷ [])
unfolding may_name is_plain
bracket_may = (refl, record {})

-- bit labels
past_may : (p : List ℕ) → end_in p ≡ 93 ∷ [] → Every may_name (past_digits p)
unfolding end_in count_text is_counted
past_may p e = go (is_counted p) refl
  where
    go : (t : Bool) → is_counted p ≡ t → Every may_name (past_digits p)
    go true c =
        let f : drop (digit_count (count_text p)) (count_text p) ≡ 93 ∷ [] = rw (end_in, c) at e in
        slash_may (past_digits p) c (leading_may is_digit digit_may (count_text p) (rw f bracket_may))
    go false c = let f : past_digits p ≡ 93 ∷ [] = rw (end_in, c) at e in rw f bracket_may

bits_may : (p : List ℕ) → is_bits_text p ≡ true → bits_formed p ≡ true → Every may_name p
unfolding is_bits_text bits_formed past_digits may_name is_plain
bits_may p i h =
    let t6 = rest_clear (count_in p) (bit_octets p) in
    let t5 = eqb (length (digits_in p)) (digits_for (count_in p)) && t6 in
    let t4 = same (end_in p) (93 ∷ []) && t5 in
    let t3 = count_formed p && t4 in
    let t2 = not (eqb (length (digits_in p)) 0) && t3 in
    let a = both (eqb (get_or p 2 0) 120) t2 h in
    let b = both (count_formed p) t4 (both (not (eqb (length (digits_in p)) 0)) t3 a.1).1 in
    let e = same_eq (end_in p) (93 ∷ []) (both (same (end_in p) (93 ∷ [])) t5 b.1).0 in
    let k = both (eqb (get_or p 0 0) 92) (eqb (get_or p 1 0) 91) i in
    let first : may_name (get_or p 0 0) ≡ true = ap may_name (eqb-true (get_or p 0 0) 92 k.0) in
    let second : may_name (get_or p 1 0) ≡ true = ap may_name (eqb-true (get_or p 1 0) 91 k.1) in
    let third : may_name (get_or p 2 0) ≡ true = ap may_name (eqb-true (get_or p 2 0) 120 a.0) in
    three_may p first second third (leading_may is_hex hex_may (drop 3 p) (past_may p e))

label_may : (p : List ℕ) → label_formed p ≡ true → Every may_name p
unfolding label_formed
label_may p h = go (is_bits_text p) refl
  where
    go : (t : Bool) → is_bits_text p ≡ t → Every may_name p
    go true e = bits_may p e (rw (label_formed, e) at h)
    go false e = octets_may 0 p (both (not (eqb (length p) 0)) (octets_formed 0 p) (rw (label_formed, e) at h)).1

-- the whole text, after `begun` of its first part: there is no part that no dot ends
parts_may : (begun text : List ℕ) (d : ℕ) → (d ≡ 46 → begun ≡ []) → last_from d text ≡ 46 → every label_formed (parts_from begun text) ≡ true → Every may_name (begun ++ text)
unfolding parts_from last_from every may_name is_plain
parts_may begun [] d b l h = rw (b l) (record {})
parts_may begun (x ∷ xs) d b l h = go (eqb x 46) refl (parts_may [] xs 46 (λ e. refl)) (parts_may (begun ++ (x ∷ [])) xs x)
  where
    go : (t : Bool) → eqb x 46 ≡ t → (last_from 46 xs ≡ 46 → every label_formed (parts_from [] xs) ≡ true → Every may_name xs)
        → ((x ≡ 46 → begun ++ (x ∷ []) ≡ []) → last_from x xs ≡ 46 → every label_formed (parts_from (begun ++ (x ∷ [])) xs) ≡ true → Every may_name ((begun ++ (x ∷ [])) ++ xs))
        → Every may_name (begun ++ (x ∷ xs))
    go true e k m =
        let z = eqb-true x 46 e in
        let f = both (label_formed begun) (every label_formed (parts_from [] xs)) (rw (parts_from, e) at h) in
        every_append may_name begun (x ∷ xs) (label_may begun f.0) (ap may_name z, k (ap (λ (y : ℕ). last_from y xs) (sym z) ∙ l) f.1)
    go false e k m =
        let f : every label_formed (parts_from (begun ++ (x ∷ [])) xs) ≡ true = rw (parts_from, e) at h in
        rw append_assoc at (m (λ z. absurd (eqb-false x 46 e z)) l f)

-- a text whose form is in order
module _ (text : List ℕ) (n : text_number text ≡ 20 → ⊥) where
  pub every_may : Every may_name text
  unfolding parts_of may_name is_plain
  every_may = go (same text (46 ∷ [])) refl
    where
      formed : (eqb (last_from 0 text) 46 ≡ true) × (every label_formed (parts_of text) ≡ true)
      formed = both (eqb (last_from 0 text) 46) (every label_formed (parts_of text)) (stands (eqb (last_from 0 text) 46 && every label_formed (parts_of text)) refl)
        where
          stands : (t : Bool) → (eqb (last_from 0 text) 46 && every label_formed (parts_of text)) ≡ t → t ≡ true
          stands true e = refl
          stands false e = absurd (n (number_form text e))

      go : (t : Bool) → same text (46 ∷ []) ≡ t → Every may_name text
      go true e = rw (same_eq text (46 ∷ []) e) (refl, record {})
      go false e =
          let f : every label_formed (parts_from [] text) ≡ true = rw (parts_of, e) at formed.1 in
          parts_may [] text 0 (λ z. refl) (eqb-true (last_from 0 text) 46 formed.0) f

  -- before octets that begin with none that may stand in a name, it is all that may
  pub formed_may : (rest : List ℕ) → leading may_name rest ≡ 0 → leading may_name (text ++ rest) ≡ length text
  formed_may rest z = leading_every may_name text rest z every_may

-- the same for the text of a name in standard form
pub text_may : (name rest : List ℕ) → Small name → in_standard_form name ≡ true → leading may_name rest ≡ 0 → leading may_name (text_of name ++ rest) ≡ length (text_of name)
text_may name rest s h z = let e = read_number_lem name s h in formed_may (text_of name) (λ k. omega arith) rest z
