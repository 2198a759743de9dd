-- Laws of the octets of a text, and of texts whose octets all pass a test.
use Prim.Native.Nat.{ℕ, suc, ◌+◌, ◌-◌, ◌/◌, ◌%◌, ◌≤◌, ◌<◌}
use mathlib.Core.Path.{◌≡◌, refl, ap, ◌∙◌}
use mathlib.Core.Bool.{Bool, true, false, not}
use mathlib.Core.List.{List, [], ◌∷◌, ◌++◌}
use lib.Dec.{ltb, eqb}
use lib.ListN.{length, take}
use native.Mathlib.Omega.{arith}
use borrow.Author.Tests.{lt-ltb, le-ltb, ne_eqb, ltb-true, ltb-false}
use Rattle.std.specs.Char.{to_ascii_uppercase}
use Rattle.octets.proofs.BoolLaws.{clash, or_true}
use Rattle.text.specs.Digits.{between, is_digit, is_hex, digit_in, digit_octet, leading}
use Rattle.text.proofs.DigitLaws.{in_figure, in_capital, octet_figure, octet_letter}
use Rattle.text.proofs.DecimalLaws.{between_is, is_between}
use Rattle.nametext.specs.Characters.{is_plain, may_name, hex_digit, three_digits}

-- no dot
unfoldable pub not_dot : ℕ → Bool
not_dot x = not (eqb x 46)

-- each octet passes a test
abbrev pub Every : (ℕ → Bool) → List ℕ → Type 0
Every t [] = record {}
Every t (x ∷ xs) = (t x ≡ true) × Every t xs

pub every_append : (t : ℕ → Bool) (xs ys : List ℕ) → Every t xs → Every t ys → Every t (xs ++ ys)
every_append t [] ys h k = k
every_append t (x ∷ xs) ys h k = (h.0, every_append t xs ys h.1 k)

pub every_weaken : (t u : ℕ → Bool) (xs : List ℕ) → ((x : ℕ) → t x ≡ true → u x ≡ true) → Every t xs → Every u xs
every_weaken t u [] f h = h
every_weaken t u (x ∷ xs) f h = (f x h.0, every_weaken t u xs f h.1)

-- how many octets in front pass, where what comes after begins with none that does
pub leading_every : (t : ℕ → Bool) (xs rest : List ℕ) → leading t rest ≡ 0 → Every t xs → leading t (xs ++ rest) ≡ length xs
unfolding leading
leading_every t [] rest z h = z
leading_every t (x ∷ xs) rest z h = rw (leading, h.0) (ap suc (leading_every t xs rest z h.1))

-- those in front pass
pub leading_take : (t : ℕ → Bool) (xs : List ℕ) → Every t (take (leading t xs) xs)
unfolding leading
leading_take t [] = record {}
leading_take t (x ∷ xs) = go (t x) refl (leading_take t xs)
  where
    go : (b : Bool) → t x ≡ b → Every t (take (leading t xs) xs) → Every t (take (leading t (x ∷ xs)) (x ∷ xs))
    go true e k = rw (leading, e) (e, k)
    go false e k = rw (leading, e) (record {})

-- tests of one octet
pub digit_is : (d : ℕ) → d < 10 → is_digit (48 + d) ≡ true
digit_is d h = is_between 48 57 (48 + d) (omega arith) (omega arith)

other_not : (x y : ℕ) (t : ℕ → Bool) → t x ≡ true → t y ≡ false → x ≡ y → ⊥
other_not x y t h k e = clash h (ap t e ∙ k)

not_dot_lem : (t : ℕ → Bool) → t 46 ≡ false → (x : ℕ) → t x ≡ true → not_dot x ≡ true
unfolding not_dot
not_dot_lem t k x h = rw (ne_eqb x 46 (other_not x 46 t h k))

pub plain_not_dot : (x : ℕ) → is_plain x ≡ true → not_dot x ≡ true
unfolding is_plain
plain_not_dot = not_dot_lem is_plain refl

pub plain_not_backslash : (x : ℕ) → is_plain x ≡ true → x ≡ 92 → ⊥
unfolding is_plain
plain_not_backslash x h = other_not x 92 is_plain h refl

-- what stands for itself
module _ (x : ℕ) where
  pub plain_upper : between 65 90 x ≡ true → is_plain x ≡ true
  unfolding is_plain
  plain_upper h = rw h

  pub plain_lower : between 97 122 x ≡ true → is_plain x ≡ true
  unfolding is_plain
  plain_lower h = rw h (or_true (between 65 90 x))

  pub plain_digit : is_digit x ≡ true → is_plain x ≡ true
  unfolding is_plain
  plain_digit h = rw (h, or_true (between 97 122 x)) (or_true (between 65 90 x))

  pub plain_hyphen : x ≡ 45 → is_plain x ≡ true
  unfolding is_plain
  plain_hyphen h = rw h

  pub plain_last : between 65 90 x ≡ false → between 97 122 x ≡ false → is_digit x ≡ false → (x ≡ 45 → ⊥) → is_plain x ≡ eqb x 95
  unfolding is_plain
  plain_last h k l e = rw (h, k, l, ne_eqb x 45 e)

  -- and may stand in a name
  pub plain_may : is_plain x ≡ true → may_name x ≡ true
  unfolding may_name
  plain_may h = rw h

-- a hex digit stands for itself
pub hex_plain : (x : ℕ) → is_hex x ≡ true → is_plain x ≡ true
hex_plain x h = digit (between 48 57 x) refl
  where
    capital : between 48 57 x ≡ false → between 97 102 x ≡ false → (t : Bool) → between 65 70 x ≡ t → is_plain x ≡ true
    capital e f true g = let b = between_is 65 70 x g in plain_upper x (is_between 65 90 x b.0 (omega arith))
    capital e f false g = absurd (clash h (unfold digit_in in rw (digit_in, e, f, g)))

    small : between 48 57 x ≡ false → (t : Bool) → between 97 102 x ≡ t → is_plain x ≡ true
    small e true f = let b = between_is 97 102 x f in plain_lower x (is_between 97 122 x b.0 (omega arith))
    small e false f = capital e f (between 65 70 x) refl

    digit : (t : Bool) → between 48 57 x ≡ t → is_plain x ≡ true
    digit true e = plain_digit x e
    digit false e = small e (between 97 102 x) refl

-- the capital hex digit of a value has that value
pub hex_low : (v : ℕ) → v < 10 → hex_digit v ≡ 48 + v
unfolding hex_digit
hex_low v h = rw (hex_digit, lt-ltb v 10 h)

pub hex_high : (v : ℕ) → 10 ≤ v → hex_digit v ≡ 55 + v
unfolding hex_digit
hex_high v h = rw (hex_digit, le-ltb v 10 h)

-- a digit of the text made upper-case, as the library has it
pub hex_upper : (v : ℕ) → v < 16 → to_ascii_uppercase (digit_octet v) ≡ hex_digit v
hex_upper v h = go (ltb v 10) refl
  where
    go : (b : Bool) → ltb v 10 ≡ b → to_ascii_uppercase (digit_octet v) ≡ hex_digit v
    go true e = let k = ltb-true v 10 e in rw (octet_figure v k, hex_low v k, lt-ltb (48 + v) 97 (omega arith)) refl
    go false e =
        let k = ltb-false v 10 e in
        let m : 87 + v - 32 ≡ 55 + v = omega arith in
        rw (octet_letter v k, hex_high v k, le-ltb (87 + v) 97 (omega arith), lt-ltb (87 + v) 123 (omega arith)) m

pub hex_again : (v : ℕ) → v < 16 → digit_in (hex_digit v) ≡ v
hex_again v h = go (ltb v 10) refl
  where
    go : (t : Bool) → ltb v 10 ≡ t → digit_in (hex_digit v) ≡ v
    go true e = let k = ltb-true v 10 e in ap digit_in (hex_low v k) ∙ in_figure (48 + v) (omega arith) (omega arith) ∙ omega arith
    go false e = let k = ltb-false v 10 e in ap digit_in (hex_high v k) ∙ in_capital (55 + v) (omega arith) (omega arith) ∙ omega arith

pub hex_is : (v : ℕ) → v < 16 → is_hex (hex_digit v) ≡ true
hex_is v h = rw (hex_again v h) (lt-ltb v 16 h)

-- three digits
pub three_digits_lem : (n : ℕ) → n < 1000 → Every is_digit (three_digits n)
unfolding three_digits
three_digits_lem n h = (digit_is (n / 100) (omega arith), (digit_is (n / 10 % 10) (omega arith), (digit_is (n % 10) (omega arith), record {})))
