-- An ordinary label's text, read again.
use Prim.Native.Nat.{ℕ, suc, ◌+◌, ◌-◌, ◌*◌, ◌/◌, ◌%◌, ◌<◌}
use mathlib.Core.Path.{◌≡◌, refl, ap, ◌∙◌}
use mathlib.Core.Bool.{Bool, true, false}
use mathlib.Core.List.{List, [], ◌∷◌, ◌++◌}
use lib.ListN.{length}
use native.Mathlib.Omega.{arith}
use borrow.Author.Tests.{lt-ltb, ne_eqb}
use Rattle.octets.specs.Octets.{Small}
use Rattle.text.specs.Digits.{is_digit}
use Rattle.nametext.specs.Characters.{is_plain, three_digits}
use Rattle.nametext.specs.Writing.{octet_text, ordinary_text}
use Rattle.nametext.specs.Reading.{octets_formed, octets_in, octets_ranged, is_bits_text}
use Rattle.nametext.proofs.CharacterLaws.{not_dot, Every, every_append, every_weaken, digit_is, three_digits_lem, plain_digit, plain_not_dot, plain_not_backslash}

pub octet_plain : (x : ℕ) → is_plain x ≡ true → octet_text x ≡ x ∷ []
unfolding octet_text
octet_plain x p = rw (octet_text, p)

pub octet_escaped : (x : ℕ) → is_plain x ≡ false → octet_text x ≡ 92 ∷ (48 + x / 100) ∷ (48 + x / 10 % 10) ∷ (48 + x % 10) ∷ []
unfolding octet_text three_digits
octet_escaped x p = rw (octet_text, p)

-- one octet in front of a label's text
module _ (x : ℕ) (xs : List ℕ) (p : is_plain x ≡ true) where
  formed_plain : octets_formed 0 (x ∷ xs) ≡ octets_formed 0 xs
  unfolding octets_formed
  formed_plain = rw (octets_formed, ne_eqb x 92 (plain_not_backslash x p), p)

  in_plain : octets_in 0 (x ∷ xs) ≡ x ∷ octets_in 0 xs
  unfolding octets_in
  in_plain = rw (octets_in, ne_eqb x 92 (plain_not_backslash x p))

formed_escape : (a b c : ℕ) (xs : List ℕ) → is_digit a ≡ true → is_digit b ≡ true → is_digit c ≡ true → octets_formed 0 (92 ∷ a ∷ b ∷ c ∷ xs) ≡ octets_formed 0 xs
unfolding octets_formed
formed_escape a b c xs h k l = rw (h, k, l)

in_escape : (x : ℕ) (xs : List ℕ) → x < 256 → octets_in 0 (92 ∷ (48 + x / 100) ∷ (48 + x / 10 % 10) ∷ (48 + x % 10) ∷ xs) ≡ x ∷ octets_in 0 xs
unfolding octets_in
in_escape x xs h =
    let e : (48 + x / 100 - 48) * 100 + ((48 + x / 10 % 10 - 48) * 10 + (48 + x % 10 - 48)) ≡ x = omega arith in
    ap (λ (y : ℕ). y ∷ octets_in 0 xs) e

pub text_formed : (l : List ℕ) → Small l → octets_formed 0 (ordinary_text l) ≡ true
unfolding ordinary_text octets_formed
text_formed [] s = refl
text_formed (x ∷ l) s = go (is_plain x) refl (text_formed l (λ i. s (suc i)))
  where
    go : (t : Bool) → is_plain x ≡ t → octets_formed 0 (ordinary_text l) ≡ true → octets_formed 0 (octet_text x ++ ordinary_text l) ≡ true
    go true p ih = rw (octet_plain x p) (formed_plain x (ordinary_text l) p ∙ ih)
    go false p ih =
        let h : x < 256 = s 0 in
        rw (octet_escaped x p) (formed_escape (48 + x / 100) (48 + x / 10 % 10) (48 + x % 10) (ordinary_text l)
        (digit_is (x / 100) (omega arith)) (digit_is (x / 10 % 10) (omega arith)) (digit_is (x % 10) (omega arith)) ∙ ih)

pub text_octets : (l : List ℕ) → Small l → octets_in 0 (ordinary_text l) ≡ l
unfolding ordinary_text octets_in
text_octets [] s = refl
text_octets (x ∷ l) s = go (is_plain x) refl (text_octets l (λ i. s (suc i)))
  where
    go : (t : Bool) → is_plain x ≡ t → octets_in 0 (ordinary_text l) ≡ l → octets_in 0 (octet_text x ++ ordinary_text l) ≡ x ∷ l
    go true p ih = rw (octet_plain x p) (in_plain x (ordinary_text l) p ∙ ap (λ (ys : List ℕ). x ∷ ys) ih)
    go false p ih = rw (octet_escaped x p) (in_escape x (ordinary_text l) (s 0) ∙ ap (λ (ys : List ℕ). x ∷ ys) ih)

pub small_ranged : (l : List ℕ) → Small l → octets_ranged l ≡ true
unfolding octets_ranged
small_ranged [] s = refl
small_ranged (x ∷ l) s = rw (lt-ltb x 256 (s 0)) (small_ranged l (λ i. s (suc i)))

pub text_no_dot : (l : List ℕ) → Small l → Every not_dot (ordinary_text l)
unfolding ordinary_text three_digits not_dot
text_no_dot [] s = record {}
text_no_dot (x ∷ l) s = go (is_plain x) refl (text_no_dot l (λ i. s (suc i)))
  where
    go : (t : Bool) → is_plain x ≡ t → Every not_dot (ordinary_text l) → Every not_dot (octet_text x ++ ordinary_text l)
    go true p ih = rw (octet_plain x p) (plain_not_dot x p, ih)
    go false p ih =
        let h : x < 256 = s 0 in
        rw (octet_escaped x p) (every_append not_dot (92 ∷ three_digits x) (ordinary_text l) (refl, every_weaken is_digit not_dot (three_digits x) (λ c d. plain_not_dot c (plain_digit c d)) (three_digits_lem x (omega arith))) ih)

pub text_some : (l : List ℕ) → 0 < length l → 0 < length (ordinary_text l)
unfolding ordinary_text
text_some [] h = let z : ⊥ = omega arith in absurd z
text_some (x ∷ l) h = go (is_plain x) refl
  where
    go : (t : Bool) → is_plain x ≡ t → 0 < length (octet_text x ++ ordinary_text l)
    go true p = rw (octet_plain x p) (omega arith)
    go false p = rw (octet_escaped x p) (omega arith)

-- no bit label begins so
pub text_no_bits : (l : List ℕ) → Small l → is_bits_text (ordinary_text l) ≡ false
unfolding ordinary_text is_bits_text
text_no_bits [] s = refl
text_no_bits (x ∷ l) s = go (is_plain x) refl
  where
    go : (t : Bool) → is_plain x ≡ t → is_bits_text (octet_text x ++ ordinary_text l) ≡ false
    go true p = rw (octet_plain x p, ne_eqb x 92 (plain_not_backslash x p))
    go false p = let h : x < 256 = s 0 in rw (octet_escaped x p, ne_eqb (48 + x / 100) 91 (λ e. omega arith))
