-- A bit label's text, read again.
use Prim.Native.Nat.{ℕ, zero, suc, ◌+◌, ◌-◌, ◌*◌, ◌/◌, ◌%◌, ◌^◌, ◌<◌}
use mathlib.Core.Path.{◌≡◌, refl, ap, ◌∙◌, sym}
use mathlib.Core.Bool.{Bool, true, false, not}
use mathlib.Core.List.{List, [], ◌∷◌, ◌++◌, map, append-nil}
use lib.Dec.{ltb, eqb}
use lib.ListN.{length, get_or, take, drop, length-map}
use lib.Seq.{length-take-le, take_all, take-append_seam, drop-append_seam}
use lib.Pow.{mod-mod-pow}
use native.Mathlib.Omega.{arith}
use borrow.Author.Tests.{ne_eqb, eq-eqb, ltb-true, ltb-false}
use Rattle.octets.specs.Octets.{Small, same_by}
use Rattle.octets.specs.Each.{Under}
use Rattle.octets.proofs.OctetLaws.{under_take}
use Rattle.bits.specs.Bits.{octets_for, unpack, pack_from, pack}
use Rattle.bits.specs.Packing.{Bits}
use Rattle.bits.proofs.PackingLaws.{pack_length, unpack_pack, pack_clear}
use Rattle.bits.proofs.UnpackLaws.{pack_small}
use Rattle.text.specs.Digits.{is_hex, is_digit, digit_in, leading}
use Rattle.text.specs.Decimal.{write_decimal, digit_count, decimal_of, is_decimal}
use Rattle.text.proofs.DecimalLaws.{decimal_read}
use Rattle.nametext.specs.Characters.{hex_digit}
use Rattle.nametext.specs.Writing.{nibbles, digits_for, hex_text, bits_text}
use Rattle.nametext.specs.Reading.{paired, digits_in, past_digits, is_counted, count_text, count_in, count_formed, end_in, bit_octets, rest_clear, bits_formed}
use Rattle.nametext.proofs.CharacterLaws.{not_dot, Every, every_append, every_weaken, leading_every, leading_take, hex_is, hex_again, hex_plain, plain_digit, plain_not_dot}

-- values below 16
pub nibbles_length : (xs : List ℕ) → length (nibbles xs) ≡ 2 * length xs
unfolding nibbles
nibbles_length [] = refl
nibbles_length (x ∷ xs) = let ih = nibbles_length xs in omega arith

pub nibbles_under : (xs : List ℕ) → Small xs → Under 16 (nibbles xs)
unfolding nibbles
nibbles_under [] s i = omega arith
nibbles_under (x ∷ xs) s zero = let h : x < 256 = s 0 in omega arith
nibbles_under (x ∷ xs) s (suc zero) = omega arith
nibbles_under (x ∷ xs) s (suc (suc i)) = nibbles_under xs (λ j. s (suc j)) i

-- paired again
paired_all : (xs : List ℕ) → paired (nibbles xs) ≡ xs
unfolding nibbles paired
paired_all [] = refl
paired_all (x ∷ xs) =
    let e : x / 16 * 16 + x % 16 ≡ x = omega arith in
    rw (e, paired_all xs)

-- also where the last value is left out, if it is zero
paired_most : (xs : List ℕ) → 0 < length xs → get_or xs (length xs - 1) 0 % 16 ≡ 0 → paired (take (2 * length xs - 1) (nibbles xs)) ≡ xs
unfolding nibbles paired
paired_most [] h k = let z : ⊥ = omega arith in absurd z
paired_most (x ∷ []) h k = let e : x / 16 * 16 ≡ x = omega arith in rw e
paired_most (x ∷ y ∷ zs) h k =
    let i : suc (suc (length zs)) - 1 ≡ suc (suc (length zs) - 1) = omega arith in
    let l : get_or (y ∷ zs) (suc (length zs) - 1) 0 % 16 ≡ 0 = rw i at k in
    let ih = paired_most (y ∷ zs) (omega arith) l in
    let n : 2 * suc (suc (length zs)) - 1 ≡ suc (suc (2 * suc (length zs) - 1)) = omega arith in
    let e : x / 16 * 16 + x % 16 ≡ x = omega arith in
    rw (n, e) (ap (λ (ys : List ℕ). x ∷ ys) ih)

-- the digits of values below 16, and their values
hex_every : (ds : List ℕ) → Under 16 ds → Every is_hex (map hex_digit ds)
hex_every [] h = record {}
hex_every (d ∷ ds) h = (hex_is d (h 0), hex_every ds (λ i. h (suc i)))

hex_values : (ds : List ℕ) → Under 16 ds → map digit_in (map hex_digit ds) ≡ ds
hex_values [] h = refl
hex_values (d ∷ ds) h = rw (hex_again d (h 0), hex_values ds (λ i. h (suc i)))

-- a decimal is figures
decimal_figures : (n : ℕ) → Every is_digit (write_decimal n)
unfolding leading
decimal_figures n =
    let d = decimal_read n [] refl in
    let e : take (digit_count (write_decimal n ++ [])) (write_decimal n ++ []) ≡ write_decimal n = ap (λ (k : ℕ). take k (write_decimal n ++ [])) d.1 ∙ take-append_seam (write_decimal n) [] in
    rw e at (leading_take is_digit (write_decimal n ++ []))

-- the fewest digits hold all octets, but for a last value of zero
module _ (b : List ℕ) (h : Bits b) (p : 0 < length b) where
  pub digits_paired : paired (take (digits_for (length b)) (nibbles (pack b))) ≡ pack b
  unfolding pack
  digits_paired = go (ltb (digits_for (length b)) (2 * octets_for (length b))) refl
    where
      go : (t : Bool) → ltb (digits_for (length b)) (2 * octets_for (length b)) ≡ t → paired (take (digits_for (length b)) (nibbles (pack b))) ≡ pack b
      go false e =
          let l = pack_length b in
          let k = ltb-false (digits_for (length b)) (2 * octets_for (length b)) e in
          ap paired (take_all (digits_for (length b)) (nibbles (pack b)) (omega (arith, nibbles_length (pack b)))) ∙ paired_all (pack b)
      go true e =
          let l = pack_length b in
          let k = ltb-true (digits_for (length b)) (2 * octets_for (length b)) e in
          let n : digits_for (length b) ≡ 2 * length (pack b) - 1 = omega arith in
          let j = octets_for (length b) * 8 - length b in
          let c : get_or (pack b) (octets_for (length b) - 1) 0 % 2 ^ j ≡ 0 = pack_clear (length b) b (omega arith) h p in
          let q : j - 4 + 4 ≡ j = omega arith in
          let m : get_or (pack b) (octets_for (length b) - 1) 0 % 2 ^ j % 16 ≡ get_or (pack b) (octets_for (length b) - 1) 0 % 16 =
          ap (λ (i : ℕ). get_or (pack b) (octets_for (length b) - 1) 0 % 2 ^ i % 16) (sym q) ∙ mod-mod-pow (get_or (pack b) (octets_for (length b) - 1) 0) (j - 4) 4 in
          let o : length (pack b) - 1 ≡ octets_for (length b) - 1 = omega arith in
          let z : get_or (pack b) (length (pack b) - 1) 0 % 16 ≡ 0 = rw o (omega arith) in
          rw n (paired_most (pack b) (omega arith) z)

  digits_under : Under 16 (take (digits_for (length b)) (nibbles (pack b)))
  digits_under = under_take 16 (digits_for (length b)) (nibbles (pack b)) (nibbles_under (pack b) (pack_small b h))

  hex_text_lem : Every is_hex (hex_text b)
  unfolding hex_text
  hex_text_lem = hex_every (take (digits_for (length b)) (nibbles (pack b))) digits_under

  pub hex_length : length (hex_text b) ≡ digits_for (length b)
  unfolding hex_text
  hex_length =
      let l = pack_length b in
      length-map (take (digits_for (length b)) (nibbles (pack b))) hex_digit ∙ length-take-le (digits_for (length b)) (nibbles (pack b)) (omega (arith, nibbles_length (pack b)))

  -- what comes after the digits, and after the count
  abbrev rest : List ℕ
  rest = 47 ∷ (write_decimal (length b) ++ (93 ∷ []))

  hex_leading : leading is_hex (hex_text b ++ rest) ≡ length (hex_text b)
  unfolding leading digit_in
  hex_leading = leading_every is_hex (hex_text b) rest refl hex_text_lem

  text_digits : digits_in (bits_text b) ≡ hex_text b
  unfolding digits_in bits_text
  text_digits = ap (λ (n : ℕ). take n (hex_text b ++ rest)) hex_leading ∙ take-append_seam (hex_text b) rest

  text_past : past_digits (bits_text b) ≡ rest
  unfolding past_digits bits_text
  text_past = ap (λ (n : ℕ). drop n (hex_text b ++ rest)) hex_leading ∙ drop-append_seam (hex_text b) rest

  text_counted : is_counted (bits_text b) ≡ true
  unfolding is_counted
  text_counted = rw text_past

  text_after : count_text (bits_text b) ≡ write_decimal (length b) ++ (93 ∷ [])
  unfolding count_text
  text_after = ap (drop 1) text_past

  decimal_after : (is_decimal (count_text (bits_text b)) ≡ true) × (digit_count (count_text (bits_text b)) ≡ length (write_decimal (length b))) × (decimal_of (count_text (bits_text b)) ≡ length b)
  unfolding leading
  decimal_after = rw text_after (decimal_read (length b) (93 ∷ []) refl)

  pub text_octets : bit_octets (bits_text b) ≡ pack b
  unfolding bit_octets hex_text
  text_octets = ap (λ (ds : List ℕ). paired (map digit_in ds)) text_digits
      ∙ ap paired (hex_values (take (digits_for (length b)) (nibbles (pack b))) digits_under) ∙ digits_paired

  pub text_count : count_in (bits_text b) ≡ length b
  unfolding count_in
  text_count = rw (count_in, text_counted) decimal_after.2

  text_count_formed : count_formed (bits_text b) ≡ true
  unfolding count_formed
  text_count_formed = rw (text_counted, decimal_after.0)

  text_end : end_in (bits_text b) ≡ 93 ∷ []
  unfolding end_in
  text_end = rw (end_in, text_counted, decimal_after.1, text_after) (drop-append_seam (write_decimal (length b)) (93 ∷ []))

  pub text_formed : bits_formed (bits_text b) ≡ true
  unfolding bits_formed rest_clear bits_text pack same_by
  text_formed =
      let n = length b in
      let s : not (eqb (length (hex_text b)) 0) ≡ true = rw (ne_eqb (length (hex_text b)) 0 (λ e. omega (arith, hex_length))) in
      let c : eqb (get_or (pack b) (octets_for n - 1) 0 % 2 ^ (octets_for n * 8 - n)) 0 ≡ true =
      eq-eqb (get_or (pack b) (octets_for n - 1) 0 % 2 ^ (octets_for n * 8 - n)) 0 (pack_clear n b (omega arith) h p) in
      let d : eqb (length (hex_text b)) (digits_for n) ≡ true = eq-eqb (length (hex_text b)) (digits_for n) hex_length in
      rw (bits_formed, text_octets, text_end, text_count, text_count_formed, text_digits, s, d, c)

  pub text_no_dot : Every not_dot (bits_text b)
  unfolding bits_text not_dot
  text_no_dot = (
    refl,
    (
      refl,
      (
        refl,
        every_append not_dot (hex_text b) rest
            (every_weaken is_hex not_dot (hex_text b) (λ c d. plain_not_dot c (hex_plain c d)) hex_text_lem)
            (refl, every_append not_dot (write_decimal (length b)) (93 ∷ []) (every_weaken is_digit not_dot (write_decimal (length b)) (λ c d. plain_not_dot c (plain_digit c d)) (decimal_figures (length b))) (refl, record {})),
      ),
    ),
  )

  pub text_bits : unpack (count_in (bits_text b)) (bit_octets (bits_text b)) ≡ b
  unfolding pack
  text_bits = rw (text_count, text_octets, ← append-nil (pack_from 0 0 b)) (unpack_pack (length b) b (omega arith) h [])
