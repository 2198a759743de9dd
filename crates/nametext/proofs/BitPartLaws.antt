-- A part as a bit label: its digits, its count and what comes after, by places.
use Prim.Native.Nat.{ℕ, zero, suc, ◌+◌, ◌-◌, ◌*◌, ◌/◌, ◌%◌, ◌^◌, ◌≤◌, ◌<◌, min}
use mathlib.Core.Path.{◌≡◌, refl, ap, ◌∙◌, sym}
use mathlib.Core.Bool.{Bool, true, false, not, ◌&&◌}
use mathlib.Core.List.{List, [], ◌∷◌, map}
use lib.Dec.{ltb, eqb}
use lib.ListN.{length, get_or, drop, length-drop, length-map, get_or-eq_default}
use lib.Seq.{drop-drop, get_or-drop, get_or-take, length-take-le}
use native.Mathlib.Omega.{arith}
use borrow.Author.Tests.{ltb-true, ltb-false, le-leb, lt-leb, eq-eqb, ne_eqb, eqb-true, eqb-false}
use Rattle.octets.specs.Octets.{same_by, same}
use Rattle.octets.proofs.BoolLaws.{and_false, clash}
use Rattle.bits.specs.Bits.{unpack}
use Rattle.bits.proofs.BitLaws.{unpack_length}
use Rattle.labels.specs.Labels.{first_of}
use Rattle.labels.proofs.LabelLaws.{first_at}
use Rattle.text.specs.Digits.{digit_in, is_digit, is_hex, leading}
use Rattle.text.specs.Decimal.{digit_count, decimal_of, is_decimal, decimal_at}
use Rattle.text.specs.declared.numbers.Decimal.{Decimal}
use Rattle.text.proofs.DecimalLaws.{Passed, passed_turn, passed_stop, stop_other, stop_end}
use Rattle.text.proofs.PlaceLaws.{past, from_place}
use Rattle.nametext.specs.Writing.{digits_for}
use Rattle.nametext.specs.Reading.{paired, digits_in, past_digits, is_counted, count_text, count_in, count_formed, end_in, bit_octets, rest_clear, bits_formed}
use Rattle.nametext.specs.Places.{part_by, bit_part, Quartered}
use Rattle.std.specs.Prelude.{Ok, Err}
use Rattle.octets.specs.declared.Refusal.TheVariants.{Form, Range}
use Rattle.nametext.specs.declared.reading.Part.TheVariants.{Bits}
use Rattle.nametext.specs.declared.reading.Quarters.{Quarters}
use Rattle.nametext.proofs.LastLaws.{rest_last}
use Rattle.text.proofs.LeadingLaws.{leading_few, leading_passes}

-- six tests in a row
module _ (a b c d e f : Bool) where
  six_fifth : (a && (b && (c && (d && (e && f))))) ≡ true → e ≡ true
  six_fifth h = go a b c d e f h
    where
      go : (a b c d e f : Bool) → (a && (b && (c && (d && (e && f))))) ≡ true → e ≡ true
      go true true true true true f h = refl
      go true true true true false f h = absurd (clash h refl)
      go true true true false e f h = absurd (clash h refl)
      go true true false d e f h = absurd (clash h refl)
      go true false c d e f h = absurd (clash h refl)
      go false b c d e f h = absurd (clash h refl)

  six_second : (a && (b && (c && (d && (e && f))))) ≡ true → b ≡ true
  six_second h = go a b c d e f h
    where
      go : (a b c d e f : Bool) → (a && (b && (c && (d && (e && f))))) ≡ true → b ≡ true
      go true true c d e f h = refl
      go true false c d e f h = absurd (clash h refl)
      go false b c d e f h = absurd (clash h refl)

  not_first : a ≡ false → (a && (b && (c && (d && (e && f))))) ≡ false
  not_first h = rw h

  not_second : b ≡ false → (a && (b && (c && (d && (e && f))))) ≡ false
  not_second h = rw h (and_false a)

  not_third : c ≡ false → (a && (b && (c && (d && (e && f))))) ≡ false
  not_third h = rw h (simp and_false refl)

  not_fourth : d ≡ false → (a && (b && (c && (d && (e && f))))) ≡ false
  not_fourth h = rw h (simp and_false refl)

  not_fifth : e ≡ false → (a && (b && (c && (d && (e && f))))) ≡ false
  not_fifth h = rw h (simp and_false refl)

  not_last : f ≡ false → (a && (b && (c && (d && (e && f))))) ≡ false
  not_last h = rw h (simp and_false refl)

  all_six : a ≡ true → b ≡ true → c ≡ true → d ≡ true → e ≡ true → f ≡ true → (a && (b && (c && (d && (e && f))))) ≡ true
  all_six g h i j k l = rw (g, h, i, j, k, l)

-- the octets of digits
pub paired_length : (xs : List ℕ) → length (paired xs) ≡ (length xs + 1) / 2
unfolding paired
paired_length [] = refl
paired_length (x ∷ []) = refl
paired_length (x ∷ y ∷ zs) = let ih = paired_length zs in omega arith

pub map_at : (f : ℕ → ℕ) (xs : List ℕ) (i : ℕ) → i < length xs → get_or (map f xs) i 0 ≡ f (get_or xs i 0)
map_at f [] i h = let z : ⊥ = omega arith in absurd z
map_at f (x ∷ xs) zero h = refl
map_at f (x ∷ xs) (suc i) h = map_at f xs i (omega arith)

module _ (p : List ℕ) where
  pub digits_length : length (digits_in p) ≡ leading is_hex (drop 3 p)
  unfolding digits_in
  digits_length = length-take-le (leading is_hex (drop 3 p)) (drop 3 p) (leading_few is_hex (drop 3 p))

  -- the digits by place
  pub digits_at : (i : ℕ) → i < length (digits_in p) → get_or (digits_in p) i 0 ≡ get_or p (3 + i) 0
  unfolding digits_in
  digits_at i h =
      let l = digits_length in
      get_or-take (leading is_hex (drop 3 p)) (drop 3 p) i 0 (omega arith) ∙ get_or-drop 3 p i 0

  pub digits_hex : (i : ℕ) → i < length (digits_in p) → is_hex (get_or p (3 + i) 0) ≡ true
  digits_hex i h =
      let l = digits_length in
      ap is_hex (sym (get_or-drop 3 p i 0)) ∙ leading_passes is_hex (drop 3 p) i (omega arith)

  pub formed_digits : bits_formed p ≡ true → length (digits_in p) ≡ digits_for (count_in p)
  unfolding bits_formed
  formed_digits h =
      eqb-true (length (digits_in p)) (digits_for (count_in p))
      (six_fifth (eqb (get_or p 2 0) 120) (not (eqb (length (digits_in p)) 0)) (count_formed p) (same (end_in p) (93 ∷ [])) (eqb (length (digits_in p)) (digits_for (count_in p)))
      (rest_clear (count_in p) (bit_octets p)) h)

  pub formed_some : bits_formed p ≡ true → 0 < count_in p
  unfolding bits_formed
  formed_some h = go (eqb (length (digits_in p)) 0) refl (six_second (eqb (get_or p 2 0) 120) (not (eqb (length (digits_in p)) 0)) (count_formed p) (same (end_in p) (93 ∷ [])) (eqb (length (digits_in p)) (digits_for (count_in p))) (rest_clear (count_in p) (bit_octets p)) h)
    where
      go : (b : Bool) → eqb (length (digits_in p)) 0 ≡ b → not (eqb (length (digits_in p)) 0) ≡ true → 0 < count_in p
      go true e k = absurd (clash k (ap not e))
      go false e k = let d = formed_digits h in omega (arith, eqb-false (length (digits_in p)) 0 e)

  pub bits_size : bits_formed p ≡ true → length (unpack (count_in p) (bit_octets p)) ≡ count_in p
  unfolding bit_octets
  bits_size h =
      let l = paired_length (map digit_in (digits_in p)) in
      let m = length-map (digits_in p) digit_in in
      let d = formed_digits h in
      unpack_length (count_in p) (bit_octets p) (omega arith)

  -- by its form and its count
  pub bit_unformed : bits_formed p ≡ false → Err Form ≡ bit_part p
  unfolding bit_part part_by
  bit_unformed h = rw h

  pub bit_unranged : bits_formed p ≡ true → 256 < count_in p → Err Range ≡ bit_part p
  unfolding bit_part part_by
  bit_unranged h k = rw (h, lt-leb (count_in p) 256 k)

  pub bit_good : (n : ℕ) → bits_formed p ≡ true → n ≡ count_in p → count_in p ≤ 256 → Ok (Bits n) ≡ bit_part p
  unfolding bit_part part_by
  bit_good n h e k = rw (h, le-leb (count_in p) 256 k, e)

  -- a test that fails
  pub no_x : (get_or p 2 0 ≡ 120 → ⊥) → Err Form ≡ bit_part p
  unfolding bits_formed
  no_x h = bit_unformed (not_first (eqb (get_or p 2 0) 120) (not (eqb (length (digits_in p)) 0)) (count_formed p) (same (end_in p) (93 ∷ [])) (eqb (length (digits_in p)) (digits_for (count_in p))) (rest_clear (count_in p) (bit_octets p)) (ne_eqb (get_or p 2 0) 120 h))

  pub no_digits : leading is_hex (drop 3 p) ≡ 0 → Err Form ≡ bit_part p
  unfolding bits_formed
  no_digits h = bit_unformed (not_second (eqb (get_or p 2 0) 120) (not (eqb (length (digits_in p)) 0)) (count_formed p) (same (end_in p) (93 ∷ [])) (eqb (length (digits_in p)) (digits_for (count_in p))) (rest_clear (count_in p) (bit_octets p)) (ap not (eq-eqb (length (digits_in p)) 0 (digits_length ∙ h))))

  no_count : count_formed p ≡ false → Err Form ≡ bit_part p
  unfolding bits_formed
  no_count h = bit_unformed (not_third (eqb (get_or p 2 0) 120) (not (eqb (length (digits_in p)) 0)) (count_formed p) (same (end_in p) (93 ∷ [])) (eqb (length (digits_in p)) (digits_for (count_in p))) (rest_clear (count_in p) (bit_octets p)) h)

  no_end : same (end_in p) (93 ∷ []) ≡ false → Err Form ≡ bit_part p
  unfolding bits_formed
  no_end h = bit_unformed (not_fourth (eqb (get_or p 2 0) 120) (not (eqb (length (digits_in p)) 0)) (count_formed p) (same (end_in p) (93 ∷ [])) (eqb (length (digits_in p)) (digits_for (count_in p))) (rest_clear (count_in p) (bit_octets p)) h)

  other_digits : (length (digits_in p) ≡ digits_for (count_in p) → ⊥) → Err Form ≡ bit_part p
  unfolding bits_formed
  other_digits h = bit_unformed (not_fifth (eqb (get_or p 2 0) 120) (not (eqb (length (digits_in p)) 0)) (count_formed p) (same (end_in p) (93 ∷ [])) (eqb (length (digits_in p)) (digits_for (count_in p))) (rest_clear (count_in p) (bit_octets p)) (ne_eqb (length (digits_in p)) (digits_for (count_in p)) h))

  not_clear : rest_clear (count_in p) (bit_octets p) ≡ false → Err Form ≡ bit_part p
  unfolding bits_formed
  not_clear h = bit_unformed (not_last (eqb (get_or p 2 0) 120) (not (eqb (length (digits_in p)) 0)) (count_formed p) (same (end_in p) (93 ∷ [])) (eqb (length (digits_in p)) (digits_for (count_in p))) (rest_clear (count_in p) (bit_octets p)) h)

  all_formed : get_or p 2 0 ≡ 120 → 0 < length (digits_in p) → count_formed p ≡ true → same (end_in p) (93 ∷ []) ≡ true → length (digits_in p) ≡ digits_for (count_in p)
      → rest_clear (count_in p) (bit_octets p) ≡ true → bits_formed p ≡ true
  unfolding bits_formed
  all_formed x s c n d r =
      all_six (eqb (get_or p 2 0) 120) (not (eqb (length (digits_in p)) 0)) (count_formed p) (same (end_in p) (93 ∷ [])) (eqb (length (digits_in p)) (digits_for (count_in p)))
      (rest_clear (count_in p) (bit_octets p)) (eq-eqb (get_or p 2 0) 120 x) (ap not (ne_eqb (length (digits_in p)) 0 (λ z. omega arith))) c n
      (eq-eqb (length (digits_in p)) (digits_for (count_in p)) d) r

  -- the unused bits are those of the last digit
  rest_is : 0 < length (digits_in p) → length (digits_in p) ≡ digits_for (count_in p)
      → rest_clear (count_in p) (bit_octets p) ≡ eqb (digit_in (get_or p (2 + length (digits_in p)) 0) % 2 ^ (4 * length (digits_in p) - count_in p)) 0
  unfolding bit_octets
  rest_is s d =
      let m = length-map (digits_in p) digit_in in
      let i : 3 + (length (digits_in p) - 1) ≡ 2 + length (digits_in p) = omega arith in
      let g : get_or (map digit_in (digits_in p)) (length (digits_in p) - 1) 0 ≡ digit_in (get_or p (2 + length (digits_in p)) 0) =
      map_at digit_in (digits_in p) (length (digits_in p) - 1) (omega arith) ∙ ap digit_in (digits_at (length (digits_in p) - 1) (omega arith) ∙ ap (λ (j : ℕ). get_or p j 0) i) in
      rest_last (count_in p) (map digit_in (digits_in p)) (omega arith) (m ∙ d) ∙ rw (m, g)

-- where the digits end
module _ (p : List ℕ) (e : ℕ) (q : e ≡ 3 + leading is_hex (drop 3 p)) where
  past_is : past_digits p ≡ drop e p
  unfolding past_digits
  past_is = drop-drop (leading is_hex (drop 3 p)) 3 p ∙ ap (λ (j : ℕ). drop j p) (sym q)

  counted_is : is_counted p ≡ eqb (get_or p e 0) 47
  unfolding is_counted
  counted_is = ap (λ (xs : List ℕ). eqb (first_of xs) 47) past_is ∙ ap (λ (x : ℕ). eqb x 47) (first_at p e)

  -- no count is given
  module _ (c : get_or p e 0 ≡ 47 → ⊥) where
    none : is_counted p ≡ false
    none = counted_is ∙ ne_eqb (get_or p e 0) 47 c

    end_plain : end_in p ≡ drop e p
    unfolding end_in
    end_plain = rw (end_in, none) past_is

    pub count_plain : count_in p ≡ 4 * (e - 3)
    unfolding count_in
    count_plain =
        let l = digits_length p in
        let k : length (digits_in p) ≡ e - 3 = omega arith in
        rw (count_in, none) (ap (λ (j : ℕ). 4 * j) k)

    formed_plain : count_formed p ≡ true
    unfolding count_formed
    formed_plain = rw none

    pub open_plain : same (drop e p) (93 ∷ []) ≡ false → Err Form ≡ bit_part p
    open_plain h = no_end p (rw end_plain h)

    pub good_plain : get_or p 2 0 ≡ 120 → (e ≡ 3 → ⊥) → same (drop e p) (93 ∷ []) ≡ true → bits_formed p ≡ true
    good_plain x s h =
        let l = digits_length p in
        let n = count_plain in
        let d : length (digits_in p) ≡ digits_for (count_in p) = omega arith in
        let o : 0 < length (digits_in p) = omega (arith, s) in
        let z : 4 * length (digits_in p) - count_in p ≡ 0 = omega arith in
        let v = digit_in (get_or p (2 + length (digits_in p)) 0) in
        let m : v % 1 ≡ 0 = omega arith in
        all_formed p x o formed_plain (rw end_plain h) d (rest_is p o d ∙ rw z (eq-eqb (v % 1) 0 m))

  -- nothing comes after the digits
  pub open_end : length p ≤ e → Err Form ≡ bit_part p
  unfolding same_by
  open_end h =
      let g : get_or p e 0 ≡ 0 = get_or-eq_default p 0 {n = e} h in
      open_plain (λ c. omega arith) (ap (λ (xs : List ℕ). same xs (93 ∷ [])) (past p e h))

  -- a count is given
  module _ (c : get_or p e 0 ≡ 47) where
    some : is_counted p ≡ true
    some = counted_is ∙ eq-eqb (get_or p e 0) 47 c

    text_is : count_text p ≡ drop (e + 1) p
    unfolding count_text
    text_is = ap (drop 1) past_is ∙ drop-drop 1 e p

    end_counted : end_in p ≡ drop (e + 1 + digit_count (drop (e + 1) p)) p
    unfolding end_in
    end_counted =
        rw (end_in, some) (ap (λ (xs : List ℕ). drop (digit_count xs) xs) text_is ∙ drop-drop (digit_count (drop (e + 1) p)) (e + 1) p)

    count_counted : count_in p ≡ decimal_of (drop (e + 1) p)
    unfolding count_in
    count_counted = rw (count_in, some) (ap decimal_of text_is)

    formed_counted : count_formed p ≡ is_decimal (drop (e + 1) p)
    unfolding count_formed
    formed_counted = rw some (ap is_decimal text_is)

    pub no_decimal : is_decimal (drop (e + 1) p) ≡ false → Err Form ≡ bit_part p
    no_decimal h = no_count p (formed_counted ∙ h)

    pub open_counted : (next : ℕ) → next ≡ e + 1 + digit_count (drop (e + 1) p) → same (drop next p) (93 ∷ []) ≡ false → Err Form ≡ bit_part p
    open_counted next n h = no_end p (ap (λ (xs : List ℕ). same xs (93 ∷ [])) (end_counted ∙ ap (λ (j : ℕ). drop j p) (sym n)) ∙ h)

    module _ (v : Quarters) (w : Quartered (decimal_of (drop (e + 1) p)) (4 * (e - 3 + 1)) v) where
      pub wrong_digits : (v.whole + (v.rest + 3) / 4 ≡ e - 3 → ⊥) → Err Form ≡ bit_part p
      wrong_digits h =
          let l = digits_length p in
          let n = count_counted in
          let a = w.is in
          let b = w.rest in
          other_digits p (λ k. h (omega arith))

      module _ (h : v.whole + (v.rest + 3) / 4 ≡ e - 3) (s : 3 < e) where
        value_is : count_in p ≡ 4 * v.whole + v.rest
        value_is =
            let n = count_counted in
            let a = w.is in
            let b = w.rest in
            omega arith

        digits_are : length (digits_in p) ≡ digits_for (count_in p)
        digits_are =
            let l = digits_length p in
            let n = value_is in
            let b = w.rest in
            omega arith

        clear_is : rest_clear (count_in p) (bit_octets p) ≡ eqb (digit_in (get_or p (e - 1) 0) % 2 ^ ((4 - v.rest) % 4)) 0
        clear_is =
            let l = digits_length p in
            let n = value_is in
            let b = w.rest in
            let i : 2 + length (digits_in p) ≡ e - 1 = omega arith in
            let j : 4 * length (digits_in p) - count_in p ≡ (4 - v.rest) % 4 = omega arith in
            rest_is p (omega arith) digits_are ∙ ap (λ (k : ℕ). eqb (digit_in (get_or p k 0) % 2 ^ (4 * length (digits_in p) - count_in p)) 0) i
            ∙ ap (λ (k : ℕ). eqb (digit_in (get_or p (e - 1) 0) % 2 ^ k) 0) j

        pub bits_set : eqb (digit_in (get_or p (e - 1) 0) % 2 ^ ((4 - v.rest) % 4)) 0 ≡ false → Err Form ≡ bit_part p
        bits_set k = not_clear p (clear_is ∙ k)

        module _ (x : get_or p 2 0 ≡ 120) (f : is_decimal (drop (e + 1) p) ≡ true) (next : ℕ) (n : next ≡ e + 1 + digit_count (drop (e + 1) p))
            (o : same (drop next p) (93 ∷ []) ≡ true) (k : eqb (digit_in (get_or p (e - 1) 0) % 2 ^ ((4 - v.rest) % 4)) 0 ≡ true) where
          good_counted : bits_formed p ≡ true
          good_counted =
              let l = digits_length p in
              all_formed p x (omega arith) (formed_counted ∙ f) (ap (λ (xs : List ℕ). same xs (93 ∷ [])) (end_counted ∙ ap (λ (j : ℕ). drop j p) (sym n)) ∙ o) digits_are (clear_is ∙ k)

          pub large_counted : 64 < e - 3 → Err Range ≡ bit_part p
          large_counted m = let u = value_is in let b = w.rest in bit_unranged p good_counted (omega arith)

          pub part_counted : e - 3 ≤ 64 → Ok (Bits (4 * v.whole + v.rest)) ≡ bit_part p
          part_counted m = let u = value_is in let b = w.rest in bit_good p (4 * v.whole + v.rest) good_counted (sym u) (omega arith)

-- a bracket and nothing after it
pub closed : (p : List ℕ) (at : ℕ) → length p - at ≡ 1 → eqb (get_or p at 0) 93 ≡ same (drop at p) (93 ∷ [])
unfolding same_by
closed p at h =
    let s : drop at p ≡ get_or p at 0 ∷ [] = from_place p at (omega arith) ∙ ap (λ (xs : List ℕ). get_or p at 0 ∷ xs) (past p (at + 1) (omega arith)) in
    rw s (go (eqb (get_or p at 0) 93) refl)
  where
    go : (b : Bool) → eqb (get_or p at 0) 93 ≡ b → eqb (get_or p at 0) 93 ≡ same_by eqb (get_or p at 0 ∷ []) (93 ∷ [])
    go true e = e ∙ rw (e, same_by)
    go false e = e ∙ rw (e, same_by)

-- a list that is not of one octet is none octet alone
pub not_alone : (y : ℕ) (xs : List ℕ) → (length xs ≡ 1 → ⊥) → same xs (y ∷ []) ≡ false
unfolding same_by
not_alone y [] h = refl
not_alone y (x ∷ []) h = absurd (h refl)
not_alone y (x ∷ z ∷ zs) h = go (eqb x y) refl
  where
    go : (b : Bool) → eqb x y ≡ b → same_by eqb (x ∷ z ∷ zs) (y ∷ []) ≡ false
    go true e = rw (e, same_by)
    go false e = rw (e, same_by)

pub not_closed : (p : List ℕ) (at : ℕ) → at ≤ length p → (length p - at ≡ 1 → ⊥) → false ≡ same (drop at p) (93 ∷ [])
not_closed p at l h = sym (not_alone 93 (drop at p) (λ e. h (sym (length-drop at p) ∙ e)))

-- the slash stands inside of the part, and a hex digit before it
pub slash_inside : (p : List ℕ) (e : ℕ) → get_or p e 0 ≡ 47 → e < length p
slash_inside p e h = go (ltb e (length p)) refl
  where
    go : (b : Bool) → ltb e (length p) ≡ b → e < length p
    go true k = ltb-true e (length p) k
    go false k = let g : get_or p e 0 ≡ 0 = get_or-eq_default p 0 {n = e} (ltb-false e (length p) k) in let z : ⊥ = omega arith in absurd z

pub last_hex : (p : List ℕ) (e : ℕ) → e ≡ 3 + leading is_hex (drop 3 p) → 3 < e → is_hex (get_or p (e - 1) 0) ≡ true
last_hex p e q s =
    let l = digits_length p in
    let i : 3 + (e - 4) ≡ e - 1 = omega arith in
    ap (λ (j : ℕ). is_hex (get_or p j 0)) (sym i) ∙ digits_hex p (e - 4) (omega arith)

pub digits_inside : (p : List ℕ) (e : ℕ) → 3 ≤ length p → e ≡ 3 + leading is_hex (drop 3 p) → e ≤ length p
digits_inside p e h q = let l = leading_few is_hex (drop 3 p) in let d = length-drop 3 p in omega arith

-- what is read of the count
pub found_formed : (d : Decimal) (s : List ℕ) (from bound : ℕ) → d ≡ decimal_at s from bound → d.formed ≡ is_decimal (drop from s)
unfolding decimal_at
found_formed d s from bound e = ap (λ (x : Decimal). x.formed) e

pub found_next : (d : Decimal) (s : List ℕ) (from bound : ℕ) → d ≡ decimal_at s from bound → d.next ≡ from + digit_count (drop from s)
unfolding decimal_at
found_next d s from bound e = ap (λ (x : Decimal). x.next) e

pub next_inside : (s : List ℕ) (from next : ℕ) → next ≡ from + digit_count (drop from s) → from ≤ length s → next ≤ length s
next_inside s from next e h = let l = leading_few is_digit (drop from s) in let d = length-drop from s in omega arith

-- the count, digit by digit
module _ (p : List ℕ) (from cap i : ℕ) (v : Quarters) (t : Passed p from cap i (4 * v.whole + v.rest)) where
  pub quarter_turn : (r : Quarters) (x : ℕ) → i < length p → is_digit (get_or p i 0) ≡ true → x ≡ get_or p i 0 - 48 → Quartered ((4 * v.whole + v.rest) * 10 + x) cap r
      → Passed p from cap (i + 1) (4 * r.whole + r.rest)
  quarter_turn r x h k e q =
      let g : 4 * r.whole + r.rest ≡ min ((4 * v.whole + v.rest) * 10 + (get_or p i 0 - 48)) cap = q.is ∙ ap (λ (y : ℕ). min ((4 * v.whole + v.rest) * 10 + y) cap) e in
      rw g (passed_turn p from cap i (4 * v.whole + v.rest) t h k)

  quarter_done : v.rest < 4 → digit_count (drop i p) ≡ 0 → Quartered (decimal_of (drop from p)) cap v
  quarter_done h k = let s = (passed_stop p from cap i (4 * v.whole + v.rest) t k).1 in record { is = omega arith; rest = h }

  pub quarter_stop : v.rest < 4 → i < length p → is_digit (get_or p i 0) ≡ false → Quartered (decimal_of (drop from p)) cap v
  quarter_stop h l k = quarter_done h (stop_other p i l k)

  pub quarter_end : v.rest < 4 → length p ≤ i → Quartered (decimal_of (drop from p)) cap v
  quarter_end h l = quarter_done h (stop_end p i l)
