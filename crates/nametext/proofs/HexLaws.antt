-- The bits of hex digits, digit by digit, and how they are packed.
use Prim.Native.Nat.{ℕ, zero, suc, ◌+◌, ◌-◌, ◌*◌, ◌/◌, ◌%◌, ◌^◌, ◌≤◌, ◌<◌, min}
use mathlib.Core.Path.{◌≡◌, refl, ap, ◌∙◌, sym}
use mathlib.Core.Bool.{Bool, true, false}
use mathlib.Core.List.{List, [], ◌∷◌, ◌++◌, map, append_assoc, append-nil}
use lib.Dec.{ltb}
use lib.ListN.{length, get_or, drop, length-map, length-drop}
use native.Mathlib.Omega.{arith}
use borrow.Author.Tests.{ltb-true, ltb-false}
use Rattle.bits.specs.Bits.{bits_of, unpack}
use Rattle.bits.specs.Packing.{Ready, Pushed}
use Rattle.bits.specs.declared.inside.Packer.{Packer}
use Rattle.bits.proofs.BitLaws.{bits_length, bits_split, unpack_octet, unpack_length}
use Rattle.bits.proofs.PackingLaws.{bits_mod}
use Rattle.bits.proofs.UnpackLaws.{unpack_top}
use Rattle.bits.proofs.PackLaws.{Level, level_push, ready_after, ready_less}
use Rattle.text.specs.Digits.{digit_in, is_hex, leading}
use Rattle.text.proofs.PlaceLaws.{from_place}
use Rattle.nametext.specs.Writing.{digits_for}
use Rattle.nametext.specs.Reading.{paired, digits_in, bit_octets}
use Rattle.nametext.specs.Places.{hex_bits}
use Rattle.text.proofs.LeadingLaws.{leading_few}
use Rattle.nametext.proofs.BitPartLaws.{paired_length, digits_length, digits_at, digits_hex}

-- one digit
hex_none : (cs : List ℕ) → hex_bits 0 cs ≡ []
unfolding hex_bits bits_of
hex_none [] = refl
hex_none (c ∷ cs) = hex_none cs

hex_full : (n c : ℕ) (cs : List ℕ) → 4 ≤ n → hex_bits n (c ∷ cs) ≡ bits_of 4 (digit_in c) ++ hex_bits (n - 4) cs
unfolding hex_bits
hex_full n c cs h =
    let e : min 4 n ≡ 4 = omega arith in
    let d : digit_in c / 1 ≡ digit_in c = omega arith in
    rw (hex_bits, e, d)

hex_part : (n c : ℕ) (cs : List ℕ) → n < 4 → hex_bits n (c ∷ cs) ≡ bits_of n (digit_in c / 2 ^ (4 - n))
unfolding hex_bits
hex_part n c cs h =
    let e : min 4 n ≡ n = omega arith in
    let d : n - 4 ≡ 0 = omega arith in
    rw (hex_bits, e, d, hex_none cs) (append-nil (bits_of n (digit_in c / 2 ^ (4 - n))))

-- two digits in an octet
whole_octet : (x y : ℕ) → y < 16 → bits_of 8 (x * 16 + y) ≡ bits_of 4 x ++ bits_of 4 y
whole_octet x y h =
    let a : (x * 16 + y) / 16 ≡ x = omega arith in
    let b : (x * 16 + y) % 16 ≡ y % 16 = omega arith in
    bits_split 4 4 (x * 16 + y) ∙ rw a (ap (λ (bs : List ℕ). bits_of 4 x ++ bs) (bits_mod 4 4 (x * 16 + y) (omega arith) ∙ ap (bits_of 4) b ∙ sym (bits_mod 4 4 y (omega arith))))

left_digit : (n x y : ℕ) → n < 4 → y < 16 → (x * 16 + y) / 2 ^ (8 - n) ≡ x / 2 ^ (4 - n)
left_digit zero x y h k = omega arith
left_digit (suc zero) x y h k = omega arith
left_digit (suc (suc zero)) x y h k = omega arith
left_digit (suc (suc (suc zero))) x y h k = omega arith
left_digit (suc (suc (suc (suc n)))) x y h k = let z : ⊥ = omega arith in absurd z

right_digit : (k x y : ℕ) → k < 4 → y < 16 → ((x * 16 + y) / 2 ^ (4 - k) / 2 ^ k ≡ x) × ((x * 16 + y) / 2 ^ (4 - k) % 2 ^ k ≡ y / 2 ^ (4 - k) % 2 ^ k)
right_digit zero x y h l = (omega arith, omega arith)
right_digit (suc zero) x y h l = (omega arith, omega arith)
right_digit (suc (suc zero)) x y h l = (omega arith, omega arith)
right_digit (suc (suc (suc zero))) x y h l = (omega arith, omega arith)
right_digit (suc (suc (suc (suc k)))) x y h l = let z : ⊥ = omega arith in absurd z

part_octet : (k x y : ℕ) → k < 4 → y < 16 → bits_of (4 + k) ((x * 16 + y) / 2 ^ (4 - k)) ≡ bits_of 4 x ++ bits_of k (y / 2 ^ (4 - k))
part_octet k x y h l =
    let d = right_digit k x y h l in
    let w = (x * 16 + y) / 2 ^ (4 - k) in
    bits_split 4 k w ∙ ap (λ (v : ℕ). bits_of 4 v ++ bits_of k w) d.0
    ∙ ap (λ (bs : List ℕ). bits_of 4 x ++ bs) (bits_mod k k w (omega arith) ∙ ap (bits_of k) d.1 ∙ sym (bits_mod k k (y / 2 ^ (4 - k)) (omega arith)))

-- each is a hex digit
abbrev Hexes : List ℕ → Type 0
Hexes cs = (i : ℕ) → i < length cs → digit_in (get_or cs i 0) < 16

hex_unpack : (n : ℕ) (cs : List ℕ) → Hexes cs → n ≤ 4 * length cs → unpack n (paired (map digit_in cs)) ≡ hex_bits n cs
unfolding paired unpack hex_bits
hex_unpack n [] s h = refl
hex_unpack n (c ∷ []) s h = go (ltb n 4) refl
  where
    go : (b : Bool) → ltb n 4 ≡ b → unpack n (digit_in c * 16 ∷ []) ≡ hex_bits n (c ∷ [])
    go true e =
        let k = ltb-true n 4 e in
        let z : digit_in c * 16 ≡ digit_in c * 16 + 0 = omega arith in
        unpack_top n (digit_in c * 16) [] (omega arith) ∙ ap (bits_of n) (ap (λ (v : ℕ). v / 2 ^ (8 - n)) z ∙ left_digit n (digit_in c) 0 k (omega arith)) ∙ sym (hex_part n c [] k)
    go false e =
        let k = ltb-false n 4 e in
        let f : n ≡ 4 = omega arith in
        let z : digit_in c * 16 / 16 ≡ digit_in c = omega arith in
        rw f (unpack_top 4 (digit_in c * 16) [] (omega arith) ∙ ap (bits_of 4) z ∙ sym (append-nil (bits_of 4 (digit_in c))) ∙ sym (hex_full 4 c [] (omega arith)))
hex_unpack n (c ∷ d ∷ es) s h = go (ltb n 8) refl (ltb n 4) refl (hex_unpack (n - 8) es (λ i k. s (suc (suc i)) (omega arith)) (omega arith))
  where
    go : (b : Bool) → ltb n 8 ≡ b → (a : Bool) → ltb n 4 ≡ a → unpack (n - 8) (paired (map digit_in es)) ≡ hex_bits (n - 8) es
        → unpack n ((digit_in c * 16 + digit_in d) ∷ paired (map digit_in es)) ≡ hex_bits n (c ∷ d ∷ es)
    go true e true f ih =
        let k = ltb-true n 4 f in
        unpack_top n (digit_in c * 16 + digit_in d) (paired (map digit_in es)) (omega arith)
        ∙ ap (bits_of n) (left_digit n (digit_in c) (digit_in d) k (s 1 (omega arith))) ∙ sym (hex_part n c (d ∷ es) k)
    go true e false f ih =
        let j = ltb-true n 8 e in
        let k = ltb-false n 4 f in
        let m : n ≡ 4 + (n - 4) = omega arith in
        let w : 8 - n ≡ 4 - (n - 4) = omega arith in
        unpack_top n (digit_in c * 16 + digit_in d) (paired (map digit_in es)) j
        ∙ ap (λ (v : ℕ). bits_of n ((digit_in c * 16 + digit_in d) / 2 ^ v)) w
        ∙ ap (λ (v : ℕ). bits_of v ((digit_in c * 16 + digit_in d) / 2 ^ (4 - (n - 4)))) m
        ∙ part_octet (n - 4) (digit_in c) (digit_in d) (omega arith) (s 1 (omega arith))
        ∙ ap (λ (bs : List ℕ). bits_of 4 (digit_in c) ++ bs) (sym (hex_part (n - 4) d es (omega arith)))
        ∙ sym (hex_full n c (d ∷ es) (omega arith))
    go false e a f ih =
        let j = ltb-false n 8 e in
        let w : n - 8 ≡ n - 4 - 4 = omega arith in
        unpack_octet n (digit_in c * 16 + digit_in d) (paired (map digit_in es)) j
        ∙ ap (λ (bs : List ℕ). bs ++ unpack (n - 8) (paired (map digit_in es))) (whole_octet (digit_in c) (digit_in d) (s 1 (omega arith)))
        ∙ append_assoc (bits_of 4 (digit_in c)) (bits_of 4 (digit_in d)) (unpack (n - 8) (paired (map digit_in es)))
        ∙ ap (λ (bs : List ℕ). bits_of 4 (digit_in c) ++ (bits_of 4 (digit_in d) ++ bs)) (ih ∙ ap (λ (v : ℕ). hex_bits v es) w)
        ∙ ap (λ (bs : List ℕ). bits_of 4 (digit_in c) ++ bs) (sym (hex_full (n - 4) d es (omega arith)))
        ∙ sym (hex_full n c (d ∷ es) (omega arith))

-- the last bits of a digit
pub digit_small : (x n : ℕ) → x < 16 → n < 4 → x / 2 ^ (4 - n) < 2 ^ n
digit_small x zero h k = omega arith
digit_small x (suc zero) h k = omega arith
digit_small x (suc (suc zero)) h k = omega arith
digit_small x (suc (suc (suc zero))) h k = omega arith
digit_small x (suc (suc (suc (suc n)))) h k = let z : ⊥ = omega arith in absurd z

-- the loop over a label's digits: what it keeps
pub record Hexing (p old new : List ℕ) (n : ℕ) (s q : Packer) (i left : ℕ) : Type 0 where
  pub level : Level old new s q (unpack n (bit_octets p)) (hex_bits left (drop (i - 3) (digits_in p)))
  pub ready : Ready new q left
  pub place : q.to * 8 + q.have + left ≡ s.to * 8 + s.have + n
  pub low : 3 ≤ i
  pub inside : i + digits_for left ≤ 3 + length (digits_in p)
  pub same : length new ≡ length old

module _ (p : List ℕ) (n : ℕ) (d : digits_for n ≤ leading is_hex (drop 3 p)) where
  sizes : (n ≤ 4 * length (digits_in p)) × (n ≤ length (bit_octets p) * 8)
  unfolding bit_octets
  sizes =
      let l = digits_length p in
      let m = paired_length (map digit_in (digits_in p)) in
      let k = length-map (digits_in p) digit_in in
      (omega arith, omega arith)

  pub bits_are : unpack n (bit_octets p) ≡ hex_bits n (digits_in p)
  unfolding bit_octets
  bits_are = hex_unpack n (digits_in p) (λ i k. rw (digits_at p i k) (ltb-true (digit_in (get_or p (3 + i) 0)) 16 (digits_hex p i k))) sizes.0

  pub bits_many : length (unpack n (bit_octets p)) ≡ n
  bits_many = unpack_length n (bit_octets p) sizes.1

  pub hexing_start : (out : List ℕ) (s : Packer) → Ready out s n → Hexing p out out n s s 3 n
  hexing_start out s r =
      let l = digits_length p in
      record {
        level = λ rest. rw bits_are;
        ready = r;
        place = refl;
        low = omega arith;
        inside = omega arith;
        same = refl;
      }

  module _ (old new : List ℕ) (s q : Packer) (i left : ℕ) (x : Hexing p old new n s q i left) where
    pub hexing_there : 0 < left → i < length p
    hexing_there h =
        let l = digits_length p in
        let w = leading_few is_hex (drop 3 p) in
        let m = length-drop 3 p in
        omega (arith, x.inside, x.low)

    pub hexing_hex : 0 < left → is_hex (get_or p i 0) ≡ true
    hexing_hex h =
        let e : 3 + (i - 3) ≡ i = omega (arith, x.low) in
        ap (λ (j : ℕ). is_hex (get_or p j 0)) (sym e) ∙ digits_hex p (i - 3) (omega (arith, x.inside, x.low))

    first : 0 < left → drop (i - 3) (digits_in p) ≡ get_or p i 0 ∷ drop (i + 1 - 3) (digits_in p)
    first h =
        let k : i - 3 < length (digits_in p) = omega (arith, x.inside, x.low) in
        let e : 3 + (i - 3) ≡ i = omega (arith, x.low) in
        let f : i - 3 + 1 ≡ i + 1 - 3 = omega (arith, x.low) in
        from_place (digits_in p) (i - 3) k ∙ ap (λ (c : ℕ). c ∷ drop (i - 3 + 1) (digits_in p)) (digits_at p (i - 3) k ∙ ap (λ (j : ℕ). get_or p j 0) e)
        ∙ ap (λ (j : ℕ). get_or p i 0 ∷ drop j (digits_in p)) f

    pub hexing_turn : (next : List ℕ) (r : Packer) → 4 ≤ left → Pushed new next q r (bits_of 4 (digit_in (get_or p i 0))) → length next ≡ length new → Hexing p old next n s r (i + 1) (left - 4)
    hexing_turn next r h t l =
        let v = digit_in (get_or p i 0) in
        let b = bits_length 4 v in
        record {
          level = level_push old new next s q r (unpack n (bit_octets p)) (hex_bits left (drop (i - 3) (digits_in p))) (hex_bits (left - 4) (drop (i + 1 - 3) (digits_in p))) (bits_of 4 v) x.level t
              (ap (hex_bits left) (first (omega arith)) ∙ hex_full left (get_or p i 0) (drop (i + 1 - 3) (digits_in p)) h);
          ready = ready_after new next q r (bits_of 4 v) (left - 4) t l (ready_less new q (length (bits_of 4 v) + (left - 4)) left (omega arith) x.ready);
          place = omega (arith, x.place, t.place);
          low = omega (arith, x.low);
          inside = omega (arith, x.inside);
          same = l ∙ x.same;
        }

    pub hexing_none : left ≡ 0 → Pushed old new s q (unpack n (bit_octets p))
    hexing_none h =
        let b = bits_many in
        let e : hex_bits left (drop (i - 3) (digits_in p)) ≡ [] = ap (λ (k : ℕ). hex_bits k (drop (i - 3) (digits_in p))) h ∙ hex_none (drop (i - 3) (digits_in p)) in
        let l : Level old new s q (unpack n (bit_octets p)) [] = rw e at x.level in
        record { adds = l; clean = x.ready.clean; have = x.ready.have; value = x.ready.value; place = omega (arith, x.place) }

    pub hexing_last : (next : List ℕ) (r : Packer) → 0 < left → left < 4 → Pushed new next q r (bits_of left (digit_in (get_or p i 0) / 2 ^ (4 - left)))
        → Pushed old next s r (unpack n (bit_octets p))
    hexing_last next r g h t =
        let v = digit_in (get_or p i 0) / 2 ^ (4 - left) in
        let b = bits_many in
        let c = bits_length left v in
        let w = level_push old new next s q r (unpack n (bit_octets p)) (hex_bits left (drop (i - 3) (digits_in p))) [] (bits_of left v) x.level t
        (ap (hex_bits left) (first g) ∙ hex_part left (get_or p i 0) (drop (i + 1 - 3) (digits_in p)) h ∙ sym (append-nil (bits_of left v))) in
        record { adds = w; clean = t.clean; have = t.have; value = t.value; place = omega (arith, x.place, t.place) }
