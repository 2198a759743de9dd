-- Bits packed into octets and unpacked again.
use Prim.Native.Nat.{ℕ, zero, suc, ◌+◌, ◌-◌, ◌*◌, ◌/◌, ◌%◌, ◌^◌, ◌≤◌, ◌<◌, min}
use mathlib.Core.Path.{◌≡◌, refl, ap, ◌∙◌, sym}
use mathlib.Core.Bool.{Bool, true, false}
use mathlib.Core.List.{List, [], ◌∷◌, ◌++◌, append-nil}
use lib.Dec.{ltb, eqb}
use lib.ListN.{length, get_or, take, drop, length-drop, take-append-drop}
use lib.Seq.{length-take-le}
use lib.Pow.{pow_pos, shl-shr, high, low, field, mod-mod-pow}
use lib.Arith.{digits_lt}
use native.Mathlib.Omega.{arith}
use native.Mathlib.Nat.{zero-add, add-zero, mod-eq_of_lt, pow-suc, mod-one}
use borrow.Author.Tests.{eqb-true, eqb-false, ltb-true, ltb-false, ne_eqb}
use Rattle.bits.specs.Bits.{bits_of, octets_for, unpack, pack_from, pack}
use Rattle.bits.specs.Packing.{Bits}
use Rattle.octets.proofs.OctetLaws.{nil_of_length, under_drop, under_take, under_append}
use Rattle.bits.proofs.BitLaws.{pack_some, pack_full, unpack_zero, unpack_octet}

-- a whole number of octets
pack_from_length : (h v : ℕ) (bs : List ℕ) → h < 8 → length (pack_from h v bs) ≡ (h + length bs + 7) / 8
unfolding pack_from
pack_from_length h v [] k = go (eqb h 0) refl
  where
    go : (t : Bool) → eqb h 0 ≡ t → length (pack_from h v []) ≡ (h + 0 + 7) / 8
    go true e = let z = eqb-true h 0 e in rw (pack_from, e) (omega arith)
    go false e = let z : h ≡ 0 → ⊥ = eqb-false h 0 e in rw (pack_from, e) (omega (arith, z))
pack_from_length h v (b ∷ bs) k = go (eqb h 7) refl (pack_from_length 0 0 bs (omega arith)) (λ l. pack_from_length (h + 1) (v * 2 + b) bs l)
  where
    go : (t : Bool) → eqb h 7 ≡ t → length (pack_from 0 0 bs) ≡ (0 + length bs + 7) / 8
        → (h + 1 < 8 → length (pack_from (h + 1) (v * 2 + b) bs) ≡ (h + 1 + length bs + 7) / 8) → length (pack_from h v (b ∷ bs)) ≡ (h + suc (length bs) + 7) / 8
    go true e f g = let z = eqb-true h 7 e in rw (pack_from, e) (omega arith)
    go false e f g = let z : h ≡ 7 → ⊥ = eqb-false h 7 e in let l : h + 1 < 8 = omega (arith, z) in rw (pack_from, e) (omega (arith, g l))

pub pack_length : (bs : List ℕ) → length (pack bs) ≡ octets_for (length bs)
unfolding pack
pack_length bs = rw (zero-add (length bs)) at (pack_from_length 0 0 bs (omega arith))

-- lists of bits
pub bits_drop : (k : ℕ) (bs : List ℕ) → Bits bs → Bits (drop k bs)
bits_drop = under_drop 2

pub bits_take : (k : ℕ) (bs : List ℕ) → Bits bs → Bits (take k bs)
bits_take = under_take 2

pub bits_append : (xs ys : List ℕ) → Bits xs → Bits ys → Bits (xs ++ ys)
bits_append = under_append 2

pub bits_bits : (m x : ℕ) → Bits (bits_of m x)
unfolding bits_of
bits_bits zero x i = omega arith
bits_bits (suc m) x zero = omega arith
bits_bits (suc m) x (suc i) = bits_bits m x i

pub unpack_bits : (n : ℕ) (xs : List ℕ) → Bits (unpack n xs)
unfolding unpack
unpack_bits n [] = λ i. omega arith
unpack_bits n (x ∷ xs) = bits_append (bits_of (min 8 n) (x / 2 ^ (8 - min 8 n))) (unpack (n - 8) xs) (bits_bits (min 8 n) (x / 2 ^ (8 - min 8 n))) (unpack_bits (n - 8) xs)

-- only the lowest bits count
pub bits_mod : (m n x : ℕ) → m ≤ n → bits_of m x ≡ bits_of m (x % 2 ^ n)
unfolding bits_of
bits_mod zero n x h = refl
bits_mod (suc m) n x h =
    let j = n - m - 1 in
    let e : n ≡ suc j + m = omega arith in
    let d : suc j ≡ j + 1 = omega arith in
    let f : x % 2 ^ n / 2 ^ m ≡ x / 2 ^ m % 2 ^ suc j = ap (λ (k : ℕ). x % 2 ^ k / 2 ^ m) e ∙ field x (suc j) m in
    let g : x / 2 ^ m % 2 ^ suc j % 2 ≡ x / 2 ^ m % 2 = ap (λ (k : ℕ). x / 2 ^ m % 2 ^ k % 2) d ∙ mod-mod-pow (x / 2 ^ m) j 1 in
    rw (f, g) (ap (λ (ys : List ℕ). x / 2 ^ m % 2 ∷ ys) (bits_mod m n x (omega arith)))

-- n bits are the lowest n of a number below 2 ^ n
record Number (bs : List ℕ) : Type 0 where
  value : ℕ
  small : value < 2 ^ length bs
  same : bs ≡ bits_of (length bs) value

bits_number : (bs : List ℕ) → Bits bs → Number bs
unfolding bits_of
bits_number [] h = record { value = 0; small = omega arith; same = refl }
bits_number (b ∷ bs) h =
    let ih = bits_number bs (λ i. h (suc i)) in
    let n = length bs in
    let l : b < 2 = h 0 in
    let q : (b * 2 ^ n + ih.value) / 2 ^ n ≡ b = high b n ih.small in
    let r : (b * 2 ^ n + ih.value) % 2 ^ n ≡ ih.value = low b n ih.small in
    let t : bits_of n (b * 2 ^ n + ih.value) ≡ bs = bits_mod n n (b * 2 ^ n + ih.value) (omega arith) ∙ ap (bits_of n) r ∙ sym ih.same in
    let z : b % 2 ≡ b = omega arith in
    record {
      value = b * 2 ^ n + ih.value;
      small = rw (pow-suc 2 n) (omega (arith, digits_lt l ih.small));
      same = rw (q, z, t);
    }

-- fewer than eight bits make one octet, and eight make the first
record Part-octet (bs : List ℕ) : Type 0 where
  value : ℕ
  same : bs ≡ bits_of (length bs) value
  packed : pack_from 0 0 bs ≡ (value * 2 ^ (8 - length bs)) ∷ []

pack_end : (n v : ℕ) → (n ≡ 0 → ⊥) → pack_from n v [] ≡ (v * 2 ^ (8 - n)) ∷ []
unfolding pack_from
pack_end n v h = rw (pack_from, ne_eqb n 0 h)

part_octet : (bs : List ℕ) → Bits bs → 0 < length bs → length bs < 8 → Part-octet bs
part_octet bs h p q =
    let n = length bs in
    let w = bits_number bs h in
    let v = w.value in
    let m : 0 * 2 ^ n + v % 2 ^ n ≡ v = ap (λ (k : ℕ). 0 * 2 ^ n + k) (mod-eq_of_lt w.small) ∙ omega_zero (2 ^ n) v in
    record {
      value = v;
      same = w.same;
      packed = ap (pack_from 0 0) (w.same ∙ sym (append-nil (bits_of n v))) ∙ pack_some n 0 0 v [] (omega arith)
          ∙ ap (λ (k : ℕ). pack_from k (0 * 2 ^ n + v % 2 ^ n) []) (zero-add n) ∙ ap (λ (k : ℕ). pack_from n k []) m ∙ pack_end n v (λ e. omega arith);
    }
  where
    omega_zero : (k v : ℕ) → 0 * k + v ≡ v
    omega_zero k v = omega arith

record Whole-octet (bs : List ℕ) : Type 0 where
  value : ℕ
  same : take 8 bs ≡ bits_of 8 value
  packed : pack_from 0 0 bs ≡ value ∷ pack_from 0 0 (drop 8 bs)

whole_octet : (bs : List ℕ) → Bits bs → 8 ≤ length bs → Whole-octet bs
whole_octet bs h p =
    let l : length (take 8 bs) ≡ 8 = length-take-le 8 bs p in
    let w = bits_number (take 8 bs) (bits_take 8 bs h) in
    let v = w.value in
    let t : take 8 bs ≡ bits_of 8 v = w.same ∙ ap (λ (k : ℕ). bits_of k v) l in
    let s : v < 2 ^ 8 = rw l at w.small in
    let m : 0 * 2 ^ 8 + v % 2 ^ 8 ≡ v = omega arith in
    record {
      value = v;
      same = t;
      packed = ap (pack_from 0 0) (sym (take-append-drop 8 bs) ∙ ap (λ (ys : List ℕ). ys ++ drop 8 bs) t) ∙ pack_full 7 0 0 v (drop 8 bs) (omega arith) ∙ ap (λ (k : ℕ). k ∷ pack_from 0 0 (drop 8 bs)) m;
    }

unpack_part_again : (n v : ℕ) (rest : List ℕ) → n < 8 → unpack n (v * 2 ^ (8 - n) ∷ rest) ≡ bits_of n v
unfolding unpack
unpack_part_again n v rest h =
    let m : min 8 n ≡ n = omega arith in
    let z : n - 8 ≡ 0 = omega arith in
    rw (m, z, unpack_zero rest, shl-shr v (8 - n)) (append-nil (bits_of n v))

-- Theorem: unpacking what was packed gives the bits back, whatever octets come after
pub unpack_pack : (fuel : ℕ) (bs : List ℕ) → length bs ≤ fuel → Bits bs → (rest : List ℕ) → unpack (length bs) (pack_from 0 0 bs ++ rest) ≡ bs
unpack_pack zero bs f h rest =
    let e : bs ≡ [] = nil_of_length bs (omega arith) in
    rw e (unpack_zero (pack_from 0 0 [] ++ rest))
unpack_pack (suc fuel) bs f h rest = go (ltb (length bs) 8) refl (λ g. unpack_pack fuel (drop 8 bs) g (bits_drop 8 bs h) rest)
  where
    go : (t : Bool) → ltb (length bs) 8 ≡ t → (length (drop 8 bs) ≤ fuel → unpack (length (drop 8 bs)) (pack_from 0 0 (drop 8 bs) ++ rest) ≡ drop 8 bs)
        → unpack (length bs) (pack_from 0 0 bs ++ rest) ≡ bs
    go true e ih = few (length bs) refl
      where
        few : (n : ℕ) → length bs ≡ n → unpack (length bs) (pack_from 0 0 bs ++ rest) ≡ bs
        few zero g = let k : bs ≡ [] = nil_of_length bs g in rw k (unpack_zero (pack_from 0 0 [] ++ rest))
        few (suc n) g =
            let w = part_octet bs h (omega arith) (ltb-true (length bs) 8 e) in
            ap (λ (ys : List ℕ). unpack (length bs) (ys ++ rest)) w.packed ∙ unpack_part_again (length bs) w.value rest (ltb-true (length bs) 8 e) ∙ sym w.same
    go false e ih =
        let k : 8 ≤ length bs = ltb-false (length bs) 8 e in
        let w = whole_octet bs h k in
        let l : length (drop 8 bs) ≡ length bs - 8 = length-drop 8 bs in
        let i : unpack (length bs - 8) (pack_from 0 0 (drop 8 bs) ++ rest) ≡ drop 8 bs = rw l at (ih (omega arith)) in
        ap (λ (ys : List ℕ). unpack (length bs) (ys ++ rest)) w.packed ∙ unpack_octet (length bs) w.value (pack_from 0 0 (drop 8 bs) ++ rest) k
        ∙ ap (λ (ys : List ℕ). bits_of 8 w.value ++ ys) i ∙ ap (λ (ys : List ℕ). ys ++ drop 8 bs) (sym w.same) ∙ take-append-drop 8 bs

-- and the unused bits are zero
pub pack_clear : (fuel : ℕ) (bs : List ℕ) → length bs ≤ fuel → Bits bs → 0 < length bs
    → get_or (pack_from 0 0 bs) (octets_for (length bs) - 1) 0 % 2 ^ (octets_for (length bs) * 8 - length bs) ≡ 0
pack_clear zero bs f h p = let z : ⊥ = omega arith in absurd z
pack_clear (suc fuel) bs f h p = go (ltb (length bs) 8) refl (λ g q. pack_clear fuel (drop 8 bs) g (bits_drop 8 bs h) q)
  where
    go : (t : Bool) → ltb (length bs) 8 ≡ t
        → (length (drop 8 bs) ≤ fuel → 0 < length (drop 8 bs) → get_or (pack_from 0 0 (drop 8 bs)) (octets_for (length (drop 8 bs)) - 1) 0 % 2 ^ (octets_for (length (drop 8 bs)) * 8 - length (drop 8 bs)) ≡ 0)
        → get_or (pack_from 0 0 bs) (octets_for (length bs) - 1) 0 % 2 ^ (octets_for (length bs) * 8 - length bs) ≡ 0
    go true e ih =
        let k : length bs < 8 = ltb-true (length bs) 8 e in
        let w = part_octet bs h p k in
        let a : octets_for (length bs) - 1 ≡ 0 = omega arith in
        let b : octets_for (length bs) * 8 - length bs ≡ 8 - length bs = omega arith in
        let z : (w.value * 2 ^ (8 - length bs) + 0) % 2 ^ (8 - length bs) ≡ 0 = low w.value (8 - length bs) (pow_pos (8 - length bs)) in
        let y : w.value * 2 ^ (8 - length bs) + 0 ≡ w.value * 2 ^ (8 - length bs) = add-zero (w.value * 2 ^ (8 - length bs)) in
        rw (w.packed, a, b) (rw y at z)
    go false e ih =
        let k : 8 ≤ length bs = ltb-false (length bs) 8 e in
        let w = whole_octet bs h k in
        let l : length (drop 8 bs) ≡ length bs - 8 = length-drop 8 bs in
        more_octets (ltb 8 (length bs)) refl
      where
        more_octets : (t : Bool) → ltb 8 (length bs) ≡ t → get_or (pack_from 0 0 bs) (octets_for (length bs) - 1) 0 % 2 ^ (octets_for (length bs) * 8 - length bs) ≡ 0
        more_octets true g =
            let m : 8 < length bs = ltb-true 8 (length bs) g in
            let w = whole_octet bs h (omega arith) in
            let l : length (drop 8 bs) ≡ length bs - 8 = length-drop 8 bs in
            let i = ih (omega arith) (omega arith) in
            let a : octets_for (length bs) - 1 ≡ suc (octets_for (length (drop 8 bs)) - 1) = omega arith in
            let b : octets_for (length bs) * 8 - length bs ≡ octets_for (length (drop 8 bs)) * 8 - length (drop 8 bs) = omega arith in
            rw (w.packed, a, b) i
        more_octets false g =
            let m : length bs ≤ 8 = ltb-false 8 (length bs) g in
            let b : octets_for (length bs) * 8 - length bs ≡ 0 = omega (arith, ltb-false (length bs) 8 e) in
            rw b (mod-one _)
