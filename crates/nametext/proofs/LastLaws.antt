-- The unused bits of a bit label's last octet are those of its last hex digit.
use Prim.Native.Nat.{ℕ, zero, suc, ◌+◌, ◌-◌, ◌*◌, ◌/◌, ◌%◌, ◌^◌, ◌≤◌, ◌<◌}
use mathlib.Core.Path.{◌≡◌, refl, ap, ◌∙◌, sym}
use mathlib.Core.Bool.{Bool, true, false}
use mathlib.Core.List.{List, [], ◌∷◌}
use lib.Dec.{eqb}
use lib.ListN.{length, get_or}
use native.Mathlib.Omega.{arith}
use borrow.Author.Tests.{eq-eqb, ne_eqb, eqb-true, eqb-false}
use Rattle.bits.specs.Bits.{octets_for}
use Rattle.nametext.specs.Writing.{digits_for}
use Rattle.nametext.specs.Reading.{paired, rest_clear}

-- the octets of values, by place
paired_two : (ds : List ℕ) (m : ℕ) → 2 * m + 1 < length ds → get_or (paired ds) m 0 ≡ get_or ds (2 * m) 0 * 16 + get_or ds (2 * m + 1) 0
unfolding paired
paired_two [] m h = let z : ⊥ = omega arith in absurd z
paired_two (x ∷ []) m h = let z : ⊥ = omega arith in absurd z
paired_two (x ∷ y ∷ zs) zero h = refl
paired_two (x ∷ y ∷ zs) (suc m) h =
    let a : 2 * suc m ≡ suc (suc (2 * m)) = omega arith in
    let b : 2 * suc m + 1 ≡ suc (suc (2 * m + 1)) = omega arith in
    rw (b, a) (paired_two zs m (omega arith))

paired_one : (ds : List ℕ) (m : ℕ) → length ds ≡ 2 * m + 1 → get_or (paired ds) m 0 ≡ get_or ds (2 * m) 0 * 16
unfolding paired
paired_one [] m h = let z : ⊥ = omega arith in absurd z
paired_one (x ∷ []) zero h = refl
paired_one (x ∷ []) (suc m) h = let z : ⊥ = omega arith in absurd z
paired_one (x ∷ y ∷ zs) zero h = let z : ⊥ = omega arith in absurd z
paired_one (x ∷ y ∷ zs) (suc m) h =
    let a : 2 * suc m ≡ suc (suc (2 * m)) = omega arith in
    rw a (paired_one zs m (omega arith))

-- fewer than four bits of an octet's right digit, and of its left one
right_bits : (j a b : ℕ) → j < 4 → (a * 16 + b) % 2 ^ j ≡ b % 2 ^ j
right_bits zero a b h = omega arith
right_bits (suc zero) a b h = omega arith
right_bits (suc (suc zero)) a b h = omega arith
right_bits (suc (suc (suc zero))) a b h = omega arith
right_bits (suc (suc (suc (suc j)))) a b h = let z : ⊥ = omega arith in absurd z

left_bits : (j a : ℕ) → j < 4 → (a * 16) % 2 ^ (4 + j) ≡ a % 2 ^ j * 16
left_bits zero a h = omega arith
left_bits (suc zero) a h = omega arith
left_bits (suc (suc zero)) a h = omega arith
left_bits (suc (suc (suc zero))) a h = omega arith
left_bits (suc (suc (suc (suc j)))) a h = let z : ⊥ = omega arith in absurd z

sixteen_zero : (x : ℕ) → eqb (x * 16) 0 ≡ eqb x 0
sixteen_zero x = go (eqb x 0) refl
  where
    go : (t : Bool) → eqb x 0 ≡ t → eqb (x * 16) 0 ≡ eqb x 0
    go true e = let z = eqb-true x 0 e in eq-eqb (x * 16) 0 (omega arith) ∙ sym e
    go false e = let z : x ≡ 0 → ⊥ = eqb-false x 0 e in ne_eqb (x * 16) 0 (λ y. z (omega arith)) ∙ sym e

-- how many octets go with an even and with an odd number of digits
even_octets : (n k q : ℕ) → k ≡ digits_for n → k ≡ 2 * q → (octets_for n ≡ q) × (n ≤ 4 * k) × (4 * k ≤ n + 3)
even_octets n k q e f =
    let a : n ≤ 4 * k = omega arith in
    let b : 4 * k ≤ n + 3 = omega arith in
    let c : n ≤ 8 * q = omega arith in
    let d : 8 * q ≤ n + 3 = omega arith in
    (octets_are n q c d, a, b)
  where
    octets_are : (n q : ℕ) → n ≤ 8 * q → 8 * q ≤ n + 3 → octets_for n ≡ q
    octets_are n q c d = omega arith

odd_octets : (n k q : ℕ) → k ≡ digits_for n → k ≡ 2 * q + 1 → (octets_for n ≡ q + 1) × (n ≤ 4 * k) × (4 * k ≤ n + 3)
odd_octets n k q e f =
    let a : n ≤ 4 * k = omega arith in
    let b : 4 * k ≤ n + 3 = omega arith in
    let c : n ≤ 8 * q + 4 = omega arith in
    let d : 8 * q + 1 ≤ n = omega arith in
    (octets_are n q c d, a, b)
  where
    octets_are : (n q : ℕ) → n ≤ 8 * q + 4 → 8 * q + 1 ≤ n → octets_for n ≡ q + 1
    octets_are n q c d = omega arith

even_rest : (n m : ℕ) (ds : List ℕ) → length ds ≡ 2 * m + 2 → octets_for n ≡ m + 1 → n ≤ 8 * m + 8 → 8 * m + 8 ≤ n + 3
    → rest_clear n (paired ds) ≡ eqb (get_or ds (2 * m + 1) 0 % 2 ^ (8 * m + 8 - n)) 0
unfolding rest_clear
even_rest n m ds l o h k =
    let a : octets_for n - 1 ≡ m = omega arith in
    let b : octets_for n * 8 - n ≡ 8 * m + 8 - n = omega arith in
    rw (a, b, paired_two ds m (omega arith), right_bits (8 * m + 8 - n) (get_or ds (2 * m) 0) (get_or ds (2 * m + 1) 0) (omega arith))

odd_rest : (n m : ℕ) (ds : List ℕ) → length ds ≡ 2 * m + 1 → octets_for n ≡ m + 1 → n ≤ 8 * m + 4 → 8 * m + 4 ≤ n + 3
    → rest_clear n (paired ds) ≡ eqb (get_or ds (2 * m) 0 % 2 ^ (8 * m + 4 - n)) 0
unfolding rest_clear
odd_rest n m ds l o h k =
    let a : octets_for n - 1 ≡ m = omega arith in
    let b : octets_for n * 8 - n ≡ 4 + (8 * m + 4 - n) = omega arith in
    rw (a, b, paired_one ds m l, left_bits (8 * m + 4 - n) (get_or ds (2 * m) 0) (omega arith)) (sixteen_zero (get_or ds (2 * m) 0 % 2 ^ (8 * m + 4 - n)))

abbrev last_clear : ℕ → List ℕ → ℕ → ℕ → Bool
last_clear n ds i j = eqb (get_or ds i 0 % 2 ^ j) 0

pub rest_last : (n : ℕ) (ds : List ℕ) → 0 < n → length ds ≡ digits_for n → rest_clear n (paired ds) ≡ eqb (get_or ds (length ds - 1) 0 % 2 ^ (4 * length ds - n)) 0
rest_last n ds p l = go (eqb (length ds % 2) 0) refl
  where
    even : (k m : ℕ) → length ds ≡ k → k ≡ 2 * m + 2 → k ≡ digits_for n → rest_clear n (paired ds) ≡ last_clear n ds (length ds - 1) (4 * length ds - n)
    even k m e f g =
        let q : k ≡ 2 * (m + 1) = omega arith in
        let o = even_octets n k (m + 1) g q in
        let i : 2 * m + 1 ≡ length ds - 1 = omega arith in
        let j : 8 * m + 8 - n ≡ 4 * length ds - n = omega arith in
        even_rest n m ds (e ∙ f) o.0 (omega arith) (omega arith) ∙ ap (λ (x : ℕ). last_clear n ds x (8 * m + 8 - n)) i ∙ ap (last_clear n ds (length ds - 1)) j

    odd : (k m : ℕ) → length ds ≡ k → k ≡ 2 * m + 1 → k ≡ digits_for n → rest_clear n (paired ds) ≡ last_clear n ds (length ds - 1) (4 * length ds - n)
    odd k m e f g =
        let o = odd_octets n k m g f in
        let i : 2 * m ≡ length ds - 1 = omega arith in
        let j : 8 * m + 4 - n ≡ 4 * length ds - n = omega arith in
        odd_rest n m ds (e ∙ f) o.0 (omega arith) (omega arith) ∙ ap (λ (x : ℕ). last_clear n ds x (8 * m + 4 - n)) i ∙ ap (last_clear n ds (length ds - 1)) j

    go : (t : Bool) → eqb (length ds % 2) 0 ≡ t → rest_clear n (paired ds) ≡ eqb (get_or ds (length ds - 1) 0 % 2 ^ (4 * length ds - n)) 0
    go true e =
        let z = eqb-true (length ds % 2) 0 e in
        even (length ds) (length ds / 2 - 1) refl (omega arith) l
    go false e =
        let z : length ds % 2 ≡ 0 → ⊥ = eqb-false (length ds % 2) 0 e in
        odd (length ds) (length ds / 2) refl (omega (arith, z)) l
