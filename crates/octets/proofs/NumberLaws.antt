-- Laws of the numbers that octets write: they are as large as their octets allow, no two lists of one length write the same, and a number's octets write it.
use Prim.Native.Nat.{ℕ, zero, suc, ◌+◌, ◌-◌, ◌*◌, ◌/◌, ◌%◌, ◌^◌, ◌≤◌, ◌<◌}
use mathlib.Core.Path.{◌≡◌, refl, sym, ap, subst, ◌∙◌}
use mathlib.Core.List.{List, [], ◌∷◌, ◌++◌}
use native.Mathlib.Nat.{mod-one, mod-eq_of_lt, add-mul, mul_assoc, pow-succ'}
use native.Mathlib.Omega.{arith}
use lib.Arith.{digits_lt, digits_div, digits_mod}
use lib.ListN.{length, get_or, take, drop, length-append, length-take, length-drop}
use lib.Pow.{pow-add, mod-pow-add}
use lib.Seq.{take-add, drop-drop, drop-cons}
use Rattle.std.specs.Int.{byte_at, bytes_high_first}
use Rattle.octets.specs.Octets.{Small}
use Rattle.octets.specs.Numbers.{value_of, octets_of}
use Rattle.octets.proofs.OctetLaws.{small_take, small_drop}

pub pow_octets : (n : ℕ) → 256 ^ n ≡ 2 ^ (8 * n)
pow_octets zero = refl
pow_octets (suc n) =
    let e : 8 * suc n ≡ 8 + 8 * n = omega arith in
    rw (e, pow-add 2 8 (8 * n), ← pow_octets n) (pow-succ' 256 n)

pub value_append : (xs ys : List ℕ) → value_of (xs ++ ys) ≡ value_of xs * 256 ^ length ys + value_of ys
unfolding value_of
value_append [] ys = omega arith
value_append (x ∷ xs) ys =
    rw (length-append xs ys, pow-add 256 (length xs) (length ys), value_append xs ys, add-mul (x * 256 ^ length xs) (value_of xs) (256 ^ length ys), mul_assoc x (256 ^ length xs) (256 ^ length ys))
    (omega arith)

pub value_small : (xs : List ℕ) → Small xs → value_of xs < 256 ^ length xs
unfolding value_of
value_small [] s = omega arith
value_small (x ∷ xs) s = rw (pow-succ' 256 (length xs)) (digits_lt (s 0) (value_small xs (λ i. s (suc i))))

-- the number that n octets of a longer list write
pub value_within : (n : ℕ) (o : List ℕ) (at : ℕ) → at + n ≤ length o → Small o → value_of (take n (drop at o)) < 256 ^ n
value_within n o at h s =
    let e : length (take n (drop at o)) ≡ n = omega (arith, length-take n (drop at o), length-drop at o) in
    subst (λ (k : ℕ). value_of (take n (drop at o)) < 256 ^ k) e (value_small (take n (drop at o)) (small_take n (drop at o) (small_drop at o s)))

pub value_half : (o : List ℕ) (at : ℕ) → at + 8 ≤ length o → Small o → value_of (take 8 (drop at o)) < 2 ^ 64
value_half = value_within 8

-- Theorem: octets of one length that write the same number are the same octets
pub value_injective : (xs ys : List ℕ) → length xs ≡ length ys → Small xs → Small ys → value_of xs ≡ value_of ys → xs ≡ ys
unfolding value_of
value_injective [] [] e s t h = refl
value_injective [] (y ∷ ys) e s t h = absurd (omega arith)
value_injective (x ∷ xs) [] e s t h = absurd (omega arith)
value_injective (x ∷ xs) (y ∷ ys) e s t h =
    let n : length xs ≡ length ys = omega arith in
    let p = value_small xs (λ i. s (suc i)) in
    let q : value_of ys < 256 ^ length xs = rw n (value_small ys (λ i. t (suc i))) in
    let h' : x * 256 ^ length xs + value_of xs ≡ y * 256 ^ length xs + value_of ys = h ∙ rw (← n) in
    let d : x ≡ y = sym (digits_div x p) ∙ ap (λ (v : ℕ). v / 256 ^ length xs) h' ∙ digits_div y q in
    let r : value_of xs ≡ value_of ys = sym (digits_mod x p) ∙ ap (λ (v : ℕ). v % 256 ^ length xs) h' ∙ digits_mod y q in
    let k = value_injective xs ys n (λ i. s (suc i)) (λ i. t (suc i)) r in
    λ i. d i ∷ k i

-- ---- the octets of a number
pub octets_length : (n v : ℕ) → length (octets_of n v) ≡ n
unfolding octets_of
octets_length zero v = refl
octets_length (suc n) v = ap suc (octets_length n v)

pub octets_at : (n v i : ℕ) → i < n → get_or (octets_of n v) i 0 ≡ v / 2 ^ (8 * (n - 1 - i)) % 256
unfolding octets_of
octets_at zero v i h = absurd (omega arith)
octets_at (suc n) v zero h = let e : suc n - 1 - 0 ≡ n = omega arith in rw e
octets_at (suc n) v (suc i) h =
    let e : suc n - 1 - suc i ≡ n - 1 - i = omega arith in
    rw e (octets_at n v i (omega arith))

pub octets_small : (n v : ℕ) → Small (octets_of n v)
unfolding octets_of
octets_small zero v i = omega arith
octets_small (suc n) v zero = omega arith
octets_small (suc n) v (suc i) = octets_small n v i

pub value_octets_lem : (n v : ℕ) → value_of (octets_of n v) ≡ v % 2 ^ (8 * n)
unfolding value_of octets_of
value_octets_lem zero v = sym (mod-one v)
value_octets_lem (suc n) v =
    let e : 8 * suc n ≡ 8 + 8 * n = omega arith in
    rw (e, mod-pow-add v 8 (8 * n), octets_length n v, pow_octets n, value_octets_lem n v)

-- a number that its octets hold whole
pub value_octets_all : (n v : ℕ) → v < 2 ^ (8 * n) → value_of (octets_of n v) ≡ v
value_octets_all n v h = value_octets_lem n v ∙ mod-eq_of_lt h

-- Theorem: the octets of the number that octets write are those octets
pub octets_value : (xs : List ℕ) → Small xs → octets_of (length xs) (value_of xs) ≡ xs
octets_value xs s =
    let n = length xs in
    value_injective (octets_of n (value_of xs)) xs (octets_length n (value_of xs)) (octets_small n (value_of xs)) s
    (value_octets_lem n (value_of xs) ∙ mod-eq_of_lt (rw (← pow_octets n) (value_small xs s)))

-- the four octets of a number, one by one
pub octets_four : (v : ℕ) → v < 2 ^ 32 → octets_of 4 v ≡ v / 16777216 ∷ v / 65536 % 256 ∷ v / 256 % 256 ∷ v % 256 ∷ []
unfolding octets_of
octets_four v h =
    let a : v / 2 ^ 24 % 256 ≡ v / 16777216 = omega arith in
    let d : v / 2 ^ 0 % 256 ≡ v % 256 = omega arith in
    λ i. a i ∷ v / 65536 % 256 ∷ v / 256 % 256 ∷ d i ∷ []

-- ---- numbers read from memory
module _ (o : List ℕ) (at : ℕ) where
  pub four_octets : at + 4 ≤ length o
      → value_of (take 4 (drop at o)) ≡ ((get_or o at 0 * 256 + get_or o (at + 1) 0) * 256 + get_or o (at + 2) 0) * 256 + get_or o (at + 3) 0
  unfolding value_of
  four_octets h =
      let e1 : suc at ≡ at + 1 = omega arith in
      let e2 : suc (at + 1) ≡ at + 2 = omega arith in
      let e3 : suc (at + 2) ≡ at + 3 = omega arith in
      let d = drop-cons o at 0 (omega arith) ∙ ap (λ (k : ℕ). get_or o at 0 ∷ drop k o) e1
      ∙ ap (λ (xs : List ℕ). get_or o at 0 ∷ xs) (drop-cons o (at + 1) 0 (omega arith) ∙ ap (λ (k : ℕ). get_or o (at + 1) 0 ∷ drop k o) e2
      ∙ ap (λ (xs : List ℕ). get_or o (at + 1) 0 ∷ xs) (drop-cons o (at + 2) 0 (omega arith) ∙ ap (λ (k : ℕ). get_or o (at + 2) 0 ∷ drop k o) e3
      ∙ ap (λ (xs : List ℕ). get_or o (at + 2) 0 ∷ xs) (drop-cons o (at + 3) 0 (omega arith)))) in
      rw d (omega arith)

  pub eight_octets : at + 8 ≤ length o → value_of (take 8 (drop at o)) ≡ value_of (take 4 (drop at o)) * 2 ^ 32 + value_of (take 4 (drop (at + 4) o))
  eight_octets h =
      let n : length (take 4 (drop (at + 4) o)) ≡ 4 = omega (arith, length-take 4 (drop (at + 4) o), length-drop (at + 4) o) in
      ap value_of (take-add 4 4 (drop at o) ∙ ap (λ (xs : List ℕ). take 4 (drop at o) ++ take 4 xs) (drop-drop 4 at o))
      ∙ value_append (take 4 (drop at o)) (take 4 (drop (at + 4) o)) ∙ rw n

-- the library's octets of a number, the highest first
pub octets_high_first : (n v : ℕ) → bytes_high_first n v ≡ octets_of n v
unfolding octets_of
octets_high_first zero v = refl
octets_high_first (suc n) v = λ i. octet_at n v i ∷ octets_high_first n v i
  where
    octet_at : (n v : ℕ) → byte_at n v ≡ v / 2 ^ (8 * n) % 256
    octet_at zero v = let e : v / 1 ≡ v = omega arith in rw e refl
    octet_at (suc n) v = rw (pow_octets (suc n)) refl
