-- Laws of bits in octets.
use Prim.Native.Nat.{ℕ, zero, suc, ◌+◌, ◌-◌, ◌*◌, ◌/◌, ◌%◌, ◌^◌, ◌≤◌, ◌<◌, min}
use mathlib.Core.Path.{◌≡◌, refl, ap, ◌∙◌, sym}
use mathlib.Core.Bool.{Bool, true, false}
use mathlib.Core.List.{List, [], ◌∷◌, ◌++◌, append_assoc}
use lib.Dec.{ltb}
use lib.ListN.{length, get_or, take, length-append}
use lib.Pow.{shr-shr, mod-pow-add, recompose, shr_lt}
use native.Mathlib.Omega.{arith}
use native.Mathlib.Nat.{add-zero, zero-add, pow-suc, mod-one, div-one, mod-eq_of_lt}
use borrow.Author.Tests.{eq-eqb, ne_eqb, ltb-true, ltb-false}
use Rattle.octets.specs.Octets.{Small}
use Rattle.bits.specs.Bits.{bits_of, octets_for, unpack, pack_from}
use Rattle.octets.proofs.OctetLaws.{nil_of_length}

pub bits_length : (m x : ℕ) → length (bits_of m x) ≡ m
unfolding bits_of
bits_length zero x = refl
bits_length (suc m) x = ap suc (bits_length m x)

-- the highest j bits, then the lowest k
pub bits_split : (j k x : ℕ) → bits_of (j + k) x ≡ bits_of j (x / 2 ^ k) ++ bits_of k x
unfolding bits_of
bits_split zero k x = rw (zero-add k)
bits_split (suc j) k x =
    let e : suc j + k ≡ suc (j + k) = omega arith in
    let f : j + k ≡ k + j = omega arith in
    rw (e, bits_of, bits_split j k x, shr-shr x k j, f)

-- one more bit, at the high end
value_more : (m v x : ℕ) → (v * 2 + x / 2 ^ m % 2) * 2 ^ m + x % 2 ^ m ≡ v * 2 ^ suc m + x % 2 ^ suc m
value_more m v x =
    let e : 1 + m ≡ suc m = omega arith in
    let p : x % 2 ^ suc m ≡ (x / 2 ^ m % 2) * 2 ^ m + x % 2 ^ m = rw (e) at (mod-pow-add x 1 m) in
    rw (p, pow-suc) (omega arith)

-- bits that leave the octet unfilled
pub pack_some : (m h v x : ℕ) (rest : List ℕ) → h + m ≤ 7 → pack_from h v (bits_of m x ++ rest) ≡ pack_from (h + m) (v * 2 ^ m + x % 2 ^ m) rest
unfolding pack_from bits_of
pack_some zero h v x rest p =
    let e : v * 2 ^ 0 + x % 2 ^ 0 ≡ v = rw (mod-one x) (omega arith) in
    rw (add-zero h, e)
pack_some (suc m) h v x rest p =
    let e : h + 1 + m ≡ h + suc m = omega arith in
    rw (pack_from, ne_eqb h 7 (λ q. omega arith), pack_some m (h + 1) (v * 2 + x / 2 ^ m % 2) x rest (omega arith), value_more m v x, e)

-- bits that fill it
pub pack_full : (m h v x : ℕ) (rest : List ℕ) → h + suc m ≡ 8 → pack_from h v (bits_of (suc m) x ++ rest) ≡ (v * 2 ^ suc m + x % 2 ^ suc m) ∷ pack_from 0 0 rest
unfolding pack_from bits_of
pack_full zero h v x rest p =
    rw (pack_from, eq-eqb h 7 (omega arith), div-one x)
pack_full (suc m) h v x rest p =
    rw (pack_from, ne_eqb h 7 (λ q. omega arith), pack_full m (h + 1) (v * 2 + x / 2 ^ suc m % 2) x rest (omega arith), value_more (suc m) v x)

pub unpack_zero : (xs : List ℕ) → unpack 0 xs ≡ []
unfolding unpack bits_of
unpack_zero [] = refl
unpack_zero (x ∷ xs) = unpack_zero xs

-- a whole octet
pub unpack_octet : (n x : ℕ) (xs : List ℕ) → 8 ≤ n → unpack n (x ∷ xs) ≡ bits_of 8 x ++ unpack (n - 8) xs
unfolding unpack
unpack_octet n x xs h =
    let m : min 8 n ≡ 8 = omega arith in
    rw m (ap (λ (z : ℕ). bits_of 8 z ++ unpack (n - 8) xs) (div-one x))

pub unpack_length : (n : ℕ) (xs : List ℕ) → n ≤ length xs * 8 → length (unpack n xs) ≡ n
unfolding unpack
unpack_length n [] h = omega arith
unpack_length n (x ∷ xs) h =
    let a = length-append (bits_of (min 8 n) (x / 2 ^ (8 - min 8 n))) (unpack (n - 8) xs) in
    let b = bits_length (min 8 n) (x / 2 ^ (8 - min 8 n)) in
    let c = unpack_length (n - 8) xs (omega arith) in
    omega arith

-- a whole octet
unpack_full : (n x : ℕ) (xs : List ℕ) → 8 ≤ n → x < 256 → pack_from 0 0 (unpack n (x ∷ xs)) ≡ x ∷ pack_from 0 0 (unpack (n - 8) xs)
unfolding unpack
unpack_full n x xs h l =
    let m : min 8 n ≡ 8 = omega arith in
    rw (m, pack_full 7 0 0 (x / 2 ^ 0) (unpack (n - 8) xs) (omega arith), div-one x)
    (ap (λ (y : ℕ). y ∷ pack_from 0 0 (unpack (n - 8) xs)) (omega arith))

-- a part of one, with the unused bits zero
unpack_part : (n x : ℕ) (xs : List ℕ) → 0 < n → n < 8 → x < 256 → x % 2 ^ (8 - n) ≡ 0 → pack_from 0 0 (unpack n (x ∷ xs)) ≡ x ∷ []
unfolding unpack pack_from
unpack_part n x xs h k l e =
    let m : min 8 n ≡ n = omega arith in
    let z : n - 8 ≡ 0 = omega arith in
    let w : n + (8 - n) ≡ 8 = omega arith in
    let q : x < 2 ^ (n + (8 - n)) = rw w (omega arith) in
    let r = recompose n (8 - n) q in
    let v : (0 * 2 ^ n + x / 2 ^ (8 - n) % 2 ^ n) * 2 ^ (8 - n) ≡ x = omega arith in
    rw (m, z, unpack_zero xs, pack_some n 0 0 (x / 2 ^ (8 - n)) [] (omega arith), zero-add n, pack_from, ne_eqb n 0 (λ y. omega arith)) (rw (zero-add n, v))

-- Theorem: octets unpacked and packed again are the octets, where they are as many as the bits take and the unused bits are zero
pub pack_unpack : (n : ℕ) (xs : List ℕ) → Small xs → length xs ≡ octets_for n → get_or xs (octets_for n - 1) 0 % 2 ^ (octets_for n * 8 - n) ≡ 0
    → pack_from 0 0 (unpack n xs) ≡ xs
unfolding unpack pack_from
pack_unpack n [] s l c = refl
pack_unpack n (x ∷ xs) s l c = go (ltb n 8) refl (λ s' l' c'. pack_unpack (n - 8) xs s' l' c')
  where
    go : (t : Bool) → ltb n 8 ≡ t
        → (Small xs → length xs ≡ octets_for (n - 8) → get_or xs (octets_for (n - 8) - 1) 0 % 2 ^ (octets_for (n - 8) * 8 - (n - 8)) ≡ 0 → pack_from 0 0 (unpack (n - 8) xs) ≡ xs)
        → pack_from 0 0 (unpack n (x ∷ xs)) ≡ x ∷ xs
    go true e ih =
        let k : n < 8 = ltb-true n 8 e in
        let z : xs ≡ [] = nil_of_length xs (omega arith) in
        let a : octets_for n - 1 ≡ 0 = omega arith in
        let b : octets_for n * 8 - n ≡ 8 - n = omega arith in
        let u : x % 2 ^ (8 - n) ≡ 0 = rw (a, b) at c in
        unpack_part n x xs (omega arith) k (s 0) u ∙ ap (λ (ys : List ℕ). x ∷ ys) (sym z)
    go false e ih =
        let k : 8 ≤ n = ltb-false n 8 e in
        unpack_full n x xs k (s 0) ∙ ap (λ (ys : List ℕ). x ∷ ys) (go2 (ltb 8 n) refl k)
      where
        go2 : (t : Bool) → ltb 8 n ≡ t → 8 ≤ n → pack_from 0 0 (unpack (n - 8) xs) ≡ xs
        go2 true f k =
            let g : 8 < n = ltb-true 8 n f in
            let a : octets_for n - 1 ≡ suc (octets_for (n - 8) - 1) = omega arith in
            let b : octets_for n * 8 - n ≡ octets_for (n - 8) * 8 - (n - 8) = omega arith in
            let u : get_or xs (octets_for (n - 8) - 1) 0 % 2 ^ (octets_for (n - 8) * 8 - (n - 8)) ≡ 0 = rw (a, b) at c in
            ih (λ i. s (suc i)) (omega arith) u
        go2 false f k =
            let g : n ≤ 8 = ltb-false 8 n f in
            let z : xs ≡ [] = nil_of_length xs (omega arith) in
            let y : n - 8 ≡ 0 = omega arith in
            rw (y, unpack_zero xs) (sym z)

-- octets past the n bits do not matter
pub unpack_take : (n : ℕ) (xs : List ℕ) → unpack n xs ≡ unpack n (take (octets_for n) xs)
unfolding unpack
unpack_take n [] = go (octets_for n)
  where
    go : (k : ℕ) → [] ≡ unpack n (take k [])
    go zero = refl
    go (suc k) = refl
unpack_take n (x ∷ xs) = go n (λ m. unpack_take m xs)
  where
    go : (n : ℕ) → ((m : ℕ) → unpack m xs ≡ unpack m (take (octets_for m) xs)) → unpack n (x ∷ xs) ≡ unpack n (take (octets_for n) (x ∷ xs))
    go zero ih = unpack_zero (x ∷ xs)
    go (suc n) ih =
        let e : octets_for (suc n) ≡ suc (octets_for (suc n - 8)) = omega arith in
        rw e (ap (λ (ys : List ℕ). bits_of (min 8 (suc n)) (x / 2 ^ (8 - min 8 (suc n))) ++ ys) (ih (suc n - 8)))

-- a push that leaves the octet unfilled, and one that fills it
pub push_part : (m h v x : ℕ) (rest : List ℕ) → h + m < 8 → x < 2 ^ m → pack_from h v (bits_of m x ++ rest) ≡ pack_from (h + m) (v * 2 ^ m + x) rest
push_part m h v x rest p q = pack_some m h v x rest (omega arith) ∙ rw (mod-eq_of_lt q)

pub push_full : (m h v x : ℕ) (rest : List ℕ) → h < 8 → m ≤ 8 → 8 ≤ h + m → x < 2 ^ m
    → pack_from h v (bits_of m x ++ rest) ≡ (v * 2 ^ (8 - h) + x / 2 ^ (h + m - 8)) ∷ pack_from (h + m - 8) (x % 2 ^ (h + m - 8)) rest
push_full m h v x rest p q r l =
    let k = h + m - 8 in
    let e : m ≡ suc (7 - h) + k = omega arith in
    let g : suc (7 - h) ≡ 8 - h = omega arith in
    let w : x < 2 ^ (suc (7 - h) + k) = rw (← e) l in
    let z : x / 2 ^ k < 2 ^ suc (7 - h) = shr_lt (suc (7 - h)) k w in
    let y : (0 * 2 ^ k + x % 2 ^ k) ≡ x % 2 ^ k = omega arith in
    ap (λ (i : ℕ). pack_from h v (bits_of i x ++ rest)) e
    ∙ ap (λ (ys : List ℕ). pack_from h v (ys ++ rest)) (bits_split (suc (7 - h)) k x)
    ∙ ap (pack_from h v) (append_assoc (bits_of (suc (7 - h)) (x / 2 ^ k)) (bits_of k x) rest)
    ∙ pack_full (7 - h) h v (x / 2 ^ k) (bits_of k x ++ rest) (omega arith)
    ∙ ap (λ (ys : List ℕ). (v * 2 ^ suc (7 - h) + (x / 2 ^ k) % 2 ^ suc (7 - h)) ∷ ys) (pack_some k 0 0 x rest (omega arith))
    ∙ rw (mod-eq_of_lt z, y, zero-add k, g)
