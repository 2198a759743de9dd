-- Laws of zeros and of lists of octets.
use Prim.Native.Nat.{ℕ, zero, suc, ◌+◌, ◌-◌, ◌≤◌, ◌<◌, min}
use mathlib.Core.Path.{◌≡◌, refl, sym, ap, subst}
use mathlib.Core.List.{List, [], ◌∷◌, ◌++◌}
use lib.ListN.{length, take, drop, set, replicate, length-replicate}
use lib.Seq.{take-take, get_or-drop}
use native.Mathlib.Omega.{arith}
use native.Mathlib.Nat.{sub-zero, suc-sub-suc, not-suc-le-zero, le_of_suc-le-suc}
use native.Mathlib.Numerals.{add-one}
use Rattle.octets.specs.Octets.{blank, Small}
use Rattle.octets.specs.Each.{Under}

pub length_blank : (n : ℕ) → length (blank n) ≡ n
unfolding blank
length_blank n = length-replicate n 0

pub drop_blank : (k n : ℕ) → drop k (blank n) ≡ blank (n - k)
unfolding blank
drop_blank zero n = rw sub-zero
drop_blank (suc k) zero = let e : 0 - suc k ≡ 0 = omega arith in rw e
drop_blank (suc k) (suc n) = rw suc-sub-suc (drop_blank k n)

-- a list that is filled with v from the front, one store a turn
pub fill_turn : {A : Type 0} (n : ℕ) (v : A) (xs : List A) → n < length xs → set (replicate n v ++ drop n xs) n v ≡ replicate (n + 1) v ++ drop (n + 1) xs
fill_turn {A = A} n v xs l = subst (λ (k : ℕ). set (replicate n v ++ drop n xs) n v ≡ replicate k v ++ drop k xs) (sym (add-one n)) (go n xs l)
  where
    go : (n : ℕ) (xs : List A) → n < length xs → set (replicate n v ++ drop n xs) n v ≡ replicate (suc n) v ++ drop (suc n) xs
    go n [] l = absurd (not-suc-le-zero l)
    go zero (x ∷ xs) l = refl
    go (suc n) (x ∷ xs) l = ap (λ (t : List A). v ∷ t) (go n xs (le_of_suc-le-suc l))

-- what is left from a place on, or from the end where the place is past it
pub drop_min : {A : Type 0} (k : ℕ) (xs : List A) → drop (min k (length xs)) xs ≡ drop k xs
drop_min zero xs = let e : min 0 (length xs) ≡ 0 = omega arith in rw e refl
drop_min (suc k) [] = let e : min (suc k) 0 ≡ 0 = omega arith in rw e refl
drop_min (suc k) (x ∷ xs) = let e : min (suc k) (suc (length xs)) ≡ suc (min k (length xs)) = omega arith in rw e (drop_min k xs)

-- lists of numbers below n
module _ (n : ℕ) where
  pub under_drop : (k : ℕ) (xs : List ℕ) → Under n xs → Under n (drop k xs)
  under_drop k xs h i = rw (get_or-drop k xs i 0) (h (k + i))

  pub under_take : (k : ℕ) (xs : List ℕ) → Under n xs → Under n (take k xs)
  under_take zero xs h i = omega (arith, h 0)
  under_take (suc k) [] h i = h 0
  under_take (suc k) (x ∷ xs) h zero = h 0
  under_take (suc k) (x ∷ xs) h (suc i) = under_take k xs (λ j. h (suc j)) i

  pub under_cons : (x : ℕ) (xs : List ℕ) → x < n → Under n xs → Under n (x ∷ xs)
  under_cons x xs h k zero = h
  under_cons x xs h k (suc i) = k i

  pub under_append : (xs ys : List ℕ) → Under n xs → Under n ys → Under n (xs ++ ys)
  under_append [] ys h k i = k i
  under_append (x ∷ xs) ys h k zero = h 0
  under_append (x ∷ xs) ys h k (suc i) = under_append xs ys (λ j. h (suc j)) k i

-- octets
pub small_drop : (k : ℕ) (xs : List ℕ) → Small xs → Small (drop k xs)
small_drop = under_drop 256

pub small_take : (k : ℕ) (xs : List ℕ) → Small xs → Small (take k xs)
small_take = under_take 256

pub nil_of_length : (xs : List ℕ) → length xs ≡ 0 → xs ≡ []
nil_of_length [] h = refl
nil_of_length (x ∷ xs) h = let z : ⊥ = omega arith in absurd z

-- a part of a part
pub take_drop_take : (n k m : ℕ) (l : List ℕ) → k + n ≤ m → take n (drop k (take m l)) ≡ take n (drop k l)
take_drop_take n zero m l h = take-take n m l (omega arith)
take_drop_take n (suc k) zero l h = let z : ⊥ = omega arith in absurd z
take_drop_take n (suc k) (suc m) [] h = refl
take_drop_take n (suc k) (suc m) (x ∷ l) h = take_drop_take n k m l (omega arith)
