-- Laws of the test for the same octets.
use Prim.Native.Nat.{ℕ, ◌+◌, ◌<◌}
use mathlib.Core.Path.{◌≡◌, refl, ap}
use mathlib.Core.Bool.{Bool, true, false}
use mathlib.Core.List.{List, [], ◌∷◌}
use lib.Dec.{eqb}
use lib.Pointwise.{pointwise}
use lib.ListN.{length, get_or, drop, drop_of_length-le}
use native.Mathlib.Numerals.{add-one}
use lib.Seq.{drop-cons}
use native.Mathlib.Omega.{arith}
use borrow.Author.Tests.{eq-eqb, ne_eqb, eqb-true}
use Rattle.octets.specs.Octets.{same_by, same}

-- what a test of elements gives, the lists have
pub by_eq : {A : Type 0} (f : A → A → Bool) → ((x y : A) → f x y ≡ true → x ≡ y) → (xs ys : List A) → same_by f xs ys ≡ true → xs ≡ ys
unfolding same_by
by_eq f s [] [] h = refl
by_eq f s [] (y ∷ ys) h = cc
by_eq f s (x ∷ xs) [] h = cc
by_eq f s (x ∷ xs) (y ∷ ys) h = go (f x y) refl (by_eq f s xs ys)
  where
    go : (b : Bool) → f x y ≡ b → (same_by f xs ys ≡ true → xs ≡ ys) → (x ∷ xs) ≡ (y ∷ ys)
    go true e ih = let t : same_by f xs ys ≡ true = rw (e, same_by) at h in cc (s x y e, ih t)
    go false e ih = let t : ◌≡◌ {A = Bool} false true = rw (e, same_by) at h in cc

pub by_refl : {A : Type 0} (f : A → A → Bool) → ((x : A) → f x x ≡ true) → (xs : List A) → same_by f xs xs ≡ true
unfolding same_by
by_refl f s [] = refl
by_refl f s (x ∷ xs) = rw (s x, same_by) (by_refl f s xs)

pub same_eq : (xs ys : List ℕ) → same xs ys ≡ true → xs ≡ ys
same_eq = by_eq eqb eqb-true

pub same_refl : (xs : List ℕ) → same xs xs ≡ true
same_refl = by_refl eqb (λ x. eq-eqb x x refl)

-- the library's test of two lists, element by element, is this one
pub by_pointwise : {A : Type 0} (f : A → A → Bool) → (xs ys : List A) → pointwise f xs ys ≡ same_by f xs ys
unfolding same_by
by_pointwise f [] [] = refl
by_pointwise f [] (y ∷ ys) = refl
by_pointwise f (x ∷ xs) [] = refl
by_pointwise f (x ∷ xs) (y ∷ ys) = go (f x y) refl (by_pointwise f xs ys)
  where
    go : (b : Bool) → f x y ≡ b → pointwise f xs ys ≡ same_by f xs ys → pointwise f (x ∷ xs) (y ∷ ys) ≡ same_by f (x ∷ xs) (y ∷ ys)
    go true e ih = rw (e, same_by) ih
    go false e ih = rw (e, same_by)

pub same_unlike : (xs ys : List ℕ) → (length xs ≡ length ys → ⊥) → same xs ys ≡ false
same_unlike xs ys h = go (same xs ys) refl
  where
    go : (b : Bool) → same xs ys ≡ b → same xs ys ≡ false
    go true e = absurd (h (ap length (same_eq xs ys e)))
    go false e = e

module _ (xs ys : List ℕ) (i : ℕ) (p : i < length xs) (q : i < length ys) where
  pub same_on : get_or xs i 0 ≡ get_or ys i 0 → same (drop i xs) (drop i ys) ≡ same (drop (i + 1) xs) (drop (i + 1) ys)
  unfolding same_by
  same_on e = rw (add-one, drop-cons xs i 0 p, drop-cons ys i 0 q, same_by, eq-eqb (get_or xs i 0) (get_or ys i 0) e)

  pub same_off : (get_or xs i 0 ≡ get_or ys i 0 → ⊥) → same (drop i xs) (drop i ys) ≡ false
  unfolding same_by
  same_off e = rw (drop-cons xs i 0 p, drop-cons ys i 0 q, same_by, ne_eqb (get_or xs i 0) (get_or ys i 0) e)

pub same_end : (xs ys : List ℕ) (i : ℕ) → i ≡ length xs → i ≡ length ys → same (drop i xs) (drop i ys) ≡ true
unfolding same_by
same_end xs ys i p q = rw (drop_of_length-le xs {i = i} (omega arith), drop_of_length-le ys {i = i} (omega arith))
