-- Laws of the least number that passes a test.
use Prim.Native.Nat.{ℕ, zero, suc, ◌+◌, ◌-◌, ◌≤◌, ◌<◌}
use mathlib.Core.Path.{◌≡◌, refl, ap, ◌∙◌}
use mathlib.Core.Bool.{Bool, true, false}
use lib.Dec.{ltb, eqb}
use native.Mathlib.Omega.{arith}
use native.Mathlib.Numerals.{add-one}
use borrow.Author.Tests.{le-ltb, ltb-true, ltb-false, eqb-true, eqb-false}
use Rattle.octets.proofs.BoolLaws.{clash}
use Rattle.plan.specs.First.{first_from, first, some}

-- the turns of a loop that looks for it, with the number i reached
module _ (f : ℕ → Bool) (i n : ℕ) where
  pub first_on : i < n → f i ≡ false → first_from f i (n - i) ≡ first_from f (i + 1) (n - (i + 1))
  unfolding first_from
  first_on h e = let k : n - i ≡ suc (n - (i + 1)) = omega arith in rw (k, first_from, e, add-one i)

  pub first_here : i < n → f i ≡ true → first_from f i (n - i) ≡ i
  unfolding first_from
  first_here h e = let k : n - i ≡ suc (n - (i + 1)) = omega arith in rw (k, first_from, e)

pub first_most : (f : ℕ → Bool) (i n : ℕ) → first_from f i n ≤ i + n
unfolding first_from
first_most f i zero = omega arith
first_most f i (suc n) = go (f i) refl (first_most f (suc i) n)
  where
    go : (t : Bool) → f i ≡ t → first_from f (suc i) n ≤ suc i + n → first_from f i (suc n) ≤ i + suc n
    go true e h = rw (first_from, e) (omega arith)
    go false e h = rw (first_from, e) (omega arith)

-- none before the first passes
from_before : (f : ℕ → Bool) (i n k : ℕ) → i ≤ k → k < first_from f i n → f k ≡ false
unfolding first_from
from_before f i zero k p q = let z : ⊥ = omega arith in absurd z
from_before f i (suc n) k p q = go (f i) refl (from_before f (suc i) n k)
  where
    go : (t : Bool) → f i ≡ t → (suc i ≤ k → k < first_from f (suc i) n → f k ≡ false) → f k ≡ false
    go true e ih = let z : k < i = rw (first_from, e) at q in let y : ⊥ = omega arith in absurd y
    go false e ih = at_k (eqb k i) refl
      where
        at_k : (t : Bool) → eqb k i ≡ t → f k ≡ false
        at_k true d = ap f (eqb-true k i d) ∙ e
        at_k false d = let w : k ≡ i → ⊥ = eqb-false k i d in ih (omega (arith, w)) (rw (first_from, e) at q)

none_from : (f : ℕ → Bool) (i n : ℕ) → ((k : ℕ) → i ≤ k → k < i + n → f k ≡ false) → first_from f i n ≡ i + n
unfolding first_from
none_from f i zero h = omega arith
none_from f i (suc n) h =
    rw (first_from, h i (omega arith) (omega arith)) (none_from f (suc i) n (λ k p q. h k (omega arith) (omega arith)) ∙ omega arith)

-- the first number that passes does
pub from_some : (f : ℕ → Bool) (i n : ℕ) → first_from f i n < i + n → f (first_from f i n) ≡ true
unfolding first_from
from_some f i zero h = let z : ⊥ = omega arith in absurd z
from_some f i (suc n) h = go (f i) refl (from_some f (suc i) n)
  where
    go : (t : Bool) → f i ≡ t → (first_from f (suc i) n < suc i + n → f (first_from f (suc i) n) ≡ true) → f (first_from f i (suc n)) ≡ true
    go true e ih = rw (first_from, e) e
    go false e ih = let k : first_from f (suc i) n < i + suc n = rw (first_from, e) at h in rw (first_from, e) (ih (omega arith))

-- none of the numbers below n passes
module _ (f : ℕ → Bool) (n : ℕ) where
  pub first_none : first f n ≡ n → (i : ℕ) → i < n → f i ≡ false
  first_none h i p = from_before f 0 n i (omega arith) (omega arith)

  pub none_first : ((i : ℕ) → i < n → f i ≡ false) → first f n ≡ n
  none_first h = none_from f 0 n (λ k p q. h k (omega arith)) ∙ omega arith

  pub some_none : some f n ≡ false → first f n ≡ n
  some_none h = let p = first_most f 0 n in let q = ltb-false (first f n) n h in omega arith

  pub none_some : first f n ≡ n → some f n ≡ false
  none_some h = le-ltb (first f n) n (omega arith)

-- some number below n passes
module _ (f : ℕ → Bool) (n : ℕ) where
  pub some_has : some f n ≡ true → (i : ℕ) × (i < n) × (f i ≡ true)
  some_has h = let l = ltb-true (first f n) n h in (first f n, l, from_some f 0 n (omega arith))

  pub has_some : (i : ℕ) → i < n → f i ≡ true → some f n ≡ true
  has_some i h e = go (some f n) refl
    where
      go : (b : Bool) → some f n ≡ b → some f n ≡ true
      go true p = p
      go false p = absurd (clash e (first_none f n (some_none f n p) i h))

  -- the first is the only number that passes with none before it
  pub first_before : (i : ℕ) → i < first f n → f i ≡ false
  first_before i h = from_before f 0 n i (omega arith) h

  pub first_is : (i : ℕ) → i < n → f i ≡ true → ((k : ℕ) → k < i → f k ≡ false) → first f n ≡ i
  first_is i h e b = go (ltb (first f n) i) refl (ltb i (first f n)) refl
    where
      go : (x : Bool) → ltb (first f n) i ≡ x → (y : Bool) → ltb i (first f n) ≡ y → first f n ≡ i
      go true p y q = let l = ltb-true (first f n) i p in absurd (clash (from_some f 0 n (omega arith)) (b (first f n) l))
      go false p true q = absurd (clash e (first_before i (ltb-true i (first f n) q)))
      go false p false q = omega (arith, ltb-false (first f n) i p, ltb-false i (first f n) q)
