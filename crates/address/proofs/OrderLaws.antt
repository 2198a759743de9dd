-- Laws of the order of addresses.
use Prim.Native.Nat.{ℕ, suc, ◌+◌, ◌*◌, ◌^◌, ◌≤◌, ◌<◌}
use mathlib.Core.Path.{◌≡◌, refl, ap, ◌∙◌, sym}
use mathlib.Core.Logic.{◌⊎◌, inl, inr, ⊎_elim}
use mathlib.Core.Bool.{Bool, true, false}
use mathlib.Core.List.{List, [], ◌∷◌}
use lib.Dec.{ltb}
use lib.ListN.{length, get_or, drop, drop_of_length-le}
use lib.Seq.{drop-cons}
use lib.Arith.{digits_lt}
use native.Mathlib.Omega.{arith}
use native.Mathlib.Numerals.{add-one}
use borrow.Author.Tests.{ltb-true, ltb-false, lt-ltb, le-ltb, eq-eqb, ne_eqb}
use Rattle.octets.specs.Octets.{Small}
use Rattle.octets.specs.Numbers.{value_of}
use Rattle.octets.proofs.NumberLaws.{value_small}
use Rattle.std.specs.declared.cmp.Ordering.{Ordering}
use Rattle.std.specs.declared.cmp.Ordering.TheVariants.{Less, Equal, Greater}
use Rattle.std.specs.Ordering.{nat_cmp}
use Rattle.std.specs.Cmp.Lexicographic.{slice_cmp}
use Rattle.address.specs.Order.{order_of, Precedes}

-- by the first octets
module _ (x y : ℕ) (xs ys : List ℕ) where
  order_less : x < y → order_of (x ∷ xs) (y ∷ ys) ≡ Less
  unfolding order_of
  order_less h = rw (order_of, lt-ltb x y h)

  order_more : y < x → order_of (x ∷ xs) (y ∷ ys) ≡ Greater
  unfolding order_of
  order_more h = rw (order_of, le-ltb x y (omega arith), lt-ltb y x h)

  order_even : x ≡ y → order_of (x ∷ xs) (y ∷ ys) ≡ order_of xs ys
  unfolding order_of
  order_even h = rw (order_of, le-ltb x y (omega arith), le-ltb y x (omega arith))

-- how two numbers stand
data Standing (x y : ℕ) : Type 0 where
  less : x < y → Standing x y
  even : x ≡ y → Standing x y
  more : y < x → Standing x y

standing : (x y : ℕ) → Standing x y
standing x y = go (ltb x y) (ltb y x) refl refl
  where
    go : (s t : Bool) → ltb x y ≡ s → ltb y x ≡ t → Standing x y
    go true t e f = less (ltb-true x y e)
    go false true e f = more (ltb-true y x f)
    go false false e f = even (omega (arith, ltb-false x y e, ltb-false y x f))

-- Equal exactly when equal
pub order_same : (a : List ℕ) → order_of a a ≡ Equal
unfolding order_of
order_same [] = refl
order_same (x ∷ xs) = order_even x x xs xs refl ∙ order_same xs

-- Theorem: only equal lists are answered `Equal`
pub same_equal : (a b : List ℕ) → order_of a b ≡ Equal → a ≡ b
unfolding order_of
same_equal [] [] h = refl
same_equal [] (y ∷ ys) h = cc
same_equal (x ∷ xs) [] h = cc
same_equal (x ∷ xs) (y ∷ ys) h = go (standing x y) (λ t. same_equal xs ys t)
  where
    go : Standing x y → (order_of xs ys ≡ Equal → xs ≡ ys) → (x ∷ xs) ≡ (y ∷ ys)
    go (less p) ih = cc (order_less x y xs ys p)
    go (even p) ih = cc (p, ih (sym (order_even x y xs ys p) ∙ h))
    go (more p) ih = cc (order_more x y xs ys p)

-- Theorem: and all equal lists are
pub equal_same : (a b : List ℕ) → a ≡ b → order_of a b ≡ Equal
equal_same a b h = rw (sym h) (order_same a)

-- the other way round
opposite : Ordering → Ordering
opposite Less = Greater
opposite Equal = Equal
opposite Greater = Less

order_flip : (a b : List ℕ) → order_of b a ≡ opposite (order_of a b)
unfolding order_of opposite
order_flip [] [] = refl
order_flip [] (y ∷ ys) = refl
order_flip (x ∷ xs) [] = refl
order_flip (x ∷ xs) (y ∷ ys) = go (standing x y) (order_flip xs ys)
  where
    go : Standing x y → order_of ys xs ≡ opposite (order_of xs ys) → order_of (y ∷ ys) (x ∷ xs) ≡ opposite (order_of (x ∷ xs) (y ∷ ys))
    go (less p) ih = order_more y x ys xs p ∙ sym (ap opposite (order_less x y xs ys p))
    go (even p) ih = order_even y x ys xs (sym p) ∙ ih ∙ sym (ap opposite (order_even x y xs ys p))
    go (more p) ih = order_less y x ys xs p ∙ sym (ap opposite (order_more x y xs ys p))

-- Greater exactly when the second precedes
pub after_precedes : (a b : List ℕ) → order_of a b ≡ Greater → Precedes b a
unfolding opposite
after_precedes a b h = order_flip a b ∙ ap opposite h

pub precedes_after : (a b : List ℕ) → Precedes b a → order_of a b ≡ Greater
unfolding opposite
precedes_after a b h = order_flip b a ∙ ap opposite h

-- Theorem: the order is strict: nothing comes before itself
pub precedes_irreflexive : (a : List ℕ) → Precedes a a → ⊥
precedes_irreflexive a h = let z : ◌≡◌ {A = ℕ} 0 1 = cc (order_same a) in omega arith

precedes_heads : (x y : ℕ) (xs ys : List ℕ) → Precedes (x ∷ xs) (y ∷ ys) → (x < y) ⊎ ((x ≡ y) × Precedes xs ys)
precedes_heads x y xs ys h = go (standing x y)
  where
    go : Standing x y → (x < y) ⊎ ((x ≡ y) × Precedes xs ys)
    go (less p) = inl p
    go (even p) = inr (p, sym (order_even x y xs ys p) ∙ h)
    go (more p) = let z : ◌≡◌ {A = ℕ} 0 1 = cc (order_more x y xs ys p) in let v : ⊥ = omega arith in absurd v

-- Theorem: the order is transitive
pub precedes_transitive : (a b c : List ℕ) → Precedes a b → Precedes b c → Precedes a c
unfolding order_of
precedes_transitive [] [] c h k = k
precedes_transitive [] (y ∷ ys) [] h k = cc
precedes_transitive [] (y ∷ ys) (z ∷ zs) h k = refl
precedes_transitive (x ∷ xs) [] c h k = cc
precedes_transitive (x ∷ xs) (y ∷ ys) [] h k = cc
precedes_transitive (x ∷ xs) (y ∷ ys) (z ∷ zs) h k = go (precedes_heads x y xs ys h) (precedes_heads y z ys zs k) (λ s t. precedes_transitive xs ys zs s t)
  where
    go : (x < y) ⊎ ((x ≡ y) × Precedes xs ys) → (y < z) ⊎ ((y ≡ z) × Precedes ys zs) → (Precedes xs ys → Precedes ys zs → Precedes xs zs) → Precedes (x ∷ xs) (z ∷ zs)
    go (inl p) (inl q) ih = order_less x z xs zs (omega arith)
    go (inl p) (inr q) ih = order_less x z xs zs (omega arith)
    go (inr p) (inl q) ih = order_less x z xs zs (omega arith)
    go (inr p) (inr q) ih = order_even x z xs zs (omega arith) ∙ ih p.1 q.1

-- Theorem: the order is total: of two lists one comes before the other, or they are equal
pub precedes_total : (a b : List ℕ) → Precedes a b ⊎ ((a ≡ b) ⊎ Precedes b a)
precedes_total a b = go (order_of a b) refl
  where
    go : (o : Ordering) → order_of a b ≡ o → Precedes a b ⊎ ((a ≡ b) ⊎ Precedes b a)
    go Less e = inl e
    go Equal e = inr (inl (same_equal a b e))
    go Greater e = inr (inr (after_precedes a b e))

-- Theorem: an address that comes before another writes a smaller number
pub precedes_value : (a b : List ℕ) → length a ≡ length b → Small a → Small b → Precedes a b → value_of a < value_of b
unfolding value_of order_of
precedes_value [] [] e s t h = let z : ◌≡◌ {A = ℕ} 0 1 = cc in omega arith
precedes_value [] (y ∷ ys) e s t h = let z : ⊥ = omega arith in absurd z
precedes_value (x ∷ xs) [] e s t h = let z : ⊥ = omega arith in absurd z
precedes_value (x ∷ xs) (y ∷ ys) e s t h = go (precedes_heads x y xs ys h) (omega arith) (λ m p. precedes_value xs ys m (λ i. s (suc i)) (λ i. t (suc i)) p)
  where
    go : (x < y) ⊎ ((x ≡ y) × Precedes xs ys) → length xs ≡ length ys → (length xs ≡ length ys → Precedes xs ys → value_of xs < value_of ys)
        → x * 256 ^ length xs + value_of xs < y * 256 ^ length ys + value_of ys
    go (inl p) n ih = let d = digits_lt p (value_small xs (λ i. s (suc i))) in rw (← n) (omega arith)
    go (inr p) n ih = rw (← n, p.0) (omega (arith, ih n p.1))

-- Theorem: an address that writes a smaller number comes before
pub value_precedes : (a b : List ℕ) → length a ≡ length b → Small a → Small b → value_of a < value_of b → Precedes a b
value_precedes a b e s t h =
    ⊎_elim (λ p. p) (⊎_elim (λ p. let z : ⊥ = omega (arith, ap value_of p) in absurd z) (λ p. let z : ⊥ = omega (arith, precedes_value b a (sym e) t s p) in absurd z)) (precedes_total a b)

-- octet i of both, with what comes after
module _ (a b : List ℕ) (i : ℕ) (p : i < length a) (q : i < length b) where
  heads : order_of (drop i a) (drop i b) ≡ order_of (get_or a i 0 ∷ drop (suc i) a) (get_or b i 0 ∷ drop (suc i) b)
  heads = rw (drop-cons a i 0 p, drop-cons b i 0 q)

  pub order_on : get_or a i 0 ≡ get_or b i 0 → order_of (drop i a) (drop i b) ≡ order_of (drop (i + 1) a) (drop (i + 1) b)
  order_on e = heads ∙ rw (add-one i) (order_even (get_or a i 0) (get_or b i 0) (drop (suc i) a) (drop (suc i) b) e)

  pub order_below : get_or a i 0 < get_or b i 0 → order_of (drop i a) (drop i b) ≡ Less
  order_below e = heads ∙ order_less (get_or a i 0) (get_or b i 0) (drop (suc i) a) (drop (suc i) b) e

  pub order_above : get_or b i 0 < get_or a i 0 → order_of (drop i a) (drop i b) ≡ Greater
  order_above e = heads ∙ order_more (get_or a i 0) (get_or b i 0) (drop (suc i) a) (drop (suc i) b) e

-- where one list ends
module _ (a b : List ℕ) (i : ℕ) where
  pub order_ends_first : length a ≤ i → i < length b → order_of (drop i a) (drop i b) ≡ Less
  unfolding order_of
  order_ends_first p q = rw (drop_of_length-le a {i = i} p, drop-cons b i 0 q)

  pub order_ends_last : i < length a → length b ≤ i → order_of (drop i a) (drop i b) ≡ Greater
  unfolding order_of
  order_ends_last p q = rw (drop-cons a i 0 p, drop_of_length-le b {i = i} q)

  pub order_ends_both : length a ≤ i → length b ≤ i → order_of (drop i a) (drop i b) ≡ Equal
  unfolding order_of
  order_ends_both p q = rw (drop_of_length-le a {i = i} p, drop_of_length-le b {i = i} q)

-- the order of lists of octets is the library's
pub order_cmp : (a b : List ℕ) → slice_cmp nat_cmp a b ≡ order_of a b
unfolding order_of
order_cmp [] [] = refl
order_cmp [] (y ∷ ys) = refl
order_cmp (x ∷ xs) [] = refl
order_cmp (x ∷ xs) (y ∷ ys) = go (standing x y) (order_cmp xs ys)
  where
    go : Standing x y → slice_cmp nat_cmp xs ys ≡ order_of xs ys → slice_cmp nat_cmp (x ∷ xs) (y ∷ ys) ≡ order_of (x ∷ xs) (y ∷ ys)
    go (less p) ih = rw (lt-ltb x y p) (sym (order_less x y xs ys p))
    go (even p) ih = rw (le-ltb x y (omega arith), eq-eqb x y p) (ih ∙ sym (order_even x y xs ys p))
    go (more p) ih = rw (le-ltb x y (omega arith), ne_eqb x y (λ e. omega arith)) (sym (order_more x y xs ys p))
