-- Laws of octets that are all zero.
use Prim.Native.Nat.{ℕ}
use mathlib.Core.Path.{◌≡◌, refl, ◌∙◌, sym}
use mathlib.Core.Bool.{Bool, true, false, ◌&&◌}
use mathlib.Core.List.{List, [], ◌∷◌}
use Rattle.std.specs.List.{fold}
use lib.Dec.{eqb}
use lib.Bits.{bit_or, or_add_and, and_le_l, and_le_r}
use lib.ListN.{length}
use native.Mathlib.Omega.{arith}
use borrow.Author.Tests.{eq-eqb, ne_eqb, eqb-true, eqb-false}
use Rattle.octets.proofs.BoolLaws.{and_true}
use Rattle.octets.specs.Octets.{blank, same_by}
use Rattle.octets.specs.Zeros.{is_blank}
use Rattle.octets.proofs.SameLaws.{same_eq}

pub blank_eq : (xs : List ℕ) → is_blank xs ≡ true → xs ≡ blank (length xs)
unfolding is_blank
blank_eq xs h = same_eq xs (blank (length xs)) h

-- one more octet
pub blank_cons : (x : ℕ) (xs : List ℕ) → is_blank (x ∷ xs) ≡ eqb x 0 && is_blank xs
unfolding is_blank same_by blank
blank_cons x xs = go (eqb x 0) refl
  where
    go : (t : Bool) → eqb x 0 ≡ t → is_blank (x ∷ xs) ≡ eqb x 0 && is_blank xs
    go true e = rw (is_blank, same_by, e)
    go false e = rw (is_blank, same_by, e)

-- an OR is zero exactly when both of its numbers are
or_zero : (x y : ℕ) → eqb (bit_or x y) 0 ≡ eqb x 0 && eqb y 0
or_zero x y = go (eqb x 0) (eqb y 0) refl refl
  where
    go : (s t : Bool) → eqb x 0 ≡ s → eqb y 0 ≡ t → eqb (bit_or x y) 0 ≡ eqb x 0 && eqb y 0
    go true true p q =
        let a = eqb-true x 0 p in
        let b = eqb-true y 0 q in
        rw (p, q) (eq-eqb (bit_or x y) 0 (omega (arith, or_add_and x y)))
    go true false p q =
        let b : y ≡ 0 → ⊥ = eqb-false y 0 q in
        rw (p, q) (ne_eqb (bit_or x y) 0 (λ e. omega (arith, or_add_and x y, and_le_l x y, b)))
    go false t p q =
        let a : x ≡ 0 → ⊥ = eqb-false x 0 p in
        rw p (ne_eqb (bit_or x y) 0 (λ e. omega (arith, or_add_and x y, and_le_r x y, a)))

-- all octets joined by OR are zero exactly when each is
pub blank_fold : (xs : List ℕ) (all : ℕ) → eqb (fold bit_or all xs) 0 ≡ eqb all 0 && is_blank xs
unfolding is_blank same_by blank
blank_fold [] all = sym (and_true (eqb all 0))
blank_fold (x ∷ xs) all =
    rw (blank_cons x xs) (blank_fold xs (bit_or all x) ∙ (rw (or_zero all x) (and_assoc (eqb all 0) (eqb x 0) (is_blank xs))))
  where
    and_assoc : (a b c : Bool) → (a && b) && c ≡ a && (b && c)
    and_assoc true b c = refl
    and_assoc false b c = refl
