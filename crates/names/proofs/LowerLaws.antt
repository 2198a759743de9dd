-- Laws of letters in lower case: which octets count alike.
use Prim.Native.Nat.{ℕ, ◌+◌, ◌≤◌, ◌<◌}
use mathlib.Core.Path.{◌≡◌, refl, ap, sym}
use mathlib.Core.Bool.{Bool, true, false}
use mathlib.Core.Logic.{◌⊎◌, inl, inr}
use lib.Dec.{ltb}
use native.Mathlib.Omega.{arith}
use borrow.Author.Tests.{lt-ltb, le-ltb, ltb-true, ltb-false}
use Rattle.std.specs.Char.{to_ascii_lowercase}
use Rattle.names.specs.Standard.{lower}

-- the three ways
pub lower_small : (x : ℕ) → x ≤ 64 → lower x ≡ x
unfolding lower
lower_small x h = rw (lower, le-ltb 64 x h)

pub lower_large : (x : ℕ) → 91 ≤ x → lower x ≡ x
unfolding lower
lower_large x h = rw (lower, lt-ltb 64 x (omega arith), le-ltb x 91 h)

pub lower_letter : (x : ℕ) → 64 < x → x < 91 → lower x ≡ x + 32
unfolding lower
lower_letter x h k = rw (lower, lt-ltb 64 x h, lt-ltb x 91 k)

-- as the library has it
pub lower_ascii : (x : ℕ) → to_ascii_lowercase x ≡ lower x
lower_ascii x = go (ltb x 65) (ltb x 91) refl refl
  where
    go : (b c : Bool) → ltb x 65 ≡ b → ltb x 91 ≡ c → to_ascii_lowercase x ≡ lower x
    go true c d e = rw d (sym (lower_small x (omega (arith, ltb-true x 65 d))))
    go false true d e = rw (d, e) (sym (lower_letter x (omega (arith, ltb-false x 65 d)) (ltb-true x 91 e)))
    go false false d e = rw (d, e) (sym (lower_large x (ltb-false x 91 e)))

-- an octet is a letter from A to Z or counts as it is
pub lower_ways : (x : ℕ) → (lower x ≡ x) ⊎ ((64 < x) × (x < 91) × (lower x ≡ x + 32))
lower_ways x = go (ltb 64 x) (ltb x 91) refl refl
  where
    go : (b c : Bool) → ltb 64 x ≡ b → ltb x 91 ≡ c → (lower x ≡ x) ⊎ ((64 < x) × (x < 91) × (lower x ≡ x + 32))
    go false c d e = inl (lower_small x (ltb-false 64 x d))
    go true false d e = inl (lower_large x (ltb-false x 91 e))
    go true true d e = inr (ltb-true 64 x d, ltb-true x 91 e, lower_letter x (ltb-true 64 x d) (ltb-true x 91 e))

-- Theorem: lower case twice is lower case
pub lower_twice : (x : ℕ) → lower (lower x) ≡ lower x
lower_twice x = go (lower_ways x)
  where
    go : (lower x ≡ x) ⊎ ((64 < x) × (x < 91) × (lower x ≡ x + 32)) → lower (lower x) ≡ lower x
    go (inl e) = ap lower e
    go (inr e) = let k : 91 ≤ lower x = omega (arith, e.0, e.2) in lower_large (lower x) k
