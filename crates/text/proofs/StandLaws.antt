-- Laws of the octets that may stand in an address, told by one number, a bit each.
use Prim.Native.Nat.{ℕ, zero, suc, ◌+◌, ◌*◌, ◌/◌, ◌%◌, ◌^◌, ◌<◌}
use mathlib.Core.Path.{◌≡◌, refl, ap, sym, ◌∙◌}
use mathlib.Core.Bool.{Bool, true, false}
use mathlib.Core.List.{List, [], ◌∷◌}
use lib.Dec.{eqb}
use lib.ListN.{get_or}
use native.Mathlib.Omega.{arith}
use borrow.Author.Tests.{le-ltb, ltb-true, ltb-false}
use Rattle.text.specs.Digits.{digit_in}
use Rattle.text.specs.AddressText.{may_stand}
use Rattle.text.proofs.ReadLaws.{digit_by, digit_first, digit_last, digit_most, stand_digit}

-- an octet before all that may stand, and one after them
pub stand_first : (c : ℕ) → c < 48 → may_stand c ≡ false
stand_first c h = stand_digit c (λ e. omega arith) ∙ le-ltb (digit_in c) 16 (omega (arith, digit_first c h))

pub stand_last : (c : ℕ) → 102 < c → may_stand c ≡ false
stand_last c h = stand_digit c (λ e. omega arith) ∙ le-ltb (digit_in c) 16 (omega (arith, digit_last c h))

-- the bit of an octet
abbrev pub bit_at : ℕ → Bool
bit_at i = eqb (35465847073802239 / 2 ^ i % 2) 1

-- a test at n places from i on
listed : (ℕ → Bool) → ℕ → ℕ → List Bool
listed f zero i = []
listed f (suc n) i = f i ∷ listed f n (suc i)

listed_at : (f : ℕ → Bool) (n i k : ℕ) → k < n → get_or (listed f n i) k false ≡ f (i + k)
unfolding listed
listed_at f zero i k h = let z : ⊥ = omega arith in absurd z
listed_at f (suc n) i zero h = let e : i ≡ i + 0 = omega arith in ap f e
listed_at f (suc n) i (suc k) h = let e : suc i + k ≡ i + suc k = omega arith in listed_at f n (suc i) k (omega arith) ∙ ap f e

-- at each of the 55 places the bit tells
listed_same : listed bit_at 55 0 ≡ listed (λ i. may_stand (48 + i)) 55 0
unfolding listed may_stand digit_in
listed_same = refl

pub bit_stands : (k : ℕ) → k < 55 → bit_at k ≡ may_stand (48 + k)
bit_stands k h =
    let e : 0 + k ≡ k = omega arith in
    ap bit_at (sym e) ∙ sym (listed_at bit_at 55 0 k h) ∙ ap (λ (l : List Bool). get_or l k false) listed_same ∙ listed_at (λ i. may_stand (48 + i)) 55 0 k h ∙ ap (λ (m : ℕ). may_stand (48 + m)) e

-- an octet that writes no digit, and one that writes one
pub digit_none : (c : ℕ) → (c ≡ 58 → ⊥) → may_stand c ≡ false → digit_in c ≡ 16
digit_none c e f = let l = ltb-false (digit_in c) 16 (sym (stand_digit c e) ∙ f) in omega (arith, l, digit_most c)

pub digit_some : (c : ℕ) → (c ≡ 58 → ⊥) → may_stand c ≡ true → digit_in c ≡ c % 16 + 9 * (c / 64)
digit_some c e f =
    let l = ltb-true (digit_in c) 16 (sym (stand_digit c e) ∙ f) in
    digit_by (digit_in c ≡ c % 16 + 9 * (c / 64)) c (λ l h d. omega arith) (λ l h d. omega arith) (λ l h d. omega arith) (λ d. let z : ⊥ = omega (arith, l, d) in absurd z)
