-- The least number that passes a test.
use Rattle.std.specs.Prelude.{ℕ, zero, suc, Bool, true, false, ltb}

-- the first of the n numbers from i on that passes, i + n where none does
unfoldable pub first_from : (ℕ → Bool) → ℕ → ℕ → ℕ
first_from f i zero = i
first_from f i (suc n) = elim (f i) [ true ↦ i | false ↦ first_from f (suc i) n ]

-- the first number below n that passes, n where none does
abbrev pub first : (ℕ → Bool) → ℕ → ℕ
first f n = first_from f 0 n

-- some number below n passes
abbrev pub some : (ℕ → Bool) → ℕ → Bool
some f n = ltb (first f n) n
