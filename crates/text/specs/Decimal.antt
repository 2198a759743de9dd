-- Decimals in text (T-06).
use Rattle.std.specs.Prelude.{ℕ, ◌+◌, ◌-◌, ◌*◌, min, Bool, true, false, not, ◌&&◌, ◌||◌, List, [], ◌∷◌, ltb, eqb, get_or, drop}
use Rattle.text.specs.declared.numbers.Decimal.{Decimal}
use Rattle.text.specs.Digits.{is_digit, leading, number_text}

-- a number in decimal digits, with no needless zero
abbrev pub write_decimal : ℕ → List ℕ
write_decimal n = number_text 10 n

-- how many digits text begins with
abbrev pub digit_count : List ℕ → ℕ
digit_count = leading is_digit

-- the number that the digits at the start of text write after those of v
unfoldable pub decimal_from : ℕ → List ℕ → ℕ
decimal_from v [] = v
decimal_from v (c ∷ cs) = elim (is_digit c) [ true ↦ decimal_from (v * 10 + (c - 48)) cs | false ↦ v ]

-- the number that text begins with, of any size
unfoldable pub decimal_of : List ℕ → ℕ
decimal_of xs = decimal_from 0 xs

-- text begins with a decimal: a digit stands there, and no needless zero
unfoldable pub is_decimal : List ℕ → Bool
is_decimal xs = ltb 0 (digit_count xs) && (not (eqb (get_or xs 0 0) 48) || eqb (digit_count xs) 1)

-- what is read from a place on: whether a decimal stands there; its value, and one more than the bound where it passes the bound; the place after its digits
unfoldable pub decimal_at : List ℕ → ℕ → ℕ → Decimal
decimal_at s from bound =
    record { formed = is_decimal (drop from s); value = min (bound + 1) (decimal_of (drop from s)); next = from + digit_count (drop from s) }
