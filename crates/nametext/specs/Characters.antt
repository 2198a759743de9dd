-- Single octets of a name's text (T-06): which stand for themselves, which may stand in a name, capital hex digits, the digits of an escape.
use Rattle.std.specs.Prelude.{ℕ, ◌+◌, ◌/◌, ◌%◌, Bool, true, false, ◌||◌, List, [], ◌∷◌, ltb, eqb}
use Rattle.text.specs.Digits.{between, is_digit}

-- a letter, a digit, a hyphen or an underscore stands for itself in an ordinary label
unfoldable pub is_plain : ℕ → Bool
is_plain x = between 65 90 x || (between 97 122 x || (is_digit x || (eqb x 45 || eqb x 95)))

-- an octet may stand in the text of a name: a plain one, a dot, a backslash, a bracket or a slash
unfoldable pub may_name : ℕ → Bool
may_name x = is_plain x || (between 91 93 x || between 46 47 x)

-- the upper-case hex digit of a value below 16
unfoldable pub hex_digit : ℕ → ℕ
hex_digit v = elim (ltb v 10) [ true ↦ 48 + v | false ↦ 55 + v ]

-- the three decimal digits of a number below 1,000
unfoldable pub three_digits : ℕ → List ℕ
three_digits n = (48 + n / 100) ∷ (48 + n / 10 % 10) ∷ (48 + n % 10) ∷ []
