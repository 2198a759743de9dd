-- Numbers that octets write, and the octets of a number.
use Rattle.std.specs.Prelude.{ℕ, zero, suc, ◌+◌, ◌*◌, ◌/◌, ◌%◌, ◌^◌, List, [], ◌∷◌, length}

-- the number that octets write, the highest first
unfoldable pub value_of : List ℕ → ℕ
value_of [] = 0
value_of (x ∷ xs) = x * 256 ^ length xs + value_of xs

-- the lowest n octets of a number, the highest of them first
unfoldable pub octets_of : ℕ → ℕ → List ℕ
octets_of zero v = []
octets_of (suc n) v = v / 2 ^ (8 * n) % 256 ∷ octets_of n v
