-- The picture of a join in octets (T-05), as field staff follow it. From 0 to 128 it is the join by bits, `join_of` (theorem `picture` in proofs/JoinLaws), and it is
-- enough to believe either.
use Rattle.std.specs.Prelude.{ℕ, ◌+◌, ◌-◌, ◌*◌, ◌/◌, ◌%◌, ◌^◌, true, false, List, [], ◌∷◌, ◌++◌, eqb, get_or, take, drop}
use Rattle.bits.specs.Bits.{octets_for}

-- of two numbers of w bits: the first n bits of x, then those of y from there on
abbrev pub mix : ℕ → ℕ → ℕ → ℕ → ℕ
mix w n x y = x / 2 ^ (w - n) * 2 ^ (w - n) + y % 2 ^ (w - n)

-- the octet that the position is inside of, mixed of both; at an edge of octets there is none
unfoldable pub mixed_at : ℕ → List ℕ → List ℕ → List ℕ
mixed_at at high low = elim (eqb (at % 8) 0) [ true ↦ [] | false ↦ mix 8 (at % 8) (get_or high (at / 8) 0) (get_or low (at / 8) 0) ∷ [] ]

-- two addresses joined at a position from 0 to 128: whole octets of the one, at most one mixed octet, whole octets of the other
unfoldable pub join_octets : ℕ → List ℕ → List ℕ → List ℕ
join_octets at high low = take (at / 8) high ++ mixed_at at high low ++ drop (octets_for at) low
