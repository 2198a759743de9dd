-- An address as two numbers of 64 bits, as a search carries it. The code's own: nothing that a reader must believe.
use Rattle.std.specs.Prelude.{ℕ, ◌-◌, true, false, List, ◌++◌, nat_le}
use Rattle.octets.specs.Numbers.{octets_of}
use Rattle.address.specs.Picture.{mix}
use Rattle.rows.specs.declared.inside.Halves.{Halves}

-- the address with these first and last 64 bits
unfoldable pub address_of : ℕ → ℕ → List ℕ
address_of high low = octets_of 8 high ++ octets_of 8 low

-- as the code holds it
abbrev pub whole : Halves → List ℕ
whole a = address_of a.high a.low

-- the halves of two addresses joined at a position from 0 to 128: up to 64 the first half is mixed of both, past 64 the last one
unfoldable pub join_halves : ℕ → ℕ × ℕ → ℕ × ℕ → ℕ × ℕ
join_halves at high low = elim (nat_le at 64) [ true ↦ (mix 64 at high.0 low.0, low.1) | false ↦ (high.0, mix 64 (at - 64) high.1 low.1) ]
