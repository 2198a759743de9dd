-- What the readers of addresses answer (T-06).
use Rattle.std.specs.Prelude.{ℕ, ◌+◌, true, false, List, take, drop, Option, Some, None}
use Rattle.text.specs.declared.reading.Found.{Found}
use Rattle.text.specs.AddressText.{is_address, read_address, address_count}

-- what is read of text that is to be an address as a whole: its octets
unfoldable pub whole_of : List ℕ → Option (List ℕ)
whole_of text = elim (is_address text) [ true ↦ Some (read_address text) | false ↦ None ]

-- the octets from a place on that may stand in an address
unfoldable pub address_part : List ℕ → ℕ → List ℕ
address_part s from = take (address_count (drop from s)) (drop from s)

-- what is read from a place on: the octets of the address that stands there, and the place after it
unfoldable pub address_at : List ℕ → ℕ → Found
address_at s from = record { address = whole_of (address_part s from); next = from + address_count (drop from s) }
