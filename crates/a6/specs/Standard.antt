-- The standard form of A6 data (01, A6 data): padding bits zero, bit labels merged.
use Rattle.std.specs.Prelude.{ℕ, ◌-◌, ◌%◌, ◌^◌, true, false, List, [], ◌∷◌, ◌++◌, eqb}
use Rattle.names.specs.Standard.{standard_of}
use Rattle.a6.specs.Data.{prefix_of, suffix_of, after_suffix}
use Rattle.a6.specs.Ending.{name_octets}

-- a suffix with its padding, the first bits of its first octet, made zero
unfoldable pub without_padding : ℕ → List ℕ → List ℕ
without_padding padding [] = []
without_padding padding (x ∷ xs) = x % 2 ^ (8 - padding) ∷ xs

-- the prefix name in standard form; no octets at L = 0
abbrev pub standard_name : ℕ → List ℕ → List ℕ
standard_name l rest = elim (eqb l 0) [ true ↦ [] | false ↦ standard_of (name_octets l rest) ]

-- the data with zeros for its padding and its name in standard form
unfoldable pub standard_data : List ℕ → List ℕ
standard_data octets = prefix_of octets ∷ (without_padding (prefix_of octets % 8) (suffix_of octets) ++ standard_name (prefix_of octets) (after_suffix octets))
