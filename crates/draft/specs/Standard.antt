-- The standard form of data of the 1998 layout (T-02): the first L bits zero, bit labels merged.
use Rattle.std.specs.Prelude.{ℕ, ◌/◌, ◌%◌, List, ◌∷◌, ◌++◌, drop}
use Rattle.octets.specs.Octets.{blank}
use Rattle.a6.specs.Standard.{without_padding, standard_name}
use Rattle.draft.specs.Layout.{address_part, prefix_part, rest_part}

-- octets with their first l bits made zero: the octets that these fill, and the first bits of the next one
unfoldable pub without_first : ℕ → List ℕ → List ℕ
without_first l octets = blank (l / 8) ++ without_padding (l % 8) (drop (l / 8) octets)

-- the data with zeros for the first L bits of its address and its name in standard form
unfoldable pub draft_standard : List ℕ → List ℕ
draft_standard octets = without_first (prefix_part octets) (address_part octets) ++ (prefix_part octets ∷ standard_name (prefix_part octets) (rest_part octets))
