-- A6 data (01, the section of that name): how its parts are told apart, and the values that it stands for.
use Rattle.std.specs.Prelude.{ℕ, ◌+◌, ◌-◌, ◌/◌, ◌<◌, ◌≡◌, List, length, get_or, take, drop}
use Rattle.octets.specs.Octets.{Small}
use Rattle.names.specs.declared.Name.{Name}
use Rattle.a6.specs.declared.Value.{Value}

-- the longest prefix
abbrev pub longest : ℕ
longest = 128

-- how many octets of suffix a prefix length L leaves: the whole octets that the prefix fills are left out; reader and writer share it
abbrev pub suffix_octets : ℕ → ℕ
suffix_octets l = 16 - l / 8

-- the first octet
abbrev pub prefix_of : List ℕ → ℕ
prefix_of octets = get_or octets 0 0

-- the octets of suffix after it
unfoldable pub suffix_of : List ℕ → List ℕ
suffix_of octets = take (suffix_octets (prefix_of octets)) (drop 1 octets)

-- what stands after the suffix: the prefix name, at L > 0
unfoldable pub after_suffix : List ℕ → List ℕ
after_suffix octets = drop (1 + suffix_octets (prefix_of octets)) octets

-- the octets of a name that is held by value
unfoldable pub octets_of : Name → List ℕ
octets_of n = take n.length n.octets

-- what the type of a value gives: octets, as many as it says
pub record Shaped (v : Value) : Type 0 where
  pub prefix_small : v.prefix < 256
  pub address_long : length v.address ≡ 16
  pub address_small : Small v.address
  pub octets_long : length v.name.octets ≡ 255
  pub octets_small : Small v.name.octets
  pub length_small : v.name.length < 256
