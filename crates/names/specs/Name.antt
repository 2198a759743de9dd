-- A name by value, as 01 (A6 data) holds it: 255 octets and a length, zeros after the name.
use Rattle.std.specs.Prelude.{ℕ, ◌-◌, true, false, List, [], ◌++◌, length, Option, Some, None}
use Rattle.octets.specs.Octets.{blank}
use Rattle.labels.specs.Scan.{well_formed}
use Rattle.names.specs.Standard.{standard_of}
use Rattle.names.specs.declared.Name.{Name}

-- the value that holds the octets of a name; the value that holds none has length 0 and zeros alone
unfoldable pub name_of : List ℕ → Name
name_of n = record { octets = n ++ blank (255 - length n); length = length n }

-- the value that holds the standard form of a well-formed name, and none for octets that are malformed
unfoldable pub held_of : List ℕ → Name
held_of name = elim (well_formed name) [ true ↦ name_of (standard_of name) | false ↦ name_of [] ]

-- what a caller holds: the value that was given, or the value that holds none
abbrev pub held : Option Name → Name
held (Some name) = name
held None = name_of []
