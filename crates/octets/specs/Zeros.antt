-- When octets, or bits, are all zero.
use Rattle.std.specs.Prelude.{ℕ, Bool, List, length}
use Rattle.octets.specs.Octets.{blank, same}

-- nothing but zeros
unfoldable pub is_blank : List ℕ → Bool
is_blank xs = same xs (blank (length xs))
