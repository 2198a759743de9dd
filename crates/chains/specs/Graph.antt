-- The A6 records of a plan as a graph (01, Chains): what the records say, and nothing of how they are stored.
use Rattle.std.specs.Prelude.{ℕ, Bool, List}

-- The greatest TTL that a record may have (T-01).
abbrev pub max_ttl : ℕ
max_ttl = 2147483647

-- The records stand at the positions below `size`. `owns i x`: the record at i is an A6 record that the name x owns. `len` is the prefix length,
-- `addr` the sixteen address octets, `ttl` the lifetime in seconds; `target` counts only where the prefix length is not zero. Names are of any
-- type N: octets for the meaning, numbers for a search.
pub record Graph (N : Type 0) : Type 0 where
  pub size : ℕ
  pub owns : ℕ → N → Bool
  pub target : ℕ → N
  pub len : ℕ → ℕ
  pub addr : ℕ → List ℕ
  pub ttl : ℕ → ℕ
