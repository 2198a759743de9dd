-- What laws ask of a graph: the code's own, nothing that a reader must believe.
use Rattle.std.specs.Prelude.{ℕ, ◌≤◌, ◌<◌, ◌≡◌, length}
use Rattle.octets.specs.Octets.{Small}
use Rattle.chains.specs.Graph.{Graph, max_ttl}

-- what a table in order gives (01, The plan table; T-01): addresses of sixteen octets, prefix lengths from 0 to 128, TTLs up to the greatest
pub record Sound {N : Type 0} (g : Graph N) : Type 0 where
  pub sixteen : (i : ℕ) → i < g.size → length (g.addr i) ≡ 16
  pub small : (i : ℕ) → i < g.size → Small (g.addr i)
  pub short : (i : ℕ) → i < g.size → g.len i ≤ 128
  pub lived : (i : ℕ) → i < g.size → g.ttl i ≤ max_ttl
