-- The A6 records of a table as the graph that 01 (Chains) speaks of: names are octets, in any spelling.
use Rattle.std.specs.Prelude.{ℕ, Bool, ◌&&◌, List}
use Rattle.names.specs.Standard.{same_name}
use Rattle.chains.specs.Graph.{Graph}
use Rattle.plan.specs.Layout.{is_a6, count_of, record_at, prefix_at, address_at, owner_at, target_at, ttl_at}

-- the record at i is an A6 record of the name x
unfoldable pub owns_a6 : List ℕ → ℕ → List ℕ → Bool
owns_a6 t i x = is_a6 (record_at t i) && same_name (owner_at t i) x

-- the positions are those of the table; a DNAME is owned by no name
abbrev pub graph_of : List ℕ → Graph (List ℕ)
graph_of t = record { size = count_of t; owns = owns_a6 t; target = target_at t; len = prefix_at t; addr = address_at t; ttl = ttl_at t }
