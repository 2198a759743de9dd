-- The A6 records of a table as a graph over the numbers of their names. The code's own: nothing that a reader must believe.
use Rattle.std.specs.Prelude.{ℕ, Bool, ◌&&◌, List, eqb}
use Rattle.chains.specs.Graph.{Graph}
use Rattle.plan.specs.Layout.{is_a6, count_of, record_at, prefix_at, address_at, ttl_at, is_type}
use Rattle.numbering.specs.Numbers.{own_number, target_number}

-- the record at i is an A6 record of the name with the number x
unfoldable pub owns_numbered : List ℕ → ℕ → ℕ → Bool
unfolding is_type record_at own_number
owns_numbered t i x = is_a6 (record_at t i) && eqb (own_number t i) x

-- the same records, with numbers for names
abbrev pub numbered : List ℕ → Graph ℕ
numbered t = record { size = count_of t; owns = owns_numbered t; target = target_number t; len = prefix_at t; addr = address_at t; ttl = ttl_at t }
