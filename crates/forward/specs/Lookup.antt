-- Address lookup (01, Chains; the numbers 1 to 7 in What comes back; T-01).
use Rattle.std.specs.Prelude.{ℕ, ◌/◌, ◌%◌, Bool, not, ◌||◌, List, eqb}
use Rattle.octets.specs.Answers.{earns, or_else}
use Rattle.octets.specs.declared.Answer.{Answer}
use Rattle.plan.specs.Check.{entry_number}
use Rattle.plan.specs.Graph.{graph_of}
use Rattle.search.specs.Answers.{number_of, answer_of, output_of, lives_of}

-- an output of `size` octets that is no whole number of addresses, or a list of `room` places that has another length than the output has
-- room for addresses
abbrev pub misfit : ℕ → ℕ → Bool
misfit size room = not (eqb (size % 16) 0) || not (eqb room (size / 16))

-- the number for a table, a name, a limit, an output of `size` octets and a list for `room` TTLs: what the table and the name earn; 5; then 6
-- and 7 by the work and the addresses
unfoldable pub lookup_number : List ℕ → List ℕ → ℕ → ℕ → ℕ → ℕ
lookup_number t name limit size room = or_else (entry_number t name) (earns (misfit size room) 5 (number_of (graph_of t) name limit (size / 16)))

-- by the number: how many addresses and the work; the addresses in ascending order; and at the place of each its lifetime
abbrev pub lookup_answer : List ℕ → List ℕ → ℕ → ℕ → ℕ → Answer
lookup_answer t name limit size room = answer_of (graph_of t) name (lookup_number t name limit size room)

abbrev pub lookup_out : List ℕ → List ℕ → ℕ → ℕ → ℕ → List ℕ
lookup_out t name limit size room = output_of (graph_of t) name (lookup_number t name limit size room) size

abbrev pub lookup_ttls : List ℕ → List ℕ → ℕ → ℕ → ℕ → List ℕ
lookup_ttls t name limit size room = lives_of (graph_of t) name (lookup_number t name limit size room) room
