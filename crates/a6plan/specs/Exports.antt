-- What an operation's answer becomes at the C interface: a number, its figures and its outputs.
use Rattle.std.specs.Prelude.{ℕ, Bool, true, false, not, ◌&&◌, ◌||◌, List, [], ◌∷◌, ◌++◌, eqb, length, get_or, take, drop}
use Rattle.octets.specs.Octets.{blank, among}
use Rattle.octets.specs.Answers.{earns, answering, out_by}
use Rattle.octets.specs.declared.Answer.{Answer}
use Rattle.plan.specs.declared.Part.{Part}
use Rattle.plan.specs.declared.Fault.{Fault}
use Rattle.plan.specs.declared.Reply.{Reply}
use Rattle.a6.specs.declared.Value.{Value}

-- how an export judges its figures: how many it wants, and the numbers that come before 5 in its order
pub record Figured : Type 0 where
  pub wanted : ℕ
  pub earlier : List ℕ

-- of `a6plan_standard`
abbrev pub of_name : Figured
of_name = record { wanted = 2; earlier = 4 ∷ [] }

-- of `a6plan_owner`, which has no other number
abbrev pub of_part : Figured
of_part = record { wanted = 2; earlier = [] }

-- of `a6plan_write_line` and `a6plan_read_line`, which have no 5 of their own: 5 before everything else
abbrev pub of_line : Figured
of_line = record { wanted = 2; earlier = [] }

-- of `a6plan_check`
abbrev pub of_check : Figured
of_check = record { wanted = 2; earlier = 1 ∷ 2 ∷ 3 ∷ [] }

-- of `a6plan_lookup`, `a6plan_reverse` and `a6plan_collapse`
abbrev pub of_table : Figured
of_table = record { wanted = 4; earlier = 1 ∷ 2 ∷ 3 ∷ 4 ∷ [] }

-- the number k of an operation whose figures slice has n places: a slice of another length than is wanted is an output out of order, so it earns 5,
-- but not before a number that comes before 5
unfoldable pub exported_number : Figured → ℕ → ℕ → ℕ
exported_number w n k = earns (not (eqb n w.wanted) && not (among k w.earlier)) 5 k

-- by the exported number: both figures of an answer, or as many zeros as there are places
abbrev pub exported_figures : ℕ → Answer → ℕ → List ℕ
exported_figures k a n = out_by k (a.count ∷ a.work ∷ []) n

-- figures that a refusal has too: they stand where there are as many places, else there are zeros
unfoldable pub placed_figures : List ℕ → ℕ → List ℕ
placed_figures figures n = elim (eqb n (length figures)) [ true ↦ figures | false ↦ blank n ]

-- the figures of the check: index and field; those of lookup, reverse and collapse: count, work, index and field
abbrev pub fault_figures : Fault → List ℕ
fault_figures f = f.index ∷ f.field ∷ []

abbrev pub reply_figures : Reply → List ℕ
reply_figures r = r.answer.count ∷ r.answer.work ∷ fault_figures r.fault

-- a part of a table as an answer: its figures are where it starts and how long it is
abbrev pub part_answer : Part → Answer
part_answer p = answering p.offset p.length

-- an A6 value at this interface: the prefix length, sixteen address octets, the name's length and its 255 octets
abbrev pub value_size : ℕ
value_size = 273

unfoldable pub value_octets : Value → List ℕ
value_octets v = v.prefix ∷ (v.address ++ (v.name.length ∷ v.name.octets))

-- the value that so many octets hold
unfoldable pub value_in : List ℕ → Value
value_in xs = record { prefix = get_or xs 0 0; address = take 16 (drop 1 xs); name = record { octets = take 255 (drop 18 xs); length = get_or xs 17 0 } }

-- the number k of reading and of writing data, in each layout, which have no 5 of their own: 5 before everything else for a value slice of m places
-- that is not of that size, and, where there are figures, for n of them that are not two
unfoldable pub exported_read_number : ℕ → ℕ → ℕ
exported_read_number m k = earns (not (eqb m value_size)) 5 k

abbrev pub misfit : ℕ → ℕ → Bool
misfit m n = not (eqb m value_size) || not (eqb n 2)

unfoldable pub exported_write_number : ℕ → ℕ → ℕ → ℕ
exported_write_number m n k = earns (misfit m n) 5 k
