-- Reverse lookup: what it answers and writes (01, Reverse names; What comes back).
use Rattle.std.specs.Prelude.{ℕ, zero, suc, not, List, [], ◌∷◌, eqb, length}
use Rattle.octets.specs.Answers.{earns, or_else, answer_by, out_by}
use Rattle.octets.specs.declared.Answer.{Answer}
use Rattle.names.specs.Standard.{units_of, encode}
use Rattle.chains.specs.Lists.{pick, up_to}
use Rattle.plan.specs.Layout.{address_size, name_room, is_dname, owner_of, target_of, count_of, record_at}
use Rattle.plan.specs.Check.{check_of}
use Rattle.reverse.specs.Walk.{start_of, Rule, End, refused, ended, walk_of}

-- a DNAME record as a rule
unfoldable pub rule_of : List ℕ → Rule
rule_of r = record { owner = units_of (owner_of r); target = units_of (target_of r) }

-- the rules of a table, in its order: its DNAMEs
unfoldable pub rules_of : List ℕ → List Rule
rules_of t = up_to (count_of t) (λ i. pick (is_dname (record_at t i)) (rule_of (record_at t i) ∷ []) [])

-- the number that is earned before the walk: the table's, then 4 for the address, then 5 for an output of `room` octets
unfoldable pub early_number : List ℕ → List ℕ → ℕ → ℕ
early_number t address room = or_else (check_of t) (earns (not (eqb (length address) address_size)) 4 (earns (not (eqb room name_room)) 5 0))

-- how the call ends: refused early, or where the walk does
unfoldable pub end_of : List ℕ → List ℕ → ℕ → ℕ → End
end_of t address limit room = elim (early_number t address room) [ suc n ↦ refused (suc n) | zero ↦ walk_of limit 0 (rules_of t) (start_of address) ]

-- what an end comes to: its number, the last name in standard form, and the rewrites
abbrev pub end_number : End → ℕ
end_number (refused n) = n
end_number (ended name rewrites) = 0

abbrev pub end_name : End → List ℕ
end_name (refused n) = []
end_name (ended name rewrites) = encode name

abbrev pub end_rewrites : End → ℕ
end_rewrites (refused n) = 0
end_rewrites (ended name rewrites) = rewrites

-- by the end: the length of its name and the rewrites; and the name
abbrev pub answer_for : End → Answer
answer_for x = answer_by (end_number x) (length (end_name x)) (end_rewrites x)

abbrev pub out_for : End → ℕ → List ℕ
out_for x room = out_by (end_number x) (end_name x) room

-- what a reverse lookup of the address answers, and what it writes
abbrev pub reverse_answer : List ℕ → List ℕ → ℕ → ℕ → Answer
reverse_answer t address limit room = answer_for (end_of t address limit room)

abbrev pub reverse_out : List ℕ → List ℕ → ℕ → ℕ → List ℕ
reverse_out t address limit room = out_for (end_of t address limit room) room
