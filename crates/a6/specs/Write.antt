-- A6 data written (01, A6 data; the writer's order in What comes back).
use Rattle.std.specs.Prelude.{ℕ, ◌-◌, List, ◌∷◌, ◌++◌, length, drop}
use Rattle.octets.specs.Answers.{or_else, answer_by, out_by}
use Rattle.octets.specs.declared.Answer.{Answer}
use Rattle.a6.specs.Data.{suffix_octets, octets_of}
use Rattle.a6.specs.Accepted.{value_number, room_number}
use Rattle.a6.specs.declared.Value.{Value}

-- the prefix length, the last octets of the address, the name
unfoldable pub data_of : Value → List ℕ
data_of v = v.prefix ∷ (drop (16 - suffix_octets v.prefix) v.address ++ octets_of v.name)

-- 01's order: what is wrong with the value; an output that is too short
abbrev pub write_number : Value → ℕ → ℕ
write_number v room = or_else (value_number v) (room_number (data_of v) room)

-- by the number: the length of the data; and the data
abbrev pub write_answer : Value → ℕ → Answer
write_answer v room = answer_by (write_number v room) (length (data_of v)) 0

abbrev pub write_out : Value → ℕ → List ℕ
write_out v room = out_by (write_number v room) (data_of v) room
