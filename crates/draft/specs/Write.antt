-- Data of the 1998 layout written (T-02): the values that 01's writer takes, with its numbers.
use Rattle.std.specs.Prelude.{ℕ, List, ◌∷◌, ◌++◌, length}
use Rattle.octets.specs.Answers.{or_else, answer_by, out_by}
use Rattle.octets.specs.declared.Answer.{Answer}
use Rattle.a6.specs.Data.{octets_of}
use Rattle.a6.specs.Accepted.{value_number, room_number}
use Rattle.a6.specs.declared.Value.{Value}

-- the address, the prefix length, the name
unfoldable pub draft_data : Value → List ℕ
draft_data v = v.address ++ (v.prefix ∷ octets_of v.name)

-- what is wrong with the value, as in 01; an output that is too short
abbrev pub draft_write_number : Value → ℕ → ℕ
draft_write_number v room = or_else (value_number v) (room_number (draft_data v) room)

-- by the number: the length of the data; and the data
abbrev pub draft_answer : Value → ℕ → Answer
draft_answer v room = answer_by (draft_write_number v room) (length (draft_data v)) 0

abbrev pub draft_out : Value → ℕ → List ℕ
draft_out v room = out_by (draft_write_number v room) (draft_data v) room
