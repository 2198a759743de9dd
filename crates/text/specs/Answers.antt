-- What the writers of a whole text answer (T-06).
use Rattle.std.specs.Prelude.{ℕ, List, ltb, length}
use Rattle.octets.specs.declared.Answer.{Answer}
use Rattle.octets.specs.Answers.{earns, answer_by, out_by}

-- the number for a text and an output of `room` octets: 23 where the text is longer
unfoldable pub room_number : List ℕ → ℕ → ℕ
room_number text room = earns (ltb room (length text)) 23 0

-- by the number: how many octets the text has; and the text with zeros after it
abbrev pub text_answer : List ℕ → ℕ → Answer
text_answer text room = answer_by (room_number text room) (length text) 0

abbrev pub text_out : List ℕ → ℕ → List ℕ
text_out text room = out_by (room_number text room) text room
