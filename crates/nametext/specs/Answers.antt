-- What write_name answers and writes (T-06).
use Rattle.std.specs.Prelude.{ℕ, not, List, length}
use Rattle.octets.specs.declared.Answer.{Answer}
use Rattle.octets.specs.Answers.{earns, answer_by, out_by}
use Rattle.labels.specs.Scan.{well_formed}
use Rattle.names.specs.Standard.{standard_of}
use Rattle.text.specs.Answers.{room_number}
use Rattle.nametext.specs.Writing.{text_of}

-- the text of a name's standard form
abbrev pub name_text : List ℕ → List ℕ
name_text name = text_of (standard_of name)

-- the number for a name and an output of `room` octets: 4 for a malformed name, then 23 where the text is longer
unfoldable pub write_name_number : List ℕ → ℕ → ℕ
write_name_number name room = earns (not (well_formed name)) 4 (room_number (name_text name) room)

-- by the number: how many octets the text has; and the text with zeros after it
abbrev pub write_name_answer : List ℕ → ℕ → Answer
write_name_answer name room = answer_by (write_name_number name room) (length (name_text name)) 0

abbrev pub write_name_out : List ℕ → ℕ → List ℕ
write_name_out name room = out_by (write_name_number name room) (name_text name) room
