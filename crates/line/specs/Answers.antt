-- What reading and writing a line answer (T-06).
use Rattle.std.specs.Prelude.{ℕ, not, List, ltb, length}
use Rattle.octets.specs.declared.Answer.{Answer}
use Rattle.octets.specs.Answers.{earns, or_else, answer_by, out_by}
use Rattle.plan.specs.Layout.{record_size}
use Rattle.plan.specs.Fields.{one_a6}
use Rattle.line.specs.Writing.{line_of}
use Rattle.line.specs.Reading.{line_number, record_in}

-- 2 where the octets are not exactly one A6 record in order, 23 where the line is longer than the output
unfoldable pub write_line_number : List ℕ → ℕ → ℕ
write_line_number r room = earns (not (one_a6 r)) 2 (earns (ltb room (length (line_of r))) 23 0)

-- by the number: the octets of the line; the line, and zeros after it
abbrev pub write_line_answer : List ℕ → ℕ → Answer
write_line_answer r room = answer_by (write_line_number r room) (length (line_of r)) 0

abbrev pub write_line_out : List ℕ → ℕ → List ℕ
write_line_out r room = out_by (write_line_number r room) (line_of r) room

-- what the line earns, then 23 where the output has no room for a record
unfoldable pub read_line_number : List ℕ → ℕ → ℕ
read_line_number line room = or_else (line_number line) (earns (ltb room record_size) 23 0)

-- by the number: one record; its octets, and zeros after them
abbrev pub read_line_answer : List ℕ → ℕ → Answer
read_line_answer line room = answer_by (read_line_number line room) 1 0

abbrev pub read_line_out : List ℕ → ℕ → List ℕ
read_line_out line room = out_by (read_line_number line room) (record_in line) room
