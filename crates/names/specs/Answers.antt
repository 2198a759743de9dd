-- What standard_form answers and writes (01, What comes back).
use Rattle.std.specs.Prelude.{ℕ, not, List, eqb, length}
use Rattle.octets.specs.declared.Answer.{Answer}
use Rattle.octets.specs.Answers.{earns, answer_by, out_by}
use Rattle.labels.specs.Scan.{well_formed}
use Rattle.names.specs.Standard.{standard_of}

-- the number for a name and an output of `room` octets: 4 for a malformed name, then 5 for an output that is not of 255
unfoldable pub standard_number : List ℕ → ℕ → ℕ
standard_number name room = earns (not (well_formed name)) 4 (earns (not (eqb room 255)) 5 0)

-- by the number: the length of the standard form; and the standard form
abbrev pub standard_answer : List ℕ → ℕ → Answer
standard_answer name room = answer_by (standard_number name room) (length (standard_of name)) 0

abbrev pub standard_out : List ℕ → ℕ → List ℕ
standard_out name room = out_by (standard_number name room) (standard_of name) room
