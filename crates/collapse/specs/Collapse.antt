-- What collapse answers and writes (01, What comes back): the number first, the answer and the output by the number.
use Rattle.std.specs.Prelude.{ℕ, ◌/◌, ◌%◌, Bool, not, ◌||◌, List, ltb, eqb, length}
use Rattle.octets.specs.Octets.{flat}
use Rattle.octets.specs.Answers.{earns, or_else, answer_by, out_by}
use Rattle.octets.specs.declared.Answer.{Answer}
use Rattle.plan.specs.Layout.{record_size, max_records}
use Rattle.plan.specs.Check.{entry_number}
use Rattle.collapse.specs.Fold.{fold_of, reviving}

-- 5: the output is no multiple of a record
unfoldable pub misshapen : ℕ → Bool
misshapen size = not (eqb (size % record_size) 0)

-- 7: more records than an output of `size` octets has room for, or than a table may have
unfoldable pub passes : ℕ → List (List ℕ) → Bool
passes size rs = ltb (size / record_size) (length rs) || ltb max_records (length rs)

-- the number: 1 to 4 by the table and the name, then 5, 9 and 7
unfoldable pub number_of : List ℕ → List ℕ → ℕ → ℕ
number_of t x size = or_else (entry_number t x) (earns (misshapen size) 5 (earns (reviving x t) 9 (earns (passes size (fold_of x t)) 7 0)))

-- by the number: how many records there are; and the records
abbrev pub collapse_answer : List ℕ → List ℕ → ℕ → Answer
collapse_answer t x size = answer_by (number_of t x size) (length (fold_of x t)) 0

abbrev pub collapse_out : List ℕ → List ℕ → ℕ → List ℕ
collapse_out t x size = out_by (number_of t x size) (flat (fold_of x t)) size

-- what a collapse of the name x gives for the table t and an output of `size` octets: the answer, and the output
unfoldable pub collapse_of : List ℕ → List ℕ → ℕ → Answer × List ℕ
collapse_of t x size = (collapse_answer t x size, collapse_out t x size)
