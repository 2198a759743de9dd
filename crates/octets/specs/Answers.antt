-- What comes back (01, the section of that name): a number, two figures, and lent outputs. The number decides all the rest.
use Rattle.std.specs.Prelude.{ℕ, zero, suc, ◌-◌, Bool, true, false, List, ◌++◌, length}
use Rattle.octets.specs.Octets.{blank}
use Rattle.octets.specs.declared.Answer.{Answer}

-- one test of a list in order: the number that it earns where it holds, else what the later tests earn
abbrev pub earns : Bool → ℕ → ℕ → ℕ
earns true n later = n
earns false n later = later

-- a number that was earned before, or, where that is 0, what the later tests earn
abbrev pub or_else : ℕ → ℕ → ℕ
or_else zero later = later
or_else (suc k) later = suc k

-- an answer with number 0: done, with its two figures
abbrev pub answering : ℕ → ℕ → Answer
answering count work = record { number = 0; count = count; work = work }

-- a refusal: its number, and both figures zero
abbrev pub refusal : ℕ → Answer
refusal k = record { number = k; count = 0; work = 0 }

-- by the number: done with these figures, or a refusal
unfoldable pub answer_by : ℕ → ℕ → ℕ → Answer
answer_by zero count work = answering count work
answer_by (suc k) count work = refusal (suc k)

-- by the number: a lent output of so many places with the result in front and zeros after it, or zeros alone
unfoldable pub out_by : ℕ → List ℕ → ℕ → List ℕ
out_by zero result room = result ++ blank (room - length result)
out_by (suc k) result room = blank room
