-- Why an operation refuses (01, What comes back): the numbers of refusals, and what an operation gives as an answer.
use Rattle.std.specs.Prelude.{ℕ, Result, Ok, Err, ◌==◌, if◌then◌else◌}
use Rattle.octets.specs.declared.Answer.{Answer}
use Rattle.octets.specs.declared.Done.{Done}
use Rattle.octets.specs.declared.Refusal.{Refusal}
use Rattle.octets.specs.declared.Refusal.TheVariants.{Length, Record, Repeat, Given, Output, Limit, Room, TooLong, Reviving, Prefix, Short, Malformed, LeftOver, Form, Range, Name, Space}
use Rattle.octets.specs.Answers.{answering, refusal}

-- the number of a refusal
abbrev pub code_of : Refusal → ℕ
code_of Length = 1
code_of Record = 2
code_of Repeat = 3
code_of Given = 4
code_of Output = 5
code_of Limit = 6
code_of Room = 7
code_of TooLong = 8
code_of Reviving = 9
code_of Prefix = 10
code_of Short = 11
code_of Malformed = 12
code_of LeftOver = 13
code_of Form = 20
code_of Range = 21
code_of Name = 22
code_of Space = 23

-- the refusal with a number, tried in order; of a number that no refusal has, the last
unfoldable pub told : ℕ → Refusal
told n =
    if n == 1 then Length else
    if n == 2 then Record else
    if n == 3 then Repeat else
    if n == 4 then Given else
    if n == 5 then Output else
    if n == 6 then Limit else
    if n == 7 then Room else
    if n == 8 then TooLong else
    if n == 9 then Reviving else
    if n == 10 then Prefix else
    if n == 11 then Short else
    if n == 12 then Malformed else
    if n == 13 then LeftOver else
    if n == 20 then Form else
    if n == 21 then Range else
    if n == 22 then Name else
    Space

-- the number that a result earns: 0 for done
abbrev pub number_of : {A : Type 0} → Result A Refusal → ℕ
number_of (Ok x) = 0
number_of (Err e) = code_of e

-- what an operation gives, as an answer
abbrev pub answered : Result Done Refusal → Answer
answered (Ok d) = answering d.count d.work
answered (Err e) = refusal (code_of e)
