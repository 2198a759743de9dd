-- Laws of refusals: a refusal is told by its number.
use Rattle.std.proofs.Common.{◌≡◌, refl, ap, arith, ℕ, zero, suc, Bool, true, false}
use Rattle.std.specs.Prelude.{Result, Ok, Err}
use Rattle.octets.specs.Answers.{earns, or_else}
use Rattle.octets.specs.declared.Refusal.{Refusal}
use Rattle.octets.specs.declared.Refusal.TheVariants.{Length, Record, Repeat, Given, Output, Limit, Room, TooLong, Reviving, Prefix, Short, Malformed, LeftOver, Form, Range, Name, Space}
use Rattle.octets.specs.Refusals.{code_of, told, number_of}

-- each refusal is the one that its number tells: `told_code Short : told 11 ≡ Short`
pub told_code : (e : Refusal) → told (code_of e) ≡ e
unfolding told
told_code Length = refl
told_code Record = refl
told_code Repeat = refl
told_code Given = refl
told_code Output = refl
told_code Limit = refl
told_code Room = refl
told_code TooLong = refl
told_code Reviving = refl
told_code Prefix = refl
told_code Short = refl
told_code Malformed = refl
told_code LeftOver = refl
told_code Form = refl
told_code Range = refl
told_code Name = refl
told_code Space = refl

-- and none has number 0
pub code_some : (e : Refusal) → code_of e ≡ 0 → ⊥
code_some Length h = omega arith
code_some Record h = omega arith
code_some Repeat h = omega arith
code_some Given h = omega arith
code_some Output h = omega arith
code_some Limit h = omega arith
code_some Room h = omega arith
code_some TooLong h = omega arith
code_some Reviving h = omega arith
code_some Prefix h = omega arith
code_some Short h = omega arith
code_some Malformed h = omega arith
code_some LeftOver h = omega arith
code_some Form h = omega arith
code_some Range h = omega arith
code_some Name h = omega arith
code_some Space h = omega arith

-- a number that is 0 or a refusal's own: the refusal that it tells has it
abbrev pub Known : ℕ → Type 0
Known n = (n ≡ 0 → ⊥) → code_of (told n) ≡ n

pub known_zero : Known 0
known_zero h = absurd (h refl)

pub known_code : (e : Refusal) → Known (code_of e)
known_code e h = ap code_of (told_code e)

-- what tests in order earn is known where each number of theirs is
pub known_earned : (b : Bool) (n later : ℕ) → Known n → Known later → Known (earns b n later)
known_earned true n later k m = k
known_earned false n later k m = m

pub known_else : (n later : ℕ) → Known n → Known later → Known (or_else n later)
known_else zero later k m = m
known_else (suc n) later k m = k

-- the number of a result is known
pub known_result : {A : Type 0} (r : Result A Refusal) → Known (number_of r)
known_result (Ok x) = known_zero
known_result (Err e) = known_code e
