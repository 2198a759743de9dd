-- The code's own: what functions of our own layers are given and promise. Nothing that a reader must believe.
use Rattle.std.specs.Prelude.{ℕ, ◌-◌, ◌/◌, max, ◌≡◌, List, ◌∷◌, ◌++◌, length, take, drop, Result, IfOk}
use Rattle.octets.specs.Octets.{blank}
use Rattle.octets.specs.Answers.{or_else}
use Rattle.octets.specs.Refusals.{number_of}
use Rattle.octets.specs.declared.Refusal.{Refusal}
use Rattle.a6.specs.Data.{suffix_octets, octets_of}
use Rattle.a6.specs.Ending.{value_from}
use Rattle.a6.specs.Accepted.{value_number, room_number}
use Rattle.a6.specs.declared.Value.{Value}
use Rattle.a6.specs.declared.parts.Found.{Found}
use Rattle.a6.specs.declared.parts.Lent.{Lent}

-- octets written over the front of others
abbrev pub over : List ℕ → List ℕ → List ℕ
over out xs = xs ++ drop (length xs) out

-- the suffix of a prefix of length L in the last of sixteen octets
abbrev pub in_last : ℕ → List ℕ → List ℕ
in_last l suffix = blank (16 - suffix_octets l) ++ suffix

-- the value that data stands for, by the parts that are found in it
abbrev pub value_at : Found → Value
value_at f = value_from f.prefix (in_last f.prefix f.suffix.now) f.name.now

-- the value whose octets are lent
abbrev pub lent_value : Lent → Value
lent_value l = record { prefix = l.prefix; address = l.address.now; name = record { octets = l.octets.now; length = l.length } }

-- what the tests of a layout say of data: its number there, and on 0 the parts of the value that it stands for there
abbrev pub Tells : Result Found Refusal → ℕ → Value → Type 0
Tells r number v = (number_of r ≡ number) × IfOk r (λ f. value_at f ≡ v)

-- data in the order in which it is written: so many octets of the address before the prefix length, the prefix length, those from some place on
-- after it, the name
abbrev pub laid : ℕ → List ℕ → ℕ → ℕ → List ℕ → List ℕ
laid prefix address before after name = take before address ++ (prefix ∷ (drop after address ++ name))

-- the same of a value, where behind the prefix length stands what neither the prefix fills nor stands before it; and the number for it
abbrev pub laid_of : Value → ℕ → List ℕ
laid_of v before = laid v.prefix v.address before (max before (v.prefix / 8)) (octets_of v.name)

abbrev pub laid_number : Value → ℕ → ℕ → ℕ
laid_number v before room = or_else (value_number v) (room_number (laid_of v before) room)
