-- A6 data read (01, A6 data; the reader's order in What comes back).
use Rattle.std.specs.Prelude.{ℕ, ◌+◌, ◌-◌, List, ◌++◌, ltb, eqb, length, Result}
use Rattle.octets.specs.Octets.{blank}
use Rattle.octets.specs.Answers.{earns}
use Rattle.octets.specs.declared.Refusal.{Refusal}
use Rattle.a6.specs.Data.{longest, suffix_octets, prefix_of, suffix_of, after_suffix}
use Rattle.a6.specs.Ending.{name_number, value_from, reading_for}
use Rattle.a6.specs.declared.Value.{Value}

-- 01's order, left to right: no octet at all; a prefix length over 128; a suffix that sticks out; how the data ends
unfoldable pub read_number : List ℕ → ℕ
read_number octets =
    earns (eqb (length octets) 0) 11
    (earns (ltb longest (prefix_of octets)) 10
    (earns (ltb (length octets) (1 + suffix_octets (prefix_of octets))) 11
    (name_number (prefix_of octets) (after_suffix octets))))

-- the sixteen octets that end in the suffix; its padding is before bit L, and does not count
abbrev pub aligned : List ℕ → List ℕ
aligned octets = blank (16 - suffix_octets (prefix_of octets)) ++ suffix_of octets

-- the value that A6 data stands for
unfoldable pub value_of : List ℕ → Value
value_of octets = value_from (prefix_of octets) (aligned octets) (after_suffix octets)

-- what the reader gives: the value, or the refusal
abbrev pub read_of : List ℕ → Result Value Refusal
read_of octets = reading_for (read_number octets) (value_of octets)
