-- Data of the 1998 layout read (T-02): to the values of A6 data, with 01's numbers.
use Rattle.std.specs.Prelude.{ℕ, List, ltb, length, Result}
use Rattle.octets.specs.Answers.{earns}
use Rattle.octets.specs.declared.Refusal.{Refusal}
use Rattle.a6.specs.Data.{longest}
use Rattle.a6.specs.Ending.{name_number, value_from, reading_for}
use Rattle.a6.specs.declared.Value.{Value}
use Rattle.draft.specs.Layout.{address_part, prefix_part, rest_part}

-- left to right: no prefix length after sixteen octets; a prefix length over 128; how the data ends, as in A6 data
unfoldable pub draft_number : List ℕ → ℕ
draft_number octets =
    earns (ltb (length octets) 17) 11
    (earns (ltb longest (prefix_part octets)) 10
    (name_number (prefix_part octets) (rest_part octets)))

-- the value that the data stands for: of the sixteen octets the bits from L on count, and the first L are zero
unfoldable pub draft_value : List ℕ → Value
draft_value octets = value_from (prefix_part octets) (address_part octets) (rest_part octets)

-- what the reader gives: the value, or the refusal
abbrev pub draft_reading : List ℕ → Result Value Refusal
draft_reading octets = reading_for (draft_number octets) (draft_value octets)
