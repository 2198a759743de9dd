-- The values that a writer takes, in every layout: those that a reader gives (01, A6 data; the writer's order in What comes back).
use Rattle.std.specs.Prelude.{ℕ, Bool, true, false, not, List, ltb, eqb, length, drop}
use Rattle.octets.specs.Zeros.{is_blank}
use Rattle.octets.specs.Answers.{earns}
use Rattle.names.specs.Standard.{in_standard_form}
use Rattle.names.specs.declared.Name.{Name}
use Rattle.address.specs.Address.{clear_to}
use Rattle.a6.specs.Data.{longest, octets_of}
use Rattle.a6.specs.declared.Value.{Value}

-- a name's octets are what L asks for: none at 0, else a well-formed name in standard form
unfoldable pub name_fits : ℕ → List ℕ → Bool
name_fits l xs = elim (eqb l 0) [ true ↦ eqb (length xs) 0 | false ↦ in_standard_form xs ]

-- nothing but zeros after the name
abbrev pub zero_filled : Name → Bool
zero_filled n = is_blank (drop n.length n.octets)

-- 01's order, the room aside: a prefix length over 128; a name that is malformed, not in standard form, missing or unwanted, or not zero-filled, or a
-- set bit among the first L
unfoldable pub value_number : Value → ℕ
value_number v =
    earns (ltb longest v.prefix) 10
    (earns (not (name_fits v.prefix (octets_of v.name))) 12
    (earns (not (zero_filled v.name)) 12
    (earns (not (clear_to v.prefix v.address)) 12 0)))

-- the room: an output of so many octets is too short for the data
unfoldable pub room_number : List ℕ → ℕ → ℕ
room_number octets room = earns (ltb room (length octets)) 7 0
