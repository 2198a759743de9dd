-- The line of a record's fields by value, for the writer's contracts: the code's own, nothing that a reader must believe.
use Rattle.std.specs.Prelude.{ℕ, ◌+◌, true, false, List, [], ◌∷◌, ◌++◌, eqb, take}
use Rattle.names.specs.declared.Name.{Name}
use Rattle.plan.specs.declared.inside.Fields.{Fields}
use Rattle.text.specs.Decimal.{write_decimal}
use Rattle.text.specs.AddressText.{write_address}
use Rattle.nametext.specs.Writing.{text_of}
use Rattle.line.specs.Writing.{a6_word}
use Rattle.line.specs.Longest.{longest_line}

-- what the writer of a name asks for: four octets for each octet of the longest name
abbrev pub text_room : ℕ
text_room = 1020

-- room for any line: the writer of a target asks for 16 octets more than its text takes, and octet 10 is one of them
abbrev pub line_room : ℕ
line_room = longest_line + 15

-- the octets of a name that is held by value
unfoldable pub held_octets : Name → List ℕ
held_octets n = take n.length n.octets

-- a space, and the target; nothing at prefix length 0
unfoldable pub target_field : ℕ → Name → List ℕ
target_field prefix target = elim (eqb prefix 0) [ true ↦ [] | false ↦ 32 ∷ text_of (held_octets target) ]

-- the line
unfoldable pub fields_text : Fields → List ℕ
fields_text f =
    text_of (held_octets f.owner)
    ++ (32 ∷ (write_decimal f.ttl
    ++ (32 ∷ (a6_word
    ++ (32 ∷ (write_decimal f.prefix
    ++ (32 ∷ (write_address f.address
    ++ (target_field f.prefix f.target ++ (10 ∷ []))))))))))
