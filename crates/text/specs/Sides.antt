-- How the reader of an address goes: octet by octet, and by the sides of two colons. The code's own, nothing that a reader must believe.
use Rattle.std.specs.Prelude.{ℕ, ◌+◌, ◌-◌, Bool, true, false, ◌&&◌, List, ◌++◌, ltb, eqb, length, Option, Some, None}
use Rattle.octets.specs.Octets.{blank}
use Rattle.text.specs.declared.reading.Tally.{Tally}
use Rattle.text.specs.Digits.{digit_in}
use Rattle.text.specs.Groups.{octets_of}
use Rattle.text.specs.AddressText.{is_side, side_groups, gap_of, has_gap}

-- one octet more of text that is groups: the digits of the group at hand, and the groups that have ended; nothing where the octet may not stand there
unfoldable pub step_of : Tally → ℕ → Option Tally
step_of t c =
    elim (eqb c 58) [
      | true ↦ elim (eqb t.digits 0) [ true ↦ None | false ↦ Some (record { digits = 0; groups = t.groups + 1 }) ]
      | false ↦ elim (ltb (digit_in c) 16 && ltb t.digits 4) [ true ↦ Some (record { digits = t.digits + 1; groups = t.groups }) | false ↦ None ]
    ]

-- how many groups one side of two colons names, where it is one
unfoldable pub count_of : List ℕ → Option ℕ
count_of text = elim (is_side text) [ true ↦ Some (length (side_groups text)) | false ↦ None ]

-- how many octets stand before two colons, where there are two
unfoldable pub gap_found : List ℕ → Option ℕ
gap_found text = elim (has_gap text) [ true ↦ Some (gap_of text) | false ↦ None ]

-- two sides of two colons are an address: each is groups or empty, and together they name fewer than eight
unfoldable pub are_sides : List ℕ → List ℕ → Bool
are_sides a b = (is_side a && is_side b) && ltb (length (side_groups a) + length (side_groups b)) 8

-- what is read of them: zeros for the two colons
unfoldable pub sides_of : List ℕ → List ℕ → Option (List ℕ)
sides_of a b =
    elim (are_sides a b) [
      | true ↦ Some (octets_of (side_groups a ++ (blank (8 - (length (side_groups a) + length (side_groups b))) ++ side_groups b)))
      | false ↦ None
    ]
