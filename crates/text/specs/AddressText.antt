-- Addresses in text: written by RFC 5952, read in any form of RFC 4291, section 2.2, but one with a dotted quad.
use Rattle.std.specs.Prelude.{ℕ, suc, ◌+◌, ◌-◌, ◌*◌, Bool, true, false, ◌&&◌, ◌||◌, List, [], ◌∷◌, ◌++◌, ltb, eqb, length, get_or, take, drop}
use Rattle.octets.specs.Octets.{blank}
use Rattle.text.specs.Digits.{digit_in, leading, number_text}
use Rattle.text.specs.Groups.{groups_of, octets_of, longest, before_run, after_run}

-- each further group: a colon, and small hexadecimal digits with no needless zero
unfoldable pub more_text : List ℕ → List ℕ
more_text [] = []
more_text (g ∷ gs) = 58 ∷ (number_text 16 g ++ more_text gs)

-- groups parted by colons
unfoldable pub groups_text : List ℕ → List ℕ
groups_text [] = []
groups_text (g ∷ gs) = number_text 16 g ++ more_text gs

-- two colons stand for the leftmost of the longest runs of two or more zero groups
unfoldable pub short_text : List ℕ → List ℕ
short_text gs = elim (ltb (longest gs) 2) [ true ↦ groups_text gs | false ↦ groups_text (before_run gs) ++ (58 ∷ 58 ∷ groups_text (after_run gs)) ]

-- the text of an address
unfoldable pub write_address : List ℕ → List ℕ
write_address a = short_text (groups_of a)

-- text is groups parted by colons, each of one to four hexadecimal digits; n digits of its first group have been passed
unfoldable pub are_groups : ℕ → List ℕ → Bool
are_groups n [] = ltb 0 n
are_groups n (c ∷ cs) = elim (eqb c 58) [ true ↦ ltb 0 n && are_groups 0 cs | false ↦ (ltb (digit_in c) 16 && ltb n 4) && are_groups (suc n) cs ]

-- the groups that such text names; v is the value of the digits passed
unfoldable pub groups_from : ℕ → List ℕ → List ℕ
groups_from v [] = v ∷ []
groups_from v (c ∷ cs) = elim (eqb c 58) [ true ↦ v ∷ groups_from 0 cs | false ↦ groups_from (v * 16 + digit_in c) cs ]

-- text on one side of two colons is groups, or is empty
unfoldable pub is_side : List ℕ → Bool
is_side [] = true
is_side (c ∷ cs) = are_groups 0 (c ∷ cs)

-- and the groups that it names
unfoldable pub side_groups : List ℕ → List ℕ
side_groups [] = []
side_groups (c ∷ cs) = groups_from 0 (c ∷ cs)

-- text starts with two colons
unfoldable pub two_colons : List ℕ → Bool
two_colons xs = eqb (get_or xs 0 0) 58 && eqb (get_or xs 1 0) 58

-- how many octets stand before the first two colons; all of them where there are none
unfoldable pub gap_of : List ℕ → ℕ
gap_of [] = 0
gap_of (c ∷ cs) = elim (two_colons (c ∷ cs)) [ true ↦ 0 | false ↦ suc (gap_of cs) ]

-- the text has two colons side by side
unfoldable pub has_gap : List ℕ → Bool
has_gap xs = ltb (gap_of xs) (length xs)

-- the text before the two colons, and the text after them
unfoldable pub before_gap : List ℕ → List ℕ
before_gap xs = take (gap_of xs) xs

unfoldable pub after_gap : List ℕ → List ℕ
after_gap xs = drop (gap_of xs + 2) xs

-- how many groups are named on both sides of the two colons
unfoldable pub named : List ℕ → ℕ
named xs = length (side_groups (before_gap xs)) + length (side_groups (after_gap xs))

-- the whole text is an address: two sides with fewer than eight groups, or eight groups
unfoldable pub is_address : List ℕ → Bool
is_address xs =
    elim (has_gap xs) [
      | true ↦ (is_side (before_gap xs) && is_side (after_gap xs)) && ltb (named xs) 8
      | false ↦ are_groups 0 xs && eqb (length (groups_from 0 xs)) 8
    ]

-- the groups of the address: zeros for the two colons
unfoldable pub address_groups : List ℕ → List ℕ
address_groups xs =
    elim (has_gap xs) [
      | true ↦ side_groups (before_gap xs) ++ (blank (8 - named xs) ++ side_groups (after_gap xs))
      | false ↦ groups_from 0 xs
    ]

-- the sixteen octets that text names where it is an address
unfoldable pub read_address : List ℕ → List ℕ
read_address xs = octets_of (address_groups xs)

-- an octet may stand in an address: a hexadecimal digit or a colon
unfoldable pub may_stand : ℕ → Bool
may_stand c = eqb c 58 || ltb (digit_in c) 16

-- how many such octets stand at the start of text
abbrev pub address_count : List ℕ → ℕ
address_count = leading may_stand
