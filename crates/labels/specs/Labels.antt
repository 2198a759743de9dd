-- One label of a name in wire form (01, Names).
-- In each definition xs is what is left of the octets, from the label's first octet on.
use Rattle.std.specs.Prelude.{ℕ, ◌+◌, ◌-◌, ◌*◌, ◌%◌, ◌^◌, Bool, true, false, not, ◌&&◌, ◌||◌, List, ltb, eqb, length, get_or, take, drop}
use Rattle.octets.specs.Answers.{earns}
use Rattle.bits.specs.Bits.{octets_for, unpack}

-- what a label holds: the octets of an ordinary label, or the bits of a bit label, its first bit first
pub data Label : Type 0 where
  ordinary : List ℕ → Label
  bits : List ℕ → Label

-- its first octet, which says of what kind it is
abbrev pub first_of : List ℕ → ℕ
first_of xs = get_or xs 0 0

-- a label begins with its length, 1 to 63, or with 65 for a bit label; 0 is the zero octet that ends the name, read like a label of no octets
abbrev pub is_label : ℕ → Bool
is_label x = ltb x 64 || eqb x 65

-- the bits that a count octet stands for: 256 is written as 0
unfoldable pub count_for : ℕ → ℕ
count_for c = elim (eqb c 0) [ true ↦ 256 | false ↦ c ]

-- how many bits a bit label has: what its second octet stands for
unfoldable pub count_of : List ℕ → ℕ
count_of xs = count_for (get_or xs 1 0)

-- the octets that the label takes, its first octet and its count octet among them
unfoldable pub size_of : List ℕ → ℕ
size_of xs = elim (eqb (first_of xs) 65) [ true ↦ 2 + octets_for (count_of xs) | false ↦ 1 + first_of xs ]

-- the bits of the last octet that the count leaves unused are zero
unfoldable pub unused_clear : List ℕ → Bool
unused_clear xs = eqb (get_or xs (1 + octets_for (count_of xs)) 0 % 2 ^ (octets_for (count_of xs) * 8 - count_of xs)) 0

-- how many bits the run of bit labels has that the label ends, after `run` bits of it; none after an ordinary label
unfoldable pub run_of : ℕ → List ℕ → ℕ
run_of run xs = elim (eqb (first_of xs) 65) [ true ↦ run + count_of xs | false ↦ 0 ]

-- the label itself: as many octets as its first octet says, or as many bits as its count octet stands for
unfoldable pub label_of : List ℕ → Label
label_of xs = elim (eqb (first_of xs) 65) [ true ↦ bits (unpack (count_of xs) (drop 2 xs)) | false ↦ ordinary (take (first_of xs) (drop 1 xs)) ]

-- 01, What comes back, the reader's order at each label, after `used` octets of the name and `run` bits of a run:
-- no octet is left; a first octet that begins no label; a label that sticks out; more than 255 octets so far; unused bits set; a run over 256 bits.
-- A bit label without its count octet sticks out, since at least one octet of bits is due after it.
unfoldable pub fault_of : ℕ → ℕ → List ℕ → ℕ
fault_of used run xs =
    earns (eqb (length xs) 0) 11
    (earns (not (is_label (first_of xs))) 12
    (earns (ltb (length xs) (size_of xs)) 11
    (earns (ltb 255 (used + size_of xs)) 12
    (earns (eqb (first_of xs) 65 && not (unused_clear xs)) 12
    (earns (ltb 256 (run_of run xs)) 12 0)))))
