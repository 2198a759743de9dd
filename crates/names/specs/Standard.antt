-- Units, the standard form, and when two names are the same (01, Names; T-03).
use Rattle.std.specs.Prelude.{ℕ, ◌+◌, ◌%◌, ◌≡◌, Bool, true, false, ◌&&◌, List, [], ◌∷◌, ◌++◌, map, ltb, length}
use Rattle.octets.specs.Octets.{same}
use Rattle.bits.specs.Bits.{pack}
use Rattle.labels.specs.Labels.{Label, ordinary, bits}
use Rattle.labels.specs.Scan.{scan_of, labels_of, well_formed}

-- what a name is made of: an ordinary label is one unit, and so is each single bit (unit is 01's term)
pub data Unit : Type 0 where
  label : List ℕ → Unit
  bit : ℕ → Unit

-- the bits of a bit label as units, lowest first, before the units above them: the label's first bit is the one nearest the root, so it comes last
unfoldable pub before : List ℕ → List Unit → List Unit
before [] us = us
before (b ∷ bs) us = before bs (bit b ∷ us)

-- the units of labels, lowest first
unfoldable pub units : List Label → List Unit
units [] = []
units (ordinary l ∷ ls) = label l ∷ units ls
units (bits b ∷ ls) = before b (units ls)

-- the units of a name: what the name means
unfoldable pub units_of : List ℕ → List Unit
units_of xs = units (labels_of (scan_of xs))

-- a run of bits as one bit label, the bit nearest the root first; no label for no bits
unfoldable pub bit_label : List ℕ → List ℕ
bit_label [] = []
bit_label (b ∷ bs) = 65 ∷ length (b ∷ bs) % 256 ∷ pack (b ∷ bs)

-- units written in wire form, one bit label for each run; `run` holds the bits of the run so far, the bit nearest the root first
unfoldable pub encode_from : List ℕ → List Unit → List ℕ
encode_from run [] = bit_label run ++ 0 ∷ []
encode_from run (label l ∷ us) = bit_label run ++ (length l ∷ (l ++ encode_from [] us))
encode_from run (bit b ∷ us) = encode_from (b ∷ run) us

-- all the units of a name in wire form
unfoldable pub encode : List Unit → List ℕ
encode us = encode_from [] us

-- The standard form of a name (01's term): its units written with one bit label for each run. Octets that cannot be read as a name have no units, as the
-- root has none; octets after a name are left out. What runs asks for a name first; a statement about any octets, as in demand 3, takes them so.
unfoldable pub standard_of : List ℕ → List ℕ
standard_of xs = encode (units_of xs)

-- T-03: a letter from A to Z, 65 to 90, as the one from a to z; every other octet as it is
unfoldable pub lower : ℕ → ℕ
lower x = elim (ltb 64 x && ltb x 91) [ true ↦ x + 32 | false ↦ x ]

-- the key of a unit: an ordinary label with its letters in lower case; a bit is its own
unfoldable pub key_unit : Unit → Unit
key_unit (label l) = label (map lower l)
key_unit (bit b) = bit b

-- the keys of units
abbrev pub keys : List Unit → List Unit
keys = map key_unit

-- what tells names apart: the key of a name, the keys of its units in standard form; letters are spelt so in keys alone, and in nothing that is written
unfoldable pub key_of : List ℕ → List ℕ
key_of xs = encode (keys (units_of xs))

-- two names are the same: their keys are the same octets (01, Names; T-03)
abbrev pub Same : List ℕ → List ℕ → Type 0
Same m n = key_of m ≡ key_of n

-- the same, as a test that computes
unfoldable pub same_name : List ℕ → List ℕ → Bool
same_name m n = same (key_of m) (key_of n)

-- a well-formed name that is its own standard form
unfoldable pub in_standard_form : List ℕ → Bool
in_standard_form xs = well_formed xs && same (standard_of xs) xs
