-- A name read from left to right (01, Names, and the reader's order in What comes back).
use Rattle.std.specs.Prelude.{ℕ, zero, suc, ◌+◌, ◌-◌, Bool, true, false, List, [], ◌∷◌, eqb, length}
use Rattle.labels.specs.Labels.{Label, ordinary, bits, size_of, run_of, label_of, fault_of}

-- a reading is refused by a number, or gives the labels before the zero octet and how many octets the name takes, the zero octet among them
pub data Reading : Type 0 where
  refused : ℕ → Reading
  done : List Label → ℕ → Reading

-- a label in front of a reading of what follows it
unfoldable pub with : Label → Reading → Reading
with l (refused n) = refused n
with l (done ls used) = done (l ∷ ls) used

-- the reading of what is left, after `used` octets and `run` bits of a run; `skip` octets of the label just read are passed over first
unfoldable pub scan_from : ℕ → ℕ → ℕ → List ℕ → Reading
scan_from used run skip [] = refused 11
scan_from used run (suc skip) (x ∷ xs) = scan_from used run skip xs
scan_from used run zero (x ∷ xs) = elim (fault_of used run (x ∷ xs)) [
  | suc n ↦ refused (suc n)
  | zero ↦ elim (eqb x 0) [
    | true ↦ done [] (used + 1)
    | false ↦ with (label_of (x ∷ xs)) (scan_from (used + size_of (x ∷ xs)) (run_of run (x ∷ xs)) (size_of (x ∷ xs) - 1) xs)
  ]
]

-- the name at the front of octets; more octets may follow it
unfoldable pub scan_of : List ℕ → Reading
scan_of xs = scan_from 0 0 0 xs

-- the labels of a reading; none where it is refused
unfoldable pub labels_of : Reading → List Label
labels_of (refused n) = []
labels_of (done ls used) = ls

-- the reading ends well and takes just n octets
unfoldable pub fills : ℕ → Reading → Bool
fills n (refused k) = false
fills n (done ls used) = eqb used n

-- a name that is given by itself, or in a slot, is well formed when it fills its octets exactly
unfoldable pub well_formed : List ℕ → Bool
well_formed xs = fills (length xs) (scan_of xs)

-- no two bit labels are adjacent; `after` says that a bit label came just before
unfoldable pub apart : Bool → List Label → Bool
apart after [] = true
apart after (ordinary l ∷ ls) = apart false ls
apart after (bits b ∷ ls) = elim after [ true ↦ false | false ↦ apart true ls ]
