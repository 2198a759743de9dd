-- Labels passed and units found in a name, for the contracts of the functions that do it: the code's own, nothing that a reader must believe.
use Rattle.std.specs.Prelude.{ℕ, ◌+◌, ◌-◌, ◌*◌, ◌≤◌, ◌<◌, ◌≡◌, true, false, List, [], ◌∷◌, ◌++◌, length, get_or, drop}
use Rattle.bits.specs.Bits.{octets_for, unpack}
use Rattle.labels.specs.Labels.{Label, count_for}
use Rattle.labels.specs.Scan.{apart}
use Rattle.names.specs.Standard.{Unit, label, bit, before, units}
use Rattle.names.specs.Merge.{Begins, labels_from, labels_at}
use Rattle.rewriting.specs.declared.inside.Spot.{Spot}

-- the units from a place on
unfoldable pub units_at : List ℕ → ℕ → List Unit
unfolding labels_from units
units_at name at = units (labels_at name at)

-- the units do not begin with a bit
abbrev pub NoBit : List Unit → Type 0
NoBit [] = record {}
NoBit (label l ∷ us) = record {}
NoBit (bit b ∷ us) = ⊥

-- the bits that units end with, the one nearest the root first; `run` came before them
unfoldable pub last_run : List ℕ → List Unit → List ℕ
last_run run [] = run
last_run run (label l ∷ us) = last_run [] us
last_run run (bit b ∷ us) = last_run (b ∷ run) us

-- a label of the name was passed
pub record Turned (name : List ℕ) (at end size : ℕ) : Type 0 where
  pub begins : Begins name end
  pub on : at < end
  pub first : Label
  pub labels : labels_at name at ≡ first ∷ labels_at name end
  pub front : List Unit
  pub parts : units_at name at ≡ front ++ units_at name end
  pub sized : length front ≡ size
  pub some : 0 < size
  pub few : size ≤ 8 * (end - at)
  pub single : (get_or name at 0 ≡ 65 → ⊥) → size ≡ 1
  pub plain : (get_or name at 0 ≡ 65 → ⊥) → (run : List ℕ) → last_run run front ≡ []
  pub counted : get_or name at 0 ≡ 65 → (size ≡ count_for (get_or name (at + 1) 0)) × (end ≡ at + 2 + octets_for size)

-- no two bit labels are adjacent
abbrev pub Parted : List ℕ → ℕ → Type 0
Parted name at = apart false (labels_at name at) ≡ true

-- unit j of the name was found: its label, and how many units of the label are before it
pub record Found (name : List ℕ) (j : ℕ) (r : Spot) : Type 0 where
  pub begins : Begins name r.at
  pub turned : Turned name r.at r.end r.units
  pub within : r.left < r.units
  pub passed : List Unit
  pub parts : units_at name 0 ≡ passed ++ units_at name r.at
  pub place : length passed + r.left ≡ j
  pub still : Parted name 0 → Parted name r.at
  pub closed : Parted name 0 → get_or name r.at 0 ≡ 65 → last_run [] passed ≡ []

-- a name in standard form: no two bit labels are adjacent
pub record Standing (name : List ℕ) : Type 0 where
  pub begins : Begins name 0
  pub parted : Parted name 0

-- the bits that a name begins with, none for another label: octets that hold them, how many they are, and what follows them
pub record Fronted (name octets : List ℕ) (size : ℕ) (rest : List ℕ) : Type 0 where
  pub end : ℕ
  pub begins : Begins name end
  pub left : rest ≡ drop end name
  pub parts : units_at name 0 ≡ before (unpack size octets) (units_at name end)
  pub sized : length (unpack size octets) ≡ size
  pub inside : octets_for size ≤ length octets
  pub few : size ≤ 256
  pub parted : Parted name end
  pub ends : NoBit (units_at name end)
