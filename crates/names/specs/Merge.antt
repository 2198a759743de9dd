-- Runs of bit labels as the helpers merge them: the code's own, nothing that a reader must believe.
use Rattle.std.specs.Prelude.{ℕ, zero, suc, ◌+◌, ◌-◌, ◌*◌, ◌%◌, ◌^◌, ◌≤◌, ◌<◌, ◌≡◌, true, false, List, [], ◌∷◌, ◌++◌, eqb, length, take, drop}
use Rattle.bits.specs.Bits.{pack_from}
use Rattle.labels.specs.Labels.{Label, ordinary, bits, size_of, label_of}
use Rattle.bits.specs.Packing.{Clean}
use Rattle.labels.specs.Reads.{Reads}
use Rattle.names.specs.Standard.{units, encode_from}
use Rattle.names.specs.declared.Place.{Place}
use Rattle.names.specs.declared.Run.{Run}

-- the labels of octets that are known to hold a name; `skip` octets are passed over first
unfoldable pub labels_from : ℕ → List ℕ → List Label
unfolding label_of size_of
labels_from skip [] = []
labels_from (suc skip) (x ∷ xs) = labels_from skip xs
labels_from zero (x ∷ xs) = elim (eqb x 0) [ true ↦ [] | false ↦ label_of (x ∷ xs) ∷ labels_from (size_of (x ∷ xs) - 1) xs ]

-- the labels from a place on
abbrev pub labels_at : List ℕ → ℕ → List Label
labels_at name at = labels_from 0 (drop at name)

-- a label of the name begins at a place
pub record Begins (name : List ℕ) (at : ℕ) : Type 0 where
  pub run : ℕ
  pub reads : Reads at run (drop at name) (labels_from 0 (drop at name)) (length name)
  pub short : length name ≤ 255

-- the bits of the run that the labels begin with: of two adjacent labels, the right one's bits come first
unfoldable pub run_bits : List Label → List ℕ
run_bits [] = []
run_bits (ordinary l ∷ ls) = []
run_bits (bits b ∷ ls) = run_bits ls ++ b

-- the labels after that run
unfoldable pub after_run : List Label → List Label
after_run [] = []
after_run (ordinary l ∷ ls) = ordinary l ∷ ls
after_run (bits b ∷ ls) = after_run ls

-- a run was packed from a place on, its header with the count of all its bits first; `sum` bits of it came before
pub record Ran (name old new : List ℕ) (at sum to : ℕ) (r : Run) : Type 0 where
  pub adds : (rest : List ℕ) → take r.packer.to new ++ pack_from r.packer.have r.packer.value rest
      ≡ (take to old ++ (65 ∷ (sum + length (run_bits (labels_at name at))) % 256 ∷ [])) ++ pack_from 0 0 (run_bits (labels_at name at) ++ rest)
  pub clean : Clean new r.packer.to
  pub have : r.packer.have < 8
  pub value : r.packer.value < 2 ^ r.packer.have
  pub place : r.packer.to * 8 + r.packer.have ≡ (to + 2) * 8 + length (run_bits (labels_at name at))
  pub begins : Begins name r.end
  pub after : labels_at name r.end ≡ after_run (labels_at name at)
  pub far : at ≤ r.end
  pub fits : length (run_bits (labels_at name at)) ≤ 8 * (r.end - at)

-- the rest of the standard form
unfoldable pub encode_at : List ℕ → ℕ → List ℕ
unfolding labels_from units encode_from
encode_at name at = encode_from [] (units (labels_at name at))

-- one more label or run was written
pub record Moved (name old new : List ℕ) (at to : ℕ) (r : Place) : Type 0 where
  pub same : take r.to new ++ encode_at name r.at ≡ take to old ++ encode_at name at
  pub clean : Clean new r.to
  pub begins : Begins name r.at
  pub low : r.to ≤ r.at
  pub on : at < r.at
