-- The labels of the standard form.
use Prim.Native.Nat.{ℕ, ◌≤◌, ◌<◌}
use mathlib.Core.List.{List, [], ◌∷◌, ◌++◌}
use lib.ListN.{length}
use Rattle.bits.specs.Packing.{Bits}
use Rattle.labels.specs.Labels.{Label, ordinary, bits}

-- a run as one label, before others
unfoldable pub one_label : List ℕ → List Label → List Label
one_label [] ls = ls
one_label (b ∷ bs) ls = bits (b ∷ bs) ∷ ls

-- labels with each run made one; `run` holds the bits of the run that was begun, the bit nearest the root first
unfoldable pub merged : List ℕ → List Label → List Label
unfolding one_label
merged run [] = one_label run []
merged run (ordinary l ∷ ls) = one_label run (ordinary l ∷ merged [] ls)
merged run (bits b ∷ ls) = merged (b ++ run) ls

-- a label that can be written: 1 to 63 octets, or 1 to 256 bits
abbrev pub Fit : Label → Type 0
Fit (ordinary l) = (0 < length l) × (length l < 64)
Fit (bits b) = (0 < length b) × (length b ≤ 256) × Bits b

abbrev pub AllFit : List Label → Type 0
AllFit [] = record {}
AllFit (l ∷ ls) = Fit l × AllFit ls
