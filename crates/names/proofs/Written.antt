-- Labels written out again, as they stand.
use Prim.Native.Nat.{ℕ}
use mathlib.Core.List.{List, [], ◌∷◌, ◌++◌}
use lib.ListN.{length}
use Rattle.labels.specs.Labels.{Label, ordinary, bits}
use Rattle.names.specs.Standard.{bit_label}

unfoldable pub write_label : Label → List ℕ
unfolding bit_label
write_label (ordinary l) = length l ∷ l
write_label (bits b) = bit_label b

-- the labels one after the other, and the zero octet
unfoldable pub written : List Label → List ℕ
unfolding write_label
written [] = 0 ∷ []
written (l ∷ ls) = write_label l ++ written ls
