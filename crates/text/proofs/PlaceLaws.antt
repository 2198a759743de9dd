-- A list from a place on.
use Prim.Native.Nat.{ℕ, zero, suc, ◌+◌, ◌≤◌, ◌<◌}
use mathlib.Core.Path.{◌≡◌, refl}
use mathlib.Core.List.{List, [], ◌∷◌}
use lib.ListN.{length, get_or, drop}
use lib.Seq.{drop-cons}
use native.Mathlib.Omega.{arith}
use native.Mathlib.Numerals.{add-one}

-- nothing is left from the end on
pub past : (s : List ℕ) (i : ℕ) → length s ≤ i → drop i s ≡ []
past [] zero h = refl
past [] (suc i) h = refl
past (x ∷ s) zero h = let z : ⊥ = omega arith in absurd z
past (x ∷ s) (suc i) h = past s i (omega arith)

-- what stands at a place, and the rest
pub from_place : (s : List ℕ) (i : ℕ) → i < length s → drop i s ≡ get_or s i 0 ∷ drop (i + 1) s
from_place s i h = rw (add-one i) (drop-cons s i 0 h)
