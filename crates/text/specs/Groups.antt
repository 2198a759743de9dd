-- An address as eight numbers below 65,536, its groups (RFC 4291, section 2.2), and the run of zero groups that is shortened (RFC 5952, section 4.2).
use Rattle.std.specs.Prelude.{ℕ, suc, ◌+◌, ◌*◌, ◌/◌, ◌%◌, max, true, false, List, [], ◌∷◌, eqb, take, drop}
use Rattle.text.specs.declared.addresses.Run.{Run}

-- the groups of octets: each two of them one number, the first the higher
unfoldable pub groups_of : List ℕ → List ℕ
groups_of [] = []
groups_of (x ∷ []) = []
groups_of (x ∷ y ∷ rest) = (x * 256 + y) ∷ groups_of rest

-- the octets of groups
unfoldable pub octets_of : List ℕ → List ℕ
octets_of [] = []
octets_of (g ∷ gs) = g / 256 ∷ g % 256 ∷ octets_of gs

-- how many zero groups stand at the start
unfoldable pub zeros_at : List ℕ → ℕ
zeros_at [] = 0
zeros_at (g ∷ gs) = elim (eqb g 0) [ true ↦ suc (zeros_at gs) | false ↦ 0 ]

-- the length of the longest run of zero groups
unfoldable pub longest : List ℕ → ℕ
longest [] = 0
longest (g ∷ gs) = max (zeros_at (g ∷ gs)) (longest gs)

-- how many groups stand before the leftmost run of n zero groups
unfoldable pub place_of : ℕ → List ℕ → ℕ
place_of n [] = 0
place_of n (g ∷ gs) = elim (eqb (zeros_at (g ∷ gs)) n) [ true ↦ 0 | false ↦ suc (place_of n gs) ]

-- the groups before the leftmost of the longest runs
unfoldable pub before_run : List ℕ → List ℕ
before_run gs = take (place_of (longest gs) gs) gs

-- the groups after it
unfoldable pub after_run : List ℕ → List ℕ
after_run gs = drop (place_of (longest gs) gs + longest gs) gs

-- the run to shorten: its place and its length
unfoldable pub run_of : List ℕ → Run
run_of gs = record { place = place_of (longest gs) gs; count = longest gs }
