-- The chains of a name that use no record position twice, listed, and the work (01, Chains).
use Rattle.std.specs.Prelude.{ℕ, zero, suc, Bool, ◌&&◌, List, [], ◌∷◌, map, leb, eqb, length, get_or, set}
use Rattle.octets.specs.Octets.{blank}
use Rattle.chains.specs.Lists.{pick, up_to}
use Rattle.chains.specs.Graph.{Graph}

-- how many positions are unused: a list of marks has 0 at those
unfoldable pub free : List ℕ → ℕ
free [] = 0
free (x ∷ u) = pick (eqb x 0) (suc (free u)) (free u)

module _ {N : Type 0} (g : Graph N) where
  -- the record at i is an A6 record of x, no longer than b
  abbrev pub admits : N → ℕ → ℕ → Bool
  admits x b i = leb (g.len i) b && g.owns i x

  -- and it is unused
  abbrev pub fits : List ℕ → N → ℕ → ℕ → Bool
  fits u x b i = eqb (get_or u i 0) 0 && admits x b i

  -- the record at i alone, and before each of the chains ps; nothing follows a finished one
  unfoldable pub extend : ℕ → List (List ℕ) → List (List ℕ)
  extend i ps = (i ∷ []) ∷ pick (eqb (g.len i) 0) [] (map (λ p. i ∷ p) ps)

  -- the chains of x by records no longer than b, unused and each used once: depth first, by position, of at most so many records
  unfoldable pub paths : ℕ → List ℕ → N → ℕ → List (List ℕ)
  paths zero u x b = []
  paths (suc most) u x b =
      up_to g.size (λ i. let ps = extend i (paths most (set u i 1) (g.target i) (g.len i)) in pick (fits u x b i) ps [])

  -- all of them, since no chain has more records than there are unused positions
  unfoldable pub chains_from : List ℕ → N → ℕ → List (List ℕ)
  chains_from u x b = paths (suc (free u)) u x b

  -- the chains of x that use no position twice, from 128 bits open and no position used
  unfoldable pub chains_of : N → List (List ℕ)
  chains_of x = chains_from (blank g.size) x 128

  -- 01's work: how many they are
  unfoldable pub work_of : N → ℕ
  work_of x = length (chains_of x)
