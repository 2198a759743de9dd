-- Laws of the listing: marks, one step, and the test of a step.
use Prim.Native.Nat.{ℕ, zero, suc, ◌≤◌, ◌<◌}
use mathlib.Core.Path.{◌≡◌, ap}
use mathlib.Core.Bool.{Bool, true, false}
use mathlib.Core.List.{List, [], ◌∷◌, map}
use native.Mathlib.Omega.{arith}
use lib.Dec.{leb, eqb}
use lib.ListN.{length, get_or, set}
use borrow.Author.Tests.{le-leb, leb-true, eq-eqb, ne_eqb, eqb-true}
use Rattle.chains.specs.Lists.{pick}
use Rattle.chains.specs.Graph.{Graph}
use Rattle.chains.specs.Listing.{free, admits, fits, extend}
use Rattle.chains.proofs.ListLaws.{true_both, both_true}

-- marking a position leaves one free position less
pub free_mark : (u : List ℕ) (i : ℕ) → i < length u → get_or u i 0 ≡ 0 → free u ≡ suc (free (set u i 1))
unfolding free
free_mark [] i h e = absurd (omega arith)
free_mark (x ∷ u) zero h e = rw (eq-eqb x 0 e)
free_mark (x ∷ u) (suc i) h e = go (eqb x 0) (free_mark u i (omega arith) e)
  where
    go : (t : Bool) → free u ≡ suc (free (set u i 1)) → pick t (suc (free u)) (free u) ≡ suc (pick t (suc (free (set u i 1))) (free (set u i 1)))
    go true rest = ap suc rest
    go false rest = rest

module _ {N : Type 0} (g : Graph N) where
  pub extend_end : (i : ℕ) (ps : List (List ℕ)) → g.len i ≡ 0 → extend g i ps ≡ (i ∷ []) ∷ []
  unfolding extend
  extend_end i ps e = rw (eq-eqb (g.len i) 0 e)

  pub extend_on : (i : ℕ) (ps : List (List ℕ)) → 0 < g.len i → extend g i ps ≡ (i ∷ []) ∷ map (λ p. i ∷ p) ps
  unfolding extend
  extend_on i ps h = rw (ne_eqb (g.len i) 0 (λ e. omega arith))

  -- the test, from what it tests and back
  pub fits_is : (u : List ℕ) (x : N) (b i : ℕ) → get_or u i 0 ≡ 0 → g.len i ≤ b → g.owns i x ≡ true → fits g u x b i ≡ true
  fits_is u x b i h l o = true_both _ _ (eq-eqb _ _ h) (true_both _ _ (le-leb _ _ l) o)

  pub is_fits : (u : List ℕ) (x : N) (b i : ℕ) → fits g u x b i ≡ true → (get_or u i 0 ≡ 0) × (g.len i ≤ b) × (g.owns i x ≡ true)
  is_fits u x b i h =
      let r = both_true (eqb (get_or u i 0) 0) (admits g x b i) h in
      let q = both_true (leb (g.len i) b) (g.owns i x) r.1 in
      (eqb-true (get_or u i 0) 0 r.0, leb-true (g.len i) b q.0, q.1)
