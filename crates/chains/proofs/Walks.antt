-- Chains as the listing goes through them: from a name and a number of open bits, the empty chain among them.
use Prim.Native.Nat.{ℕ, ◌≤◌, ◌<◌}
use mathlib.Core.Path.{◌≡◌, refl, sym, subst}
use mathlib.Core.Logic.{inl, inr}
use mathlib.Core.List.{List, [], ◌∷◌}
use native.Mathlib.Nat.{le_trans}
use Rattle.chains.specs.Lists.{In}
use Rattle.chains.specs.Graph.{Graph}
use Rattle.chains.specs.Chain.{Starts, Linked, Chain}

module _ {N : Type 0} (g : Graph N) where
  -- the first record is one of x and no longer than b, which is not zero, and the rest goes on from it
  abbrev pub Walk : N → ℕ → List ℕ → Type 0
  Walk x b [] = Unit
  Walk x b (i ∷ p) = ((0 < b) × Starts g x i × (g.len i ≤ b)) × Walk (g.target i) (g.len i) p

  pub linked_walk : (i : ℕ) (p : List ℕ) → Linked g i p → Walk (g.target i) (g.len i) p
  linked_walk i [] l = tt
  linked_walk i (j ∷ p) l = (l.0, linked_walk j p l.1)

  pub walk_linked : (i : ℕ) (p : List ℕ) → Walk (g.target i) (g.len i) p → Linked g i p
  walk_linked i [] w = tt
  walk_linked i (j ∷ p) w = (w.0, walk_linked j p w.1)

  pub chain_walk : (x : N) (b : ℕ) (p : List ℕ) → 0 < b → ((i : ℕ) → i < g.size → g.len i ≤ b) → Chain g x p → Walk x b p
  chain_walk x b [] h short c = elim c [ ]
  chain_walk x b (i ∷ p) h short c = ((h, c.0, short i c.0.0), linked_walk i p c.1)

  pub walk_chain : (x : N) (b : ℕ) (p : List ℕ) → (p ≡ [] → ⊥) → Walk x b p → Chain g x p
  walk_chain x b [] n w = absurd (n refl)
  walk_chain x b (i ∷ p) n w = (w.0.1, walk_linked i p w.1)

  -- each position is one of the graph's
  pub walk_within : (x : N) (b i : ℕ) (p : List ℕ) → Walk x b p → In i p → i < g.size
  walk_within x b i [] w x4 = elim x4 [ ]
  walk_within x b i (j ∷ p) w (inl e) = subst (λ (k : ℕ). k < g.size) (sym e) w.0.1.0
  walk_within x b i (j ∷ p) w (inr m) = walk_within (g.target j) (g.len j) i p w.1 m

  -- prefix lengths never grow along a chain
  pub length_falls : (x : N) (b i : ℕ) (p : List ℕ) → Walk x b p → In i p → g.len i ≤ b
  length_falls x b i [] w x4 = elim x4 [ ]
  length_falls x b i (j ∷ p) w (inl e) = subst (λ (k : ℕ). g.len k ≤ b) (sym e) w.0.2
  length_falls x b i (j ∷ p) w (inr m) = le_trans (length_falls (g.target j) (g.len j) i p w.1 m) w.0.2
