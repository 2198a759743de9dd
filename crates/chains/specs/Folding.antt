-- Folding a name X (01, Collapse of a name X), as a statement about the graphs before and after.
-- The code's own: nothing that a reader must believe.
use Rattle.std.specs.Prelude.{ℕ, ◌≤◌, ◌<◌, ◌≡◌, ◌⊎◌, true}
use Rattle.address.specs.Address.{join_of}
use Rattle.chains.specs.Graph.{Graph}
use Rattle.chains.specs.Chain.{Starts, Follows}

module _ {N : Type 0} (g h : Graph N) where
  -- the record at j of h is the one at i of g
  pub record Copied (i j : ℕ) : Type 0 where
    pub owners : (n : N) → h.owns j n ≡ g.owns i n
    pub length : h.len j ≡ g.len i
    pub target : h.target j ≡ g.target i
    pub bits : h.addr j ≡ g.addr i

  -- the record at j of h joins r and q of g: r's owner, q's prefix length and target, q's bits up to r's length and r's after it
  pub record Joined (r q j : ℕ) : Type 0 where
    pub owners : (n : N) → h.owns j n ≡ g.owns r n
    pub length : h.len j ≡ g.len q
    pub target : h.target j ≡ g.target q
    pub bits : h.addr j ≡ join_of (g.addr q) (g.addr r) (g.len r)

module _ {N : Type 0} (g : Graph N) (x : N) where
  -- the record at r is an unfinished A6 record of x
  abbrev pub Unfinished : ℕ → Type 0
  Unfinished r = Starts g x r × (0 < g.len r)

  -- no record whose target owns an unfinished record of x is shorter than it (what 01's number 9 rules out), so no referrer ignores one
  abbrev pub Quiet : Type 0
  Quiet = (p r : ℕ) → p < g.size → 0 < g.len p → Unfinished r → g.owns r (g.target p) ≡ true → g.len r ≤ g.len p

  -- h has the records of g but the unfinished ones of x, in their place what each makes with the records that may follow it, and no other
  pub record Folded (h : Graph N) : Type 0 where
    pub kept : (i : ℕ) → i < g.size → (Unfinished i → ⊥) → (j : ℕ) × (j < h.size) × Copied g h i j
    pub made : (r q : ℕ) → Unfinished r → Follows g r q → (j : ℕ) × (j < h.size) × Joined g h r q j
    pub origin : (j : ℕ) → j < h.size
        → ((i : ℕ) × (i < g.size) × (Unfinished i → ⊥) × Copied g h i j) ⊎ ((r : ℕ) × (q : ℕ) × Unfinished r × Follows g r q × Joined g h r q j)
