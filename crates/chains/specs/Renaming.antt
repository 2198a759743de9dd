-- When two graphs differ in the names alone, or in the TTLs besides. The code's own: nothing that a reader must believe.
use Rattle.std.specs.Prelude.{ℕ, ◌<◌, ◌≡◌}
use Rattle.chains.specs.Graph.{Graph}

module _ {N M : Type 0} (g : Graph N) (h : Graph M) where
  -- the name x of the one and the name y of the other own the same records
  abbrev pub Alike : N → M → Type 0
  Alike x y = (i : ℕ) → i < g.size → g.owns i x ≡ h.owns i y

  -- the same records at the same positions, with targets that own the same records
  pub record Renamed : Type 0 where
    pub sizes : g.size ≡ h.size
    pub lengths : (i : ℕ) → i < g.size → g.len i ≡ h.len i
    pub addresses : (i : ℕ) → i < g.size → g.addr i ≡ h.addr i
    pub targets : (i : ℕ) → i < g.size → 0 < g.len i → Alike (g.target i) (h.target i)
