-- How a search spells on its way: the code's own, nothing that a reader must believe.
use Rattle.std.specs.Prelude.{ℕ, List, [], ◌∷◌}
use Rattle.address.specs.Address.{join_of}
use Rattle.chains.specs.Graph.{Graph}

module _ {N : Type 0} (g : Graph N) where
  -- a has the bits from b on, each record gives those before, and its prefix length is what stays open
  unfoldable pub spell : ℕ → List ℕ → List ℕ → List ℕ
  spell b a [] = a
  spell b a (i ∷ p) = spell (g.len i) (join_of (g.addr i) a b) p
