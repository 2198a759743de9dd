-- What the examples of both layouts are made of.
use Prim.Native.Nat.{ℕ, ◌+◌}
use mathlib.Core.List.{List, [], ◌∷◌, map}
use Rattle.octets.specs.Octets.{blank}

-- n octets 255, and the name "p."
unfoldable pub ones : ℕ → List ℕ
unfolding blank
ones n = map (λ x. x + 255) (blank n)

unfoldable pub p : List ℕ
p = 1 ∷ 112 ∷ 0 ∷ []
