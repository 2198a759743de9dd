-- The ascending order of addresses (01, What comes back): by the octets, the first that differ decide.
use Rattle.std.specs.Prelude.{ℕ, ◌≡◌, true, false, List, [], ◌∷◌, ltb}
use Rattle.std.specs.declared.cmp.Ordering.{Ordering}
use Rattle.std.specs.declared.cmp.Ordering.TheVariants.{Less, Equal, Greater}

-- how the first stands to the second; a list that ends before the other, which no two addresses do, comes before it
unfoldable pub order_of : List ℕ → List ℕ → Ordering
order_of [] [] = Equal
order_of [] (y ∷ ys) = Less
order_of (x ∷ xs) [] = Greater
order_of (x ∷ xs) (y ∷ ys) = elim (ltb x y) [ true ↦ Less | false ↦ elim (ltb y x) [ true ↦ Greater | false ↦ order_of xs ys ] ]

-- the first comes strictly before the second
abbrev pub Precedes : List ℕ → List ℕ → Type 0
Precedes a b = order_of a b ≡ Less
