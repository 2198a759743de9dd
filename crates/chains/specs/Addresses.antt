-- The addresses of a name in ascending order, each once (01, Chains and What comes back).
use Rattle.std.specs.Prelude.{ℕ, List, [], ◌∷◌, eqb}
use Rattle.std.specs.declared.cmp.Ordering.{Ordering}
use Rattle.std.specs.declared.cmp.Ordering.TheVariants.{Less, Equal, Greater}
use Rattle.address.specs.Order.{order_of, Precedes}
use Rattle.chains.specs.Lists.{In, pick}
use Rattle.chains.specs.Graph.{Graph}
use Rattle.chains.specs.Chain.{last_length, spelt}
use Rattle.chains.specs.Listing.{chains_of}

-- each address precedes all that follow
abbrev pub Ascending : List (List ℕ) → Type 0
Ascending [] = Unit
Ascending (a ∷ l) = ((b : List ℕ) → In b l → Precedes a b) × Ascending l

-- one of three, by how an address stands to another
abbrev pub choose : {A : Type 0} → Ordering → A → A → A → A
choose Less x y z = x
choose Equal x y z = y
choose Greater x y z = z

-- v in its place of an ascending list, unless it is there
unfoldable pub insert : List ℕ → List (List ℕ) → List (List ℕ)
insert v [] = v ∷ []
insert v (a ∷ l) = choose (order_of a v) (a ∷ insert v l) (a ∷ l) (v ∷ a ∷ l)

module _ {N : Type 0} (g : Graph N) where
  -- what the complete ones of some chains spell, each put in its place of l; b bits are open before them
  unfoldable pub gather : ℕ → (List ℕ → List ℕ) → List (List ℕ) → List (List ℕ) → List (List ℕ)
  gather b spelling l [] = l
  gather b spelling l (p ∷ ps) = gather b spelling (pick (eqb (last_length g b p) 0) (insert (spelling p) l) l) ps

  -- the addresses of the name x
  unfoldable pub addresses_of : N → List (List ℕ)
  addresses_of x = gather 128 (spelt g) [] (chains_of g x)
