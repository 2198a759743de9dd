-- How long the addresses of a name live (T-01): the least TTL among the records of the chains that spell them.
use Rattle.std.specs.Prelude.{ℕ, ◌≤◌, min, ◌≡◌, ◌&&◌, List, [], ◌∷◌, eqb}
use Rattle.octets.specs.Octets.{same}
use Rattle.chains.specs.Lists.{In, Distinct, pick}
use Rattle.chains.specs.Graph.{Graph, max_ttl}
use Rattle.chains.specs.Chain.{Chain, Complete, last_length, spelt}
use Rattle.chains.specs.Listing.{chains_of}

module _ {N : Type 0} (g : Graph N) where
  -- the record at i is one of a complete chain of x that uses no position twice and spells a
  abbrev pub Source : N → List ℕ → ℕ → Type 0
  Source x a i = (p : List ℕ) × Chain g x p × Distinct p × Complete g p × (spelt g p ≡ a) × In i p

  -- t is the least TTL among all those records: one of them has it, and none has less
  pub record Lifetime (x : N) (a : List ℕ) (t : ℕ) : Type 0 where
    pub source : ℕ
    pub is : Source x a source
    pub has : g.ttl source ≡ t
    pub least : (i : ℕ) → Source x a i → t ≤ g.ttl i

  -- the same as a computation. The least of t and the TTLs of the records of a chain:
  unfoldable pub least_ttl : ℕ → List ℕ → ℕ
  least_ttl t [] = t
  least_ttl t (i ∷ p) = least_ttl (min t (g.ttl i)) p

  -- the least of t and what those of some chains have that are complete and spell a; b bits are open before them
  unfoldable pub lifetime_in : ℕ → (List ℕ → List ℕ) → List ℕ → ℕ → List (List ℕ) → ℕ
  lifetime_in b spelling a t [] = t
  lifetime_in b spelling a t (p ∷ ps) =
      lifetime_in b spelling a (pick (eqb (last_length g b p) 0 && same (spelling p) a) (min t (least_ttl max_ttl p)) t) ps

  -- the lifetime of the address a of the name x
  unfoldable pub lifetime_of : N → List ℕ → ℕ
  lifetime_of x a = lifetime_in 128 (spelt g) a max_ttl (chains_of g x)
