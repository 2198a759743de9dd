-- Chains of A6 records and the addresses that they spell (01, Chains), as statements about records. A chain is a list of positions.
use Rattle.std.specs.Prelude.{ℕ, ◌≤◌, ◌<◌, ◌≡◌, true, List, [], ◌∷◌, leb}
use Rattle.bits.specs.Bits.{pack}
use Rattle.address.specs.Address.{bit_at}
use Rattle.chains.specs.Lists.{pick, up_to}
use Rattle.chains.specs.Graph.{Graph}

module _ {N : Type 0} (g : Graph N) where
  -- a chain of the name x may start at i: an A6 record that x owns
  abbrev pub Starts : N → ℕ → Type 0
  Starts x i = (i < g.size) × (g.owns i x ≡ true)

  -- the record at j may come after the one at i: i is unfinished, its target owns j, and j is no longer than i
  abbrev pub Follows : ℕ → ℕ → Type 0
  Follows i j = (0 < g.len i) × Starts (g.target i) j × (g.len j ≤ g.len i)

  -- after i, each follows the one before it
  abbrev pub Linked : ℕ → List ℕ → Type 0
  Linked i [] = Unit
  Linked i (j ∷ p) = Follows i j × Linked j p

  -- a chain of the name x, complete or not, with repeats or without; it is never empty
  abbrev pub Chain : N → List ℕ → Type 0
  Chain x [] = ⊥
  Chain x (i ∷ p) = Starts x i × Linked i p

  -- the prefix length of the last record, and b where there is none
  unfoldable pub last_length : ℕ → List ℕ → ℕ
  last_length b [] = b
  last_length b (i ∷ p) = last_length (g.len i) p

  -- the last record is finished; with no record 128 bits are open, so an empty list is not complete
  abbrev pub Complete : List ℕ → Type 0
  Complete p = last_length 128 p ≡ 0

  -- the bit k comes from the earliest record whose prefix length is at most k
  unfoldable pub spelt_bit : List ℕ → ℕ → ℕ
  spelt_bit [] k = 0
  spelt_bit (i ∷ p) k = pick (leb (g.len i) k) (bit_at (g.addr i) k) (spelt_bit p k)

  -- the address that a complete chain spells: its 128 bits in sixteen octets
  unfoldable pub spelt : List ℕ → List ℕ
  spelt p = pack (up_to 128 (λ k. spelt_bit p k ∷ []))

  -- a is an address of the name x: some complete chain of x, however long, spells it; records may be used again
  abbrev pub Spells : N → List ℕ → Type 0
  Spells x a = (p : List ℕ) × Chain x p × Complete p × (spelt p ≡ a)
