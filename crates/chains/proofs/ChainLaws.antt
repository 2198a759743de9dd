-- Laws of the bits that a chain spells.
use Prim.Native.Nat.{ℕ, ◌≤◌, ◌<◌}
use mathlib.Core.Path.{◌≡◌, refl, ap}
use mathlib.Core.Bool.{Bool, true, false}
use mathlib.Core.List.{List, [], ◌∷◌}
use lib.Dec.{leb}
use borrow.Author.Tests.{le-leb, lt-leb, leb-false}
use Rattle.bits.specs.Bits.{pack}
use Rattle.address.specs.Address.{bit_at}
use Rattle.chains.specs.Lists.{pick}
use Rattle.chains.specs.Graph.{Graph}
use Rattle.chains.specs.Chain.{spelt_bit, spelt}
use Rattle.chains.proofs.ListLaws.{pick_true, pick_false, up_to_same}

module _ {N : Type 0} (g : Graph N) (i : ℕ) where
  -- from its prefix length on, a record gives the bits itself
  pub spelt_own : (p : List ℕ) (k : ℕ) → g.len i ≤ k → spelt_bit g (i ∷ p) k ≡ bit_at (g.addr i) k
  unfolding spelt_bit
  spelt_own p k h = pick_true _ _ _ (le-leb _ _ h)

  -- before it, what follows gives them
  pub spelt_later : (p : List ℕ) (k : ℕ) → k < g.len i → spelt_bit g (i ∷ p) k ≡ spelt_bit g p k
  unfolding spelt_bit
  spelt_later p k h = pick_false _ _ _ (lt-leb _ _ h)

  -- so what follows counts for those alone
  pub spelt_after : (p q : List ℕ) (k : ℕ) → (k < g.len i → spelt_bit g p k ≡ spelt_bit g q k) → spelt_bit g (i ∷ p) k ≡ spelt_bit g (i ∷ q) k
  unfolding spelt_bit
  spelt_after p q k h = go (leb (g.len i) k) refl
    where
      go : (t : Bool) → leb (g.len i) k ≡ t → pick t (bit_at (g.addr i) k) (spelt_bit g p k) ≡ pick t (bit_at (g.addr i) k) (spelt_bit g q k)
      go true e = refl
      go false e = h (leb-false (g.len i) k e)

-- chains with the same bits spell the same
pub spelt_same : {N M : Type 0} (g : Graph N) (h : Graph M) (p q : List ℕ) → ((k : ℕ) → spelt_bit g p k ≡ spelt_bit h q k) → spelt g p ≡ spelt h q
unfolding spelt
spelt_same g h p q e = ap pack (up_to_same 128 (λ k. spelt_bit g p k ∷ []) (λ k. spelt_bit h q k ∷ []) (λ k l. ap (λ (v : ℕ). v ∷ []) (e k)))
