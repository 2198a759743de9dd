-- Leaving repeats out loses no address: prefix lengths never grow along a chain, so a loop has records of one length, and cutting it keeps every bit.
use Prim.Native.Nat.{ℕ, ◌≤◌, ◌<◌}
use mathlib.Core.Path.{◌≡◌, refl, sym, ap, subst, ◌∙◌}
use mathlib.Core.Logic.{inl, inr}
use mathlib.Core.List.{List, [], ◌∷◌}
use native.Mathlib.Omega.{arith}
use Rattle.chains.specs.Lists.{In, Distinct}
use Rattle.chains.specs.Graph.{Graph}
use Rattle.chains.specs.Sound.{Sound}
use Rattle.chains.specs.Chain.{Chain, Complete, Spells, last_length, spelt_bit, spelt}
use Rattle.chains.proofs.ListLaws.{find}
use Rattle.chains.proofs.ChainLaws.{spelt_later, spelt_after, spelt_same}
use Rattle.chains.proofs.Walks.{Walk, length_falls, chain_walk, walk_chain}

module _ {N : Type 0} (g : Graph N) where
  -- what is left of a chain after the record i, where it has come back to i's length
  record Rest (b i : ℕ) (p : List ℕ) : Type 0 where
    rest : List ℕ
    walk : Walk g (g.target i) (g.len i) rest
    distinct : Distinct p → Distinct (i ∷ rest)
    ends : last_length g (g.len i) rest ≡ last_length g b p
    bits : (k : ℕ) → k < g.len i → spelt_bit g rest k ≡ spelt_bit g p k

  here : (x : N) (b i : ℕ) (p : List ℕ) → Walk g x b (i ∷ p) → Rest b i (i ∷ p)
  unfolding last_length
  here x b i p w = record { rest = p; walk = w.1; distinct = λ d. d; ends = refl; bits = λ k h. sym (spelt_later g i p k h) }

  later : (x : N) (b i j : ℕ) (p : List ℕ) → Walk g x b (j ∷ p) → In i p → b ≤ g.len i → Rest (g.len j) i p → Rest b i (j ∷ p)
  unfolding last_length
  later x b i j p w m h r =
      let l : g.len i ≤ g.len j = length_falls g (g.target j) (g.len j) i p w.1 m in
      record {
        rest = r.rest;
        walk = r.walk;
        distinct = λ d. r.distinct d.1;
        ends = r.ends;
        bits = λ k n. r.bits k n ∙ sym (spelt_later g j p k (omega arith));
      }

  from : (x : N) (b i : ℕ) (p : List ℕ) → Walk g x b p → In i p → b ≤ g.len i → Rest b i p
  from x b i [] w x5 h = elim x5 [ ]
  from x b i (j ∷ p) w (inl e) h = subst (λ (k : ℕ). Rest b k (j ∷ p)) (sym e) (here x b j p w)
  from x b i (j ∷ p) w (inr m) h = later x b i j p w m h (from (g.target j) (g.len j) i p w.1 m (omega (arith, w.0.2)))

  -- a chain with the same end and the same bits that uses no position twice
  record Tidy (x : N) (b : ℕ) (p : List ℕ) : Type 0 where
    tidied : List ℕ
    walk : Walk g x b tidied
    distinct : Distinct tidied
    ends : last_length g b tidied ≡ last_length g b p
    bits : (k : ℕ) → spelt_bit g tidied k ≡ spelt_bit g p k

  put : (x : N) (b i : ℕ) (p : List ℕ) → Walk g x b (i ∷ p) → Tidy (g.target i) (g.len i) p → Tidy x b (i ∷ p)
  unfolding last_length
  put x b i p w t = go (find i t.tidied)
    where
      go : Dec (In i t.tidied) → Tidy x b (i ∷ p)
      go (no n) = record {
        tidied = i ∷ t.tidied;
        walk = (w.0, t.walk);
        distinct = (n, t.distinct);
        ends = t.ends;
        bits = λ k. spelt_after g i t.tidied p k (λ h. t.bits k);
      }
      go (yes m) =
          let r : Rest (g.len i) i t.tidied = from (g.target i) (g.len i) i t.tidied t.walk m (omega arith) in
          record {
            tidied = i ∷ r.rest;
            walk = (w.0, r.walk);
            distinct = r.distinct t.distinct;
            ends = r.ends ∙ t.ends;
            bits = λ k. spelt_after g i r.rest p k (λ h. r.bits k h ∙ t.bits k);
          }

  tidy : (x : N) (b : ℕ) (p : List ℕ) → Walk g x b p → Tidy x b p
  tidy x b [] w = record { tidied = []; walk = tt; distinct = tt; ends = refl; bits = λ k. refl }
  tidy x b (i ∷ p) w = put x b i p w (tidy (g.target i) (g.len i) p w.1)

  -- Theorem: every address of a name is spelt by a complete chain that uses no position twice
  pub spells_distinct : Sound g → (x : N) (a : List ℕ) → Spells g x a → (p : List ℕ) × Chain g x p × Distinct p × Complete g p × (spelt g p ≡ a)
  unfolding last_length
  spells_distinct sound x a s =
      let t : Tidy x 128 s.0 = tidy x 128 s.0 (chain_walk g x 128 s.0 (omega arith) sound.short s.1) in
      let e : last_length g 128 t.tidied ≡ 0 = t.ends ∙ s.2 in
      let n : t.tidied ≡ [] → ⊥ = λ q. omega (arith, sym (ap (last_length g 128) q) ∙ e) in
      (t.tidied, walk_chain g x 128 t.tidied n t.walk, t.distinct, e, spelt_same g g t.tidied s.0 t.bits ∙ s.3)
