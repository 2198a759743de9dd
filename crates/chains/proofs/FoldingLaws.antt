-- Folding a name keeps every name's addresses where no referrer ignores an unfinished record of it: a step into r and on into q is then one step into
-- the record that they make, in both directions, and with the same bits.
use Prim.Native.Nat.{ℕ, ◌≤◌, ◌<◌}
use mathlib.Core.Path.{◌≡◌, refl, sym, ap, subst, ◌∙◌}
use mathlib.Core.Logic.{◌⊎◌, inl, inr, ⊎_elim, ◌↔◌}
use mathlib.Core.Bool.{Bool, true, false}
use mathlib.Core.List.{List, [], ◌∷◌}
use native.Mathlib.Omega.{arith}
use lib.Dec.{leb}
use lib.ListN.{length}
use borrow.Author.Tests.{leb-true, leb-false}
use Rattle.address.specs.Address.{bit_at}
use Rattle.address.proofs.AddressLaws.{join_bit_high, join_bit_low}
use Rattle.chains.specs.Lists.{pick}
use Rattle.chains.specs.Graph.{Graph}
use Rattle.chains.specs.Chain.{Starts, Follows, Linked, Spells, last_length, spelt_bit, spelt}
use Rattle.chains.specs.Folding.{Copied, Joined, Unfinished, Quiet, Folded}
use Rattle.chains.proofs.ChainLaws.{spelt_own, spelt_later, spelt_same}

-- ---- one record in the place of one or two
module _ {N : Type 0} (g h : Graph N) where
  copied_bits : (i j : ℕ) → Copied g h i j → (p q : List ℕ) (k : ℕ) → spelt_bit h q k ≡ spelt_bit g p k → spelt_bit h (j ∷ q) k ≡ spelt_bit g (i ∷ p) k
  unfolding spelt_bit
  copied_bits i j c p q k e = let l = c.length in let a = c.bits in λ t. pick (leb (l t) k) (bit_at (a t) k) (e t)

  module _ (sixteen : (i : ℕ) → i < g.size → length (g.addr i) ≡ 16) (r i j : ℕ) (inside : r < g.size) (next : Follows g r i) (m : Joined g h r i j) where
    joined_bits : (p q : List ℕ) (k : ℕ) → spelt_bit h q k ≡ spelt_bit g p k → spelt_bit h (j ∷ q) k ≡ spelt_bit g (r ∷ i ∷ p) k
    joined_bits p q k e = go (leb (g.len r) k) refl (leb (g.len i) k) refl
      where
        li : length (g.addr i) ≡ 16
        li = sixteen i next.1.0

        lr : length (g.addr r) ≡ 16
        lr = sixteen r inside

        go : (s : Bool) → leb (g.len r) k ≡ s → (t : Bool) → leb (g.len i) k ≡ t → spelt_bit h (j ∷ q) k ≡ spelt_bit g (r ∷ i ∷ p) k
        go true u t v =
            let y : g.len r ≤ k = leb-true (g.len r) k u in
            let z : h.len j ≤ k = omega (arith, m.length, next.2) in
            spelt_own h j q k z ∙ ap (λ (a : List ℕ). bit_at a k) m.bits ∙ join_bit_low (g.addr i) (g.addr r) (g.len r) li lr k y ∙ sym (spelt_own g r (i ∷ p) k y)
        go false u true v =
            let y : k < g.len r = leb-false (g.len r) k u in
            let w : g.len i ≤ k = leb-true (g.len i) k v in
            let z : h.len j ≤ k = omega (arith, m.length) in
            spelt_own h j q k z ∙ ap (λ (a : List ℕ). bit_at a k) m.bits ∙ join_bit_high (g.addr i) (g.addr r) (g.len r) li lr k y ∙ sym (spelt_later g r (i ∷ p) k y ∙ spelt_own g i p k w)
        go false u false v =
            let y : k < g.len r = leb-false (g.len r) k u in
            let w : k < g.len i = leb-false (g.len i) k v in
            let z : k < h.len j = omega (arith, m.length) in
            spelt_later h j q k z ∙ e ∙ sym (spelt_later g r (i ∷ p) k y ∙ spelt_later g i p k w)

  -- what follows j in h, complete and with the bits of p in g
  record Tail (j : ℕ) (p : List ℕ) : Type 0 where
    rest : List ℕ
    linked : Linked h j rest
    ends : last_length h (h.len j) rest ≡ 0
    bits : (k : ℕ) → spelt_bit h rest k ≡ spelt_bit g p k

  -- a complete chain of h for the name n with the bits of the chain c of g
  record Found (n : N) (c : List ℕ) : Type 0 where
    first : ℕ
    starts : Starts h n first
    tail : List ℕ
    linked : Linked h first tail
    ends : last_length h (h.len first) tail ≡ 0
    bits : (k : ℕ) → spelt_bit h (first ∷ tail) k ≡ spelt_bit g c k

  nothing : (j : ℕ) → h.len j ≡ 0 → Tail j []
  unfolding last_length spelt_bit
  nothing j z = record { rest = []; linked = tt; ends = z; bits = λ k. refl }

  -- a chain found for the target of j, whose first record is no longer than j
  onward : (n : N) (c : List ℕ) (j : ℕ) → h.target j ≡ n → 0 < h.len j → (f : Found n c) → h.len f.first ≤ h.len j → Tail j c
  unfolding last_length
  onward n c j t z f s = record {
    rest = f.first ∷ f.tail;
    linked = ((z, subst (λ (m : N). Starts h m f.first) (sym t) f.starts, s), f.linked);
    ends = f.ends;
    bits = f.bits;
  }

  found_spells : (n : N) (c a : List ℕ) → spelt g c ≡ a → Found n c → Spells h n a
  unfolding last_length
  found_spells n c a e f = (f.first ∷ f.tail, (f.starts, f.linked), f.ends, spelt_same h g (f.first ∷ f.tail) c f.bits ∙ e)

module _ {N : Type 0} (g : Graph N) (x : N) (h : Graph N) (sixteen : (i : ℕ) → i < g.size → length (g.addr i) ≡ 16) (fold : Folded g x h) where
  -- ---- from the graph before to the one after
  -- a chain that is found, with a first record that is no longer than b
  record Kept (n : N) (b : ℕ) (c : List ℕ) : Type 0 where
    found : Found g h n c
    short : h.len found.first ≤ b

  copy : (n : N) (i : ℕ) (p : List ℕ) → Starts g n i → (Unfinished g x i → ⊥) → ((j : ℕ) → h.len j ≡ g.len i → h.target j ≡ g.target i → Tail g h j p) → Kept n (g.len i) (i ∷ p)
  copy n i p s u t =
      let k = fold.kept i s.0 u in
      let w = t k.0 k.2.length k.2.target in
      record {
        found = record {
          first = k.0;
          starts = (k.1, k.2.owners n ∙ s.1);
          tail = w.rest;
          linked = w.linked;
          ends = w.ends;
          bits = λ m. copied_bits g h i k.0 k.2 p w.rest m (w.bits m);
        };
        short = omega (arith, k.2.length);
      }

  join : (n : N) (r i : ℕ) (p : List ℕ) → Unfinished g x r → g.owns r n ≡ true → Follows g r i → ((j : ℕ) → h.len j ≡ g.len i → h.target j ≡ g.target i → Tail g h j p) → Kept n (g.len i) (r ∷ i ∷ p)
  join n r i p u o f t =
      let k = fold.made r i u f in
      let w = t k.0 k.2.length k.2.target in
      record {
        found = record {
          first = k.0;
          starts = (k.1, k.2.owners n ∙ o);
          tail = w.rest;
          linked = w.linked;
          ends = w.ends;
          bits = λ m. joined_bits g h sixteen r i k.0 u.0.0 f k.2 p w.rest m (w.bits m);
        };
        short = omega (arith, k.2.length);
      }

  -- what becomes of a chain from i on: alone, and behind an unfinished record of x
  record Becomes (i : ℕ) (p : List ℕ) : Type 0 where
    alone : (n : N) → Starts g n i → Kept n (g.len i) (i ∷ p)
    behind : (n : N) (r : ℕ) → Unfinished g x r → g.owns r n ≡ true → Follows g r i → Kept n (g.len i) (r ∷ i ∷ p)

  becomes : (i : ℕ) (p : List ℕ) → Linked g i p → last_length g (g.len i) p ≡ 0 → Becomes i p
  unfolding last_length
  becomes i [] l z = record {
    alone = λ n s. copy n i [] s (λ u. let y = u.1 in omega arith) (λ j e t. nothing g h j (e ∙ z));
    behind = λ n r u o f. join n r i [] u o f (λ j e t. nothing g h j (e ∙ z));
  }
  becomes i (i' ∷ p) l z = go (becomes i' p l.1 z)
    where
      go : Becomes i' p → Becomes i (i' ∷ p)
      go d = record { alone = alone (g.owns i x) refl; behind = λ n r u o f. join n r i (i' ∷ p) u o f after }
        where
          after : (j : ℕ) → h.len j ≡ g.len i → h.target j ≡ g.target i → Tail g h j (i' ∷ p)
          after j b w =
              let k = d.alone (g.target i) l.0.1 in
              onward g h (g.target i) (i' ∷ p) j w (omega (arith, l.0.0)) k.found (omega (arith, k.short, l.0.2))

          alone : (t : Bool) → g.owns i x ≡ t → (n : N) → Starts g n i → Kept n (g.len i) (i ∷ i' ∷ p)
          alone true e n s = let k = d.behind n i ((s.0, e), l.0.0) s.1 l.0 in record { found = k.found; short = omega (arith, k.short, l.0.2) }
          alone false e n s = copy n i (i' ∷ p) s (λ u. let y = u.0.1 in let v : ◌≡◌ {A = ℕ} 0 1 = cc in omega arith) after

  -- ---- and back
  module _ (quiet : Quiet g x) where
    -- a chain that is found, whose first record is no longer than b, or an unfinished one of x
    record Before (n : N) (b : ℕ) (c : List ℕ) : Type 0 where
      found : Found h g n c
      short : (g.len found.first ≤ b) ⊎ Unfinished g x found.first

    -- the record at j is a copy or was made; t goes on from the record of g that ends as it does
    place : (n : N) (j : ℕ) (q : List ℕ) → Starts h n j → ((i : ℕ) → i < g.size → h.len j ≡ g.len i → h.target j ≡ g.target i → Tail h g i q) → Before n (h.len j) (j ∷ q)
    unfolding last_length
    place n j q s t = ⊎_elim one two (fold.origin j s.0)
      where
        one : (i : ℕ) × (i < g.size) × (Unfinished g x i → ⊥) × Copied g h i j → Before n (h.len j) (j ∷ q)
        one (i, b, u, c) =
            let w = t i b c.length c.target in
            record {
              found = record {
                first = i;
                starts = (b, sym (c.owners n) ∙ s.1);
                tail = w.rest;
                linked = w.linked;
                ends = w.ends;
                bits = λ k. sym (copied_bits g h i j c w.rest q k (sym (w.bits k)));
              };
              short = inl (omega (arith, c.length));
            }

        two : (r : ℕ) × (i : ℕ) × Unfinished g x r × Follows g r i × Joined g h r i j → Before n (h.len j) (j ∷ q)
        two (r, i, u, f, c) =
            let w = t i f.1.0 c.length c.target in
            record {
              found = record {
                first = r;
                starts = (u.0.0, sym (c.owners n) ∙ s.1);
                tail = i ∷ w.rest;
                linked = (f, w.linked);
                ends = w.ends;
                bits = λ k. sym (joined_bits g h sixteen r i j u.0.0 f c w.rest q k (sym (w.bits k)));
              };
              short = inr u;
            }

    before : (j : ℕ) (q : List ℕ) → Linked h j q → last_length h (h.len j) q ≡ 0 → (n : N) → Starts h n j → Before n (h.len j) (j ∷ q)
    unfolding last_length
    before j [] l z n s = place n j [] s (λ i b e t. nothing h g i (sym e ∙ z))
    before j (j' ∷ q) l z n s =
        let k = before j' q l.1 z (h.target j) l.0.1 in
        place n j (j' ∷ q) s (λ i b e t.
        let y : 0 < g.len i = omega (arith, l.0.0) in
        onward h g (h.target j) (j' ∷ q) i (sym t) y k.found
        (⊎_elim (λ v. omega (arith, l.0.2)) (λ u. quiet i k.found.first b y u (subst (λ (m : N). g.owns k.found.first m ≡ true) t k.found.starts.1)) k.short))

    -- Theorem: every name has the same addresses after folding x as before, where no referrer of x is shorter than an unfinished record of x
    pub fold_keeps : (n : N) (a : List ℕ) → Spells g n a ↔ Spells h n a
    unfolding last_length
    fold_keeps n a = (ahead, back)
      where
        ahead : Spells g n a → Spells h n a
        ahead ([], c, z, e) = elim c [ ]
        ahead (i ∷ p, c, z, e) = found_spells g h n (i ∷ p) a e ((becomes i p c.1 z).alone n c.0).found

        back : Spells h n a → Spells g n a
        back ([], c, z, e) = elim c [ ]
        back (j ∷ q, c, z, e) = found_spells h g n (j ∷ q) a e (before j q c.1 z n c.0).found
