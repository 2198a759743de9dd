-- Names count for nothing but the records that they own: another set of names changes neither chains nor work nor addresses.
use Prim.Native.Nat.{ℕ, zero, suc, ◌≤◌, ◌<◌}
use mathlib.Core.Path.{◌≡◌, refl, sym, ap, subst, subst₂, ◌∙◌}
use mathlib.Core.Logic.{inl, inr, ◌↔◌}
use mathlib.Core.Bool.{◌&&◌}
use mathlib.Core.List.{List, [], ◌∷◌, map}
use native.Mathlib.Decide.{ℕ_discrete}
use native.Mathlib.Omega.{arith}
use lib.Dec.{leb, eqb}
use lib.ListN.{length, get_or, set}
use Rattle.octets.specs.Octets.{Small, blank}
use Rattle.address.specs.Address.{bit_at}
use Rattle.chains.specs.Lists.{In, pick}
use Rattle.chains.specs.Graph.{Graph, max_ttl}
use Rattle.chains.specs.Sound.{Sound}
use Rattle.chains.specs.Chain.{Starts, Linked, Chain, Spells, last_length, spelt_bit, spelt}
use Rattle.chains.specs.Listing.{free, fits, extend, paths, chains_from, chains_of, work_of}
use Rattle.chains.specs.Addresses.{insert, gather, addresses_of}
use Rattle.chains.specs.Renaming.{Alike, Renamed}
use Rattle.chains.proofs.ListLaws.{up_to_alike}
use Rattle.chains.proofs.ChainLaws.{spelt_same}
use Rattle.chains.proofs.ListingLaws.{extend_end, extend_on}
use Rattle.chains.proofs.Listed.{listed_chain}

-- all positions of a chain are below n
abbrev pub Below : ℕ → List ℕ → Type 0
Below n [] = Unit
Below n (i ∷ p) = (i < n) × Below n p

module _ {N : Type 0} (g : Graph N) where
  linked_below : (i : ℕ) (p : List ℕ) → Linked g i p → Below g.size p
  linked_below i [] l = tt
  linked_below i (j ∷ p) l = (l.0.1.0, linked_below j p l.1)

  pub chain_below : (x : N) (p : List ℕ) → Chain g x p → Below g.size p
  chain_below x [] c = elim c [ ]
  chain_below x (i ∷ p) c = (c.0.0, linked_below i p c.1)

module _ {N M : Type 0} (g : Graph N) (h : Graph M) where
  -- a function that takes the names of the one to those of the other renames it
  pub renamed_by : (f : N → M) → g.size ≡ h.size → ((i : ℕ) → i < g.size → g.len i ≡ h.len i) → ((i : ℕ) → i < g.size → g.addr i ≡ h.addr i) →
      ((x : N) → Alike g h x (f x)) → ((i : ℕ) → i < g.size → 0 < g.len i → h.target i ≡ f (g.target i)) → Renamed g h
  renamed_by f s l a o t = record {
    sizes = s;
    lengths = l;
    addresses = a;
    targets = λ i n z. subst (λ (y : M). Alike g h (g.target i) y) (sym (t i n z)) (o (g.target i));
  }

  module _ (r : Renamed g h) where
    alike_back : (x : N) (y : M) → Alike g h x y → Alike h g y x
    alike_back x y e i l = sym (e i (rw r.sizes l))

    pub renamed_back : Renamed h g
    renamed_back = record {
      sizes = sym r.sizes;
      lengths = λ i l. sym (r.lengths i (rw r.sizes l));
      addresses = λ i l. sym (r.addresses i (rw r.sizes l));
      targets = λ i l z. let k : i < g.size = rw r.sizes l in alike_back (g.target i) (h.target i) (r.targets i k (rw (r.lengths i k) z));
    }

    pub sound_renamed : ((i : ℕ) → i < g.size → g.ttl i ≡ h.ttl i) → Sound g → Sound h
    sound_renamed ttls s = record {
      sixteen = λ i l. let k : i < g.size = rw r.sizes l in ap length (sym (r.addresses i k)) ∙ s.sixteen i k;
      small = λ i l. let k : i < g.size = rw r.sizes l in subst Small (r.addresses i k) (s.small i k);
      short = λ i l. let k : i < g.size = rw r.sizes l in subst (λ (n : ℕ). n ≤ 128) (r.lengths i k) (s.short i k);
      lived = λ i l. let k : i < g.size = rw r.sizes l in subst (λ (n : ℕ). n ≤ max_ttl) (ttls i k) (s.lived i k);
    }

    -- ---- the listing
    fits_renamed : (u : List ℕ) (x : N) (y : M) (b i : ℕ) → Alike g h x y → i < g.size → fits g u x b i ≡ fits h u y b i
    fits_renamed u x y b i e l = let p = r.lengths i l in let q = e i l in λ t. eqb (get_or u i 0) 0 && (leb (p t) b && q t)

    extend_renamed : (i : ℕ) → i < g.size → (ps qs : List (List ℕ)) → (0 < g.len i → ps ≡ qs) → extend g i ps ≡ extend h i qs
    extend_renamed i l ps qs e = go (ℕ_discrete (g.len i) 0)
      where
        go : Dec (g.len i ≡ 0) → extend g i ps ≡ extend h i qs
        go (yes z) = extend_end g i ps z ∙ sym (extend_end h i qs (sym (r.lengths i l) ∙ z))
        go (no n) =
            let z : 0 < g.len i = omega (arith, n) in
            extend_on g i ps z ∙ ap (λ (cs : List (List ℕ)). (i ∷ []) ∷ map (λ p. i ∷ p) cs) (e z)
            ∙ sym (extend_on h i qs (subst (λ (m : ℕ). 0 < m) (r.lengths i l) z))

    paths_renamed : (most : ℕ) (u : List ℕ) (x : N) (y : M) (b : ℕ) → Alike g h x y → paths g most u x b ≡ paths h most u y b
    unfolding paths
    paths_renamed zero u x y b e = refl
    paths_renamed (suc most) u x y b e =
        up_to_alike g.size h.size _ _ r.sizes (λ i l.
        let p = fits_renamed u x y b i e l in
        let q = extend_renamed i l _ _ (λ z.
        paths_renamed most (set u i 1) (g.target i) (h.target i) (g.len i) (r.targets i l z) ∙ ap (paths h most (set u i 1) (h.target i)) (r.lengths i l)) in
        λ t. pick (p t) (q t) [])

    -- ---- what the chains spell
    pub last_renamed : (b : ℕ) (p : List ℕ) → Below g.size p → last_length g b p ≡ last_length h b p
    unfolding last_length
    last_renamed b [] w = refl
    last_renamed b (i ∷ p) w = last_renamed (g.len i) p w.1 ∙ ap (λ (n : ℕ). last_length h n p) (r.lengths i w.0)

    bit_renamed : (p : List ℕ) → Below g.size p → (k : ℕ) → spelt_bit g p k ≡ spelt_bit h p k
    unfolding spelt_bit
    bit_renamed [] w k = refl
    bit_renamed (i ∷ p) w k =
        let l = r.lengths i w.0 in
        let a = r.addresses i w.0 in
        let q = bit_renamed p w.1 k in
        λ t. pick (leb (l t) k) (bit_at (a t) k) (q t)

    pub spelt_renamed : (p : List ℕ) → Below g.size p → spelt g p ≡ spelt h p
    spelt_renamed p w = spelt_same g h p p (bit_renamed p w)

    gather_renamed : (b : ℕ) (ps l : List (List ℕ)) → ((p : List ℕ) → In p ps → Below g.size p) → gather g b (spelt g) l ps ≡ gather h b (spelt h) l ps
    unfolding gather
    gather_renamed b [] l w = refl
    gather_renamed b (p ∷ ps) l w =
        let e = last_renamed b p (w p (inl refl)) in
        let s = spelt_renamed p (w p (inl refl)) in
        gather_renamed b ps _ (λ q m. w q (inr m)) ∙ λ t. gather h b (spelt h) (pick (eqb (e t) 0) (insert (s t) l) l) ps

    -- ---- the meaning
    starts_renamed : (x : N) (y : M) (i : ℕ) → Alike g h x y → Starts g x i → Starts h y i
    starts_renamed x y i e s = (rw (← r.sizes) s.0, sym (e i s.0) ∙ s.1)

    linked_renamed : (i : ℕ) (p : List ℕ) → i < g.size → Linked g i p → Linked h i p
    linked_renamed i [] l k = tt
    linked_renamed i (j ∷ p) l k =
        let f = k.0 in (
          (
            subst (λ (n : ℕ). 0 < n) (r.lengths i l) f.0,
            starts_renamed (g.target i) (h.target i) j (r.targets i l f.0) f.1,
            subst₂ (λ (m n : ℕ). m ≤ n) (r.lengths j f.1.0) (r.lengths i l) f.2,
          ),
          linked_renamed j p f.1.0 k.1,
        )

    chain_renamed : (x : N) (y : M) (p : List ℕ) → Alike g h x y → Chain g x p → Chain h y p
    chain_renamed x y [] e c = elim c [ ]
    chain_renamed x y (i ∷ p) e c = (starts_renamed x y i e c.0, linked_renamed i p c.0.0 c.1)

    spells_over : (x : N) (y : M) (a : List ℕ) → Alike g h x y → Spells g x a → Spells h y a
    spells_over x y a e s =
        let w = chain_below g x s.0 s.1 in
        (s.0, chain_renamed x y s.0 e s.1, sym (last_renamed 128 s.0 w) ∙ s.2, sym (spelt_renamed s.0 w) ∙ s.3)

-- ---- the theorem, for names that own the same records
module _ {N M : Type 0} (g : Graph N) (h : Graph M) (r : Renamed g h) (x : N) (y : M) (e : Alike g h x y) where
  pub chains_renamed : chains_of g x ≡ chains_of h y
  unfolding chains_of chains_from
  chains_renamed =
      paths_renamed g h r (suc (free (blank g.size))) (blank g.size) x y 128 e
      ∙ ap (λ (n : ℕ). paths h (suc (free (blank n))) (blank n) y 128) r.sizes

  pub work_renamed : work_of g x ≡ work_of h y
  unfolding work_of
  work_renamed = ap length chains_renamed

  pub addresses_renamed : addresses_of g x ≡ addresses_of h y
  unfolding addresses_of
  addresses_renamed =
      gather_renamed g h r 128 (chains_of g x) [] (λ p m. chain_below g x p (listed_chain g x p m).0) ∙ ap (gather h 128 (spelt h) []) chains_renamed

  pub spells_renamed : (a : List ℕ) → Spells g x a ↔ Spells h y a
  spells_renamed a = (spells_over g h r x y a e, spells_over h g (renamed_back g h r) y x a (alike_back g h r x y e))

  -- Theorem: other names for the same records change no chain, no work and no address
  pub renaming : (chains_of g x ≡ chains_of h y) × (work_of g x ≡ work_of h y) × (addresses_of g x ≡ addresses_of h y) × ((a : List ℕ) → Spells g x a ↔ Spells h y a)
  renaming = (chains_renamed, work_renamed, addresses_renamed, spells_renamed)
