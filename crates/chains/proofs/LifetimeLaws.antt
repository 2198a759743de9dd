-- The lifetime that is computed is the least TTL among the records of the chains that spell the address, and TTLs change nothing else.
use Prim.Native.Nat.{ℕ, ◌≤◌, ◌<◌, min}
use mathlib.Core.Path.{◌≡◌, refl, sym, ap, subst, ◌∙◌}
use mathlib.Core.Logic.{◌⊎◌, inl, inr, ⊎_elim}
use mathlib.Core.Bool.{Bool, true, false, ◌&&◌}
use mathlib.Core.List.{List, [], ◌∷◌}
use native.Mathlib.Decide.{dec_lt}
use native.Mathlib.Omega.{arith}
use lib.Dec.{eqb}
use borrow.Author.Tests.{eq-eqb, eqb-true}
use Rattle.octets.specs.Octets.{blank, same}
use Rattle.octets.proofs.OctetLaws.{length_blank}
use Rattle.octets.proofs.SameLaws.{same_eq, same_refl}
use Rattle.chains.specs.Lists.{In, Distinct, pick}
use Rattle.chains.specs.Graph.{Graph, max_ttl}
use Rattle.chains.specs.Sound.{Sound}
use Rattle.chains.specs.Chain.{Chain, Complete, last_length, spelt}
use Rattle.chains.specs.Listing.{chains_of, work_of}
use Rattle.chains.specs.Addresses.{addresses_of}
use Rattle.chains.specs.Spelling.{spell}
use Rattle.chains.specs.Lifetimes.{Source, Lifetime, least_ttl, lifetime_in, lifetime_of}
use Rattle.chains.specs.Renaming.{Alike, Renamed}
use Rattle.chains.proofs.ListLaws.{true_both, both_true}
use Rattle.chains.proofs.Listed.{listed_chain, chain_listed}
use Rattle.chains.proofs.Cutting.{spells_distinct}
use Rattle.chains.proofs.AddressesLaws.{spells_listed}
use Rattle.chains.proofs.RenamingLaws.{Below, chain_below, last_renamed, spelt_renamed, chains_renamed, work_renamed, addresses_renamed}
use Rattle.chains.proofs.SpellingLaws.{spell_spelt}

module _ {N : Type 0} (g : Graph N) where
  -- ---- along one chain
  pub least_below : (t : ℕ) (p : List ℕ) → least_ttl g t p ≤ t
  unfolding least_ttl
  least_below t [] = omega arith
  least_below t (i ∷ p) = omega (arith, least_below (min t (g.ttl i)) p)

  least_record : (t : ℕ) (p : List ℕ) (i : ℕ) → In i p → least_ttl g t p ≤ g.ttl i
  unfolding least_ttl
  least_record t [] i x' = elim x' [ ]
  least_record t (j ∷ p) i (inl e) =
      subst (λ (k : ℕ). least_ttl g (min t (g.ttl j)) p ≤ g.ttl k) (sym e) (omega (arith, least_below (min t (g.ttl j)) p))
  least_record t (j ∷ p) i (inr m) = least_record (min t (g.ttl j)) p i m

  -- it is t, or one of the records has it
  least_one : (t : ℕ) (p : List ℕ) → (least_ttl g t p ≡ t) ⊎ ((i : ℕ) × In i p × (g.ttl i ≡ least_ttl g t p))
  unfolding least_ttl
  least_one t [] = inl refl
  least_one t (i ∷ p) = ⊎_elim (go (dec_lt (g.ttl i) t)) (λ r. inr (r.0, inr r.1, r.2)) (least_one (min t (g.ttl i)) p)
    where
      go : Dec (g.ttl i < t) → least_ttl g (min t (g.ttl i)) p ≡ min t (g.ttl i)
          → (least_ttl g (min t (g.ttl i)) p ≡ t) ⊎ ((j : ℕ) × In j (i ∷ p) × (g.ttl j ≡ least_ttl g (min t (g.ttl i)) p))
      go (yes l) e = inr (i, inl refl, omega arith)
      go (no l) e = inl (omega (arith, l))

  -- ---- over some chains
  module _ (b : ℕ) (f : List ℕ → List ℕ) (a : List ℕ) where
    -- p is complete and spells a
    abbrev By : List ℕ → Type 0
    By p = (last_length g b p ≡ 0) × (f p ≡ a)

    abbrev spells : List ℕ → Bool
    spells p = eqb (last_length g b p) 0 && same (f p) a

    by_spells : (p : List ℕ) → By p → spells p ≡ true
    by_spells p h = true_both _ _ (eq-eqb (last_length g b p) 0 h.0) (ap (λ (v : List ℕ). same v a) h.1 ∙ same_refl a)

    spells_by : (p : List ℕ) → spells p ≡ true → By p
    spells_by p h = let r = both_true (eqb (last_length g b p) 0) (same (f p) a) h in (eqb-true (last_length g b p) 0 r.0, same_eq (f p) a r.1)

    lifetime_below : (t : ℕ) (ps : List (List ℕ)) → lifetime_in g b f a t ps ≤ t
    unfolding lifetime_in
    lifetime_below t [] = omega arith
    lifetime_below t (p ∷ ps) = omega (arith, lifetime_below (pick (spells p) (min t (least_ttl g max_ttl p)) t) ps, go (spells p))
      where
        go : (c : Bool) → pick c (min t (least_ttl g max_ttl p)) t ≤ t
        go true = omega arith
        go false = omega arith

    lifetime_record : (t : ℕ) (ps : List (List ℕ)) (p : List ℕ) (i : ℕ) → In p ps → By p → In i p → lifetime_in g b f a t ps ≤ g.ttl i
    unfolding lifetime_in
    lifetime_record t [] p i x3 h m = elim x3 [ ]
    lifetime_record t (q ∷ ps) p i (inl e) h m =
        let k : least_ttl g max_ttl q ≤ g.ttl i = least_record max_ttl q i (subst (λ (r : List ℕ). In i r) e m) in
        let s : spells q ≡ true = ap spells (sym e) ∙ by_spells p h in
        rw s (omega (arith, k, lifetime_below (min t (least_ttl g max_ttl q)) ps))
    lifetime_record t (q ∷ ps) p i (inr n) h m = lifetime_record (pick (spells q) (min t (least_ttl g max_ttl q)) t) ps p i n h m

    -- what has the least: one of the records of one of the chains
    abbrev Has : List (List ℕ) → ℕ → Type 0
    Has ps t = (p : List ℕ) × (i : ℕ) × In p ps × By p × In i p × (g.ttl i ≡ t)

    lifetime_one : (t : ℕ) (ps : List (List ℕ)) → (lifetime_in g b f a t ps ≡ t) ⊎ (lifetime_in g b f a t ps ≡ max_ttl) ⊎ Has ps (lifetime_in g b f a t ps)
    unfolding lifetime_in
    lifetime_one t [] = inl refl
    lifetime_one t (p ∷ ps) = ⊎_elim (first (spells p) refl) (⊎_elim (λ e. inr (inl e)) (λ r. inr (inr (r.0, r.1, inr r.2, r.3, r.4, r.5)))) (lifetime_one (pick (spells p) (min t (least_ttl g max_ttl p)) t) ps)
      where
        rest : ℕ
        rest = lifetime_in g b f a (pick (spells p) (min t (least_ttl g max_ttl p)) t) ps

        least : spells p ≡ true → rest ≡ least_ttl g max_ttl p → (rest ≡ max_ttl) ⊎ Has (p ∷ ps) rest
        least s e = ⊎_elim (λ k. inl (e ∙ k)) (λ r. inr (p, r.0, inl refl, spells_by p s, r.1, r.2 ∙ sym e)) (least_one max_ttl p)

        first : (c : Bool) → spells p ≡ c → rest ≡ pick c (min t (least_ttl g max_ttl p)) t → (rest ≡ t) ⊎ (rest ≡ max_ttl) ⊎ Has (p ∷ ps) rest
        first false s e = inl e
        first true s e = go (dec_lt (least_ttl g max_ttl p) t)
          where
            go : Dec (least_ttl g max_ttl p < t) → (rest ≡ t) ⊎ (rest ≡ max_ttl) ⊎ Has (p ∷ ps) rest
            go (yes l) = inr (least s (omega (arith, e)))
            go (no l) = inl (omega (arith, e, l))

  -- ---- the lifetime of an address of a name
  module _ (sound : Sound g) (x : N) (a : List ℕ) where
    -- Theorem: no address outlives a record of the complete chains that use no position twice and spell it
    pub outlives_none : (i : ℕ) → Source g x a i → lifetime_of g x a ≤ g.ttl i
    unfolding lifetime_of
    outlives_none i s = lifetime_record 128 (spelt g) a max_ttl (chains_of g x) s.0 i (chain_listed g x sound s.0 s.1 s.2) (s.3, s.4) s.5

    -- a record with the greatest TTL, where there is none with less
    greatest : (i : ℕ) → Source g x a i → i < g.size → lifetime_of g x a ≡ max_ttl → Lifetime g x a (lifetime_of g x a)
    greatest i s h e = record { source = i; is = s; has = omega (arith, outlives_none i s, sound.lived i h); least = outlives_none }

    -- Theorem: the lifetime computed is the least TTL among the records of the complete chains that use no position twice and spell the address
    pub lifetime_least : In a (addresses_of g x) → Lifetime g x a (lifetime_of g x a)
    unfolding lifetime_of
    lifetime_least m = go (spells_distinct g sound x a ((spells_listed g x sound a).0 m))
      where
        from : (i : ℕ) (p : List ℕ) → Chain g x (i ∷ p) → Source g x a i → Lifetime g x a (lifetime_of g x a)
        from i p c s = ⊎_elim (greatest i s c.0.0) (⊎_elim (greatest i s c.0.0) (λ r. let k = listed_chain g x r.0 r.2 in record {
          source = r.1;
          is = (r.0, k.0, k.1, r.3.0, r.3.1, r.4);
          has = r.5;
          least = outlives_none;
        })) (lifetime_one 128 (spelt g) a max_ttl (chains_of g x))

        go : ((p : List ℕ) × Chain g x p × Distinct p × Complete g p × (spelt g p ≡ a)) → Lifetime g x a (lifetime_of g x a)
        go ([], c, d, z, e) = absurd c
        go (i ∷ p, c, d, z, e) = from i p c (i ∷ p, c, d, z, e, inl refl)

    -- Theorem: no other number is that least TTL
    pub lifetime_only : (t : ℕ) → Lifetime g x a t → In a (addresses_of g x) → t ≡ lifetime_of g x a
    lifetime_only t l m =
        let k = lifetime_least m in
        omega (arith, l.has, k.has, l.least k.source k.is, outlives_none l.source l.is)

-- ---- as a search finds it, from no bits at all
module _ {N : Type 0} (g : Graph N) (b : ℕ) (f f' : List ℕ → List ℕ) (a : List ℕ) where
  lifetime_same : (t : ℕ) (ps : List (List ℕ)) → ((p : List ℕ) → In p ps → last_length g b p ≡ 0 → f p ≡ f' p) → lifetime_in g b f a t ps ≡ lifetime_in g b f' a t ps
  unfolding lifetime_in
  lifetime_same t [] h = refl
  lifetime_same t (p ∷ ps) h =
      ap (λ (c : Bool). lifetime_in g b f a (pick c (min t (least_ttl g max_ttl p)) t) ps) (go (eqb (last_length g b p) 0) refl) ∙ lifetime_same (pick (eqb (last_length g b p) 0 && same (f' p) a) (min t (least_ttl g max_ttl p)) t) ps (λ q m. h q (inr m))
    where
      go : (c : Bool) → eqb (last_length g b p) 0 ≡ c → c && same (f p) a ≡ c && same (f' p) a
      go true e = ap (λ (v : List ℕ). same v a) (h p (inl refl) (eqb-true (last_length g b p) 0 e))
      go false e = refl

pub lifetime_spell : {N : Type 0} (g : Graph N) → Sound g → (x : N) (a : List ℕ) → lifetime_of g x a ≡ lifetime_in g 128 (spell g 128 (blank 16)) a max_ttl (chains_of g x)
unfolding lifetime_of
lifetime_spell g sound x a =
    lifetime_same g 128 (spelt g) (spell g 128 (blank 16)) a max_ttl (chains_of g x)
    (λ p m z. sym (spell_spelt g sound x p (blank 16) (listed_chain g x p m).0 z (length_blank 16)))

-- ---- other names change no lifetime
module _ {N M : Type 0} (g : Graph N) (h : Graph M) (r : Renamed g h) (ttls : (i : ℕ) → i < g.size → g.ttl i ≡ h.ttl i) where
  least_renamed : (t : ℕ) (p : List ℕ) → Below g.size p → least_ttl g t p ≡ least_ttl h t p
  unfolding least_ttl
  least_renamed t [] w = refl
  least_renamed t (i ∷ p) w = least_renamed (min t (g.ttl i)) p w.1 ∙ ap (λ (n : ℕ). least_ttl h (min t n) p) (ttls i w.0)

  in_renamed : (b : ℕ) (a : List ℕ) (t : ℕ) (ps : List (List ℕ)) → ((p : List ℕ) → In p ps → Below g.size p) → lifetime_in g b (spelt g) a t ps ≡ lifetime_in h b (spelt h) a t ps
  unfolding lifetime_in
  in_renamed b a t [] w = refl
  in_renamed b a t (p ∷ ps) w =
      let e = last_renamed g h r b p (w p (inl refl)) in
      let s = spelt_renamed g h r p (w p (inl refl)) in
      let l = least_renamed max_ttl p (w p (inl refl)) in
      in_renamed b a (pick (eqb (last_length g b p) 0 && same (spelt g p) a) (min t (least_ttl g max_ttl p)) t) ps (λ q m. w q (inr m)) ∙ λ i. lifetime_in h b (spelt h) a (pick (eqb (e i) 0 && same (s i) a) (min t (l i)) t) ps

  pub lifetime_renamed : (x : N) (y : M) → Alike g h x y → (a : List ℕ) → lifetime_of g x a ≡ lifetime_of h y a
  unfolding lifetime_of
  lifetime_renamed x y e a =
      in_renamed 128 a max_ttl (chains_of g x) (λ p m. chain_below g x p (listed_chain g x p m).0)
      ∙ ap (lifetime_in h 128 (spelt h) a max_ttl) (chains_renamed g h r x y e)

-- ---- TTLs change no chain, no work and no address, nor their order
-- the same records with no TTLs
abbrev pub forget : {N : Type 0} → Graph N → Graph N
forget g = record { size = g.size; owns = g.owns; target = g.target; len = g.len; addr = g.addr; ttl = λ i. 0 }

module _ {N : Type 0} (g : Graph N) (x : N) where
  forgotten : Renamed g (forget g)
  forgotten = record { sizes = refl; lengths = λ i l. refl; addresses = λ i l. refl; targets = λ i l z j k. refl }

  -- Theorem: TTLs change no chain
  pub chains_forget : chains_of (forget g) x ≡ chains_of g x
  chains_forget = sym (chains_renamed g (forget g) forgotten x x (λ i l. refl))

  -- Theorem: TTLs do not change the work
  pub work_forget : work_of (forget g) x ≡ work_of g x
  work_forget = sym (work_renamed g (forget g) forgotten x x (λ i l. refl))

  -- Theorem: TTLs change no address
  pub addresses_forget : addresses_of (forget g) x ≡ addresses_of g x
  addresses_forget = sym (addresses_renamed g (forget g) forgotten x x (λ i l. refl))
