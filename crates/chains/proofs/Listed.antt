-- The listing holds every chain of the name that uses no position twice, exactly once, and nothing else (01, Chains: work).
use Prim.Native.Nat.{ℕ, zero, suc, ◌≤◌, ◌<◌}
use mathlib.Core.Path.{◌≡◌, refl, sym, subst, ◌∙◌}
use mathlib.Core.Logic.{inl, inr, ⊎_elim, ◌↔◌}
use mathlib.Core.Bool.{Bool, true, false}
use mathlib.Core.List.{List, [], ◌∷◌, map, cons≢nil, tail-eq_of_cons-eq}
use native.Mathlib.Decide.{ℕ_discrete}
use native.Mathlib.Omega.{arith}
use lib.Dec.{eqb}
use lib.ListN.{length, get_or, set, length-set, get_or-replicate}
use lib.Seq.{get_or-set_same, get_or-set_other}
use Rattle.octets.specs.Octets.{blank}
use Rattle.octets.proofs.OctetLaws.{length_blank}
use Rattle.chains.specs.Lists.{In, Distinct, pick}
use Rattle.chains.specs.Graph.{Graph}
use Rattle.chains.specs.Sound.{Sound}
use Rattle.chains.specs.Chain.{Chain}
use Rattle.chains.specs.Listing.{free, fits, extend, paths, chains_from, chains_of, work_of}
use Rattle.chains.proofs.ListLaws.{in_up_to, up_to_in, in_pick, in_map, map_in, distinct_pick, distinct_map, distinct_up_to, same_length}
use Rattle.chains.proofs.ListingLaws.{free_mark, extend_end, extend_on, fits_is, is_fits}
use Rattle.chains.proofs.Walks.{Walk, chain_walk, walk_chain, walk_within}

-- none of p is marked, and none stands twice: each is marked before the next
abbrev Fresh : List ℕ → List ℕ → Type 0
Fresh u [] = Unit
Fresh u (i ∷ p) = (get_or u i 0 ≡ 0) × Fresh (set u i 1) p

module _ {N : Type 0} (g : Graph N) where
  abbrev Good : List ℕ → N → ℕ → List ℕ → Type 0
  Good u x b p = (p ≡ [] → ⊥) × Walk g x b p × Fresh u p

  -- what is listed is such a chain
  good_at : (u : List ℕ) (x : N) (b i : ℕ) (p : List ℕ) → 0 < b → i < g.size → fits g u x b i ≡ true →
      (ps : List (List ℕ)) → ((q : List ℕ) → 0 < g.len i → In q ps → Good (set u i 1) (g.target i) (g.len i) q) →
      In p (extend g i ps) → Good u x b p
  good_at u x b i p n l h ps ih m = go (ℕ_discrete (g.len i) 0)
    where
      k : (get_or u i 0 ≡ 0) × (g.len i ≤ b) × (g.owns i x ≡ true)
      k = is_fits g u x b i h

      single : Good u x b (i ∷ [])
      single = (cons≢nil, ((n, (l, k.2), k.1), tt), (k.0, tt))

      back : (q : List ℕ) → p ≡ q → Good u x b q → Good u x b p
      back q e r = subst (λ (l : List ℕ). Good u x b l) (sym e) r

      go : Dec (g.len i ≡ 0) → Good u x b p
      go (yes e) = ⊎_elim (λ q. back (i ∷ []) q single) (λ q. absurd q) (rw (extend_end g i ps e) at m)
      go (no z) =
          let y : 0 < g.len i = omega (arith, z) in
          ⊎_elim (λ q. back (i ∷ []) q single)
          (λ q.
          let r = in_map i p ps q in
          let s = ih r.0 y r.2 in
          back (i ∷ r.0) r.1 (cons≢nil, ((n, (l, k.2), k.1), s.1), (k.0, s.2)))
          (rw (extend_on g i ps y) at m)

  paths_good : (most : ℕ) (u : List ℕ) (x : N) (b : ℕ) (p : List ℕ) → 0 < b → In p (paths g most u x b) → Good u x b p
  unfolding paths
  paths_good zero u x b p n m = elim m [ ]
  paths_good (suc most) u x b p n m =
      let r = in_up_to p g.size _ m in
      let q = in_pick p (fits g u x b r.0) _ r.2 in
      good_at u x b r.0 p n r.1 q.0 _ (λ q z k. paths_good most _ _ _ q z k) q.1

  -- and each such chain is listed
  tail_in : (i : ℕ) (p : List ℕ) (ps : List (List ℕ)) → Walk g (g.target i) (g.len i) p → ((p ≡ [] → ⊥) → In p ps) → In (i ∷ p) (extend g i ps)
  unfolding extend
  tail_in i [] ps w r = inl refl
  tail_in i (j ∷ p) ps w r = subst (λ (l : List (List ℕ)). In (i ∷ j ∷ p) l) (sym (extend_on g i ps w.0.0)) (inr (map_in i (j ∷ p) ps (r cons≢nil)))

  good_paths : (most : ℕ) (u : List ℕ) (x : N) (b : ℕ) (p : List ℕ) → Good u x b p → length p ≤ most → In p (paths g most u x b)
  unfolding paths
  good_paths most u x b [] h l = absurd (h.0 refl)
  good_paths zero u x b (i ∷ p) h l = absurd (omega arith)
  good_paths (suc most) u x b (i ∷ p) h l =
      let k = h.1.0 in
      up_to_in (i ∷ p) g.size _ i k.1.0
      (rw (fits_is g u x b i h.2.0 k.2 k.1.1)
      (tail_in i p _ h.1.1 (λ n. good_paths most (set u i 1) _ _ p (n, h.1.1, h.2.1) (omega arith))))

  -- each once
  heads : (i : ℕ) (p : List ℕ) (ps : List (List ℕ)) → In p (extend g i ps) → (q : List ℕ) × (p ≡ i ∷ q)
  unfolding extend
  heads i p ps (inl e) = ([], e)
  heads i p ps (inr m) = go (eqb (g.len i) 0) m
    where
      go : (t : Bool) → In p (pick t [] (map (λ p. i ∷ p) ps)) → (q : List ℕ) × (p ≡ i ∷ q)
      go true k = elim k [ ]
      go false k = let r = in_map i p ps k in (r.0, r.1)

  extend_distinct : (i : ℕ) (ps : List (List ℕ)) → Distinct ps → ((p : List ℕ) → In p ps → p ≡ [] → ⊥) → Distinct (extend g i ps)
  unfolding extend
  extend_distinct i ps d n = go (eqb (g.len i) 0)
    where
      go : (t : Bool) → Distinct ((i ∷ []) ∷ pick t [] (map (λ p. i ∷ p) ps))
      go true = (λ m. m, tt)
      go false = (λ m. let r = in_map i (i ∷ []) ps m in n r.0 r.2 (sym (tail-eq_of_cons-eq r.1)), distinct_map i ps d)

  paths_filled : (most : ℕ) (u : List ℕ) (x : N) (b : ℕ) (p : List ℕ) → In p (paths g most u x b) → p ≡ [] → ⊥
  unfolding paths
  paths_filled zero u x b p m e = elim m [ ]
  paths_filled (suc most) u x b p m e =
      let r = in_up_to p g.size _ m in
      let k = heads r.0 p _ (in_pick p (fits g u x b r.0) _ r.2).1 in
      cons≢nil (sym k.1 ∙ e)

  paths_distinct : (most : ℕ) (u : List ℕ) (x : N) (b : ℕ) → Distinct (paths g most u x b)
  unfolding paths
  paths_distinct zero u x b = tt
  paths_distinct (suc most) u x b =
      distinct_up_to g.size _
      (λ i. distinct_pick (fits g u x b i) _ (extend_distinct i _ (paths_distinct most _ _ _) (paths_filled most _ _ _)))
      (λ i p m. heads i p _ (in_pick p (fits g u x b i) _ m).1)

-- ---- no position twice, by marks and by the list
long_enough : (u p : List ℕ) → Fresh u p → ((i : ℕ) → In i p → i < length u) → length p ≤ free u
long_enough u [] h r = omega arith
long_enough u (i ∷ p) h r =
    let e = free_mark u i (r i (inl refl)) h.0 in
    let k = long_enough (set u i 1) p h.1 (λ j m. rw (length-set u i 1) (r j (inr m))) in
    omega (arith, e, k)

fresh_more : (u p : List ℕ) (i : ℕ) → i < length u → get_or u i 0 ≡ 0 → ((j : ℕ) → In j p → get_or (set u i 1) j 0 ≡ 0) × Distinct p →
    ((j : ℕ) → In j (i ∷ p) → get_or u j 0 ≡ 0) × Distinct (i ∷ p)
fresh_more u p i r h ih = (clear, (new, ih.1))
  where
    new : In i p → ⊥
    new m =
        let e : get_or (set u i 1) i 0 ≡ 0 = ih.0 i m in
        let k : get_or (set u i 1) i 0 ≡ 1 = get_or-set_same u i 1 0 r in
        omega arith

    clear : (j : ℕ) → In j (i ∷ p) → get_or u j 0 ≡ 0
    clear j (inl e) = rw e h
    clear j (inr m) = sym (get_or-set_other u i j 1 0 (λ e. new (subst (λ (k : ℕ). In k p) e m))) ∙ ih.0 j m

fresh_distinct : (u p : List ℕ) → ((i : ℕ) → In i p → i < length u) → Fresh u p → ((i : ℕ) → In i p → get_or u i 0 ≡ 0) × Distinct p
fresh_distinct u [] r h = (λ i m. absurd m, tt)
fresh_distinct u (i ∷ p) r h = fresh_more u p i (r i (inl refl)) h.0 (fresh_distinct (set u i 1) p (λ j m. rw (length-set u i 1) (r j (inr m))) h.1)

distinct_fresh : (u p : List ℕ) → ((i : ℕ) → In i p → get_or u i 0 ≡ 0) → Distinct p → Fresh u p
distinct_fresh u [] z d = tt
distinct_fresh u (i ∷ p) z d =
    (z i (inl refl), distinct_fresh (set u i 1) p (λ j m. get_or-set_other u i j 1 0 (λ e. d.0 (subst (λ (k : ℕ). In k p) e m)) ∙ z j (inr m)) d.1)

-- ---- the theorem
module _ {N : Type 0} (g : Graph N) (x : N) where
  within : (p : List ℕ) → Walk g x 128 p → (i : ℕ) → In i p → i < length (blank g.size)
  within p w i m = rw (length_blank g.size) (walk_within g x 128 i p w m)

  -- what is listed is a chain of x that uses no position twice
  pub listed_chain : (p : List ℕ) → In p (chains_of g x) → Chain g x p × Distinct p
  unfolding chains_of chains_from
  listed_chain p m =
      let h = paths_good g (suc (free (blank g.size))) (blank g.size) x 128 p (omega arith) m in
      (walk_chain g x 128 p h.0 h.1, (fresh_distinct (blank g.size) p (within p h.1) h.2).1)

  pub chains_distinct : Distinct (chains_of g x)
  unfolding chains_of chains_from
  chains_distinct = paths_distinct g (suc (free (blank g.size))) (blank g.size) x 128

  filled : (p : List ℕ) → Chain g x p → p ≡ [] → ⊥
  filled [] c = elim c [ ]
  filled (i ∷ p) c = cons≢nil

  module _ (sound : Sound g) where
    -- and each of them is listed
    pub chain_listed : (p : List ℕ) → Chain g x p → Distinct p → In p (chains_of g x)
    unfolding chains_of chains_from blank
    chain_listed p c d =
        let n = g.size in
        let w = chain_walk g x 128 p (omega arith) sound.short c in
        let f : Fresh (blank n) p = distinct_fresh (blank n) p (λ i m. get_or-replicate n i 0 0 (walk_within g x 128 i p w m)) d in
        good_paths g (suc (free (blank n))) (blank n) x 128 p (filled p c, w, f) (omega (arith, long_enough (blank n) p f (within p w)))

    -- Theorem: the listing holds every chain of x that uses no position twice, complete or not, exactly once
    pub listed_once : Distinct (chains_of g x) × ((p : List ℕ) → In p (chains_of g x) ↔ (Chain g x p × Distinct p))
    listed_once = (chains_distinct, λ p. (listed_chain p, λ h. chain_listed p h.0 h.1))

    -- Theorem: the work is the number of those chains, however they are listed
    pub work_counts : (ps : List (List ℕ)) → Distinct ps → ((p : List ℕ) → In p ps ↔ (Chain g x p × Distinct p)) → length ps ≡ work_of g x
    unfolding work_of
    work_counts ps d h =
        same_length ps (chains_of g x) d chains_distinct (λ p m. (listed_once.1 p).1 ((h p).0 m)) (λ p m. (h p).1 ((listed_once.1 p).0 m))
