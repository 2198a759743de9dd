-- Laws of a search as a fold over chains: what a step gives, and what the records before a place give.
use Prim.Native.Nat.{ℕ, zero, suc, ◌+◌, ◌-◌, ◌≤◌, ◌<◌, min}
use mathlib.Core.Path.{◌≡◌, refl, sym, ap, ◌∙◌}
use mathlib.Core.Bool.{Bool, true, false}
use mathlib.Core.List.{List, [], ◌∷◌, ◌++◌, map}
use native.Mathlib.Nat.{add-zero}
use native.Mathlib.Omega.{arith}
use lib.Dec.{eqb}
use lib.ListN.{length, get_or, set}
use borrow.Author.Tests.{eq-eqb, ne_eqb}
use Rattle.address.specs.Address.{join_of}
use Rattle.address.proofs.AddressLaws.{join_length}
use Rattle.chains.specs.Lists.{pick, up_to}
use Rattle.chains.specs.Graph.{Graph}
use Rattle.chains.specs.Chain.{last_length}
use Rattle.chains.specs.Listing.{free, fits, extend, paths, chains_from}
use Rattle.chains.specs.Spelling.{spell}
use Rattle.chains.specs.Lifetimes.{least_ttl}
use Rattle.chains.proofs.ListingLaws.{free_mark, extend_end, extend_on}
use Rattle.rows.specs.Rows.{Kept, keep_in}
use Rattle.search.specs.Search.{State, visit, run, searched, stepped}

-- the same state with one chain counted
abbrev pub counted : State → State
counted s = (s.0 - 1, s.1)

module _ {N : Type 0} (g : Graph N) where
  -- ---- chain by chain
  run_append : (b : ℕ) (a : List ℕ) (c : ℕ) (s : State) (ps qs : List (List ℕ)) → run g b a c s (ps ++ qs) ≡ run g b a c (run g b a c s ps) qs
  unfolding run
  run_append b a c s [] qs = refl
  run_append b a c s (p ∷ ps) qs = run_append b a c (visit g b a c s p) ps qs

  run_cons : (b : ℕ) (a : List ℕ) (c : ℕ) (s : State) (p : List ℕ) (ps : List (List ℕ)) → run g b a c s (p ∷ ps) ≡ run g b a c (visit g b a c s p) ps
  unfolding run
  run_cons b a c s p ps = refl

  -- where no chain may be counted any more nothing changes
  pub visit_over : (b : ℕ) (a : List ℕ) (c : ℕ) (s : State) (p : List ℕ) → s.0 ≡ 0 → visit g b a c s p ≡ s
  unfolding visit
  visit_over b a c s p h = rw (eq-eqb s.0 0 h)

  pub run_over_lem : (b : ℕ) (a : List ℕ) (c : ℕ) (s : State) (ps : List (List ℕ)) → s.0 ≡ 0 → run g b a c s ps ≡ s
  unfolding run
  run_over_lem b a c s [] h = refl
  run_over_lem b a c s (p ∷ ps) h = rw (visit_over b a c s p h) (run_over_lem b a c s ps h)

  pub visit_within : (b : ℕ) (a : List ℕ) (c : ℕ) (s : State) (p : List ℕ) → 0 < s.0
      → visit g b a c s p ≡ (s.0 - 1, pick (eqb (last_length g b p) 0) (keep_in (spell g b a p) (least_ttl g c p) s.1) s.1)
  unfolding visit
  visit_within b a c s p h = rw (ne_eqb s.0 0 (λ e. omega arith))

  -- the chains that go on from i, as they go on from the bits that i gives
  run_map : (i b : ℕ) (a : List ℕ) (c : ℕ) (s : State) (ps : List (List ℕ))
      → run g b a c s (map (λ p. i ∷ p) ps) ≡ run g (g.len i) (join_of (g.addr i) a b) (min c (g.ttl i)) s ps
  unfolding run visit spell last_length least_ttl
  run_map i b a c s [] = refl
  run_map i b a c s (p ∷ ps) = run_map i b a c (visit g b a c s (i ∷ p)) ps

  -- what the keeping of an address leaves true stays true
  module _ (P : Kept → Type 0) (sixteen : (i : ℕ) → length (g.addr i) ≡ 16) (keeps : (v : List ℕ) (t : ℕ) (k : Kept) → length v ≡ 16 → P k → P (keep_in v t k)) where
    spell_length : (b : ℕ) (a p : List ℕ) → length a ≡ 16 → length (spell g b a p) ≡ 16
    unfolding spell
    spell_length b a [] n = n
    spell_length b a (i ∷ p) n = spell_length (g.len i) (join_of (g.addr i) a b) p (join_length (g.addr i) a b (sixteen i) n)

    run_keeps : (b : ℕ) (a : List ℕ) (c : ℕ) → length a ≡ 16 → (s : State) (ps : List (List ℕ)) → P s.1 → P (run g b a c s ps).1
    unfolding run visit
    run_keeps b a c n s [] h = h
    run_keeps b a c n s (p ∷ ps) h = run_keeps b a c n (visit g b a c s p) ps (go (eqb s.0 0) (eqb (last_length g b p) 0))
      where
        go : (t e : Bool) → P (pick t s (s.0 - 1, pick e (keep_in (spell g b a p) (least_ttl g c p) s.1) s.1)).1
        go true e = h
        go false true = keeps (spell g b a p) (least_ttl g c p) s.1 (spell_length b a p n) h
        go false false = h

  -- ---- into one record
  module _ (u : List ℕ) (i b : ℕ) (a : List ℕ) (c : ℕ) (s : State) (w : 0 < s.0) where
    visit_end : g.len i ≡ 0 → visit g b a c s (i ∷ []) ≡ (s.0 - 1, keep_in (join_of (g.addr i) a b) (min c (g.ttl i)) s.1)
    unfolding spell last_length least_ttl
    visit_end e = visit_within b a c s (i ∷ []) w ∙ rw (eq-eqb (g.len i) 0 e)

    visit_on : 0 < g.len i → visit g b a c s (i ∷ []) ≡ counted s
    unfolding last_length
    visit_on h = visit_within b a c s (i ∷ []) w ∙ rw (ne_eqb (g.len i) 0 (λ e. omega arith))

    pub stepped_end : g.len i ≡ 0 → stepped g u i b a c s ≡ (s.0 - 1, keep_in (join_of (g.addr i) a b) (min c (g.ttl i)) s.1)
    unfolding stepped run
    stepped_end e = rw (extend_end g i _ e) (visit_end e)

    pub stepped_on : 0 < g.len i → i < length u → get_or u i 0 ≡ 0
        → stepped g u i b a c s ≡ searched g (set u i 1) (g.target i) (g.len i) (join_of (g.addr i) a b) (min c (g.ttl i)) (counted s)
    unfolding stepped searched chains_from
    stepped_on n l e = rw (extend_on g i _ n, run_cons b a c s (i ∷ []) _, visit_on n, free_mark u i l e) (run_map i b a c (counted s) _)

  -- ---- over the records of a name: what those before a place give
  turn : List ℕ → N → ℕ → ℕ → List (List ℕ)
  turn u x b i = pick (fits g u x b i) (extend g i (paths g (free u) (set u i 1) (g.target i) (g.len i))) []

  pub searched_to : List ℕ → N → ℕ → List ℕ → ℕ → State → ℕ → State
  unfolding turn
  searched_to u x b a c s n = run g b a c s (up_to n (turn u x b))

  module _ (u : List ℕ) (x : N) (b : ℕ) (a : List ℕ) (c : ℕ) (s : State) where
    pub to_none : s ≡ searched_to u x b a c s 0
    unfolding searched_to up_to run
    to_none = refl

    pub to_all : searched_to u x b a c s g.size ≡ searched g u x b a c s
    unfolding searched_to searched chains_from paths turn
    to_all = refl

    module _ (i : ℕ) where
      more : searched_to u x b a c s (suc i) ≡ run g b a c (searched_to u x b a c s i) (turn u x b i)
      unfolding searched_to up_to
      more = run_append b a c s (up_to i (turn u x b)) (turn u x b i)

      to_over : (searched_to u x b a c s i).0 ≡ 0 → searched_to u x b a c s (suc i) ≡ searched_to u x b a c s i
      to_over h = more ∙ run_over_lem b a c _ _ h

      pub to_skip : fits g u x b i ≡ false → searched_to u x b a c s (suc i) ≡ searched_to u x b a c s i
      unfolding turn run
      to_skip h = more ∙ rw h refl

      pub to_step : fits g u x b i ≡ true → searched_to u x b a c s (suc i) ≡ stepped g u i b a c (searched_to u x b a c s i)
      unfolding turn stepped
      to_step h = more ∙ rw h refl

    -- what the keeping of an address leaves true stays true
    pub to_keeps : (P : Kept → Type 0) → ((i : ℕ) → length (g.addr i) ≡ 16) → ((v : List ℕ) (t : ℕ) (k : Kept) → length v ≡ 16 → P k → P (keep_in v t k)) → length a ≡ 16 → P s.1 → (i : ℕ) → P (searched_to u x b a c s i).1
    unfolding searched_to
    to_keeps P sixteen keeps n h i = run_keeps P sixteen keeps b a c n s (up_to i (turn u x b)) h

    to_over_by : (d i : ℕ) → (searched_to u x b a c s i).0 ≡ 0 → searched_to u x b a c s (i + d) ≡ searched_to u x b a c s i
    to_over_by zero i h = ap (searched_to u x b a c s) (add-zero i)
    to_over_by (suc d) i h =
        let r = to_over_by d i h in
        let e : i + suc d ≡ suc (i + d) = omega arith in
        ap (searched_to u x b a c s) e ∙ to_over (i + d) (ap (λ (v : State). v.0) r ∙ h) ∙ r

    pub to_end : (i : ℕ) → i ≤ g.size → (searched_to u x b a c s i).0 ≡ 0 → searched g u x b a c s ≡ searched_to u x b a c s i
    to_end i l h =
        let e : g.size ≡ i + (g.size - i) = omega arith in
        sym to_all ∙ ap (searched_to u x b a c s) e ∙ to_over_by (g.size - i) i h
