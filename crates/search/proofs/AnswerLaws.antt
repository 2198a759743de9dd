-- From the state that a search leaves to the answer: how many chains were left to count, what is kept against the room.
use Prim.Native.Nat.{ℕ, suc, ◌+◌, ◌-◌, ◌*◌, ◌/◌, ◌%◌, ◌≤◌, ◌<◌, min}
use mathlib.Core.Path.{◌≡◌, refl, sym, ap, subst, ◌∙◌}
use mathlib.Core.Logic.{inl, inr, ⊎_elim}
use mathlib.Core.Bool.{Bool, true, false, ◌&&◌}
use mathlib.Core.List.{List, [], ◌∷◌, ◌++◌, map}
use native.Mathlib.Decide.{dec_lt}
use native.Mathlib.Omega.{arith}
use lib.Dec.{eqb}
use lib.ListN.{length, length-map}
use borrow.Author.Tests.{lt-ltb, le-ltb, eqb-true}
use Rattle.octets.specs.Octets.{blank, same, flat}
use Rattle.octets.specs.Answers.{answering}
use Rattle.octets.proofs.AnswerLaws.{done_answer, done_out}
use Rattle.octets.proofs.FlatLaws.{flat_length}
use Rattle.octets.proofs.OctetLaws.{length_blank}
use Rattle.chains.specs.Lists.{In, pick}
use Rattle.chains.specs.Graph.{Graph, max_ttl}
use Rattle.chains.specs.Sound.{Sound}
use Rattle.chains.specs.Chain.{last_length, spelt}
use Rattle.chains.specs.Listing.{chains_of, work_of}
use Rattle.chains.specs.Addresses.{insert, gather, addresses_of}
use Rattle.chains.specs.Spelling.{spell}
use Rattle.chains.specs.Lifetimes.{least_ttl, lifetime_in, lifetime_of}
use Rattle.chains.proofs.Listed.{listed_chain}
use Rattle.chains.proofs.LifetimeLaws.{least_below, lifetime_spell}
use Rattle.chains.proofs.SpellingLaws.{spelt_length, spell_spelt, addresses_spell}
use Rattle.rows.specs.Rows.{Kept, keep_in, Holds, Lived}
use Rattle.rows.specs.Held.{none_yet}
use Rattle.search.specs.Search.{Records, graph_of, State, visit, run, searched}
use Rattle.octets.specs.Numbers.{octets_of}
use Rattle.rows.specs.Halves.{address_of}
use Rattle.search.specs.Links.{Linked, Numbered, Fresh}
use Rattle.search.specs.Memory.{Memory, memory, state_of, unused_of, search_of, Fit, Leaves}
use Rattle.search.specs.Answers.{number_of, answer_of, output_of, lives_of}
use Rattle.rows.proofs.HalvesLaws.{address_length, address_small}
use Rattle.search.proofs.LinkLaws.{marks_none}
use Rattle.search.proofs.SearchLaws.{visit_over, visit_within, run_over_lem}
use Rattle.rows.proofs.KeepingLaws.{keep_holds, insert_length}
use Rattle.rows.proofs.LivedLaws.{keep_lived}

-- ---- a run of fewer chains than may be counted, and one of as many or more
module _ {N : Type 0} (g : Graph N) (b : ℕ) (a : List ℕ) where
  visit_counts : (s : State) (p : List ℕ) → 0 < s.0 → (visit g b a max_ttl s p).0 ≡ s.0 - 1
  visit_counts s p w = ap (λ (r : State). r.0) (visit_within g b a max_ttl s p w)

  visit_holds : (room : ℕ) (s : State) (l : List (List ℕ)) (p : List ℕ) → (last_length g b p ≡ 0 → length (spell g b a p) ≡ 16) → 0 < s.0 → Holds room l s.1
      → Holds room (pick (eqb (last_length g b p) 0) (insert (spell g b a p) l) l) (visit g b a max_ttl s p).1
  visit_holds room s l p n w h = rw (visit_within g b a max_ttl s p w) (go (eqb (last_length g b p) 0) refl)
    where
      go : (t : Bool) → eqb (last_length g b p) 0 ≡ t → Holds room (pick t (insert (spell g b a p) l) l) (pick t (keep_in (spell g b a p) (least_ttl g max_ttl p) s.1) s.1)
      go true e = keep_holds room (spell g b a p) (least_ttl g max_ttl p) l s.1 (n (eqb-true (last_length g b p) 0 e)) h
      go false e = h

  run_holds : (room : ℕ) (ps : List (List ℕ)) (s : State) (l : List (List ℕ)) → ((p : List ℕ) → In p ps → last_length g b p ≡ 0 → length (spell g b a p) ≡ 16)
      → Holds room l s.1 → length ps < s.0
      → ((run g b a max_ttl s ps).0 ≡ s.0 - length ps) × Holds room (gather g b (spell g b a) l ps) (run g b a max_ttl s ps).1
  unfolding run gather
  run_holds room [] s l u h n = (omega arith, h)
  run_holds room (p ∷ ps) s l u h n =
      let w = visit_counts s p (omega arith) in
      let r = run_holds room ps (visit g b a max_ttl s p) _ (λ q k. u q (inr k)) (visit_holds room s l p (u p (inl refl)) (omega arith) h) (omega (arith, w)) in
      (omega (arith, w, r.0), r.1)

  -- the lifetimes beside, where l has them by the function life
  visit_lived : (room : ℕ) (s : State) (l : List (List ℕ)) (life : List ℕ → ℕ) (p : List ℕ) → (last_length g b p ≡ 0 → length (spell g b a p) ≡ 16) → 0 < s.0
      → Holds room l s.1 → Lived room l life s.1
      → Lived room (pick (eqb (last_length g b p) 0) (insert (spell g b a p) l) l)
      (λ v. pick (eqb (last_length g b p) 0 && same (spell g b a p) v) (min (life v) (least_ttl g max_ttl p)) (life v)) (visit g b a max_ttl s p).1
  visit_lived room s l life p n w h v = rw (visit_within g b a max_ttl s p w) (go (eqb (last_length g b p) 0) refl)
    where
      go : (t : Bool) → eqb (last_length g b p) 0 ≡ t
          → Lived room (pick t (insert (spell g b a p) l) l) (λ v. pick (t && same (spell g b a p) v) (min (life v) (least_ttl g max_ttl p)) (life v))
          (pick t (keep_in (spell g b a p) (least_ttl g max_ttl p) s.1) s.1)
      go true e = keep_lived room (spell g b a p) (least_ttl g max_ttl p) l s.1 (n (eqb-true (last_length g b p) 0 e)) h life v (least_below g max_ttl p)
      go false e = v

  run_lived : (room : ℕ) (ps : List (List ℕ)) (s : State) (l : List (List ℕ)) (life : List ℕ → ℕ) → ((p : List ℕ) → In p ps → last_length g b p ≡ 0 → length (spell g b a p) ≡ 16)
      → Holds room l s.1 → Lived room l life s.1 → length ps < s.0
      → Lived room (gather g b (spell g b a) l ps) (λ v. lifetime_in g b (spell g b a) v (life v) ps) (run g b a max_ttl s ps).1
  unfolding run gather lifetime_in
  run_lived room [] s l life u h v n = v
  run_lived room (p ∷ ps) s l life u h v n =
      let w = visit_counts s p (omega arith) in
      run_lived room ps (visit g b a max_ttl s p) _ _ (λ q k. u q (inr k)) (visit_holds room s l p (u p (inl refl)) (omega arith) h)
      (visit_lived room s l life p (u p (inl refl)) (omega arith) h v) (omega (arith, w))

  run_beyond : (ps : List (List ℕ)) (s : State) → s.0 ≤ length ps → (run g b a max_ttl s ps).0 ≡ 0
  unfolding run
  run_beyond [] s n = omega arith
  run_beyond (p ∷ ps) s n = go (dec_lt 0 s.0) (run_beyond ps (visit g b a max_ttl s p))
    where
      go : Dec (0 < s.0) → ((visit g b a max_ttl s p).0 ≤ length ps → (run g b a max_ttl (visit g b a max_ttl s p) ps).0 ≡ 0)
          → (run g b a max_ttl (visit g b a max_ttl s p) ps).0 ≡ 0
      go (yes h) r = r (omega (arith, visit_counts s p h))
      go (no h) r =
          let e : s.0 ≡ 0 = omega (arith, h) in
          rw (visit_over g b a max_ttl s p e, run_over_lem g b a max_ttl s ps e) e

-- no more addresses than chains
gather_length : {N : Type 0} (g : Graph N) (b : ℕ) (f : List ℕ → List ℕ) (ps l : List (List ℕ)) → length (gather g b f l ps) ≤ length l + length ps
unfolding gather
gather_length g b f [] l = omega arith
gather_length g b f (p ∷ ps) l = let r = gather_length g b f ps (pick (eqb (last_length g b p) 0) (insert (f p) l) l) in omega (arith, go (eqb (last_length g b p) 0))
  where
    go : (t : Bool) → length (pick t (insert (f p) l) l) ≤ suc (length l)
    go true = (insert_length (f p) l).1
    go false = omega arith

-- ---- the whole search, from nothing
abbrev pub start : ℕ → Kept
start room = record { out = blank (room * 16); lives = blank room; count = 0; full = false }

begun : (room : ℕ) → Holds room [] (start room)
unfolding flat
begun room = record { rows = tt; ascending = tt; stands = inl (refl, refl, omega arith, ap (λ (n : ℕ). blank (n * 16)) (let z : room ≡ room - 0 = omega arith in z)) }

begun_lived : (room : ℕ) → Lived room [] (λ v. max_ttl) (start room)
begun_lived room = record { unmet = λ v n. refl; beside = λ f. ap blank (let z : room ≡ room - 0 = omega arith in z) }

module _ {N : Type 0} (g : Graph N) (sound : Sound g) (x : N) (limit room : ℕ) (s : State) (e : s ≡ searched g (blank g.size) x 128 (blank 16) max_ttl (limit + 1, start room)) where
  ran : s ≡ run g 128 (blank 16) max_ttl (limit + 1, start room) (chains_of g x)
  unfolding searched chains_of
  ran = e

  sixteen : (p : List ℕ) → In p (chains_of g x) → last_length g 128 p ≡ 0 → length (spell g 128 (blank 16) p) ≡ 16
  sixteen p m z = ap length (spell_spelt g sound x p (blank 16) (listed_chain g x p m).0 z (length_blank 16)) ∙ spelt_length g p

  within : work_of g x ≤ limit → (s.0 ≡ limit + 1 - work_of g x) × Holds room (addresses_of g x) s.1
  unfolding work_of
  within h =
      let r = run_holds g 128 (blank 16) room (chains_of g x) (limit + 1, start room) [] sixteen (begun room) (omega arith) in
      rw (ran, addresses_spell g sound x) (omega (arith, r.0), r.1)

  lasting : work_of g x ≤ limit → Lived room (addresses_of g x) (lifetime_of g x) s.1
  unfolding work_of
  lasting h =
      let r = run_lived g 128 (blank 16) room (chains_of g x) (limit + 1, start room) [] (λ v. max_ttl) sixteen (begun room) (begun_lived room) (omega arith) in
      let f : lifetime_of g x ≡ (λ v. lifetime_in g 128 (spell g 128 (blank 16)) v max_ttl (chains_of g x)) = λ i v. lifetime_spell g sound x v i in
      rw (ran, addresses_spell g sound x, f) r

  beyond : limit < work_of g x → s.0 ≡ 0
  unfolding work_of
  beyond h = rw ran (run_beyond g 128 (blank 16) (chains_of g x) (limit + 1, start room) (omega arith))

  -- no chain is left to count: 6
  pub found_over : s.0 ≡ 0 → number_of g x limit room ≡ 6
  unfolding number_of
  found_over h = go (dec_lt limit (work_of g x))
    where
      go : Dec (limit < work_of g x) → number_of g x limit room ≡ 6
      go (yes l) = rw (lt-ltb limit (work_of g x) l)
      go (no n) = absurd (omega (arith, n, (within (omega (arith, n))).0))

  module _ (w : 0 < s.0) where
    few : work_of g x ≤ limit
    few = go (dec_lt limit (work_of g x))
      where
        go : Dec (limit < work_of g x) → work_of g x ≤ limit
        go (yes l) = absurd (omega (arith, beyond l))
        go (no n) = omega (arith, n)

    -- and they are as many as the limit leaves
    pub found_left : s.0 ≤ limit + 1
    found_left = omega (arith, (within few).0)

    -- there was no room: 7
    pub found_full : s.1.full ≡ true → number_of g x limit room ≡ 7
    unfolding number_of
    found_full h =
        ⊎_elim (λ k. absurd (let q : ◌≡◌ {A = ℕ} 0 1 = cc (h, k.0) in omega arith))
        (λ k. rw (le-ltb limit (work_of g x) few, lt-ltb room (length (addresses_of g x)) k.1)) (within few).1.stands

    -- all was counted and all is kept: 0
    record All : Type 0 where
      number : number_of g x limit room ≡ 0
      count : s.1.count ≡ length (addresses_of g x)
      out : s.1.out ≡ flat (addresses_of g x) ++ blank ((room - length (addresses_of g x)) * 16)

    all : s.1.full ≡ false → All
    unfolding number_of
    all h =
        ⊎_elim
        (λ k. record { number = rw (le-ltb limit (work_of g x) few, le-ltb room (length (addresses_of g x)) k.2); count = k.1; out = k.3 })
        (λ k. absurd (let q : ◌≡◌ {A = ℕ} 0 1 = cc (h, k.0) in omega arith)) (within few).1.stands

    module _ (h : s.1.full ≡ false) where
      pub found_answer : answering s.1.count (limit + 1 - s.0) ≡ answer_of g x (number_of g x limit room)
      found_answer =
          let q : limit + 1 - s.0 ≡ work_of g x = omega (arith, (within few).0, few) in
          (λ i. answering ((all h).count i) (q i)) ∙ done_answer _ (all h).number _ _

      pub found_output : s.1.out ≡ output_of g x (number_of g x limit room) (room * 16)
      found_output =
          let f = flat_length 16 (addresses_of g x) (within few).1.rows in
          let q : (room - length (addresses_of g x)) * 16 ≡ room * 16 - length (flat (addresses_of g x)) = omega (arith, f) in
          (all h).out ∙ ap (λ (n : ℕ). flat (addresses_of g x) ++ blank n) q ∙ done_out _ (all h).number _ (room * 16)

      pub found_lives : s.1.lives ≡ lives_of g x (number_of g x limit room) room
      found_lives =
          (lasting few).beside h
          ∙ ap (λ (n : ℕ). map (lifetime_of g x) (addresses_of g x) ++ blank (room - n)) (sym (length-map (addresses_of g x) (lifetime_of g x))) ∙ done_out _ (all h).number _ room

      -- so many fit the answer
      pub found_few : s.1.count ≤ limit
      unfolding addresses_of work_of
      found_few = let q = gather_length g 128 (spelt g) (chains_of g x) [] in omega (arith, (all h).count, few)

-- ---- the arrays as a graph
pub numbered_sound : (r : Records) → Numbered r → Sound (graph_of r)
numbered_sound r n = record {
  sixteen = λ i l. address_length _ _;
  small = λ i l. address_small _ _;
  short = n.short;
  lived = n.lived;
}

-- ---- where the search begins: every record in its list, nothing kept
module _ (r : Records) (n : Numbered r) (next prev out lives : List ℕ) (limit : ℕ) (h : Fresh r.owners next prev) (whole : length out % 16 ≡ 0) (zeros : out ≡ blank (length out))
    (level : length lives * 16 ≡ length out) (none : lives ≡ blank (length lives)) where
  abbrev pub first : Memory
  first = memory next prev (none_yet out lives) (limit + 1)

  begins : first.kept ≡ start (length out / 16)
  begins =
      let q : length out ≡ length out / 16 * 16 = omega arith in
      let y : length lives ≡ length out / 16 = omega (arith, level) in
      λ i. record { out = (zeros ∙ ap blank q) i; lives = (none ∙ ap blank y) i; count = 0; full = false }

  none_used : unused_of r first ≡ blank (length r.owners)
  none_used = marks_none r.owners (blank (length r.owners)) next prev h.linked refl

  pub fit_first : Fit r first 128
  fit_first = record {
    numbered = n;
    nodes = h.nodes;
    linked = subst (λ (u : List ℕ). Linked r.owners u next prev) (sym none_used) h.linked;
    ordered = record { room = length out / 16; list = []; holds = subst (Holds (length out / 16) []) (sym begins) (begun (length out / 16)) };
    some = omega arith;
    bounded = omega arith;
  }

  nothing_yet : address_of 0 0 ≡ blank 16
  unfolding address_of octets_of blank
  nothing_yet = refl

  pub state_first : (x : ℕ) (m' : Memory) → Leaves first m' (search_of r x 128 (address_of 0 0) max_ttl first)
      → state_of m' ≡ searched (graph_of r) (blank (length r.owners)) x 128 (blank 16) max_ttl (limit + 1, start (length out / 16))
  state_first x m' d = d.state ∙ λ i. searched (graph_of r) (none_used i) x 128 (nothing_yet i) max_ttl (limit + 1, begins i)
