-- A step into a record: the record is out of its list while the search goes on from it, and is in it again afterwards.
use Prim.Native.Nat.{ℕ, suc, ◌-◌, ◌<◌, min, ◌≤◌, ◌+◌}
use mathlib.Core.Path.{◌≡◌, refl, sym, ap, ◌∙◌}
use mathlib.Core.List.{List}
use native.Mathlib.Omega.{arith}
use lib.ListN.{length, get_or, set, length-set}
use Rattle.address.specs.Address.{join_of}
use Rattle.chains.specs.Listing.{free}
use Rattle.chains.proofs.ListingLaws.{free_mark}
use Rattle.rows.specs.Rows.{Kept, keep_in}
use Rattle.search.specs.Search.{Records, target_of, length_of, ttl_of, address_at, graph_of, State, searched}
use Rattle.search.specs.Links.{max_nodes, max_names}
use Rattle.search.specs.Memory.{Memory, memory, state_of, unused_of, search_of, step_of, Fit, Ready, Leaves}
use Rattle.search.proofs.LinkLaws.{prev_node, next_node, marks_out, unlinked_marks, relinked_next, relinked_prev, prev_own, next_own}
use Rattle.search.proofs.SearchLaws.{stepped_end, stepped_on}
use Rattle.search.proofs.GoingLaws.{sought, going_start, going_end}

-- the memory with the record i taken out from between its neighbours, and one chain counted
abbrev pub next_without : Memory → ℕ → List ℕ
next_without m i = set m.next (get_or m.prev i 0) (get_or m.next i 0)

abbrev pub prev_without : Memory → ℕ → List ℕ
prev_without m i = set m.prev (get_or m.next i 0) (get_or m.prev i 0)

abbrev pub without : Memory → ℕ → Memory
without m i = memory (next_without m i) (prev_without m i) m.kept (m.left - 1)

-- and the state after the search from there on
abbrev pub onward : (r : Records) (m : Memory) (bound i : ℕ) → List ℕ → ℕ → State
onward r m bound i a c = search_of r (target_of r i) (length_of r i) (join_of (address_at r i) a bound) (min c (ttl_of r i)) (without m i)

module _ {r : Records} {m : Memory} {bound i : ℕ} (o : Ready r m bound i) where
  -- ---- into a finished record
  pub done_finished : (a : List ℕ) (c : ℕ) (k' : Kept) → length_of r i ≡ 0 → k' ≡ keep_in (join_of (address_at r i) a bound) (min c (ttl_of r i)) m.kept
      → Leaves m (memory m.next m.prev k' (m.left - 1)) (step_of r i bound a c m)
  done_finished a c k' e k = record {
    next = refl;
    prev = refl;
    state = (λ z. (m.left - 1, k z)) ∙ sym (stepped_end (graph_of r) (unused_of r m) i bound a c (state_of m) o.counts e);
  }

  -- ---- into an unfinished one, between its neighbours
  pub prev_there : get_or m.prev i 0 < max_nodes
  prev_there = omega (arith, o.fit.nodes, prev_node r.owners (unused_of r m) m.next m.prev o.fit.linked i o.there o.unused)

  pub next_there : get_or m.next i 0 < max_nodes
  next_there = omega (arith, o.fit.nodes, next_node r.owners (unused_of r m) m.next m.prev o.fit.linked i o.there o.unused)

  pub target_name : 0 < length_of r i → target_of r i < max_names
  target_name h = o.fit.numbered.target i o.there h

  marks : unused_of r (without m i) ≡ set (unused_of r m) i 1
  marks = marks_out r.owners m.next m.prev o.fit.linked i o.there o.unused

  -- one unused record less
  pub fewer : free (unused_of r m) ≡ suc (free (unused_of r (without m i)))
  fewer = free_mark (unused_of r m) i (omega (arith, o.fit.linked.marks, o.there)) o.unused ∙ ap (λ (u : List ℕ). suc (free u)) (sym marks)

  pub fit_without : 0 < length_of r i → Fit r (without m i) (length_of r i)
  fit_without h = record {
    numbered = o.fit.numbered;
    nodes = length-set m.next (get_or m.prev i 0) (get_or m.next i 0) ∙ o.fit.nodes;
    linked = unlinked_marks r.owners m.next m.prev o.fit.linked i o.there o.unused;
    ordered = o.fit.ordered;
    some = h;
    bounded = omega (arith, o.fit.bounded, o.short);
  }

  -- where the target has no unused record there is nothing to search
  pub nothing : (a : List ℕ) (c : ℕ) → 0 < length_of r i → length r.owners ≤ get_or (next_without m i) (length r.owners + target_of r i) 0
      → Leaves (without m i) (without m i) (onward r m bound i a c)
  nothing a c h e =
      let q = sought r (target_of r i) (length_of r i) (join_of (address_at r i) a bound) (min c (ttl_of r i)) (without m i) in
      let g = fit_without h in
      going_end q g (going_start q g _ (target_name h) refl) e

  -- afterwards the record is in again, between the neighbours that it still has
  module _ (a : List ℕ) (c : ℕ) (m' : Memory) (d : Leaves (without m i) m' (onward r m bound i a c)) where
    pub prev_still : get_or m'.prev i 0 ≡ get_or m.prev i 0
    prev_still = ap (λ (l : List ℕ). get_or l i 0) d.prev ∙ prev_own r.owners m.next m.prev o.fit.linked i o.there o.unused

    pub next_still : get_or m'.next i 0 ≡ get_or m.next i 0
    next_still = ap (λ (l : List ℕ). get_or l i 0) d.next ∙ next_own r.owners m.next m.prev o.fit.linked i o.there o.unused

    pub done_unfinished : 0 < length_of r i → (next'' prev'' : List ℕ) → next'' ≡ set m'.next (get_or m'.prev i 0) i → prev'' ≡ set m'.prev (get_or m'.next i 0) i
        → Leaves m (memory next'' prev'' m'.kept m'.left) (step_of r i bound a c m)
    done_unfinished h next'' prev'' en el = record {
      next = en ∙ ap (λ (z : ℕ). set m'.next z i) prev_still ∙ relinked_next r.owners (unused_of r m) m.next m.prev o.fit.linked i o.there o.unused m'.next d.next;
      prev = el ∙ ap (λ (z : ℕ). set m'.prev z i) next_still ∙ relinked_prev r.owners (unused_of r m) m.next m.prev o.fit.linked i o.there o.unused m'.prev d.prev;
      state = d.state
          ∙ (λ z. searched (graph_of r) (marks z) (target_of r i) (length_of r i) (join_of (address_at r i) a bound) (min c (ttl_of r i)) (state_of (without m i)))
          ∙ sym (stepped_on (graph_of r) (unused_of r m) i bound a c (state_of m) o.counts h (omega (arith, o.fit.linked.marks, o.there)) o.unused);
    }
