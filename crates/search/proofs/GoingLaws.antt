-- A search that follows the links: it passes over nothing that fits, and comes to the end of its name's list with the state that is expected.
use Prim.Native.Nat.{ℕ, zero, suc, ◌+◌, ◌-◌, ◌≤◌, ◌<◌, min}
use mathlib.Core.Path.{◌≡◌, refl, sym, ap, subst, ◌∙◌}
use mathlib.Core.Bool.{Bool, true, false, ◌&&◌}
use mathlib.Core.List.{List}
use native.Mathlib.Nat.{add-zero}
use native.Mathlib.Omega.{arith}
use lib.Dec.{leb, eqb}
use lib.ListN.{length, get_or}
use borrow.Author.Tests.{eq-eqb, eqb-true, leb-true, le-leb, lt-leb}
use Rattle.octets.proofs.BoolLaws.{clash}
use Rattle.chains.specs.Listing.{fits}
use Rattle.chains.proofs.ListingLaws.{fits_is, is_fits}
use Rattle.rows.specs.Rows.{Kept, Ordered}
use Rattle.search.specs.Search.{Records, length_of, graph_of, State, stepped}
use Rattle.search.specs.Links.{max_names, lists, First, Linked}
use Rattle.search.specs.Memory.{Memory, memory, state_of, unused_of, search_of, step_of, Fit, Ready, Leaves}
use Rattle.rows.proofs.HalvesLaws.{address_length}
use Rattle.rows.proofs.KeepingLaws.{keep_ordered}
use Rattle.search.proofs.NodeLaws.{below?}
use Rattle.search.proofs.LinkLaws.{lists_yes, lists_owner, lists_free}
use Rattle.search.proofs.SearchLaws.{searched_to, to_none, to_all, to_keeps, to_skip, to_step, to_end}

-- what is equal part by part
pub memory_eq : {n n' p p' : List ℕ} {k k' : Kept} {w w' : ℕ} → n' ≡ n → p' ≡ p → k' ≡ k → w' ≡ w → memory n' p' k' w' ≡ memory n p k w
memory_eq en ep ek ew = λ i. memory (en i) (ep i) (ek i) (ew i)

-- ---- what is in a list fits unless it is too long, and nothing else does
module _ (r : Records) (u : List ℕ) (x b m : ℕ) where
  unlisted : lists r.owners u x m ≡ false → fits (graph_of r) u x b m ≡ false
  unlisted h = go (fits (graph_of r) u x b m) refl
    where
      go : (t : Bool) → fits (graph_of r) u x b m ≡ t → t ≡ false
      go true e =
          let f = is_fits (graph_of r) u x b m e in
          absurd (clash (lists_yes r.owners u x m (eqb-true (get_or r.owners m 0) x f.2) f.0) h)
      go false e = refl

  long_unfit : leb (length_of r m) b ≡ false → fits (graph_of r) u x b m ≡ false
  long_unfit l = go (eqb (get_or u m 0) 0)
    where
      go : (t : Bool) → t && (leb (length_of r m) b && eqb (get_or r.owners m 0) x) ≡ false
      go true = rw l
      go false = refl

  listed_fits : lists r.owners u x m ≡ true → leb (length_of r m) b ≡ true → fits (graph_of r) u x b m ≡ true
  listed_fits h l =
      fits_is (graph_of r) u x b m (lists_free r.owners u x m h) (leb-true (length_of r m) b l)
      (eq-eqb (get_or r.owners m 0) x (lists_owner r.owners u x m h))

-- ---- what a search is asked for: the chains of name x over the records, with at most b bits, that continue the bits a with TTL c, in memory m
pub record Sought : Type 0 where
  pub table : Records
  pub name : ℕ
  pub bound : ℕ
  pub bits : List ℕ
  pub ttl : ℕ
  pub lent : Memory

abbrev pub sought : Records → ℕ → ℕ → List ℕ → ℕ → Memory → Sought
sought r x b a c m = record { table = r; name = x; bound = b; bits = a; ttl = c; lent = m }

module _ (q : Sought) where
  abbrev r : Records
  r = q.table

  abbrev x : ℕ
  x = q.name

  abbrev b : ℕ
  b = q.bound

  abbrev a : List ℕ
  a = q.bits

  abbrev c : ℕ
  c = q.ttl

  abbrev m : Memory
  m = q.lent

  abbrev n : ℕ
  n = length r.owners

  abbrev u : List ℕ
  u = unused_of r m

  abbrev to : ℕ → State
  to i = searched_to (graph_of r) u x b a c (state_of m) i

  -- ---- following the links passes over nothing that fits
  pass : (d j : ℕ) → ((w : ℕ) → j ≤ w → w < j + d → lists r.owners u x w ≡ false) → to (j + d) ≡ to j
  pass zero j h = ap to (add-zero j)
  pass (suc d) j h =
      let e : j + suc d ≡ suc (j + d) = omega arith in
      ap to e
      ∙ to_skip (graph_of r) u x b a c (state_of m) (j + d) (unlisted r u x b (j + d) (h (j + d) (omega arith) (omega arith)))
      ∙ pass d j (λ w l o. h w l (omega arith))

  pass_to : (j t : ℕ) → j ≤ t → ((w : ℕ) → j ≤ w → w < t → lists r.owners u x w ≡ false) → to t ≡ to j
  pass_to j t l h =
      let e : t ≡ j + (t - j) = omega arith in
      ap to e ∙ pass (t - j) j (λ w o p. h w o (omega arith))

  -- ---- the loop: at i, which is in the list of x or past all records
  pub record Going (m' : Memory) (i : ℕ) : Type 0 where
    pub next : m'.next ≡ m.next
    pub prev : m'.prev ≡ m.prev
    pub state : state_of m' ≡ to (min i n)
    pub listed : i < n → lists r.owners u x i ≡ true

  module _ (f : Fit r m b) where
    pub going_start : (i : ℕ) → x < max_names → i ≡ get_or m.next (n + x) 0 → Going m i
    going_start i l e =
        let h = subst (First (lists r.owners u x) n (n + x) 0) (sym e) (f.linked.head x (omega (arith, f.nodes, f.numbered.owned.few))) in
        record {
          next = refl;
          prev = refl;
          state = to_none (graph_of r) u x b a c (state_of m) ∙ sym (pass_to 0 (min i n) (omega arith) (λ w p q. h.none w p (omega arith) (omega arith)));
          listed = λ o. (h.here o).1;
        }

    module _ {m' : Memory} {i : ℕ} (v : Going m' i) (li : i < n) where
      unmarked : get_or u i 0 ≡ 0
      unmarked = lists_free r.owners u x i (v.listed li)

      follows : First (lists r.owners u x) n (n + x) (suc i) (get_or m.next i 0)
      follows =
          subst (λ (y : ℕ). First (lists r.owners u y) n (n + y) (suc i) (get_or m.next i 0)) (lists_owner r.owners u x i (v.listed li)) (f.linked.on i li unmarked)

      pub further : i < get_or m'.next i 0
      further =
          let e : get_or m'.next i 0 ≡ get_or m.next i 0 = ap (λ (w : List ℕ). get_or w i 0) v.next in
          below? (get_or m.next i 0) n (λ o. let q = (follows.here o).0 in omega arith) (λ o. omega arith)

      -- on from i, where what the records up to i give is known
      going : (m'' : Memory) (j : ℕ) → m''.next ≡ m.next → m''.prev ≡ m.prev → state_of m'' ≡ to (suc i) → j ≡ get_or m''.next i 0 → Going m'' j
      going m'' j en ep es ej =
          let h = subst (First (lists r.owners u x) n (n + x) (suc i)) (sym (ej ∙ ap (λ (w : List ℕ). get_or w i 0) en)) follows in
          let s : suc i ≤ min j n = below? j n (λ o. let z = (h.here o).0 in omega arith) (λ o. omega arith) in
          record {
            next = en;
            prev = ep;
            state = es ∙ sym (pass_to (suc i) (min j n) s (λ w p q. h.none w p (omega arith) (omega arith)));
            listed = λ o. (h.here o).1;
          }

      at_i : state_of m' ≡ to i
      at_i = let e : min i n ≡ i = omega arith in v.state ∙ ap to e

      -- a record that is too long is passed over
      pub going_skip : (j : ℕ) → b < length_of r i → j ≡ get_or m'.next i 0 → Going m' j
      going_skip j l ej =
          going m' j v.next v.prev (at_i ∙ sym (to_skip (graph_of r) u x b a c (state_of m) i (long_unfit r u x b i (lt-leb (length_of r i) b l)))) ej

      -- the links are as they were
      same_links : ◌≡◌ {A = Memory} (memory m'.next m'.prev m.kept 0) (memory m.next m.prev m.kept 0)
      same_links = memory_eq v.next v.prev refl refl

      pub same_unused : unused_of r m' ≡ u
      same_unused = ap (unused_of r) same_links

      fit_here : length a ≡ 16 → Fit r m' b
      fit_here w = record {
        numbered = f.numbered;
        nodes = ap length v.next ∙ f.nodes;
        linked = subst (λ (w : Memory). Linked r.owners (unused_of r w) w.next w.prev) (sym same_links) f.linked;
        ordered = subst (λ (s : State). Ordered s.1) (sym at_i)
            (to_keeps (graph_of r) u x b a c (state_of m) Ordered (λ j. address_length _ _) keep_ordered w f.ordered i);
        some = f.some;
        bounded = f.bounded;
      }

      -- any other may be stepped into while chains may be counted
      pub going_ready : length a ≡ 16 → length_of r i ≤ b → 0 < m'.left → Ready r m' b i
      going_ready w l h = record { fit = fit_here w; there = li; unused = ap (λ (w : List ℕ). get_or w i 0) same_unused ∙ unmarked; short = l; counts = h }

      pub going_step : (m'' : Memory) (j : ℕ) → length_of r i ≤ b → Leaves m' m'' (step_of r i b a c m') → j ≡ get_or m''.next i 0 → Going m'' j
      going_step m'' j l d ej =
          going m'' j (d.next ∙ v.next) (d.prev ∙ v.prev)
          (d.state ∙ ap (λ (w : List ℕ). stepped (graph_of r) w i b a c (state_of m')) same_unused ∙ ap (stepped (graph_of r) u i b a c) at_i
          ∙ sym (to_step (graph_of r) u x b a c (state_of m) i (listed_fits r u x b i (v.listed li) (le-leb (length_of r i) b l))))
          ej

      -- where no chain may be counted any more the rest changes nothing
      pub going_over : m'.left ≡ 0 → Leaves m m' (search_of r x b a c m)
      going_over h = record {
        next = v.next;
        prev = v.prev;
        state = at_i ∙ sym (to_end (graph_of r) u x b a c (state_of m) i (omega arith) (sym (ap (λ (w : State). w.0) at_i) ∙ h));
      }

    pub going_end : {m' : Memory} {i : ℕ} → Going m' i → n ≤ i → Leaves m m' (search_of r x b a c m)
    going_end {i = i} v l =
        let e : min i n ≡ n = omega arith in
        record {
          next = v.next;
          prev = v.prev;
          state = v.state ∙ ap to e ∙ to_all (graph_of r) u x b a c (state_of m);
        }
