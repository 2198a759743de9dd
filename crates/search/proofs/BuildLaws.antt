-- The lists, made record by record: each record goes to the end of its owner's list.
use Prim.Native.Nat.{ℕ, ◌+◌, ◌≤◌, ◌<◌}
use mathlib.Core.Path.{◌≡◌, refl, sym, ap, subst, ◌∙◌}
use mathlib.Core.Bool.{true, false}
use mathlib.Core.List.{List}
use native.Mathlib.Omega.{arith}
use lib.ListN.{length, get_or, set, replicate, length-set, length-replicate, get_or-replicate}
use lib.Seq.{get_or-set_same, get_or-set_other, ext_get_or}
use Rattle.octets.proofs.BoolLaws.{clash}
use Rattle.octets.specs.Octets.{blank}
use Rattle.octets.proofs.OctetLaws.{length_blank}
use Rattle.search.specs.Links.{lists, Linked, Alone}
use Rattle.search.proofs.NodeLaws.{below?, same?, stored, node_below, node_as, prev_one}
use Rattle.search.proofs.LinkLaws.{lists_used, lists_other, lists_owner, lists_free, lists_else, Of, Beside, record_of_lem, end_of, Ring, ring, linked}

pub alone_more : (l : List ℕ) (i : ℕ) → i < length l → Alone l i → Alone (set l i i) (i + 1)
alone_more l i h w = record {
  each = λ j o. stored (λ (v : ℕ). v ≡ j) l i i j h sym (λ d. w.each j (omega arith));
}

-- the records before i are in their lists
pub record Chained (owners u next prev : List ℕ) (nodes i : ℕ) : Type 0 where
  pub linked : Linked owners u next prev
  pub sized : length next ≡ nodes
  pub upto : i ≤ length owners
  pub done : (m : ℕ) → m < i → get_or u m 0 ≡ 0
  pub todo : (m : ℕ) → i ≤ m → m < length owners → get_or u m 0 ≡ 1

pub chained_none : (owners next prev : List ℕ) (nodes : ℕ) → ((j : ℕ) → j < length owners → length owners + get_or owners j 0 < nodes) → length next ≡ nodes → length prev ≡ nodes
    → Alone next nodes → Alone prev nodes → Chained owners (replicate (length owners) 1) next prev nodes 0
chained_none owners next prev nodes w ln lp an ap' =
    let n = length owners in
    let u : List ℕ = replicate n 1 in
    let used : (m : ℕ) → m < n → get_or u m 0 ≡ 1 = λ m l. get_or-replicate n m 1 0 l in
    let no : (y m : ℕ) → m < n → lists owners u y m ≡ false = λ y m l. lists_used owners u y m (λ z. let o = used m l in omega arith) in
    let itself : (y a : ℕ) → Of owners u y a → Beside owners u y a a =
    λ y a v. record { left = v; right = v; order = λ l _. absurd (clash (v.here l) (no y a l)); none = λ m l _ _. no y m l } in
    record {
      linked = linked owners u (lp ∙ sym ln) (length-replicate n 1) (λ j l. subst (λ (v : ℕ). n + get_or owners j 0 < v) (sym ln) (w j l)) record {
        after = λ y a l v. subst (Beside owners u y a) (sym (an.each a (node_below nodes (omega arith) (omega arith) v))) (itself y a v);
        before = λ y a l v. subst (λ (b : ℕ). Beside owners u y b a) (sym (ap'.each a (node_below nodes (omega arith) (omega arith) v))) (itself y a v);
      };
      sized = ln;
      upto = omega arith;
      done = λ m l. absurd (omega arith);
      todo = λ m _ l. used m l;
    }

pub chained_all : (owners u next prev : List ℕ) (nodes i : ℕ) → Chained owners u next prev nodes i → i ≡ length owners → u ≡ blank (length owners)
unfolding blank
chained_all owners u next prev nodes i c e =
    ext_get_or 0 u (blank (length owners)) (c.linked.marks ∙ sym (length_blank (length owners)))
    (λ j l. let m = c.linked.marks in c.done j (omega arith) ∙ sym (get_or-replicate (length owners) j 0 0 (omega arith)))

module _ (owners u next prev : List ℕ) (nodes i : ℕ) (c : Chained owners u next prev nodes i) (li : i < length owners) where
  abbrev n : ℕ
  n = length owners

  abbrev x : ℕ
  x = get_or owners i 0

  abbrev h : ℕ
  h = n + x

  abbrev t : ℕ
  t = get_or prev h 0

  abbrev lu : i < length u
  lu = subst (λ (v : ℕ). i < v) (sym c.linked.marks) li

  abbrev lh : h < length next
  lh = c.linked.owner i li

  abbrev u' : List ℕ
  u' = set u i 0

  abbrev next' : List ℕ
  next' = set (set next t i) i h

  abbrev prev' : List ℕ
  prev' = set (set prev h i) i t

  r : Ring owners u next prev
  r = ring owners u c.linked

  -- the last record of x so far, or the end where there is none
  last : Beside owners u x t h
  last = r.before x h lh (end_of owners u x)

  pub last_node : t < length next
  last_node = node_below (length next) (omega arith) lh last.left

  -- what is listed so far is before i
  early : (y m : ℕ) → m < n → lists owners u y m ≡ true → m < i
  early y m l z = below? m i (λ o. o) (λ o. let a = c.todo m o l in let b = lists_free owners u y m z in absurd (omega arith))

  still : (y a : ℕ) → Of owners u y a → Of owners u' y a
  still y a = node_as (λ l z. let o = early y a l z in lists_else owners u i 0 y a (λ e. omega arith))

  was : (y a : ℕ) → (a ≡ i → ⊥) → Of owners u' y a → Of owners u y a
  was y a d = node_as (λ _ _. sym (lists_else owners u i 0 y a d))

  -- i comes between the last record of x and the end
  to_i : Beside owners u' x t i
  to_i = record {
    left = still x t last.left;
    right = record_of_lem owners u' i li (get_or-set_same u i 0 0 lu);
    order = λ l _. early x t l (last.left.here l);
    none = λ m l f g. let o = g li in lists_else owners u i 0 x m (λ e. omega arith) ∙ last.none m l f (λ s. absurd (omega arith));
  }

  from_i : Beside owners u' x i h
  from_i = record {
    left = to_i.right;
    right = end_of owners u' x;
    order = λ _ l. absurd (omega arith);
    none = λ m l f _. let o = f li in
        lists_else owners u i 0 x m (λ e. omega arith) ∙ lists_used owners u x m (λ z. let a = c.todo m (omega arith) l in omega arith);
  }

  -- all others stay neighbours
  kept : (y a b : ℕ) → (y ≡ x → n ≤ b → ⊥) → Beside owners u y a b → Beside owners u' y a b
  kept y a b d f = record {
    left = still y a f.left;
    right = still y b f.right;
    order = f.order;
    none = λ m l v w. same? m i
        (λ e. lists_other owners u' y m (λ z. d (sym z ∙ ap (λ (o : ℕ). get_or owners o 0) e)
        (below? b n (λ s. let o = early y b s (f.right.here s) in let k = w s in absurd (omega arith)) (λ s. s))))
        (λ o. lists_else owners u i 0 y m o ∙ f.none m l v w);
  }

  -- a node is of one list
  one_list : (y a : ℕ) → Of owners u' x a → Of owners u' y a → x ≡ y
  one_list y a v w =
      below? a n
      (λ l. sym (lists_owner owners u' x a (v.here l)) ∙ lists_owner owners u' y a (w.here l))
      (λ l. let o = v.over l in let s = w.over l in omega arith)

  -- the links of the longer list: those of i, of the last record and of the end are new
  longer : Ring owners u' next' prev'
  longer = record {
    after = λ y a o w.
        let l : n + y < length next = omega (arith, length-set (set next t i) i h, length-set next t i) in
        let at : (b k : ℕ) → Beside owners u' x b k → a ≡ b → Beside owners u' y a k = λ b k f e.
        let g = subst (λ (v : ℕ). Beside owners u' x v k) (sym e) f in subst (λ (v : ℕ). Beside owners u' v a k) (one_list y a g.left w) g in
        stored (Beside owners u' y a) (set next t i) i h a (omega (arith, lh, length-set next t i)) (at i h from_i)
        (λ d. stored (Beside owners u' y a) next t i a last_node (at t i to_i)
        (λ o. let f = r.after y a l (was y a d w) in kept y a (get_or next a 0)
        (λ e s. o (prev_one (subst (Beside owners u y a) (f.right.over s) f) (r.before y (n + y) l (end_of owners u y))
        ∙ ap (λ (v : ℕ). get_or prev (n + v) 0) e)) f));
    before = λ y a o w.
        let l : n + y < length next = omega (arith, length-set (set next t i) i h, length-set next t i) in
        let at : (b k : ℕ) → Beside owners u' x k b → a ≡ b → Beside owners u' y k a = λ b k f e.
        let g = subst (Beside owners u' x k) (sym e) f in subst (λ (v : ℕ). Beside owners u' v k a) (one_list y a g.right w) g in
        stored (λ (v : ℕ). Beside owners u' y v a) (set prev h i) i t a (omega (arith, lh, length-set prev h i, c.linked.level)) (at i t to_i)
        (λ d. stored (λ (v : ℕ). Beside owners u' y v a) prev h i a (omega (arith, lh, c.linked.level)) (at h i from_i)
        (λ o. kept y (get_or prev a 0) a (λ e s. o (w.over s ∙ ap (λ (v : ℕ). n + v) e)) (r.before y a l (was y a d w))));
  }

  pub chained_more : Chained owners u' next' prev' nodes (i + 1)
  chained_more =
      let ln : length next' ≡ length next = length-set (set next t i) i h ∙ length-set next t i in
      let lp : length prev' ≡ length prev = length-set (set prev h i) i t ∙ length-set prev h i in record {
        linked = linked owners u' (lp ∙ c.linked.level ∙ sym ln) (length-set u i 0 ∙ c.linked.marks)
            (λ j l. subst (λ (v : ℕ). n + get_or owners j 0 < v) (sym ln) (c.linked.owner j l)) longer;
        sized = ln ∙ c.sized;
        upto = omega arith;
        done = λ m l. stored (λ (v : ℕ). v ≡ 0) u i 0 m lu (λ _. refl) (λ d. c.done m (omega arith));
        todo = λ m a l. get_or-set_other u i m 0 0 (λ e. omega arith) ∙ c.todo m (omega arith) l;
      }

  -- the same, as the code stores it
  pub chained_as : (e k o t' : ℕ) → e ≡ t → k ≡ h → o ≡ k → t' ≡ t → Chained owners u' (set (set next e i) i o) (set (set prev k i) i t') nodes (i + 1)
  chained_as e k o t' p q r z =
      subst (λ (v : ℕ). Chained owners u' (set (set next v i) i o) (set (set prev k i) i t') nodes (i + 1)) (sym p)
      (subst (λ (v : ℕ). Chained owners u' (set (set next t i) i v) (set (set prev k i) i t') nodes (i + 1)) (sym (r ∙ q))
      (subst (λ (v : ℕ). Chained owners u' (set (set next t i) i h) (set (set prev v i) i t') nodes (i + 1)) (sym q)
      (subst (λ (v : ℕ). Chained owners u' (set (set next t i) i h) (set (set prev h i) i v) nodes (i + 1)) (sym z) chained_more)))
