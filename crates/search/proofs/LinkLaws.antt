-- Taking a record out of its list and putting it back: what the links say before and after.
use Prim.Native.Nat.{ℕ, zero, suc, ◌+◌, ◌<◌}
use mathlib.Core.Path.{◌≡◌, refl, sym, ap, subst, ◌∙◌}
use mathlib.Core.Bool.{Bool, true, false, ◌&&◌}
use mathlib.Core.List.{List}
use native.Mathlib.Omega.{arith}
use lib.Dec.{eqb}
use lib.ListN.{length, get_or, set, length-set, get_or-replicate}
use lib.Seq.{set-set, set-get_or, get_or-set_same, get_or-set_other, ext_get_or}
use borrow.Author.Tests.{eq-eqb, ne_eqb}
use Rattle.octets.proofs.BoolLaws.{clash}
use Rattle.octets.specs.Octets.{blank}
use Rattle.octets.proofs.OctetLaws.{length_blank}
use Rattle.chains.specs.Lists.{pick}
use Rattle.search.specs.Links.{lists, First, Last, Linked, table, marks_of}
use Rattle.search.proofs.NodeLaws.{below?, same?, stored, Node, Follow, node_below, node_as, next_one, prev_one, Without, follow_keep, follow_skip}
use Rattle.search.proofs.NodeLaws.{side_record, side_end, first_follow, follow_first, last_follow, follow_last}

-- ---- what a list holds
module _ (owners u : List ℕ) (x m : ℕ) where
  pub lists_yes : get_or owners m 0 ≡ x → get_or u m 0 ≡ 0 → lists owners u x m ≡ true
  lists_yes p q = rw (eq-eqb (get_or u m 0) 0 q) (eq-eqb (get_or owners m 0) x p)

  pub lists_used : (get_or u m 0 ≡ 0 → ⊥) → lists owners u x m ≡ false
  lists_used q = rw (ne_eqb (get_or u m 0) 0 q)

  pub lists_other : (get_or owners m 0 ≡ x → ⊥) → lists owners u x m ≡ false
  lists_other q = go (eqb (get_or u m 0) 0)
    where
      go : (b : Bool) → b && eqb (get_or owners m 0) x ≡ false
      go true = ne_eqb (get_or owners m 0) x q
      go false = refl

  pub lists_owner : lists owners u x m ≡ true → get_or owners m 0 ≡ x
  lists_owner h = same? (get_or owners m 0) x (λ e. e) (λ d. absurd (clash h (lists_other d)))

  pub lists_free : lists owners u x m ≡ true → get_or u m 0 ≡ 0
  lists_free h = same? (get_or u m 0) 0 (λ e. e) (λ d. absurd (clash h (lists_used d)))

-- a mark changes nothing for the other records
pub lists_else : (owners u : List ℕ) (i w x m : ℕ) → (m ≡ i → ⊥) → lists owners (set u i w) x m ≡ lists owners u x m
lists_else owners u i w x m d = ap (λ (v : ℕ). eqb v 0 && eqb (get_or owners m 0) x) (get_or-set_other u i m w 0 d)

-- ---- marks read off the links
table_length : (n : ℕ) (f : ℕ → ℕ) → length (table n f) ≡ n
unfolding table
table_length zero f = refl
table_length (suc n) f = ap suc (table_length n (λ i. f (suc i)))

table_at : (n : ℕ) (f : ℕ → ℕ) (i : ℕ) → i < n → get_or (table n f) i 0 ≡ f i
unfolding table
table_at zero f i l = absurd (omega arith)
table_at (suc n) f zero l = refl
table_at (suc n) f (suc i) l = table_at n (λ i. f (suc i)) i (omega arith)

marks_length : (n : ℕ) (next prev : List ℕ) → length (marks_of n next prev) ≡ n
unfolding marks_of
marks_length n next prev = table_length n _

mark_at_lem : (n : ℕ) (next prev : List ℕ) (i : ℕ) → i < n → get_or (marks_of n next prev) i 0 ≡ pick (eqb (get_or next (get_or prev i 0) 0) i) 0 1
unfolding marks_of
mark_at_lem n next prev i l = table_at n (λ i. pick (eqb (get_or next (get_or prev i 0) 0) i) 0 1) i l

mark_zero : (n : ℕ) (next prev : List ℕ) (i : ℕ) → i < n → get_or next (get_or prev i 0) 0 ≡ i → get_or (marks_of n next prev) i 0 ≡ 0
mark_zero n next prev i l e = mark_at_lem n next prev i l ∙ rw (eq-eqb (get_or next (get_or prev i 0) 0) i e)

mark_one : (n : ℕ) (next prev : List ℕ) (i : ℕ) → i < n → (get_or next (get_or prev i 0) 0 ≡ i → ⊥) → get_or (marks_of n next prev) i 0 ≡ 1
mark_one n next prev i l e = mark_at_lem n next prev i l ∙ rw (ne_eqb (get_or next (get_or prev i 0) 0) i e)

-- ---- the same links by neighbours
module _ (owners u : List ℕ) where
  abbrev size : ℕ
  size = length owners

  -- a is a node of the list of y, and b the next one after it
  abbrev pub Of : ℕ → ℕ → Type 0
  Of y a = Node (lists owners u y) size (size + y) a

  abbrev pub Beside : ℕ → ℕ → ℕ → Type 0
  Beside y a b = Follow (lists owners u y) size (size + y) a b

  pub record_of_lem : (j : ℕ) → j < size → get_or u j 0 ≡ 0 → Of (get_or owners j 0) j
  record_of_lem j l h = record { here = λ _. lists_yes owners u (get_or owners j 0) j refl h; over = λ o. absurd (omega arith) }

  pub end_of : (y : ℕ) → Of y (size + y)
  end_of y = record { here = λ l. absurd (omega arith); over = λ _. refl }

  -- each node leads to the one after it and to the one before it
  pub record Ring (next prev : List ℕ) : Type 0 where
    pub after : (y a : ℕ) → size + y < length next → Of y a → Beside y a (get_or next a 0)
    pub before : (y a : ℕ) → size + y < length next → Of y a → Beside y (get_or prev a 0) a

  module _ {next prev : List ℕ} where
    pub ring : Linked owners u next prev → Ring next prev
    ring k = record {
      after = λ y a h w. below? a size
          (λ l. first_follow (side_record l) w (subst (λ (v : ℕ). First (lists owners u v) size (size + v) (suc a) (get_or next a 0))
          (lists_owner owners u y a (w.here l)) (k.on a l (lists_free owners u y a (w.here l)))))
          (λ l. first_follow (side_end l (λ m _. omega arith)) w
          (subst (λ (v : ℕ). First (lists owners u y) size (size + y) 0 (get_or next v 0)) (sym (w.over l)) (k.head y h)));
      before = λ y a h w. below? a size
          (λ l. last_follow (side_record l) w (subst (λ (v : ℕ). Last (lists owners u v) size (size + v) a (get_or prev a 0))
          (lists_owner owners u y a (w.here l)) (k.back a l (lists_free owners u y a (w.here l)))))
          (λ l. last_follow (side_end l (λ m o. o)) w
          (subst (λ (v : ℕ). Last (lists owners u y) size (size + y) size (get_or prev v 0)) (sym (w.over l)) (k.tail y h)));
    }

    pub linked : length prev ≡ length next → length u ≡ size → ((j : ℕ) → j < size → size + get_or owners j 0 < length next)
        → Ring next prev → Linked owners u next prev
    linked h m o r = record {
      level = h;
      marks = m;
      owner = o;
      on = λ j l z. follow_first (side_record l) (r.after (get_or owners j 0) j (o j l) (record_of_lem j l z));
      head = λ y l. follow_first (side_end (omega arith) (λ m _. omega arith)) (r.after y (size + y) l (end_of y));
      back = λ j l z. follow_last (omega arith) (side_record l) (r.before (get_or owners j 0) j (o j l) (record_of_lem j l z));
      tail = λ y l. follow_last (omega arith) (side_end (omega arith) (λ m o. o)) (r.before y (size + y) l (end_of y));
    }

-- ---- the record i out of its list, and in again
module _ (owners u next prev : List ℕ) (k : Linked owners u next prev) (i : ℕ) (li : i < length owners) (ui : get_or u i 0 ≡ 0) where
  abbrev n : ℕ
  n = length owners

  abbrev p : ℕ
  p = get_or prev i 0

  abbrev q : ℕ
  q = get_or next i 0

  abbrev x : ℕ
  x = get_or owners i 0

  r : Ring owners u next prev
  r = ring owners u k

  to_i : Beside owners u x p i
  to_i = r.before x i (k.owner i li) (record_of_lem owners u i li ui)

  from_i : Beside owners u x i q
  from_i = r.after x i (k.owner i li) (record_of_lem owners u i li ui)

  pub prev_node : p < length next
  prev_node = node_below (length next) (omega arith) (k.owner i li) to_i.left

  pub next_node : q < length next
  next_node = node_below (length next) (omega arith) (k.owner i li) from_i.right

  -- its neighbours lead to it
  pub prev_leads : get_or next p 0 ≡ i
  prev_leads = next_one (r.after x p (k.owner i li) to_i.left) to_i

  pub next_leads : get_or prev q 0 ≡ i
  next_leads = prev_one (r.before x q (k.owner i li) from_i.right) from_i

  abbrev u' : List ℕ
  u' = set u i 1

  -- marking i takes it out of every list
  gone : (y : ℕ) → Without (lists owners u y) (lists owners u' y) i
  gone y = record {
    out = lists_used owners u' y i (λ e. let z = get_or-set_same u i 1 0 (omega (arith, k.marks)) in omega arith);
    same = lists_else owners u i 1 y;
  }

  -- a node of what is left is another one than i, and was one before
  apart : (y a : ℕ) → Of owners u' y a → a ≡ i → ⊥
  apart y a w e = clash (w.here (omega arith)) (ap (lists owners u' y) e ∙ (gone y).out)

  was : (y a : ℕ) → Of owners u' y a → Of owners u y a
  was y a w = node_as (λ _ _. sym ((gone y).same a (apart y a w))) w

  -- past i the links lead on from one neighbour to the other, and elsewhere as before
  passed : Ring owners u' (set next p q) (set prev q p)
  passed = record {
    after = λ y a o w.
        let l = subst (λ (v : ℕ). n + y < v) (length-set next p q) o in
        let f = r.after y a l (was y a w) in
        let to : get_or next a 0 ≡ i → Beside owners u y a i = λ e. subst (Beside owners u y a) e f in
        stored (Beside owners u' y a) next p q a prev_node
        (λ e. let g = to (ap (λ (v : ℕ). get_or next v 0) e ∙ prev_leads) in follow_skip (gone y) li g (r.after y i l g.right))
        (λ d. follow_keep (gone y) (apart y a w) (λ e. d (prev_one (to e) (r.before y i l (to e).right))) f);
    before = λ y a o w.
        let l = subst (λ (v : ℕ). n + y < v) (length-set next p q) o in
        let f = r.before y a l (was y a w) in
        let from : get_or prev a 0 ≡ i → Beside owners u y i a = λ e. subst (λ (v : ℕ). Beside owners u y v a) e f in
        stored (λ (v : ℕ). Beside owners u' y v a) prev q p a (omega (arith, next_node, k.level))
        (λ e. let g = from (ap (λ (v : ℕ). get_or prev v 0) e ∙ next_leads) in follow_skip (gone y) li (r.before y i l g.left) g)
        (λ d. follow_keep (gone y) (λ e. d (next_one (from e) (r.after y i l (from e).left))) (apart y a w) f);
  }

  unlinked : Linked owners u' (set next p q) (set prev q p)
  unlinked =
      linked owners u' (length-set prev q p ∙ k.level ∙ sym (length-set next p q)) (length-set u i 1 ∙ k.marks)
      (λ j l. subst (λ (v : ℕ). n + get_or owners j 0 < v) (sym (length-set next p q)) (k.owner j l)) passed

  -- what was stored is what is stored again
  pub relinked_next : (next' : List ℕ) → next' ≡ set next p q → set next' p i ≡ next
  relinked_next l e = ap (λ (w : List ℕ). set w p i) e ∙ set-set next p q i ∙ ap (set next p) (sym prev_leads) ∙ set-get_or next p 0

  pub relinked_prev : (prev' : List ℕ) → prev' ≡ set prev q p → set prev' q i ≡ prev
  relinked_prev l e = ap (λ (w : List ℕ). set w q i) e ∙ set-set prev q p i ∙ ap (set prev q) (sym next_leads) ∙ set-get_or prev q 0

-- where nothing is marked, the links say so
pub marks_none : (owners u next prev : List ℕ) → Linked owners u next prev → u ≡ blank (length owners) → marks_of (length owners) next prev ≡ blank (length owners)
unfolding blank
marks_none owners u next prev k e =
    ext_get_or 0 (marks_of (length owners) next prev) (blank (length owners)) (marks_length (length owners) next prev ∙ sym (length_blank (length owners)))
    (λ j l. let m = marks_length (length owners) next prev in
    let lj : j < length owners = omega arith in
    let z = get_or-replicate (length owners) j 0 0 lj in
    mark_zero (length owners) next prev j lj (prev_leads owners u next prev k j lj (ap (λ (v : List ℕ). get_or v j 0) e ∙ z)) ∙ sym z)

-- out of its list is marked, and nothing else changes
module _ (owners next prev : List ℕ) (k : Linked owners (marks_of (length owners) next prev) next prev) (i : ℕ) (li : i < length owners)
    (ui : get_or (marks_of (length owners) next prev) i 0 ≡ 0) where
  abbrev n₁ : ℕ
  n₁ = length owners

  abbrev u₁ : List ℕ
  u₁ = marks_of n₁ next prev

  abbrev p₁ : ℕ
  p₁ = get_or prev i 0

  abbrev q₁ : ℕ
  q₁ = get_or next i 0

  leads : get_or next p₁ 0 ≡ i
  leads = prev_leads owners u₁ next prev k i li ui

  later : i < q₁
  later = let f = k.on i li ui in below? q₁ n₁ (λ o. (f.here o).0) (λ o. omega arith)

  earlier : p₁ ≡ i → ⊥
  earlier e = let f = k.back i li ui in below? p₁ n₁ (λ o. omega (arith, (f.here o).0)) (λ o. omega arith)

  -- i keeps its own neighbours
  pub prev_own : get_or (set prev q₁ p₁) i 0 ≡ p₁
  prev_own = get_or-set_other prev q₁ i p₁ 0 (λ z. omega (arith, later))

  pub next_own : get_or (set next p₁ q₁) i 0 ≡ q₁
  next_own = get_or-set_other next p₁ i q₁ 0 (λ z. earlier (sym z))

  next_p : get_or (set next p₁ q₁) p₁ 0 ≡ q₁
  next_p = get_or-set_same next p₁ q₁ 0 (prev_node owners u₁ next prev k i li ui)

  prev_q : get_or (set prev q₁ p₁) q₁ 0 ≡ p₁
  prev_q = get_or-set_same prev q₁ p₁ 0 (omega (arith, next_node owners u₁ next prev k i li ui, k.level))

  each : (j : ℕ) → j < n₁ → get_or (marks_of n₁ (set next p₁ q₁) (set prev q₁ p₁)) j 0 ≡ get_or (set u₁ i 1) j 0
  each j lj =
      same? j i
      (λ e. let a : get_or (set prev q₁ p₁) j 0 ≡ p₁ = get_or-set_other prev q₁ j p₁ 0 (λ z. omega (arith, later)) ∙ ap (λ (v : ℕ). get_or prev v 0) e in
      mark_one n₁ (set next p₁ q₁) (set prev q₁ p₁) j lj (λ z. let y : q₁ ≡ j = sym (ap (λ (v : ℕ). get_or (set next p₁ q₁) v 0) a ∙ next_p) ∙ z in omega (arith, later))
      ∙ sym (ap (λ (v : ℕ). get_or (set u₁ i 1) v 0) e ∙ get_or-set_same u₁ i 1 0 (subst (λ (v : ℕ). i < v) (sym k.marks) li)))
      (λ d. (same? j q₁
      (λ e. let a : get_or (set prev q₁ p₁) j 0 ≡ p₁ = ap (λ (v : ℕ). get_or (set prev q₁ p₁) v 0) e ∙ prev_q in
      mark_zero n₁ (set next p₁ q₁) (set prev q₁ p₁) j lj (ap (λ (v : ℕ). get_or (set next p₁ q₁) v 0) a ∙ next_p ∙ sym e)
      ∙ sym (mark_zero n₁ next prev j lj (ap (λ (v : ℕ). get_or next (get_or prev v 0) 0) e ∙ ap (λ (v : ℕ). get_or next v 0) (next_leads owners u₁ next prev k i li ui) ∙ sym e)))
      (λ o. let a : get_or (set prev q₁ p₁) j 0 ≡ get_or prev j 0 = get_or-set_other prev q₁ j p₁ 0 o in
      same? (get_or prev j 0) p₁
      (λ e. mark_one n₁ (set next p₁ q₁) (set prev q₁ p₁) j lj (λ z. o (sym z ∙ ap (λ (v : ℕ). get_or (set next p₁ q₁) v 0) (a ∙ e) ∙ next_p))
      ∙ sym (mark_one n₁ next prev j lj (λ z. d (sym (sym (ap (λ (v : ℕ). get_or next v 0) e ∙ leads) ∙ z)))))
      (λ f. mark_at_lem n₁ (set next p₁ q₁) (set prev q₁ p₁) j lj
      ∙ ap (λ (v : ℕ). pick (eqb v j) 0 1) (ap (λ (v : ℕ). get_or (set next p₁ q₁) v 0) a ∙ get_or-set_other next p₁ (get_or prev j 0) q₁ 0 f)
      ∙ sym (mark_at_lem n₁ next prev j lj))))
      ∙ sym (get_or-set_other u₁ i j 1 0 d))

  pub marks_out : marks_of n₁ (set next p₁ q₁) (set prev q₁ p₁) ≡ set u₁ i 1
  marks_out =
      ext_get_or 0 (marks_of n₁ (set next p₁ q₁) (set prev q₁ p₁)) (set u₁ i 1)
      (marks_length n₁ (set next p₁ q₁) (set prev q₁ p₁) ∙ sym (length-set u₁ i 1 ∙ k.marks))
      (λ j l. each j (omega (arith, marks_length n₁ (set next p₁ q₁) (set prev q₁ p₁))))

  pub unlinked_marks : Linked owners (marks_of n₁ (set next p₁ q₁) (set prev q₁ p₁)) (set next p₁ q₁) (set prev q₁ p₁)
  unlinked_marks = subst (λ (u : List ℕ). Linked owners u (set next p₁ q₁) (set prev q₁ p₁)) (sym marks_out) (unlinked owners u₁ next prev k i li ui)
