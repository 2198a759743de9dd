-- Laws of the linked records: the links of a bucket pass over no record of the names in it.
use Rattle.std.specs.Prelude.{Option, Some, None, IfSome}
use Rattle.plan.specs.Good.{Good}
use Prim.Native.Nat.{ℕ, zero, suc, ◌+◌, ◌-◌, ◌%◌, ◌≤◌, ◌<◌, min}
use mathlib.Core.Path.{◌≡◌, refl, sym, ap, ◌∙◌}
use mathlib.Core.Bool.{Bool, true, false}
use mathlib.Core.List.{List, [], ◌++◌, append-nil}
use native.Mathlib.Omega.{arith}
use native.Mathlib.Decide.{ℕ_discrete}
use lib.Dec.{ltb, eqb}
use lib.ListN.{length, get_or, set, replicate, get_or-replicate, length-set}
use lib.Seq.{get_or-set_same, get_or-set_other}
use borrow.Author.Tests.{lt-ltb, ltb-true, ltb-false, eq-eqb, eqb-true}
use Rattle.octets.proofs.BoolLaws.{clash, refuted}
use Rattle.names.proofs.StandardLaws.{same_same_name}
use Rattle.chains.specs.Lists.{up_to}
use Rattle.chains.proofs.ListLaws.{true_both, both_true}
use Rattle.plan.specs.First.{first_from}
use Rattle.plan.specs.Layout.{max_records, prefix_of, owner_slot, target_slot, target_of, count_of, record_at, owner_at}
use Rattle.plan.specs.Check.{InOrder}
use Rattle.plan.proofs.FirstLaws.{first_on, first_here, first_most, from_some}
use Rattle.plan.proofs.FaultLaws.{targetless_on}
use Rattle.plan.proofs.OrderLaws.{order_count, order_good}
use Rattle.plan.proofs.MarkLaws.{same_mark}
use Rattle.collapse.specs.Fold.{continues, made_of}
use Rattle.collapse.specs.Running.{bucket_of, belongs, first_in, within, Linked}
use Rattle.collapse.proofs.TestLaws.{continues_is}
use Rattle.collapse.proofs.FoldLaws.{made_off}

-- ---- the first number that passes a test
first_least : (f : ℕ → Bool) (i n : ℕ) → i ≤ first_from f i n
unfolding first_from
first_least f i zero = omega arith
first_least f i (suc n) = go (f i) refl (first_least f (suc i) n)
  where
    go : (b : Bool) → f i ≡ b → suc i ≤ first_from f (suc i) n → i ≤ first_from f i (suc n)
    go true e h = rw (first_from, e) (omega arith)
    go false e h = rw (first_from, e) (omega arith)

before_first : (f : ℕ → Bool) (i n k : ℕ) → i ≤ k → k < first_from f i n → f k ≡ false
unfolding first_from
before_first f i zero k p q = let z : ⊥ = omega arith in absurd z
before_first f i (suc n) k p q = go (f i) refl (ℕ_discrete k i) (before_first f (suc i) n k)
  where
    go : (b : Bool) → f i ≡ b → Dec (k ≡ i) → (suc i ≤ k → k < first_from f (suc i) n → f k ≡ false) → f k ≡ false
    go true e d ih = let h : k < i = rw (first_from, e) at q in let z : ⊥ = omega arith in absurd z
    go false e (yes d) ih = ap f d ∙ e
    go false e (no d) ih = let h : k < first_from f (suc i) n = rw (first_from, e) at q in ih (omega (arith, d)) h

-- ---- the first record of a bucket
module _ (t : List ℕ) (b : ℕ) where
  pub first_from_lem : (i : ℕ) → i ≤ first_in t b i
  unfolding first_in
  first_from_lem i = first_least (belongs t b) i (max_records - i)

  pub first_within : (i : ℕ) → i ≤ max_records → first_in t b i ≤ max_records
  unfolding first_in
  first_within i h = let k = first_most (belongs t b) i (max_records - i) in omega arith

  first_passed : (i k : ℕ) → i ≤ k → k < first_in t b i → belongs t b k ≡ false
  unfolding first_in
  first_passed i k p q = before_first (belongs t b) i (max_records - i) k p q

  first_found : (i : ℕ) → i ≤ max_records → first_in t b i < max_records → belongs t b (first_in t b i) ≡ true
  unfolding first_in
  first_found i h l = from_some (belongs t b) i (max_records - i) (omega arith)

  belongs_is : (j : ℕ) → belongs t b j ≡ true → (j < count_of t) × (bucket_of (owner_slot (record_at t j)) ≡ b)
  unfolding belongs
  belongs_is j e = let p = both_true (ltb j (count_of t)) (eqb (bucket_of (owner_slot (record_at t j))) b) e in (ltb-true j (count_of t) p.0, eqb-true (bucket_of (owner_slot (record_at t j))) b p.1)

  is_belongs : (j : ℕ) → j < count_of t → bucket_of (owner_slot (record_at t j)) ≡ b → belongs t b j ≡ true
  unfolding belongs
  is_belongs j h e = true_both (ltb j (count_of t)) (eqb (bucket_of (owner_slot (record_at t j))) b) (lt-ltb j (count_of t) h) (eq-eqb (bucket_of (owner_slot (record_at t j))) b e)

  first_none : count_of t ≤ max_records → first_in t b (count_of t) ≡ max_records
  first_none m = go (ltb (first_in t b (count_of t)) max_records) refl
    where
      go : (c : Bool) → ltb (first_in t b (count_of t)) max_records ≡ c → first_in t b (count_of t) ≡ max_records
      go true e =
          let p = belongs_is (first_in t b (count_of t)) (first_found (count_of t) m (ltb-true (first_in t b (count_of t)) max_records e)) in
          let z : ⊥ = omega (arith, p.0, first_from_lem (count_of t)) in
          absurd z
      go false e = omega (arith, first_within (count_of t) m, ltb-false (first_in t b (count_of t)) max_records e)

  first_own : (i : ℕ) → i < count_of t → count_of t ≤ max_records → bucket_of (owner_slot (record_at t i)) ≡ b → first_in t b i ≡ i
  unfolding first_in
  first_own i h m e = first_here (belongs t b) i max_records (omega arith) (is_belongs i h e)

  first_past : (i : ℕ) → i < count_of t → count_of t ≤ max_records → (bucket_of (owner_slot (record_at t i)) ≡ b → ⊥) → first_in t b i ≡ first_in t b (i + 1)
  unfolding first_in
  first_past i h m e = first_on (belongs t b) i max_records (omega arith) (refuted (belongs t b i) (λ k. e (belongs_is i k).1))

-- ---- a record's number, and how far a walk has come: to it, or past all records
pub within_some : (n : ℕ) → n < max_records → within n ≡ Some n
unfolding within
within_some n h = rw (lt-ltb n max_records h)

within_none : within max_records ≡ None
unfolding within
within_none = refl

abbrev pub reach : Option ℕ → ℕ
reach None = max_records
reach (Some j) = j

reach_within : (n : ℕ) → n ≤ max_records → reach (within n) ≡ n
reach_within n h = go (ltb n max_records) refl
  where
    go : (b : Bool) → ltb n max_records ≡ b → reach (within n) ≡ n
    go true e = ap reach (within_some n (ltb-true n max_records e))
    go false e = let z : n ≡ max_records = omega (arith, ltb-false n max_records e) in ap reach (ap within z ∙ within_none) ∙ sym z

-- ---- linking the records from the last to the first
linked_none : (t heads next : List ℕ) → count_of t ≤ max_records → length heads ≡ 256 → length next ≡ max_records
    → ((b : ℕ) → b < 256 → get_or heads b 0 ≡ max_records) → Linked t heads next (count_of t)
linked_none t heads next m lh ln h = record {
  buckets = lh;
  records = ln;
  head = λ b l. h b l ∙ sym (first_none t b m);
  after = λ j p q. let z : ⊥ = omega arith in absurd z;
}

pub linked_start : (t : List ℕ) → InOrder t → Linked t (replicate 256 1024) (replicate 1024 1024) (count_of t)
linked_start t o = linked_none t (replicate 256 1024) (replicate 1024 1024) (order_count t o) refl refl (λ b l. get_or-replicate 256 b 1024 0 l)

pub linked_more : (t heads next : List ℕ) (i b : ℕ) → i < count_of t → count_of t ≤ max_records → b ≡ bucket_of (owner_slot (record_at t i)) → b < 256
    → Linked t heads next (i + 1) → Linked t (set heads b i) (set next i (get_or heads b 0)) i
linked_more t heads next i b h m e l k = record {
  buckets = length-set heads b i ∙ k.buckets;
  records = length-set next i (get_or heads b 0) ∙ k.records;
  head = λ c p. at_head c p (ℕ_discrete c b);
  after = λ j p q. at_next j p q (ℕ_discrete j i);
}
  where
    at_head : (c : ℕ) → c < 256 → Dec (c ≡ b) → get_or (set heads b i) c 0 ≡ first_in t c i
    at_head c p (yes d) = ap (λ (v : ℕ). get_or (set heads b i) v 0) d ∙ get_or-set_same heads b i 0 (omega (arith, k.buckets)) ∙ sym (first_own t c i h m (sym e ∙ sym d))
    at_head c p (no d) = get_or-set_other heads b c i 0 d ∙ k.head c p ∙ sym (first_past t c i h m (λ f. d (sym f ∙ sym e)))

    at_next : (j : ℕ) → i ≤ j → j < count_of t → Dec (j ≡ i) → get_or (set next i (get_or heads b 0)) j 0 ≡ first_in t (bucket_of (owner_slot (record_at t j))) (j + 1)
    at_next j p q (yes d) =
        ap (λ (v : ℕ). get_or (set next i (get_or heads b 0)) v 0) d ∙ get_or-set_same next i (get_or heads b 0) 0 (omega (arith, k.records)) ∙ k.head b l
        ∙ rw (d, ← e)
    at_next j p q (no d) = get_or-set_other next i j (get_or heads b 0) 0 d ∙ k.after j (omega (arith, d)) q

-- ---- what is passed over makes nothing
up_to_skip : (f : ℕ → List (List ℕ)) (a b : ℕ) → a ≤ b → ((k : ℕ) → a ≤ k → k < b → f k ≡ []) → up_to b f ≡ up_to a f
unfolding up_to
up_to_skip f a zero h s = let e : a ≡ 0 = omega arith in rw e
up_to_skip f a (suc b) h s = go (ℕ_discrete a (suc b)) (up_to_skip f a b)
  where
    go : Dec (a ≡ suc b) → (a ≤ b → ((k : ℕ) → a ≤ k → k < b → f k ≡ []) → up_to b f ≡ up_to a f) → up_to b f ++ f b ≡ up_to a f
    go (yes e) ih = rw e
    go (no e) ih = rw (s b (omega (arith, e)) (omega arith), append-nil (up_to b f)) (ih (omega (arith, e)) (λ k p q. s k p (omega arith)))

-- a step of the walk from a along the bucket of the target of r: it comes to a record, or past all of them, and nothing is made on the way
pub record Walked (t r : List ℕ) (a : ℕ) (o : Option ℕ) : Type 0 where
  pub from : a ≤ reach o
  pub found : IfSome o (λ (j : ℕ). (j < count_of t) × (bucket_of (owner_slot (record_at t j)) ≡ bucket_of (target_slot r)))
  pub same : up_to (min (reach o) (count_of t)) (made_of t r) ≡ up_to a (made_of t r)

module _ (t : List ℕ) (o : InOrder t) (r : List ℕ) (g : Good r) (l : 0 < prefix_of r) where
  abbrev b : ℕ
  b = bucket_of (target_slot r)

  -- a record of another bucket is no q
  made_other : (k : ℕ) → k < count_of t → belongs t b k ≡ false → made_of t r k ≡ []
  unfolding bucket_of
  made_other k q e = made_off t r k (refuted (continues r (record_at t k)) (λ c.
      let s = continues_is r (record_at t k) c in
      let m = same_mark (owner_slot (record_at t k)) (target_slot r) (order_good t o k q).owner (g.target (targetless_on r (λ z. omega arith))) (same_same_name (owner_at t k) (target_of r) s.2) in
      clash (is_belongs t b k q (ap (λ (v : ℕ). v % 256) m)) e))

  -- from a on, nothing is made before the first record of the target's bucket
  passed : (a : ℕ) → a ≤ count_of t → up_to (min (first_in t b a) (count_of t)) (made_of t r) ≡ up_to a (made_of t r)
  passed a p =
      let w = first_from_lem t b a in
      up_to_skip (made_of t r) a (min (first_in t b a) (count_of t)) (omega arith)
      (λ k q u. made_other k (omega arith) (first_passed t b a k q (omega arith)))

  pub walked : (a : ℕ) (next : Option ℕ) → a ≤ count_of t → count_of t ≤ max_records → next ≡ within (first_in t b a) → Walked t r a next
  unfolding within
  walked a next p m e =
      let w = first_within t b a (omega arith) in
      let z : reach next ≡ first_in t b a = ap reach e ∙ reach_within (first_in t b a) w in
      record {
        from = rw z (first_from_lem t b a);
        found = rw e (go (ltb (first_in t b a) max_records) refl);
        same = ap (λ (k : ℕ). up_to (min k (count_of t)) (made_of t r)) z ∙ passed a p;
      }
    where
      go : (c : Bool) → ltb (first_in t b a) max_records ≡ c → IfSome (within (first_in t b a)) (λ (j : ℕ). (j < count_of t) × (bucket_of (owner_slot (record_at t j)) ≡ b))
      go true h = rw h (belongs_is t b (first_in t b a) (first_found t b a (omega arith) (ltb-true (first_in t b a) max_records h)))
      go false h = rw h tt
