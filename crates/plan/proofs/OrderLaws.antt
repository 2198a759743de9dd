-- Laws of a table in order: its size, its records, and that its DNAMEs have owners of their own.
use Prim.Native.Nat.{ℕ, ◌*◌, ◌%◌, ◌≤◌, ◌<◌}
use mathlib.Core.Path.{◌≡◌, refl, ap, ◌∙◌, sym}
use mathlib.Core.Bool.{Bool, true, false, not, ◌||◌}
use mathlib.Core.List.{List, []}
use mathlib.Core.Logic.{◌↔◌}
use lib.Dec.{ltb, eqb}
use lib.ListN.{length, get_or}
use native.Mathlib.Omega.{arith}
use borrow.Author.Tests.{eq-eqb, ne_eqb, eqb-true, lt-ltb, le-ltb, ltb-true, ltb-false}
use Rattle.octets.specs.Octets.{flat}
use Rattle.octets.specs.Answers.{earns}
use Rattle.octets.proofs.AnswerLaws.{earns_zero}
use Rattle.chains.proofs.ListLaws.{both_true}
use Rattle.names.specs.Standard.{Same, same_name, in_standard_form}
use Rattle.names.proofs.StandardLaws.{same_name_same, same_same_name}
use Rattle.names.proofs.RoundLaws.{same_symmetric}
use Rattle.plan.specs.First.{some}
use Rattle.plan.specs.Layout.{record_size, max_records, dname, type_of, is_dname, count_of, record_at, owner_at, owner_of}
use Rattle.plan.specs.Records.{type_at}
use Rattle.plan.specs.Check.{field_count, field_good, fault_of, faulty, first_fault, twin, repeats, first_repeat, Twins, Shared, missized, check_of, InOrder}
use Rattle.plan.specs.Good.{Good}
use Rattle.plan.proofs.LayoutLaws.{Whole, octets_length, count_octets, record_octets}
use Rattle.plan.proofs.SlotLaws.{bool_iff}
use Rattle.plan.proofs.FirstLaws.{first_none, none_first, some_none, none_some, some_has, has_some}
use Rattle.plan.proofs.FaultLaws.{fault_good, good_fault, type_is, is_type_lem}

-- a record at fault, and the end of the search for one
module _ (t : List ℕ) where
  pub faulty_is : (i : ℕ) → fault_of (record_at t i) < field_count → faulty t i ≡ true
  unfolding faulty
  faulty_is i h = lt-ltb (fault_of (record_at t i)) field_count h

  pub faulty_not : (i : ℕ) → field_count ≤ fault_of (record_at t i) → faulty t i ≡ false
  unfolding faulty
  faulty_not i h = le-ltb (fault_of (record_at t i)) field_count h

  pub is_faulty : (i : ℕ) → faulty t i ≡ true → fault_of (record_at t i) < field_count
  unfolding faulty
  is_faulty i h = ltb-true (fault_of (record_at t i)) field_count h

  pub not_faulty : (i : ℕ) → faulty t i ≡ false → fault_of (record_at t i) ≡ field_count
  unfolding faulty fault_of
  not_faulty i h = some_none (λ f. not (field_good (record_at t i) f)) field_count h

-- a table in which no record is at fault
module _ (t : List ℕ) (s : first_fault t ≡ count_of t) where
  pub sound_good : (i : ℕ) → i < count_of t → Good (record_at t i)
  unfolding first_fault
  sound_good i h = fault_good (record_at t i) (not_faulty t i (first_none (faulty t) (count_of t) s i h))

  pub sound_owner : (i : ℕ) → i < count_of t → in_standard_form (owner_at t i) ≡ true
  sound_owner i h = (sound_good i h).owner.name

-- the number, test by test
module _ (t : List ℕ) where
  pub number_length : (length t % record_size ≡ 0 → ⊥) → check_of t ≡ 1
  unfolding check_of missized
  number_length h = rw (ne_eqb (length t % record_size) 0 h)

  module _ (l : length t % record_size ≡ 0) where
    pub number_many : max_records < count_of t → check_of t ≡ 1
    unfolding check_of missized
    number_many h = rw (eq-eqb (length t % record_size) 0 l, lt-ltb max_records (count_of t) h)

    module _ (m : count_of t ≤ max_records) where
      pub number_fault : first_fault t < count_of t → check_of t ≡ 2
      unfolding check_of missized
      number_fault h = rw (eq-eqb (length t % record_size) 0 l, le-ltb max_records (count_of t) m, lt-ltb (first_fault t) (count_of t) h)

      module _ (s : count_of t ≤ first_fault t) where
        pub number_repeat : first_repeat t < count_of t → check_of t ≡ 3
        unfolding check_of missized
        number_repeat h = rw (eq-eqb (length t % record_size) 0 l, le-ltb max_records (count_of t) m, le-ltb (first_fault t) (count_of t) s, lt-ltb (first_repeat t) (count_of t) h)

        pub number_none : count_of t ≤ first_repeat t → check_of t ≡ 0
        unfolding check_of missized
        number_none h = rw (eq-eqb (length t % record_size) 0 l, le-ltb max_records (count_of t) m, le-ltb (first_fault t) (count_of t) s, le-ltb (first_repeat t) (count_of t) h)

-- no number but 0 to 3
pub check_most : (t : List ℕ) → check_of t ≤ 3
unfolding check_of
check_most t = go (missized t) (ltb (first_fault t) (count_of t)) (ltb (first_repeat t) (count_of t))
  where
    go : (a b c : Bool) → earns a 1 (earns b 2 (earns c 3 0)) ≤ 3
    go true b c = omega arith
    go false true c = omega arith
    go false false true = omega arith
    go false false false = omega arith

neither : (a b : Bool) → (not a || b) ≡ false → (a ≡ true) × (b ≡ false)
neither true b h = (refl, h)
neither false b h = let z : ◌≡◌ {A = ℕ} 0 1 = cc in let y : ⊥ = omega arith in absurd y

same_name_sym : (m n : List ℕ) → same_name m n ≡ same_name n m
same_name_sym m n =
    bool_iff (same_name m n) (same_name n m) (λ h. same_same_name n m (same_symmetric m n (same_name_same m n h))) (λ h. same_same_name m n (same_symmetric n m (same_name_same n m h)))

-- the parts of the tests for 3
module _ (t : List ℕ) where
  repeat_has : ltb (first_repeat t) (count_of t) ≡ true → (j : ℕ) × (j < count_of t) × (repeats t j ≡ true)
  unfolding first_repeat
  repeat_has = some_has (repeats t) (count_of t)

  has_repeat : (j : ℕ) → j < count_of t → repeats t j ≡ true → ltb (first_repeat t) (count_of t) ≡ true
  unfolding first_repeat
  has_repeat = has_some (repeats t) (count_of t)

  repeats_parts : (j : ℕ) → repeats t j ≡ true → (type_at t j ≡ dname) × (some (twin t j) j ≡ true)
  unfolding repeats
  repeats_parts j h = let p = both_true (is_dname (record_at t j)) (some (twin t j) j) h in (is_type_lem (record_at t j) p.0, p.1)

  parts_repeats : (j : ℕ) → type_at t j ≡ dname → some (twin t j) j ≡ true → repeats t j ≡ true
  unfolding repeats
  parts_repeats j d e = rw (type_is (record_at t j) d) e

  twin_parts : (j i : ℕ) → twin t j i ≡ true → (type_at t i ≡ dname) × Same (owner_at t i) (owner_at t j)
  unfolding twin
  twin_parts j i h = let p = both_true (is_dname (record_at t i)) (same_name (owner_at t i) (owner_at t j)) h in (is_type_lem (record_at t i) p.0, same_name_same (owner_at t i) (owner_at t j) p.1)

  parts_twin : (j i : ℕ) → type_at t i ≡ dname → Same (owner_at t i) (owner_at t j) → twin t j i ≡ true
  unfolding twin
  parts_twin j i d e = rw (type_is (record_at t i) d) (same_same_name (owner_at t i) (owner_at t j) e)

  -- a DNAME that repeats an owner has an earlier twin, and one that has such a twin repeats it
  pub twins_repeat : (i j : ℕ) → Twins t i j → repeats t j ≡ true
  twins_repeat i j w = parts_repeats j w.other (has_some (twin t j) j i w.order (parts_twin j i w.one w.owner))

  pub repeat_twins : (j : ℕ) → repeats t j ≡ true → (i : ℕ) × Twins t i j
  repeat_twins j e =
      let r = repeats_parts j e in
      let q = some_has (twin t j) j r.1 in
      let w = twin_parts j q.0 q.2 in
      (q.0, record { order = q.1; one = w.0; other = r.0; owner = w.1 })

-- DNAMEs that do not repeat an owner
apart : (t : List ℕ) → first_repeat t ≡ count_of t → (i j : ℕ) → i < j → j < count_of t → type_at t i ≡ dname → type_at t j ≡ dname → same_name (owner_at t i) (owner_at t j) ≡ false
unfolding first_repeat repeats twin
apart t s i j p q d e =
    let r : repeats t j ≡ false = first_none (repeats t) (count_of t) s j q in
    let u : some (twin t j) j ≡ false = rw (type_is (record_at t j) e) at r in
    let v : twin t j i ≡ false = first_none (twin t j) j (some_none (twin t j) j u) i p in
    rw (type_is (record_at t i) d) at v

-- Theorem: a DNAME has the owner of an earlier one exactly when two DNAMEs have the same owner
pub repeat_shared : (t : List ℕ) → (ltb (first_repeat t) (count_of t) ≡ true) ↔ Shared t
repeat_shared t = (λ h. let p = repeat_has t h in let w = repeat_twins t p.0 p.2 in record { first = w.0; second = p.0; there = p.1; twins = w.1 }, λ s. has_repeat t s.second s.there (twins_repeat t s.first s.second s.twins))

-- a table in order has whole records, not too many, each of them good, and no two DNAMEs with one owner
module _ (t : List ℕ) (o : InOrder t) where
  sized : missized t ≡ false
  unfolding check_of
  sized = (earns_zero (missized t) 0 _ o).0

  -- Theorem: a table in order is whole records
  pub order_length : length t ≡ count_of t * record_size
  unfolding missized count_of
  order_length = let e = eqb-true (length t % record_size) 0 (neither (eqb (length t % record_size) 0) _ sized).0 in omega arith

  -- Theorem: a table in order has no more records than a table may have
  pub order_count : count_of t ≤ max_records
  unfolding missized
  order_count = ltb-false max_records (count_of t) (neither (eqb (length t % record_size) 0) _ sized).1

  pub order_sound : first_fault t ≡ count_of t
  unfolding check_of first_fault
  order_sound = some_none (faulty t) (count_of t) (earns_zero (ltb (first_fault t) (count_of t)) 1 _ (earns_zero (missized t) 0 _ o).1).0

  order_repeat : first_repeat t ≡ count_of t
  unfolding check_of first_repeat
  order_repeat =
      some_none (repeats t) (count_of t) (earns_zero (ltb (first_repeat t) (count_of t)) 2 _ (earns_zero (ltb (first_fault t) (count_of t)) 1 _ (earns_zero (missized t) 0 _ o).1).1).0

  -- Theorem: in a table in order every field of every record is as the layout says
  pub order_good : (i : ℕ) → i < count_of t → Good (record_at t i)
  order_good = sound_good t order_sound

  pub order_apart : (i j : ℕ) → i < j → j < count_of t → type_at t i ≡ dname → type_at t j ≡ dname → same_name (owner_at t i) (owner_at t j) ≡ false
  order_apart = apart t order_repeat

  -- Theorem: in a table in order no two DNAMEs have the same owner
  pub order_differ : (i j : ℕ) → i < count_of t → j < count_of t → (i ≡ j → ⊥) → type_at t i ≡ dname → type_at t j ≡ dname → same_name (owner_at t i) (owner_at t j) ≡ false
  order_differ i j p q n d e = go (ltb i j) refl
    where
      go : (b : Bool) → ltb i j ≡ b → same_name (owner_at t i) (owner_at t j) ≡ false
      go true k = order_apart i j (ltb-true i j k) q d e
      go false k = let l : j < i = omega (arith, ltb-false i j k, n) in same_name_sym (owner_at t i) (owner_at t j) ∙ order_apart j i l p e d

-- a table made of good records, not too many, whose DNAMEs have owners of their own, is in order
module _ (rs : List (List ℕ)) (w : Whole rs) where
  made_sound : ((i : ℕ) → i < length rs → Good (get_or rs i [])) → first_fault (flat rs) ≡ count_of (flat rs)
  unfolding first_fault
  made_sound g = none_first (faulty t) (count_of t) (λ i h. faulty_not t i (omega (arith, at_index i (omega (arith, count_octets rs w)))))
    where
      t : List ℕ
      t = flat rs

      at_index : (i : ℕ) → i < length rs → fault_of (record_at t i) ≡ field_count
      at_index i h = ap fault_of (record_octets rs w i h) ∙ good_fault (get_or rs i []) (g i h)

  made_apart : ((i j : ℕ) → i < j → j < length rs → type_of (get_or rs i []) ≡ dname → type_of (get_or rs j []) ≡ dname → same_name (owner_of (get_or rs i [])) (owner_of (get_or rs j [])) ≡ false)
      → first_repeat (flat rs) ≡ count_of (flat rs)
  unfolding first_repeat repeats twin
  made_apart a = none_first (repeats t) (count_of t) (λ j h. at_j j (omega (arith, count_octets rs w)) (is_dname (record_at t j)) refl)
    where
      t : List ℕ
      t = flat rs

      at_i : (j i : ℕ) → i < j → j < length rs → is_dname (record_at t j) ≡ true → (b : Bool) → is_dname (record_at t i) ≡ b → twin t j i ≡ false
      at_i j i p q d false e = rw e
      at_i j i p q d true e =
          let x = record_octets rs w i (omega arith) in
          let y = record_octets rs w j q in
          let k : type_of (get_or rs i []) ≡ dname = ap type_of (sym x) ∙ is_type_lem (record_at t i) e in
          let l : type_of (get_or rs j []) ≡ dname = ap type_of (sym y) ∙ is_type_lem (record_at t j) d in
          rw (e, x, y) (a i j p q k l)

      at_j : (j : ℕ) → j < length rs → (b : Bool) → is_dname (record_at t j) ≡ b → repeats t j ≡ false
      at_j j h false e = rw e
      at_j j h true e = rw e (none_some (twin t j) j (none_first (twin t j) j (λ i p. at_i j i p h e (is_dname (record_at t i)) refl)))

  -- Theorem: records without a fault, not too many and with no two DNAMEs of one owner, make a table in order
  pub order_made : length rs ≤ max_records → ((i : ℕ) → i < length rs → Good (get_or rs i []))
      → ((i j : ℕ) → i < j → j < length rs → type_of (get_or rs i []) ≡ dname → type_of (get_or rs j []) ≡ dname → same_name (owner_of (get_or rs i [])) (owner_of (get_or rs j [])) ≡ false)
      → InOrder (flat rs)
  order_made m g a =
      let l : length (flat rs) % record_size ≡ 0 = omega (arith, octets_length rs w) in
      let n = count_octets rs w in
      let s = made_sound g in
      let r = made_apart a in
      number_none (flat rs) l (omega arith) (omega arith) (omega arith)
