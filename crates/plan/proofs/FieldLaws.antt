-- Laws of a record's fields by value: one A6 record in order is the record of sound fields.
use Prim.Native.Nat.{ℕ, zero, suc, ◌-◌, ◌/◌, ◌%◌, ◌≤◌, ◌<◌}
use mathlib.Core.Path.{◌≡◌, refl, ap, ◌∙◌, sym}
use mathlib.Core.Bool.{Bool, true, false, ◌&&◌}
use mathlib.Core.List.{List, [], ◌∷◌, ◌++◌, append-nil}
use mathlib.Core.Logic.{inl}
use lib.Dec.{eqb}
use lib.ListN.{length, get_or}
use lib.Seq.{take_all}
use native.Mathlib.Omega.{arith}
use borrow.Author.Tests.{eq-eqb, eqb-true, eqb-false}
use Rattle.octets.specs.Octets.{blank, Small, flat}
use Rattle.octets.proofs.BoolLaws.{refuted}
use Rattle.octets.proofs.SmallLaws.{small_cons, small_append, small_blank}
use Rattle.octets.proofs.NumberLaws.{octets_small}
use Rattle.octets.specs.Numbers.{octets_of}
use Rattle.chains.proofs.ListLaws.{both_true}
use Rattle.names.specs.Standard.{in_standard_form}
use Rattle.names.specs.Name.{name_of}
use Rattle.names.specs.declared.Name.{Name}
use Rattle.names.proofs.StandardLaws.{in_standard}
use Rattle.names.proofs.NameLaws.{standard_short}
use Rattle.plan.specs.Layout.{record_size, slot_size, name_room, ttl_size, a6, type_of, prefix_of, zero_of, address_of, owner_slot, target_slot, ttl_of, name_in, slot_of, is_type, is_a6, target_of, record_of, count_of, record_at}
use Rattle.plan.specs.Check.{field_count, fault_of, check_of, InOrder}
use Rattle.plan.specs.Good.{Holds, Good}
use Rattle.plan.specs.Fields.{one_a6, fields_of, slot_for, a6_record, HoldsName, SoundFields}
use Rattle.plan.specs.declared.inside.Fields.{Fields}
use Rattle.plan.proofs.SlotLaws.{bool_iff, name_small, slot_size_lem, name_made, holds_made}
use Rattle.plan.proofs.RecordLaws.{address_length, address_small, owner_small, target_small, type_made, prefix_made, zero_made, record_made, address_made, owner_made, target_made, ttl_made, record_again}
use Rattle.plan.proofs.FaultLaws.{fault_good, good_fault, type_is, is_type_lem, targetless_is, targetless_on}
use Rattle.plan.proofs.OrderLaws.{order_good, order_made}

-- one A6 record in order: a record of its length, of the type A6, without a fault
module _ (r : List ℕ) where
  one_parts : one_a6 r ≡ true → InOrder r × (length r ≡ record_size) × (type_of r ≡ a6)
  unfolding one_a6
  one_parts h =
      let p = both_true (eqb (check_of r) 0) (eqb (length r) record_size && is_a6 r) h in
      let q = both_true (eqb (length r) record_size) (is_a6 r) p.1 in
      (eqb-true (check_of r) 0 p.0, eqb-true (length r) record_size q.0, is_type_lem r q.1)

  -- a record is the only one of its table
  alone_at : length r ≡ record_size → record_at r 0 ≡ r
  unfolding record_at
  alone_at l = take_all record_size r (omega arith)

  pub one_size : one_a6 r ≡ true → length r ≡ record_size
  one_size h = (one_parts h).1

  one_good : one_a6 r ≡ true → Good r
  unfolding count_of
  one_good h = let p = one_parts h in rw (alone_at p.1) at (order_good r p.0 0 (omega (arith, p.1)))

  only : (P : List ℕ → Type 0) → P r → (i : ℕ) → i < 1 → P (get_or (r ∷ []) i [])
  only P h zero k = h
  only P h (suc i) k = let z : ⊥ = omega arith in absurd z

  alone_order : length r ≡ record_size → Good r → InOrder r
  unfolding flat
  alone_order l g =
      rw (append-nil r) at (order_made (r ∷ []) (only (λ x. length x ≡ record_size) l) (omega arith) (only Good g) (λ i j p q d e. let z : ⊥ = omega arith in absurd z))

  good_one : length r ≡ record_size → type_of r ≡ a6 → Good r → one_a6 r ≡ true
  unfolding one_a6
  good_one l k g = rw (alone_order l g, l, type_is r k)

  -- the tests, in the order of the code
  pub one_length : (length r ≡ record_size → ⊥) → one_a6 r ≡ false
  one_length n = refuted (one_a6 r) (λ h. n (one_size h))

  pub one_fault : (fault_of r ≡ field_count → ⊥) → one_a6 r ≡ false
  one_fault n = refuted (one_a6 r) (λ h. n (good_fault r (one_good h)))

  pub one_type : length r ≡ record_size → fault_of r ≡ field_count → one_a6 r ≡ is_a6 r
  unfolding is_type
  one_type l f = bool_iff (one_a6 r) (eqb (type_of r) a6) (λ h. eq-eqb (type_of r) a6 (one_parts h).2) (λ h. good_one l (eqb-true (type_of r) a6 h) (fault_good r f))

-- ---- the fields of a record
-- the slot of a name by value is the slot of the name
slot_held : (n : List ℕ) → slot_for (name_of n) ≡ slot_of n
unfolding slot_for name_of slot_of
slot_held n = refl

name_none : name_in (blank slot_size) ≡ []
unfolding name_in blank
name_none = refl

slot_none : slot_of [] ≡ blank slot_size
unfolding slot_of blank
slot_none = refl

module _ (s : List ℕ) (h : Holds s) where
  holds_name : Small s → HoldsName (name_of (name_in s))
  holds_name m = record { name = name_in s; formed = h.name; small = name_small s m; held = refl }

  slot_again : slot_for (name_of (name_in s)) ≡ s
  slot_again = slot_held (name_in s) ∙ sym h.whole

module _ (r : List ℕ) (o : one_a6 r ≡ true) where
  target_there : (prefix_of r ≡ 0 → ⊥) → Holds (target_slot r)
  target_there z = (one_good r o).target (targetless_on r z)

  target_gone : prefix_of r ≡ 0 → target_slot r ≡ blank slot_size
  target_gone z = (one_good r o).none (targetless_is r (one_parts r o).2 ∙ eq-eqb (prefix_of r) 0 z)

  -- Theorem: the fields of one A6 record in order are sound
  pub fields_sound : Small r → SoundFields (fields_of r)
  unfolding fields_of
  fields_sound s =
      let g = one_good r o in
      record {
        prefix = g.prefix;
        size = address_length r (one_size r o);
        small = address_small r s;
        clear = g.clear;
        owner = holds_name (owner_slot r) g.owner (owner_small r s);
        target = λ z. holds_name (target_slot r) (target_there z) (target_small r s);
        none = λ z. ap (λ (t : List ℕ). name_of (name_in t)) (target_gone z) ∙ ap name_of name_none;
        lived = g.lived;
      }

  target_again : slot_for (name_of (target_of r)) ≡ target_slot r
  target_again = go (eqb (prefix_of r) 0) refl
    where
      go : (b : Bool) → eqb (prefix_of r) 0 ≡ b → slot_for (name_of (target_of r)) ≡ target_slot r
      go true e = rw (target_gone (eqb-true (prefix_of r) 0 e), name_none) (slot_held [] ∙ slot_none)
      go false e = slot_again (target_slot r) (target_there (eqb-false (prefix_of r) 0 e))

  -- Theorem: one A6 record in order is the record that its fields make
  pub record_fields : Small r → a6_record (fields_of r) ≡ r
  unfolding a6_record fields_of
  record_fields s =
      let g = one_good r o in
      let k = (one_parts r o).2 in
      let w = slot_again (owner_slot r) g.owner in
      (λ i. record_of (sym k i) (prefix_of r) (address_of r) (w i) (target_again i) (ttl_of r)) ∙ sym (record_again r (one_size r o) s g.nought)

-- ---- the record of fields
-- a name that fits, held by value: its slot
record Slotted (n : Name) : Type 0 where
  size : length (slot_for n) ≡ slot_size
  again : name_of (name_in (slot_for n)) ≡ n
  small : Small (slot_for n)

slotted : (n : Name) (m : List ℕ) → length m ≤ name_room → Small m → n ≡ name_of m → Slotted n
unfolding slot_of
slotted n m l s e =
    let w : slot_for n ≡ slot_of m = ap slot_for e ∙ slot_held m in
    record {
      size = ap length w ∙ slot_size_lem m l;
      again = ap (λ (t : List ℕ). name_of (name_in t)) w ∙ ap name_of (name_made m) ∙ sym e;
      small = rw w (small_cons (length m) (m ++ blank (name_room - length m)) (omega arith) (small_append m (blank (name_room - length m)) s (small_blank (name_room - length m))));
    }

name_short : (m : List ℕ) → in_standard_form m ≡ true → Small m → length m ≤ name_room
name_short m h s = let w = in_standard m h in omega (arith, standard_short m s w.0, ap length w.1)

slotted_name : (n : Name) → HoldsName n → Slotted n
slotted_name n h = slotted n h.name (name_short h.name h.formed h.small) h.small h.held

slotted_none : (n : Name) → n ≡ name_of [] → Slotted n
slotted_none n e = slotted n [] (omega arith) (λ i. omega arith) e

slot_name : (n : Name) → HoldsName n → Holds (slot_for n)
slot_name n h = rw (ap slot_for h.held ∙ slot_held h.name) (holds_made h.name h.formed)

module _ (f : Fields) (w : SoundFields f) where
  owner_slotted : Slotted f.owner
  owner_slotted = slotted_name f.owner w.owner

  target_slotted : Slotted f.target
  target_slotted = go (eqb f.prefix 0) refl
    where
      go : (b : Bool) → eqb f.prefix 0 ≡ b → Slotted f.target
      go true e = slotted_none f.target (w.none (eqb-true f.prefix 0 e))
      go false e = slotted_name f.target (w.target (eqb-false f.prefix 0 e))

  -- the fields of the record
  record Made (r : List ℕ) : Type 0 where
    kind : type_of r ≡ a6
    prefix : prefix_of r ≡ f.prefix
    nought : zero_of r ≡ 0
    address : address_of r ≡ f.address
    owner : owner_slot r ≡ slot_for f.owner
    target : target_slot r ≡ slot_for f.target
    ttl : ttl_of r ≡ f.ttl
    size : length r ≡ record_size

  made : Made (a6_record f)
  unfolding a6_record
  made =
      let o = slot_for f.owner in
      let t = slot_for f.target in
      let n = owner_slotted.size in
      let m = target_slotted.size in
      record {
        kind = type_made a6 f.prefix f.address o t f.ttl;
        prefix = prefix_made a6 f.prefix f.address o t f.ttl;
        nought = zero_made a6 f.prefix f.address o t f.ttl;
        address = address_made a6 f.prefix f.address o t f.ttl w.size n m;
        owner = owner_made a6 f.prefix f.address o t f.ttl w.size n m;
        target = target_made a6 f.prefix f.address o t f.ttl w.size n m;
        ttl = ttl_made a6 f.prefix f.address o t f.ttl w.size n m (omega (arith, w.lived));
        size = record_made a6 f.prefix f.address o t f.ttl w.size n m;
      }

  -- Theorem: the fields of the record that sound fields make are these fields
  pub fields_record : fields_of (a6_record f) ≡ f
  unfolding fields_of
  fields_record =
      let m = made in
      let o = ap (λ (t : List ℕ). name_of (name_in t)) m.owner ∙ owner_slotted.again in
      let t = ap (λ (t : List ℕ). name_of (name_in t)) m.target ∙ target_slotted.again in
      λ i. record { prefix = m.prefix i; address = m.address i; owner = o i; target = t i; ttl = m.ttl i }

  pub record_size_lem : length (a6_record f) ≡ record_size
  record_size_lem = made.size

  made_good : Good (a6_record f)
  made_good =
      let m = made in
      let e = targetless_is (a6_record f) m.kind in
      record {
        kind = inl m.kind;
        prefix = rw m.prefix w.prefix;
        nought = m.nought;
        clear = rw (m.prefix, m.address) w.clear;
        owner = rw m.owner (slot_name f.owner w.owner);
        bare = λ d. let z : ⊥ = omega (arith, m.kind) in absurd z;
        target = λ h. rw m.target (slot_name f.target (w.target (λ z. eqb-false (prefix_of (a6_record f)) 0 (sym e ∙ h) (m.prefix ∙ z))));
        none = λ h. m.target ∙ ap slot_for (w.none (sym m.prefix ∙ eqb-true (prefix_of (a6_record f)) 0 (sym e ∙ h))) ∙ slot_held [] ∙ slot_none;
        lived = rw m.ttl w.lived;
      }

  -- Theorem: sound fields make one A6 record in order
  pub sound_one : one_a6 (a6_record f) ≡ true
  sound_one = good_one (a6_record f) record_size_lem made.kind made_good

  -- of octets
  pub record_small : Small (a6_record f)
  unfolding a6_record record_of
  record_small =
      let o = slot_for f.owner in
      let t = slot_for f.target in
      let life = octets_of ttl_size f.ttl in
      let front = small_append f.address o w.small owner_slotted.small in
      let rest = small_append (f.address ++ o ++ t) life (small_append (f.address ++ o) t front target_slotted.small) (octets_small ttl_size f.ttl) in
      let r : List ℕ = f.address ++ o ++ t ++ life in
      small_cons (a6 / 256) (a6 % 256 ∷ f.prefix ∷ 0 ∷ r) (omega arith)
      (small_cons (a6 % 256) (f.prefix ∷ 0 ∷ r) (omega arith) (small_cons f.prefix (0 ∷ r) (omega (arith, w.prefix)) (small_cons 0 r (omega arith) rest)))
