-- Laws of the fault of a table (T-04): its place by the number, and what may be relied on of it.
use Prim.Native.Nat.{ℕ, ◌<◌}
use mathlib.Core.Path.{◌≡◌, refl, ap, ◌∙◌, sym}
use mathlib.Core.Bool.{Bool, true, false, not}
use mathlib.Core.List.{List}
use mathlib.Core.Logic.{◌↔◌}
use lib.Dec.{ltb}
use native.Mathlib.Omega.{arith}
use borrow.Author.Tests.{eq-eqb, ne_eqb, ltb-true, not-true, not-false}
use Rattle.std.specs.Prelude.{⊤, Result, Ok, Err}
use Rattle.std.specs.Result.{is_err}
use Rattle.octets.specs.Answers.{earns, or_else, refusal}
use Rattle.octets.specs.Refusals.{code_of}
use Rattle.octets.proofs.RefusalLaws.{code_some}
use Rattle.octets.specs.declared.Refusal.{Refusal}
use Rattle.octets.specs.declared.Answer.{Answer}
use Rattle.octets.proofs.AnswerLaws.{else_from, else_to}
use Rattle.octets.proofs.BoolLaws.{clash, refuted}
use Rattle.plan.specs.Layout.{count_of, record_at}
use Rattle.plan.specs.Check.{field_count, owner_field, field_good, fault_of, faulty, first_fault, repeats, first_repeat, missized, check_of, check_answer, InOrder}
use Rattle.plan.specs.Faults.{fault_place, repeat_place, no_place, fault_in, replying, placeless, judged, FaultAt, RepeatAt, Placed}
use Rattle.plan.specs.declared.Fault.{Fault}
use Rattle.plan.specs.declared.Refused.{Refused}
use Rattle.plan.specs.declared.Reply.{Reply}
use Rattle.plan.proofs.FirstLaws.{from_some, first_before, first_is}
use Rattle.plan.proofs.FaultLaws.{fault_none, none_fault}
use Rattle.plan.proofs.OrderLaws.{faulty_is, faulty_not, is_faulty, not_faulty, twins_repeat, repeat_twins}

-- the fault of a table, by its number
module _ (t : List ℕ) where
  pub fault_two : check_of t ≡ 2 → fault_in t ≡ fault_place t
  unfolding fault_in
  fault_two h = rw (fault_in, eq-eqb (check_of t) 2 h)

  pub fault_three : check_of t ≡ 3 → fault_in t ≡ repeat_place t
  unfolding fault_in
  fault_three h = rw (fault_in, ne_eqb (check_of t) 2 (λ e. omega arith), eq-eqb (check_of t) 3 h)

  pub fault_other : (check_of t ≡ 2 → ⊥) → (check_of t ≡ 3 → ⊥) → fault_in t ≡ no_place
  unfolding fault_in
  fault_other h k = rw (fault_in, ne_eqb (check_of t) 2 h, ne_eqb (check_of t) 3 k)

  -- what an operation replies, of its answer and the fault that it was handed; and what the check does
  pub replies : {a b : Answer} {f : Fault} → a ≡ b → f ≡ fault_in t → record { answer = a; fault = f } ≡ replying t b
  replies e g = λ j. record { answer = e j; fault = g j }

-- what comes of the check of a table: refused with its number and its fault, or the table is in order
module _ (t : List ℕ) where
  pub judged_placeless : (r : Refusal) (e : Refused) → e ≡ placeless r → check_of t ≡ code_of r → (code_of r ≡ 2 → ⊥) → (code_of r ≡ 3 → ⊥) → judged {A = ⊤} (Err e) ≡ replying t (check_answer t)
  judged_placeless r e h k a b = rw h (replies t (ap refusal (sym k)) (sym (fault_other t (λ z. a (sym k ∙ z)) (λ z. b (sym k ∙ z)))))

  pub judged_placed : (r : Refusal) (f : Fault) → check_of t ≡ code_of r → fault_in t ≡ f → judged {A = ⊤} (Err (record { refusal = r; fault = f })) ≡ replying t (check_answer t)
  judged_placed r f k e = replies t (ap refusal (sym k)) (sym e)

  pub judged_order : check_of t ≡ 0 → judged {A = ⊤} (Ok tt) ≡ replying t (check_answer t)
  judged_order k = replies t (ap refusal (sym k)) (sym (fault_other t (λ z. omega arith) (λ z. omega arith)))

  pub judged_ok : judged {A = ⊤} (Ok tt) ≡ replying t (check_answer t) → InOrder t
  judged_ok h = sym (ap (λ (r : Reply). r.answer.number) h)

  pub judged_err : (e : Refused) → judged {A = ⊤} (Err e) ≡ replying t (check_answer t) → (check_of t ≡ 0 → ⊥) × (code_of e.refusal ≡ check_of t) × (e.fault ≡ fault_in t)
  judged_err e h = let k : code_of e.refusal ≡ check_of t = ap (λ (r : Reply). r.answer.number) h in (λ z. code_some e.refusal (k ∙ z), k, ap (λ (r : Reply). r.fault) h)

  pub judged_refused : (r : Result ⊤ Refused) → is_err r ≡ true → judged r ≡ replying t (check_answer t) → check_of t ≡ 0 → ⊥
  judged_refused (Ok x) e h = cc
  judged_refused (Err d) e h = (judged_err d h).0

  pub judged_taken : (r : Result ⊤ Refused) → is_err r ≡ false → judged r ≡ replying t (check_answer t) → InOrder t
  judged_taken (Ok x) e h = judged_ok h
  judged_taken (Err d) e h = cc

-- the tests behind 2 and 3
module _ (t : List ℕ) where
  two_fault : check_of t ≡ 2 → first_fault t < count_of t
  unfolding check_of
  two_fault h = go (missized t) (ltb (first_fault t) (count_of t)) refl (ltb (first_repeat t) (count_of t)) h
    where
      go : (a b : Bool) → ltb (first_fault t) (count_of t) ≡ b → (c : Bool) → earns a 1 (earns b 2 (earns c 3 0)) ≡ 2 → first_fault t < count_of t
      go true b e c h = let z : ⊥ = omega arith in absurd z
      go false true e c h = ltb-true (first_fault t) (count_of t) e
      go false false e true h = let z : ⊥ = omega arith in absurd z
      go false false e false h = let z : ⊥ = omega arith in absurd z

  three_repeat : check_of t ≡ 3 → first_repeat t < count_of t
  unfolding check_of
  three_repeat h = go (missized t) (ltb (first_fault t) (count_of t)) (ltb (first_repeat t) (count_of t)) refl h
    where
      go : (a b c : Bool) → ltb (first_repeat t) (count_of t) ≡ c → earns a 1 (earns b 2 (earns c 3 0)) ≡ 3 → first_repeat t < count_of t
      go true b c e h = let z : ⊥ = omega arith in absurd z
      go false true c e h = let z : ⊥ = omega arith in absurd z
      go false false true e h = ltb-true (first_repeat t) (count_of t) e
      go false false false e h = let z : ⊥ = omega arith in absurd z

-- the first field at fault of a record, as a statement
module _ (r : List ℕ) where
  bad : ℕ → Bool
  bad f = not (field_good r f)

  fault_field : fault_of r < field_count → (field_good r (fault_of r) ≡ false) × ((f : ℕ) → f < fault_of r → field_good r f ≡ true)
  unfolding fault_of bad
  fault_field h = (not-true (field_good r (fault_of r)) (from_some bad 0 field_count (omega arith)), λ f l. not-false (field_good r f) (first_before bad field_count f l))

  field_fault : (f : ℕ) → f < field_count → field_good r f ≡ false → ((g : ℕ) → g < f → field_good r g ≡ true) → fault_of r ≡ f
  unfolding fault_of bad
  field_fault f h e b = first_is bad field_count f h (ap not e) (λ g l. ap not (b g l))

-- 2's place
module _ (t : List ℕ) where
  fault_at : first_fault t < count_of t → FaultAt t (first_fault t) (fault_of (record_at t (first_fault t)))
  unfolding first_fault
  fault_at h =
      let n = is_faulty t (first_fault t) (from_some (faulty t) 0 (count_of t) (omega arith)) in
      let w = fault_field (record_at t (first_fault t)) n in
      record {
        there = h;
        known = n;
        fault = w.0;
        fields = w.1;
        records = λ i f l m. none_fault (record_at t i) (not_faulty t i (first_before (faulty t) (count_of t) i l)) f m;
      }

  at_fault : (i f : ℕ) → FaultAt t i f → (first_fault t ≡ i) × (fault_of (record_at t i) ≡ f)
  unfolding first_fault
  at_fault i f w =
      let e = field_fault (record_at t i) f w.known w.fault w.fields in (
        first_is (faulty t) (count_of t) i w.there (faulty_is t i (omega (arith, e, w.known))) (λ k l. faulty_not t k (omega (arith, fault_none (record_at t k) (λ g m. w.records k g l m)))),
        e,
      )

  -- Theorem: at 2 the fault of a table is the one place whose field is at fault with none before it, in the record or in an earlier one
  pub place_two : check_of t ≡ 2 → (i f : ℕ) → FaultAt t i f ↔ (fault_in t ≡ record { index = i; field = f })
  place_two h i f = (there, back)
    where
      there : FaultAt t i f → fault_in t ≡ record { index = i; field = f }
      there w =
          let e = at_fault i f w in
          fault_two t h ∙ λ j. record { index = e.0 j; field = (ap (λ (k : ℕ). fault_of (record_at t k)) e.0 ∙ e.1) j }

      back : fault_in t ≡ record { index = i; field = f } → FaultAt t i f
      back e =
          let p : fault_place t ≡ record { index = i; field = f } = sym (fault_two t h) ∙ e in
          rw (← ap (λ (x : Fault). x.index) p, ← ap (λ (x : Fault). x.field) p) (fault_at (two_fault t h))

-- 3's place
module _ (t : List ℕ) where
  repeat_at : first_repeat t < count_of t → RepeatAt t (first_repeat t)
  unfolding first_repeat
  repeat_at h =
      let w = repeat_twins t (first_repeat t) (from_some (repeats t) 0 (count_of t) (omega arith)) in
      record { there = h; earlier = w.0; twins = w.1; none = λ i j l w. clash (twins_repeat t i j w) (first_before (repeats t) (count_of t) j l) }

  at_repeat : (i : ℕ) → RepeatAt t i → first_repeat t ≡ i
  unfolding first_repeat
  at_repeat i w =
      first_is (repeats t) (count_of t) i w.there (twins_repeat t w.earlier i w.twins) (λ k l. refuted (repeats t k) (λ e. let v = repeat_twins t k e in w.none v.0 k l v.1))

  -- Theorem: at 3 it is the owner of the one DNAME that has an earlier twin while none at a smaller index has
  pub place_three : check_of t ≡ 3 → (i : ℕ) → RepeatAt t i ↔ (fault_in t ≡ record { index = i; field = owner_field })
  place_three h i = (λ w. fault_three t h ∙ λ j. record { index = at_repeat i w j; field = owner_field }, back)
    where
      back : fault_in t ≡ record { index = i; field = owner_field } → RepeatAt t i
      back e = rw (← ap (λ (x : Fault). x.index) (sym (fault_three t h) ∙ e)) (repeat_at (three_repeat t h))

-- Theorem: what an operation on a table hands on may be relied on, where it judges the table first and earns neither 2 nor 3 by itself
pub placed : (t : List ℕ) (later : ℕ) → (later ≡ 2 → ⊥) → (later ≡ 3 → ⊥) → Placed t (or_else (check_of t) later) (fault_in t)
placed t later a b = record {
  two = λ h. (place_two t (else_from 2 (check_of t) later (λ z. omega arith) a h) (fault_in t).index (fault_in t).field).1 refl;
  three = three;
  other = λ h k. fault_other t (λ e. h (else_to 2 (check_of t) later (λ z. omega arith) e)) (λ e. k (else_to 3 (check_of t) later (λ z. omega arith) e));
}
  where
    three : or_else (check_of t) later ≡ 3 → RepeatAt t (fault_in t).index × ((fault_in t).field ≡ owner_field)
    three h =
        let c = else_from 3 (check_of t) later (λ z. omega arith) b h in
        let e = fault_three t c in
        let f = ap (λ (x : Fault). x.field) e in
        ((place_three t c (fault_in t).index).1 (λ j. record { index = (fault_in t).index; field = f j }), f)
