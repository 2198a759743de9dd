-- T-04, which record: what the night desk relies on, of the definitions that the running functions meet (Demand1) and of the exports themselves.
use Prim.Native.Nat.{ℕ, zero, suc, ◌+◌}
use mathlib.Core.Path.{◌≡◌, refl, ◌∙◌, sym}
use mathlib.Core.Bool.{not}
use mathlib.Core.List.{List}
use mathlib.Core.Logic.{◌↔◌}
use lib.Dec.{eqb}
use lib.ListN.{length, get_or}
use native.Mathlib.Omega.{arith}
use contract.Lifetimes.{Lfts}
use denote.Ref.{Bor}
use denote.MutBor.{MutBor}
use Rattle.octets.specs.Octets.{blank}
use Rattle.octets.specs.Answers.{earns, or_else, answer_by}
use Rattle.octets.proofs.AnswerLaws.{refused_out, by_number}
use Rattle.labels.specs.Scan.{well_formed}
use Rattle.plan.specs.Layout.{address_size}
use Rattle.plan.specs.Check.{owner_field, check_of, entry_number}
use Rattle.plan.specs.Faults.{fault_in, replying, replied, judged, FaultAt, RepeatAt, Placed}
use Rattle.plan.specs.declared.Fault.{Fault}
use Rattle.octets.specs.declared.Done.{Done}
use Rattle.plan.specs.declared.Refused.{Refused}
use Rattle.plan.specs.declared.Reply.{Reply}
use Rattle.std.specs.Prelude.{Result}
use Rattle.plan.proofs.PlaceLaws.{place_two, place_three, fault_other}
use Rattle.plan.proofs.check.Reads as plan_check
use Rattle.forward.proofs.lookup.Reads as forward
use Rattle.reverse.proofs.lookup.Reads as reversed
use Rattle.collapse.proofs.collapse.Reads as collapsed
use Rattle.a6plan.specs.Exports.{of_check, of_table, exported_number, placed_figures, fault_figures, reply_figures}
use Rattle.a6plan.proofs.ExportLaws.{exported_fit, placed_all, placed_none}
use Rattle.a6plan.proofs.FifthLaws.{fifth_check, fifth_lookup, fifth_reverse, fifth_collapse, fifth_standard, fifth_owner}
use Rattle.a6plan.proofs.a6plan_standard.Reads as a6plan-standard
use Rattle.a6plan.proofs.a6plan_owner.Reads as a6plan-owner
use Rattle.a6plan.proofs.a6plan_check.Reads as a6plan-check
use Rattle.a6plan.proofs.a6plan_lookup.Reads as a6plan-lookup
use Rattle.a6plan.proofs.a6plan_reverse.Reads as a6plan-reverse
use Rattle.a6plan.proofs.a6plan_collapse.Reads as a6plan-collapse
use Rattle.demands.proofs.Places.{check_placed, lookup_placed, reverse_placed, collapse_placed}

-- ---- the fault of a table
-- at 2: this field of this record is at fault, every record before it is in order and every field before it in the record; and no other place is so
pub two : (t : List ℕ) → check_of t ≡ 2 → (i f : ℕ) → FaultAt t i f ↔ (fault_in t ≡ record { index = i; field = f })
two = place_two

-- at 3: the DNAME at the index has an earlier twin, and none at a smaller index has; and of no other index is this true
pub three : (t : List ℕ) → check_of t ≡ 3 → (i : ℕ) → RepeatAt t i ↔ (fault_in t ≡ record { index = i; field = owner_field })
three = place_three

-- at 0 and 1: zeros
pub none : (t : List ℕ) → (check_of t ≡ 2 → ⊥) → (check_of t ≡ 3 → ⊥) → fault_in t ≡ record { index = 0; field = 0 }
none = fault_other

-- a reply has its number and its fault
numbered : (t : List ℕ) (k count work : ℕ) {r : Reply} → r ≡ replying t (answer_by k count work) → Placed t k (fault_in t) → Placed t r.answer.number r.fault
numbered t k count work e p = rw (e, by_number k count work) p

-- ---- each operation on a table hands the fault on
-- of the reply of `plan::check`, as its caller learns it: at 2 and at 3 the fault is the place, and with any other number zeros
pub check : (κs : Lfts 1) (table : Bor (List ℕ)) (r : Result (Unit {0}) Refused) → plan_check.Learnt κs (table, tt) r (table, tt) → Placed table.now (judged r).answer.number (judged r).fault
check κs table r l = rw l (check_placed table.now)

-- so of the reply of `forward::lookup`
pub lookup : (κs : Lfts 4) (table name : Bor (List ℕ)) (out end ttls left : MutBor (List ℕ)) (limit : ℕ) (r : Result Done Refused)
    → forward.Learnt κs (table, (name, (limit, (out, (ttls, tt))))) r (table, (name, (limit, (end, (left, tt))))) → Placed table.now (replied r).answer.number (replied r).fault
lookup κs table name out end ttls left limit r l = numbered table.now _ _ _ l.0 (lookup_placed table.now name.now limit (length out.now) (length ttls.now))

-- so of the reply of `reverse::lookup`
pub reverse : (κs : Lfts 3) (table address : Bor (List ℕ)) (out end : MutBor (List ℕ)) (limit : ℕ) (r : Result Done Refused)
    → reversed.Learnt κs (table, (address, (limit, (out, tt)))) r (table, (address, (limit, (end, tt)))) → Placed table.now (replied r).answer.number (replied r).fault
reverse κs table address out end limit r l = numbered table.now _ _ _ l.0 (reverse_placed table.now address.now limit (length out.now))

-- so of the reply of `collapse::collapse`
pub collapse : (κs : Lfts 3) (table name : Bor (List ℕ)) (out end : MutBor (List ℕ)) (r : Result Done Refused)
    → collapsed.Learnt κs (table, (name, (out, tt))) r (table, (name, (end, tt))) → Placed table.now (replied r).answer.number (replied r).fault
collapse κs table name out end r l = numbered table.now _ _ _ l.0 (collapse_placed table.now name.now (length out.now))

-- ---- and so at the C interface
-- index and field among figures, from a place on
abbrev pub place_at : List ℕ → ℕ → Fault
place_at figures at = record { index = get_or figures at 0; field = get_or figures (at + 1) 0 }

-- of the number of `a6plan_check` and its two figures: at 2 and at 3 they are the place, and with any other number zeros
pub export_check : (κs : Lfts 2) (table : Bor (List ℕ)) (figures figured : MutBor (List ℕ)) (r : ℕ)
    → a6plan-check.Learnt κs (table, (figures, tt)) r (table, (figured, tt)) → length figures.now ≡ 2 → Placed table.now r (place_at figured.now 0)
export_check κs table figures figured r l h =
    let t = table.now in
    let e : r ≡ check_of t = l.0 ∙ exported_fit of_check (length figures.now) (check_of t) h in
    let f : figured.now ≡ fault_figures (fault_in t) = l.1 ∙ sym (placed_all (fault_figures (fault_in t)) (length figures.now) h) in
    rw (e, f) (check_placed t)

-- of an operation whose number is k and which has four figures
four : (t : List ℕ) (n k count work r : ℕ) {figures : List ℕ} → r ≡ exported_number of_table n k → figures ≡ placed_figures (reply_figures (replying t (answer_by k count work))) n
    → n ≡ 4 → Placed t k (fault_in t) → Placed t r (place_at figures 2)
four t n k count work r e f h p = rw (e ∙ exported_fit of_table n k h, f ∙ sym (placed_all _ n h)) p

-- so of the number of `a6plan_lookup` and the last two of its four figures
pub export_lookup : (κs : Lfts 5) (table name : Bor (List ℕ)) (limit : ℕ) (out end ttls left figures figured : MutBor (List ℕ)) (r : ℕ)
    → a6plan-lookup.Learnt κs (table, (name, (limit, (out, (ttls, (figures, tt)))))) r (table, (name, (limit, (end, (left, (figured, tt))))))
    → length figures.now ≡ 4 → Placed table.now r (place_at figured.now 2)
export_lookup κs table name limit out end ttls left figures figured r l h =
    four table.now _ _ _ _ r l.0 l.1.1.1 h (lookup_placed table.now name.now limit (length out.now) (length ttls.now))

-- so of `a6plan_reverse`
pub export_reverse : (κs : Lfts 4) (table address : Bor (List ℕ)) (limit : ℕ) (out end figures figured : MutBor (List ℕ)) (r : ℕ)
    → a6plan-reverse.Learnt κs (table, (address, (limit, (out, (figures, tt))))) r (table, (address, (limit, (end, (figured, tt)))))
    → length figures.now ≡ 4 → Placed table.now r (place_at figured.now 2)
export_reverse κs table address limit out end figures figured r l h =
    four table.now _ _ _ _ r l.0 l.1.1 h (reverse_placed table.now address.now limit (length out.now))

-- so of `a6plan_collapse`
pub export_collapse : (κs : Lfts 4) (table name : Bor (List ℕ)) (out end figures figured : MutBor (List ℕ)) (r : ℕ)
    → a6plan-collapse.Learnt κs (table, (name, (out, (figures, tt)))) r (table, (name, (end, (figured, tt))))
    → length figures.now ≡ 4 → Placed table.now r (place_at figured.now 2)
export_collapse κs table name out end figures figured r l h =
    four table.now _ _ _ _ r l.0 l.1.1 h (collapse_placed table.now name.now (length out.now))

-- ---- figures of another length
refuses_five : (k : ℕ) → or_else k 5 ≡ 0 → ⊥
refuses_five zero e = omega arith
refuses_five (suc k) e = omega arith

-- `a6plan_check` with figures that are not two gives what the table earns, or else 5, and zeros in all that was lent
pub misfit_check : (κs : Lfts 2) (table : Bor (List ℕ)) (figures figured : MutBor (List ℕ)) (r : ℕ)
    → a6plan-check.Learnt κs (table, (figures, tt)) r (table, (figured, tt)) → (length figures.now ≡ 2 → ⊥)
    → (r ≡ or_else (check_of table.now) 5) × (figured.now ≡ blank (length figures.now))
misfit_check κs table figures figured r l h = (l.0 ∙ fifth_check table.now (length figures.now) h, l.1 ∙ sym (placed_none _ _ h))

-- `a6plan_lookup` with figures that are not four gives what the table and the name earn, or else 5, and zeros in all that was lent
pub misfit_lookup : (κs : Lfts 5) (table name : Bor (List ℕ)) (limit : ℕ) (out end ttls left figures figured : MutBor (List ℕ)) (r : ℕ)
    → a6plan-lookup.Learnt κs (table, (name, (limit, (out, (ttls, (figures, tt)))))) r (table, (name, (limit, (end, (left, (figured, tt)))))) → (length figures.now ≡ 4 → ⊥)
    → (r ≡ or_else (entry_number table.now name.now) 5)
    × (end.now ≡ blank (length out.now)) × (left.now ≡ blank (length ttls.now)) × (figured.now ≡ blank (length figures.now))
misfit_lookup κs table name limit out end ttls left figures figured r l h =
    let e = l.0 ∙ fifth_lookup table.now name.now limit (length out.now) (length ttls.now) (length figures.now) h in
    let z : r ≡ 0 → ⊥ = λ f. refuses_five (entry_number table.now name.now) (sym e ∙ f) in
    (e, l.1.0 ∙ sym (refused_out r r refl z _ _), l.1.1.0 ∙ sym (refused_out r r refl z _ _), l.1.1.1 ∙ sym (placed_none _ _ h))

-- `a6plan_reverse` with figures that are not four gives what the table earns, or else 4 for the address, or else 5, and zeros in all that was lent
pub misfit_reverse : (κs : Lfts 4) (table address : Bor (List ℕ)) (limit : ℕ) (out end figures figured : MutBor (List ℕ)) (r : ℕ)
    → a6plan-reverse.Learnt κs (table, (address, (limit, (out, (figures, tt))))) r (table, (address, (limit, (end, (figured, tt))))) → (length figures.now ≡ 4 → ⊥)
    → (r ≡ or_else (or_else (check_of table.now) (earns (not (eqb (length address.now) address_size)) 4 0)) 5)
    × (end.now ≡ blank (length out.now)) × (figured.now ≡ blank (length figures.now))
misfit_reverse κs table address limit out end figures figured r l h =
    let e = l.0 ∙ fifth_reverse table.now address.now limit (length out.now) (length figures.now) h in
    (e, l.1.0 ∙ sym (refused_out r r refl (λ f. refuses_five (or_else (check_of table.now) (earns (not (eqb (length address.now) address_size)) 4 0)) (sym e ∙ f)) _ _), l.1.1 ∙ sym (placed_none _ _ h))

-- `a6plan_collapse` with figures that are not four gives what the table and the name earn, or else 5, and zeros in all that was lent
pub misfit_collapse : (κs : Lfts 4) (table name : Bor (List ℕ)) (out end figures figured : MutBor (List ℕ)) (r : ℕ)
    → a6plan-collapse.Learnt κs (table, (name, (out, (figures, tt)))) r (table, (name, (end, (figured, tt)))) → (length figures.now ≡ 4 → ⊥)
    → (r ≡ or_else (entry_number table.now name.now) 5) × (end.now ≡ blank (length out.now)) × (figured.now ≡ blank (length figures.now))
misfit_collapse κs table name out end figures figured r l h =
    let e = l.0 ∙ fifth_collapse table.now name.now (length out.now) (length figures.now) h in
    (e, l.1.0 ∙ sym (refused_out r r refl (λ f. refuses_five (entry_number table.now name.now) (sym e ∙ f)) _ _), l.1.1 ∙ sym (placed_none _ _ h))

-- `a6plan_standard` with figures that are not two gives 4 for a malformed name, or else 5; all that was lent is zero (`export_standard_clears`)
pub misfit_standard : (κs : Lfts 3) (name : Bor (List ℕ)) (out end figures figured : MutBor (List ℕ)) (r : ℕ)
    → a6plan-standard.Learnt κs (name, (out, (figures, tt))) r (name, (end, (figured, tt))) → (length figures.now ≡ 2 → ⊥) → r ≡ earns (not (well_formed name.now)) 4 5
misfit_standard κs name out end figures figured r l h = l.0 ∙ fifth_standard name.now (length out.now) (length figures.now) h

-- `a6plan_owner` with figures that are not two gives 5; all that was lent is zero (`export_owner_clears`)
pub misfit_owner : (κs : Lfts 2) (table : Bor (List ℕ)) (index : ℕ) (figures figured : MutBor (List ℕ)) (r : ℕ)
    → a6plan-owner.Learnt κs (table, (index, (figures, tt))) r (table, (index, (figured, tt))) → (length figures.now ≡ 2 → ⊥) → r ≡ 5
misfit_owner κs table index figures figured r l h = l.0 ∙ fifth_owner (length figures.now) h
