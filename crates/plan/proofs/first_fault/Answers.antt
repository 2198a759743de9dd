-- `plan::first_fault` meets its contract.
use mathlib.Core.Path.{refl, ◌≡◌, ap, ◌∙◌, sym}
use Prim.Native.Nat.{ℕ}
use mathlib.Core.Bool.{true}
use native.Mathlib.Omega.{arith}
use denote.Enum.Declared.{tag_of}
use Rattle.std.specs.Prelude.{Some}
use Rattle.plan.specs.contracts.Field.{the_type}
use Rattle.plan.specs.declared.Field.{Field}
use Rattle.plan.specs.declared.Field.TheVariants.{Kind, Prefix, Zero, Address, Owner, Target, Ttl}
use Rattle.plan.specs.Faults.{field_number}
use borrow.Author.Count.{below_more}
use Rattle.plan.specs.Layout.{record_at}
use Rattle.plan.specs.Check.{fault_of, faulty, first_fault}
use Rattle.plan.proofs.FirstLaws.{first_is, none_first}
use Rattle.plan.proofs.FaultLaws.{number_known}
use Rattle.plan.proofs.OrderLaws.{faulty_is, faulty_not}
use Rattle.plan.proofs.first_fault.Goals as goal

-- the number of a field, as the code gives it
number_tag : (f : Field) → tag_of the_type f ≡ field_number (Some f)
number_tag Kind = refl
number_tag Prefix = refl
number_tag Zero = refl
number_tag Address = refl
number_tag Owner = refl
number_tag Target = refl
number_tag Ttl = refl

pub returns-in-Some : goal.returns-in-Some
unfolding first_fault
returns-in-Some c =
    let t = c.args.table.now in
    let i = c.loop-index.index in
    let e = c.in-Some.ensures ∙ ap fault_of c.row.ensures in
    let f : faulty t i ≡ true = faulty_is t i (omega (arith, e, number_known c.in-Some.field)) in
    let n = first_is (faulty t) _ i (omega (arith, c.count-index-end.ensures)) f c.loop-index.invariant in
    ((λ j. record { index = sym n j; field = (number_tag c.in-Some.field ∙ e ∙ ap (λ (k : ℕ). fault_of (record_at t k)) (sym n)) j }), omega (arith, n, c.count-index-end.ensures))

pub loop-index-preserved : goal.loop-index-preserved
loop-index-preserved c =
    let t = c.args.table.now in
    let i = c.loop-index.index in
    below_more _ _ c.loop-index.invariant (faulty_not t i (omega (arith, c.in_default.ensures, ap fault_of c.row.ensures)))

pub returns : goal.returns
unfolding first_fault
returns c = none_first _ _ (λ i h. c.loop-index.invariant i (omega (arith, h, c.count-index-end.ensures)))
