-- `plan::check` meets its contract: each way out is a number, and the place that goes with it.
use mathlib.Core.Path.{◌∙◌, sym}
use native.Mathlib.Omega.{arith}
use Rattle.octets.specs.declared.Refusal.TheVariants.{Length, Record, Repeat}
use Rattle.plan.specs.Check.{owner_field}
use Rattle.plan.proofs.OrderLaws.{number_length, number_many, number_fault, number_repeat, number_none}
use Rattle.plan.proofs.PlaceLaws.{fault_two, fault_three, judged_placeless, judged_placed, judged_order}
use Rattle.plan.proofs.check.Goals as goal

pub returns-then-table-ne0 : goal.returns-then-table-ne0
returns-then-table-ne0 c = let t = c.args.table.now in judged_placeless t Length _ c.from.ensures (number_length t c.if-table-ne0.true) (λ h. omega arith) (λ h. omega arith)

pub returns-then-n-gt-MAX_RECORDS : goal.returns-then-n-gt-MAX_RECORDS
returns-then-n-gt-MAX_RECORDS c =
    let t = c.args.table.now in
    let n = c.count-n.ensures in
    judged_placeless t Length _ c.from-then-n-gt-MAX_RECORDS.ensures (number_many t c.if-table-ne0.false (omega arith)) (λ h. omega arith) (λ h. omega arith)

pub returns-in-Some : goal.returns-in-Some
returns-in-Some c =
    let t = c.args.table.now in
    let n = c.count-n.ensures in
    let f = c.in-Some.ensures in
    let e = number_fault t c.if-table-ne0.false (omega (arith, n, c.if-n-gt-MAX_RECORDS.false)) f.1 in
    judged_placed t Record _ e (fault_two t e ∙ sym f.0)

pub returns-in-Some-first_repeat : goal.returns-in-Some-first_repeat
returns-in-Some-first_repeat c =
    let t = c.args.table.now in
    let n = c.count-n.ensures in
    let f = c.in-Some-first_repeat.ensures in
    let e = number_repeat t c.if-table-ne0.false (omega (arith, n, c.if-n-gt-MAX_RECORDS.false)) (omega (arith, c.in_default.ensures)) (omega (arith, f.0, f.1)) in
    judged_placed t Repeat _ e (fault_three t e ∙ λ j. record { index = sym f.0 j; field = owner_field })

pub returns : goal.returns
returns c =
    let t = c.args.table.now in
    let n = c.count-n.ensures in
    judged_order t (number_none t c.if-table-ne0.false (omega (arith, n, c.if-n-gt-MAX_RECORDS.false)) (omega (arith, c.in_default.ensures)) (omega (arith, c.in_default-first_repeat.ensures)))
