-- `plan::is_a6` meets its contract: a record in order is one of its length without a fault.
use native.Mathlib.Omega.{arith}
use mathlib.Core.Path.{◌≡◌, refl, ap, ◌∙◌, sym}
use Prim.Native.Nat.{◌<◌}
use mathlib.Core.Bool.{true, false, not}
use Rattle.std.specs.Prelude.{Option, Some, None}
use Rattle.std.specs.Option.{is_some}
use Rattle.plan.specs.declared.Field.{Field}
use Rattle.plan.specs.Faults.{field_number}
use Rattle.plan.proofs.FaultLaws.{number_known}
use Rattle.plan.specs.Layout.{is_a6}
use Rattle.plan.specs.Check.{field_count, fault_of}
use Rattle.plan.proofs.FieldLaws.{one_length, one_fault, one_type}
use Rattle.plan.proofs.is_a6.Goals as goal

-- an option with a field, and one without
field_some : (o : Option Field) → is_some o ≡ true → field_number o < field_count
field_some (Some f) e = number_known f
field_some None e = cc

field_none : (o : Option Field) → is_some o ≡ false → field_number o ≡ field_count
field_none (Some f) e = cc
field_none None e = refl

pub returns-in-None : goal.returns-in-None
returns-in-None c = sym (one_length c.args.row.now c.in-None.ensures.cases)

pub returns-else-is_none : goal.returns-else-is_none
returns-else-is_none c =
    let n = field_some c.first_field.result (c.is_none.ensures ∙ ap not c.if-is_none.false) in
    let w = c.first_field.ensures ∙ ap fault_of c.in-Some.ensures.cases.same in
    c.if-is_none.false ∙ sym (one_fault c.args.row.now (λ e. omega (arith, n, w, e)))

pub returns-then-is_none : goal.returns-then-is_none
returns-then-is_none c =
    let r = c.args.row.now in
    let w = c.in-Some.ensures.cases in
    let f = sym (c.first_field.ensures ∙ ap fault_of w.same) ∙ field_none c.first_field.result (c.is_none.ensures ∙ ap not c.if-is_none.true) in
    c.is_a6.ensures ∙ ap is_a6 w.same ∙ sym (one_type r w.long f)
