-- `plan::inside::one_a6` meets its contract: the octets as a record, where the test takes them.
use mathlib.Core.Path.{◌∙◌, sym}
use Rattle.plan.proofs.FieldLaws.{one_length}
use Rattle.plan.proofs.inside.one_a6.Goals as goal

pub returns-in_err-whole : goal.returns-in_err-whole
returns-in_err-whole c = rw c.from_residual.ensures (one_length c.args.row.now c.in_err-whole.ensures.cases)

pub returns-then-not-is_a6 : goal.returns-then-not-is_a6
returns-then-not-is_a6 c = sym c.is_a6.ensures ∙ c.if-not-is_a6.true

pub returns : goal.returns
returns c = (c.in_ok-whole.ensures.cases.same, sym c.is_a6.ensures ∙ c.if-not-is_a6.false)
