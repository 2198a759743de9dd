-- `plan::type_good` meets its contract.
use mathlib.Core.Path.{◌∙◌, sym}
use Rattle.plan.specs.Check.{type_good}
use Rattle.plan.proofs.type_good.Goals as goal

pub returns-then-is_a6 : goal.returns-then-is_a6
unfolding type_good
returns-then-is_a6 c = let e = sym c.is_a6.ensures ∙ c.if-is_a6.true in c.if-is_a6.true ∙ sym (rw e)

pub returns-else-is_a6 : goal.returns-else-is_a6
unfolding type_good
returns-else-is_a6 c = let e = sym c.is_a6.ensures ∙ c.if-is_a6.false in sym (rw (e, ← c.is_dname.ensures))
