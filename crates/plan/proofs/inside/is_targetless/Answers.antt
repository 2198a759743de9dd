-- `plan::inside::is_targetless` meets its contract.
use mathlib.Core.Path.{◌∙◌, sym}
use Rattle.plan.specs.Check.{targetless}
use Rattle.plan.proofs.inside.is_targetless.Goals as goal

pub returns-then-is_a6 : goal.returns-then-is_a6
unfolding targetless
returns-then-is_a6 c = let e = sym c.is_a6.ensures ∙ c.if-is_a6.true in sym (rw (e, ← c.prefix_of.ensures))

pub returns-else-is_a6 : goal.returns-else-is_a6
unfolding targetless
returns-else-is_a6 c = let e = sym c.is_a6.ensures ∙ c.if-is_a6.false in c.if-is_a6.false ∙ sym (rw e)
