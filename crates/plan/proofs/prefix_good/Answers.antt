-- `plan::prefix_good` meets its contract.
use mathlib.Core.Path.{◌∙◌, sym}
use Rattle.plan.specs.Check.{prefix_good}
use Rattle.plan.proofs.prefix_good.Goals as goal

pub returns-then-is_a6 : goal.returns-then-is_a6
unfolding prefix_good
returns-then-is_a6 c = let e = sym c.is_a6.ensures ∙ c.if-is_a6.true in rw c.prefix_of-prefix.ensures (sym (rw (prefix_good, e)))

pub returns : goal.returns
unfolding prefix_good
returns c = let e = sym c.is_a6.ensures ∙ c.if-is_a6.false in rw c.prefix_of-prefix.ensures (sym (rw (prefix_good, e)))
