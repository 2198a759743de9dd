-- `plan::inside::mark` meets its contract.
use Rattle.plan.specs.Marks.{mark_of}
use Rattle.plan.proofs.inside.mark.Goals as goal

pub returns : goal.returns
unfolding mark_of
returns c = rw c.sum_of-sum.ensures.0
