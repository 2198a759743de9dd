-- `plan::inside::owner_part` meets its contract.
use native.Mathlib.Omega.{arith}
use Rattle.plan.specs.Layout.{count_of}
use Rattle.plan.specs.Part.{owner_within}
use Rattle.plan.proofs.inside.owner_part.Goals as goal

pub overflow_mul-result : goal.overflow_mul-result
unfolding count_of
overflow_mul-result c = omega arith

pub overflow_add-result-2 : goal.overflow_add-result-2
unfolding count_of
overflow_add-result-2 c = omega arith

pub returns : goal.returns
unfolding owner_within
returns c = rw c.owner-name.ensures
