-- `plan::inside::row` meets its contract.
use native.Mathlib.Omega.{arith}
use borrow.Author.Rules.{rules}
use Rattle.plan.specs.Layout.{count_of, record_at}
use Rattle.plan.proofs.inside.row.Goals as goal

pub overflow_mul-a : goal.overflow_mul-a
unfolding count_of
overflow_mul-a c = omega arith

pub overflow_add-a : goal.overflow_add-a
unfolding count_of
overflow_add-a c = omega arith

pub slice_bounds-as_array-end : goal.slice_bounds-as_array-end
unfolding count_of
slice_bounds-as_array-end c = omega arith

pub returns : goal.returns
unfolding record_at count_of
returns c = search rules
