-- `plan::inside::first_sum` meets its contract.
use native.Mathlib.Omega.{arith}
use Rattle.plan.proofs.MarkLaws.{sum_eight}
use Rattle.plan.proofs.inside.first_sum.Goals as goal

pub returns : goal.returns
returns c = (
  sum_eight c.args.slot.now
      c.term.ensures.0 c.term-2.ensures.0 c.term-3.ensures.0
      c.term-4.ensures.0 c.term-5.ensures.0 c.term-6.ensures.0 c.term-7.ensures.0 c.term-8.ensures.0,
  omega arith,
)
