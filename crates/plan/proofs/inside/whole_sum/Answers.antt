-- `plan::inside::whole_sum` meets its contract.
use native.Mathlib.Omega.{arith}
use Rattle.plan.proofs.MarkLaws.{sum_more}
use Rattle.plan.proofs.inside.whole_sum.Goals as goal

pub loop-k-preserved : goal.loop-k-preserved
loop-k-preserved c =
    let l = c.loop-k in
    (omega (arith, l.invariant.0, c.term-sum.ensures.0, sum_more c.args.slot.now l.k), omega (arith, l.invariant.1))
