-- `plan::inside::sum_of` meets its contract.
use native.Mathlib.Omega.{arith}
use mathlib.Core.Path.{◌∙◌, sym}
use Rattle.plan.proofs.MarkLaws.{sum_short, sum_long}
use Rattle.plan.proofs.inside.sum_of.Goals as goal

pub returns-then-slot-lt32 : goal.returns-then-slot-lt32
returns-then-slot-lt32 c =
    let f = c.first_sum-front.ensures in
    (f.0 ∙ sym (sum_short c.args.slot.now c.if-slot-lt32.true), omega (arith, f.1))

pub returns : goal.returns
returns c =
    let f = c.whole_sum.ensures in
    (f.0 ∙ sym (sum_long c.args.slot.now c.if-slot-lt32.false), f.1)
