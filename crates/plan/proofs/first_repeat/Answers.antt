-- `plan::first_repeat` meets its contract.
use mathlib.Core.Path.{◌∙◌, sym}
use native.Mathlib.Omega.{arith}
use Rattle.plan.specs.Check.{first_repeat}
use Rattle.plan.proofs.FirstLaws.{first_is, none_first}
use Rattle.plan.proofs.first_repeat.Goals as goal

pub returns-then-is_repeat : goal.returns-then-is_repeat
unfolding first_repeat
returns-then-is_repeat c =
    let l = c.loop-index in
    let h = l.invariant in
    (sym (first_is _ _ l.index (omega (arith, c.count-index-end.ensures)) (sym c.is_repeat.ensures ∙ c.if-is_repeat.true) h.none), omega (arith, c.count-index-end.ensures))

pub returns : goal.returns
unfolding first_repeat
returns c = none_first _ _ (λ i h. c.loop-index.invariant.none i (omega (arith, h, c.count-index-end.ensures)))
