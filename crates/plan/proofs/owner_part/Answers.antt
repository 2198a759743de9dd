-- `plan::owner_part` meets its contract.
use native.Mathlib.Omega.{arith}
use mathlib.Core.Path.{◌∙◌, sym}
use Rattle.plan.proofs.PartLaws.{part_in, part_refused, part_past}
use Rattle.plan.proofs.PlaceLaws.{judged_refused, judged_taken}
use Rattle.plan.proofs.owner_part.Goals as goal

pub returns-then-is_err : goal.returns-then-is_err
returns-then-is_err c =
    let a = c.args in
    sym (part_refused a.table.now a.index (judged_refused a.table.now c.check.result (sym c.is_err.ensures.value ∙ c.if-is_err.true) c.check.ensures))

pub returns-then-count-index : goal.returns-then-count-index
returns-then-count-index c =
    let a = c.args in
    let o = judged_taken a.table.now c.check.result (sym c.is_err.ensures.value ∙ c.if-is_err.false) c.check.ensures in
    sym (part_past a.table.now a.index o (omega (arith, c.count.ensures)))

pub returns : goal.returns
returns c =
    let a = c.args in
    let o = judged_taken a.table.now c.check.result (sym c.is_err.ensures.value ∙ c.if-is_err.false) c.check.ensures in
    c.owner_part.ensures ∙ sym (part_in a.table.now a.index o (omega (arith, c.count.ensures)))
