-- `plan::mark_at` meets its contract.
use mathlib.Core.Path.{ap, ◌∙◌, sym}
use Rattle.plan.specs.Layout.{owner_slot, is_dname}
use Rattle.plan.specs.Marks.{mark_of}
use Rattle.plan.proofs.MarkLaws.{mark_dname, mark_other}
use Rattle.plan.proofs.mark_at.Goals as goal

pub returns-then-is_dname : goal.returns-then-is_dname
returns-then-is_dname c =
    let a = c.args in
    let d = sym (c.is_dname.ensures ∙ ap is_dname c.row-row.ensures) ∙ c.if-is_dname.true in
    c.mark.ensures ∙ ap mark_of (c.owner_slot.ensures ∙ ap owner_slot c.row-row.ensures) ∙ sym (mark_dname a.table.now a.index d)

pub returns : goal.returns
returns c =
    let a = c.args in
    sym (mark_other a.table.now a.index (sym (c.is_dname.ensures ∙ ap is_dname c.row-row.ensures) ∙ c.if-is_dname.false))
