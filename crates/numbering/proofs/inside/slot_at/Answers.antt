-- `numbering::inside::slot_at` meets its contract.
use mathlib.Core.Path.{ap, sym, ◌∙◌}
use Rattle.plan.specs.Layout.{owner_slot, target_slot}
use Rattle.numbering.proofs.HeldLaws.{slot_even, slot_odd}
use Rattle.numbering.proofs.inside.slot_at.Goals as goal

pub returns-then-place-eq0 : goal.returns-then-place-eq0
returns-then-place-eq0 c =
    let a = c.args in
    c.owner_slot.ensures ∙ ap owner_slot c.row-row.ensures ∙ sym (slot_even a.table.now a.place c.if-place-eq0.true)

pub returns : goal.returns
returns c =
    let a = c.args in
    c.target_slot.ensures ∙ ap target_slot c.row-row.ensures ∙ sym (slot_odd a.table.now a.place c.if-place-eq0.false)
