-- `collapse::link` meets its contract.
use mathlib.Core.Path.{ap, ◌∙◌}
use Rattle.plan.specs.Layout.{owner_slot}
use Rattle.collapse.specs.Running.{bucket_of}
use Rattle.collapse.proofs.LinkLaws.{linked_more}
use Rattle.collapse.proofs.link.Goals as goal

pub returns : goal.returns
returns c =
    let a = c.args in
    let w = c.requires in
    let b = c.bucket-b in
    linked_more a.table.now a.first.now a.next.now a.i b.result w.0 w.1 (b.ensures.0 ∙ ap bucket_of (c.owner_slot.ensures ∙ ap owner_slot c.row.ensures)) b.ensures.1 w.2
