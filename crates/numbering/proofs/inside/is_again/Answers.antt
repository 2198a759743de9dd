-- `numbering::inside::is_again` meets its contract.
use mathlib.Core.Path.{ap, sym, ◌∙◌}
use Rattle.plan.specs.Layout.{owner_slot}
use Rattle.numbering.proofs.ListingLaws.{again_first, again_is}
use Rattle.numbering.proofs.inside.is_again.Goals as goal

pub returns-then-index-eq0 : goal.returns-then-index-eq0
returns-then-index-eq0 c = let a = c.args in sym (again_first a.table.now a.index c.if-index-eq0.true)

pub returns : goal.returns
returns c =
    let a = c.args in
    let p = c.owner_slot.ensures ∙ ap owner_slot c.row.ensures in
    let q = c.owner_slot-2.ensures ∙ ap owner_slot c.row-2.ensures in
    c.alike.ensures ∙ rw (p, q) (sym (again_is a.table.now a.index c.if-index-eq0.false))
