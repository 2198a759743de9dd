-- `plan::inside::slot_for` meets its contract: the length, then the octets.
use mathlib.Core.Path.{◌≡◌, ◌∙◌}
use lib.ListN.{length}
use borrow.Author.Rules.{rules}
use Rattle.octets.specs.Octets.{blank}
use Rattle.plan.specs.Layout.{name_room}
use Rattle.plan.specs.Fields.{slot_for}
use Rattle.plan.proofs.SlotLaws.{slot_copied}
use Rattle.plan.proofs.inside.slot_for.Goals.{Start}
use Rattle.plan.proofs.inside.slot_for.Goals as goal

long : (s : Start) → length s.args.name.octets ≡ name_room
long s = search rules

pub returns : goal.returns
unfolding blank slot_for
returns c =
    c.copy.ensures ∙ slot_copied c.args.name.length c.args.name.octets (long (goal.at.returns c).Start)
