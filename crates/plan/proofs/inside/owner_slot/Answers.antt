-- `plan::inside::owner_slot` meets its contract.
use borrow.Author.Rules.{rules}
use Rattle.plan.specs.Layout.{owner_slot}
use Rattle.plan.proofs.inside.owner_slot.Goals as goal

pub returns : goal.returns
unfolding owner_slot
returns c = search rules
