-- `plan::inside::target_slot` meets its contract.
use borrow.Author.Rules.{rules}
use Rattle.plan.specs.Layout.{target_slot}
use Rattle.plan.proofs.inside.target_slot.Goals as goal

pub returns : goal.returns
unfolding target_slot
returns c = search rules
