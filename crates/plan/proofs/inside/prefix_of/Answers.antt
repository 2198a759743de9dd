-- `plan::inside::prefix_of` meets its contract.
use borrow.Author.Rules.{rules}
use Rattle.plan.specs.Layout.{prefix_of}
use Rattle.plan.proofs.inside.prefix_of.Goals as goal

pub returns : goal.returns
unfolding prefix_of
returns c = search rules
