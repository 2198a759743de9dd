-- `plan::inside::zero_of` meets its contract.
use borrow.Author.Rules.{rules}
use Rattle.plan.specs.Layout.{zero_of}
use Rattle.plan.proofs.inside.zero_of.Goals as goal

pub returns : goal.returns
unfolding zero_of
returns c = search rules
