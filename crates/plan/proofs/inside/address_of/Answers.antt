-- `plan::inside::address_of` meets its contract.
use borrow.Author.Rules.{rules}
use Rattle.plan.specs.Layout.{address_of}
use Rattle.plan.proofs.inside.address_of.Goals as goal

pub returns : goal.returns
unfolding address_of
returns c = search rules
