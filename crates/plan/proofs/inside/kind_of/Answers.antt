-- `plan::inside::kind_of` meets its contract.
use borrow.Author.Rules.{rules}
use Rattle.plan.specs.Layout.{type_of}
use Rattle.plan.proofs.inside.kind_of.Goals as goal

pub returns : goal.returns
unfolding type_of
returns c = search rules
