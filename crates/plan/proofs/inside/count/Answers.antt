-- `plan::inside::count` meets its contract.
use borrow.Author.Rules.{rules}
use Rattle.plan.specs.Layout.{count_of}
use Rattle.plan.proofs.inside.count.Goals as goal

pub returns : goal.returns
unfolding count_of
returns c = search rules
