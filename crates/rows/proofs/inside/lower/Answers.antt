-- `rows::inside::lower` meets its contract.
use borrow.Author.Rules.{rules}
use Rattle.rows.specs.Rows.{lowered}
use Rattle.rows.proofs.inside.lower.Goals as goal

pub returns : goal.returns
unfolding lowered
returns c = search rules
