-- `line::reading::pass` meets its contract.
use borrow.Author.Rules.{rules}
use Rattle.line.specs.Words.{is_blank_octet}
use Rattle.line.specs.Walk.{passed}
use Rattle.line.proofs.reading.pass.Goals as goal

pub returns : goal.returns
unfolding passed
returns c = c.pass.ensures is_blank_octet (λ x l b p. search rules)
