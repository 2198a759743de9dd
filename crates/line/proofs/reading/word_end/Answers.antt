-- `line::reading::word_end` meets its contract.
use borrow.Author.Rules.{rules}
use Rattle.line.specs.Walk.{not_blank, word_end}
use Rattle.line.proofs.reading.word_end.Goals as goal

pub returns : goal.returns
unfolding word_end not_blank
returns c = c.pass.ensures not_blank (λ x l b p. search rules)
