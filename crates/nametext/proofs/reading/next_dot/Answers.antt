-- `nametext::reading::next_dot` meets its contract.
use mathlib.Core.Bool.{not}
use lib.Dec.{eqb}
use borrow.Author.Rules.{rules}
use Rattle.nametext.proofs.PlaceLaws.{dot_passed}
use Rattle.nametext.proofs.reading.next_dot.Goals as goal

pub returns : goal.returns
returns c = dot_passed c.args.text.now c.args.at c.pass.result c.requires (c.pass.ensures (λ x. not (eqb x 46)) (λ x l b p. search rules))
