-- `nametext::reading::plain_end` meets its contract.
use mathlib.Core.Path.{◌∙◌}
use native.Mathlib.Nat.{zero-add}
use borrow.Author.Rules.{rules}
use Rattle.nametext.specs.Characters.{is_plain}
use Rattle.nametext.proofs.reading.plain_end.Goals as goal

pub returns : goal.returns
returns c = c.pass.ensures is_plain (λ x l b p. search rules) ∙ zero-add _
