-- `nametext::reading::hex_end` meets its contract.
use borrow.Author.Rules.{rules}
use Rattle.text.specs.Digits.{is_hex}
use Rattle.nametext.proofs.reading.hex_end.Goals as goal

pub returns : goal.returns
returns c = c.pass.ensures is_hex (λ x l b p. search rules)
