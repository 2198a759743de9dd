-- `nametext::inside::nibble` meets its contract.
use mathlib.Core.Path.{sym}
use borrow.Author.Rules.{rules}
use Rattle.nametext.proofs.WriterLaws.{nibble_left, nibble_right}
use Rattle.nametext.proofs.inside.nibble.Goals as goal

pub returns-then-i-eq0 : goal.returns-then-i-eq0
returns-then-i-eq0 c = (sym (nibble_left c.args.x c.args.i c.if-i-eq0.true), search rules)

pub returns-else-i-eq0 : goal.returns-else-i-eq0
returns-else-i-eq0 c = (sym (nibble_right c.args.x c.args.i c.if-i-eq0.false), search rules)
