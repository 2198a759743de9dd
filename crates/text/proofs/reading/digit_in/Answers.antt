-- `text::reading::digit_in` meets its contract.
use mathlib.Core.Path.{ap, sym}
use native.Mathlib.Omega.{arith}
use Rattle.text.specs.Digits.{digit_in}
use Rattle.text.proofs.reading.digit_in.Goals as goal

pub returns-then-c-eq58 : goal.returns-then-c-eq58
unfolding digit_in
returns-then-c-eq58 c = (sym (ap digit_in c.if-c-eq58.true), omega arith)

pub hexadecimal-requires : goal.hexadecimal-requires
hexadecimal-requires c = c.if-c-eq58.false

pub returns-else-c-eq58 : goal.returns-else-c-eq58
returns-else-c-eq58 c = c.hexadecimal.ensures
