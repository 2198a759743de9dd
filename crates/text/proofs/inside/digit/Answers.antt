-- `text::inside::digit` meets its contract.
use mathlib.Core.Path.{sym}
use native.Mathlib.Omega.{arith}
use Rattle.text.proofs.DigitLaws.{octet_figure, octet_letter}
use Rattle.text.proofs.inside.digit.Goals as goal

pub returns-then-d-lt10 : goal.returns-then-d-lt10
returns-then-d-lt10 c = sym (octet_figure c.args.d (omega arith))

pub returns-else-d-lt10 : goal.returns-else-d-lt10
returns-else-d-lt10 c = sym (octet_letter c.args.d (omega arith))
