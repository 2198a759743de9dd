-- `line::reading::stops` meets its contract.
use mathlib.Core.Path.{sym, ◌∙◌}
use lib.ListN.{length}
use native.Mathlib.Omega.{arith}
use borrow.Author.Tests.{le-leb}
use Rattle.line.proofs.WalkedLaws.{stops_end, stops_at}
use Rattle.line.proofs.reading.stops.Goals as goal

pub returns-then-body-at : goal.returns-then-body-at
returns-then-body-at c = le-leb (length c.args.body.now) c.args.at c.if-body-at.true ∙ sym (stops_end c.args.body.now c.args.at c.if-body-at.true)

pub returns-else-body-at : goal.returns-else-body-at
returns-else-body-at c = c.is_blank.ensures ∙ sym (stops_at c.args.body.now c.args.at (omega arith))
