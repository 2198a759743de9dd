-- `nametext::reading::run_size` meets its contract.
use mathlib.Core.Path.{ap, sym, ◌∙◌}
use native.Mathlib.Omega.{arith}
use Rattle.nametext.specs.Places.{run_size}
use Rattle.nametext.proofs.JudgeLaws.{run_none, run_some}
use Rattle.nametext.proofs.reading.run_size.Goals as goal

pub returns-then-run-eq0 : goal.returns-then-run-eq0
returns-then-run-eq0 c = (sym (ap run_size c.if-run-eq0.true ∙ run_none), omega arith)

pub returns-else-run-eq0 : goal.returns-else-run-eq0
returns-else-run-eq0 c = rw c.octets_for.ensures (sym (run_some c.args.run c.if-run-eq0.false), omega (arith, c.requires))
