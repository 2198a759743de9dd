-- `a6plan::figure` meets its contract: the figures stand where the operation is done.
use Rattle.std.proofs.Common.{◌∙◌}
use Rattle.a6plan.proofs.ExportLaws.{figured_done, figured_refused}
use Rattle.a6plan.proofs.figure.Goals.{in-Ok, in-Err}
use Rattle.a6plan.proofs.figure.Goals as goal

pub returns-clause-figured : goal.returns-clause-figured
returns-clause-figured c =
    elim c.match-outcome.branch [
      | in-Ok w ↦
          let e = rw (w.outcome-is, c.match-outcome.auto.figures) at c.exported.ensures in
          rw w.in-Ok.is (figured_done c.args.earlier.now _ _ _ _ e (w.figures-is ∙ w.put_figures.ensures))
      | in-Err w ↦
          let e = rw (w.outcome-is, w.in-Err.is, c.match-outcome.auto.figures) at c.exported.ensures in
          rw w.in-Err.is (figured_refused c.args.earlier.now _ w.in-Err.field-0 _ e (w.figures-is ∙ w.clear.ensures))
    ]
