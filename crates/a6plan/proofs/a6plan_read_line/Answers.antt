-- `a6plan::a6plan_read_line` meets its contract: the answer and the output of the operation, reported.
use lib.ListN.{length}
use Rattle.a6plan.specs.Exports.{of_line}
use Rattle.a6plan.proofs.ExportLaws.{refuses_line, answered}
use Rattle.a6plan.proofs.a6plan_read_line.Goals as goal

pub returns : goal.returns
returns c =
    let t = c.report_answer in
    let a = c.args in
    let y = answered of_line refuses_line (length a.figures.now) _ _ _ (length a.out.now) _ _ _ _ _ _ (c.read_line.ensures.value, c.read_line.ensures.out_after) c.read_line.auto.out (t.ensures.number, (t.ensures.output, t.ensures.figured)) in
    record { number = y.0; output = y.1.0; figured = y.1.1 }
