-- `a6plan::a6plan_standard` meets its contract: the answer and the output of the operation, reported.
use lib.ListN.{length}
use Rattle.a6plan.specs.Exports.{of_name}
use Rattle.a6plan.proofs.ExportLaws.{refuses_name, answered}
use Rattle.a6plan.proofs.a6plan_standard.Goals as goal

pub returns : goal.returns
returns c =
    let t = c.report_answer in
    let a = c.args in
    let y = answered of_name refuses_name (length a.figures.now) _ _ _ (length a.out.now) _ _ _ _ _ _ (c.standard_form.ensures.value, c.standard_form.ensures.out_after) c.standard_form.auto.out (t.ensures.number, (t.ensures.output, t.ensures.figured)) in
    record { number = y.0; output = y.1.0; figured = y.1.1 }
