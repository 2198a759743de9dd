-- `a6plan::a6plan_reverse` meets its contract: the answer and the output of the operation, reported.
use lib.ListN.{length}
use Rattle.a6plan.proofs.ExportLaws.{reported}
use Rattle.a6plan.proofs.a6plan_reverse.Goals as goal

pub returns : goal.returns
returns c =
    let t = c.report in
    let a = c.args in
    let o = c.lookup in
    let y = reported a.table.now (length a.figures.now) _ _ _ (length a.out.now) _ _ _ _ _ _ (o.ensures.reply, o.ensures.output) o.auto.out (t.ensures.number, (t.ensures.output, t.ensures.figured)) in
    record { number = y.0; output = y.1.0; figured = y.1.1 }
