-- `a6plan::a6plan_lookup` meets its contract: the answer and both lists of the operation, reported.
use mathlib.Core.Path.{ap}
use lib.ListN.{length}
use Rattle.plan.specs.Faults.{replied}
use Rattle.plan.specs.declared.Reply.{Reply}
use Rattle.a6plan.specs.Exports.{of_table}
use Rattle.a6plan.proofs.ExportLaws.{refuses_table, exported_out, reported}
use Rattle.a6plan.proofs.a6plan_lookup.Goals as goal

pub returns : goal.returns
returns c =
    let t = c.report in
    let o = c.lookup-outcome in
    let a = c.args in
    let n = length a.figures.now in
    let m = reported a.table.now n _ _ _ (length a.out.now) _ _ _ _ _ _ (o.ensures.reply, o.ensures.output) o.auto.out (t.ensures.number, (t.ensures.output, t.ensures.figured)) in
    let l = exported_out of_table n _ _ _ (replied o.result).answer t.result (ap (λ (r : Reply). r.answer) o.ensures.reply) t.ensures.number refuses_table (length a.ttls.now) _ _ _ o.ensures.lifetimes o.auto.ttls c.keep.ensures in record { number = m.0; output = m.1.0; lifetimes = l; figured = m.1.1 }
