-- `a6plan::write_from` meets its contract: 5 in front, then the answer and the output of the writer.
use Rattle.std.proofs.Common.{◌≡◌, true, length, ap, ◌∙◌}
use Rattle.a6.proofs.AcceptedLaws.{same_answer, same_out}
use Rattle.a6plan.specs.Exports.{value_in, misfit}
use Rattle.a6plan.proofs.ExportLaws.{fitting, misfit_value, misfit_figures, unwritten, written}
use Rattle.a6plan.proofs.write_from.Goals.{in_default-via-in-Some+else-figures-eq2, in_default-via-in_default}
use Rattle.a6plan.proofs.write_from.Goals as goal

pub returns-in-Some : goal.returns-in-Some
returns-in-Some c =
    let w = c.in-Some.ensures.cases in
    let v = c.value_in.ensures ∙ ap value_in w.same in
    let o = c.lay-outcome.ensures in
    let m = length c.args.out.now in
    let y = written _ _ _ _ _ (fitting _ _ w.long c.if-figures-eq2.true) (o.value ∙ same_answer _ _ c.args.before m v, o.out_after ∙ same_out _ _ c.args.before m v) (c.figure.ensures.number, c.figure.ensures.figured) in
    record { number = y.0; output = y.1.0; figured = y.1.1 }

pub returns-in_default : goal.returns-in_default
returns-in_default c =
    let m = length c.args.octets.now in
    let n = length c.args.figures.now in
    let t : misfit m n ≡ true = elim c.in_default.branch [
      | in_default-via-in-Some+else-figures-eq2 w ↦ misfit_figures m n w.in-Some.ensures.cases.long w.if-figures-eq2.false
      | in_default-via-in_default w ↦ misfit_value m n w.in_default.ensures.cases
    ] in
    let y = unwritten m n _ _ _ t c.clear.ensures c.clear-in_default.ensures in
    rw c.number.ensures (record { number = y.0; output = y.1.0; figured = y.1.1 })
