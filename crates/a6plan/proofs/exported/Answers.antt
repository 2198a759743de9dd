-- `a6plan::exported` meets its contract: each way out is one law.
use Rattle.std.proofs.Common.{◌∙◌, sym, eq-eqb}
use Rattle.octets.proofs.BoolLaws.{clash}
use Rattle.a6plan.proofs.ExportLaws.{among_code, among_nought, exported_fit, exported_early, exported_late}
use Rattle.a6plan.proofs.exported.Goals.{in_default-via-in-Ok+else-n-wanted, in_default-via-in-Err+else-contains, then-n-wanted-2, else-n-wanted-2}
use Rattle.a6plan.proofs.exported.Goals as goal

pub returns-in-Ok : goal.returns-in-Ok
returns-in-Ok g c = rw c.in-Ok.is (sym (exported_fit _ c.args.n 0 c.if-n-wanted.true))

pub returns-in-Err : goal.returns-in-Err
returns-in-Err g c =
    elim c.if-n-wanted-2.branch [
      | then-n-wanted-2 w ↦ rw (c.number.ensures, c.in-Err.is) (sym (exported_fit _ c.args.n _ w.if-n-wanted-2.true))
      | else-n-wanted-2 w ↦ rw (c.number.ensures, c.in-Err.is) (sym (exported_early _ c.args.n _ w.if-n-wanted-2.false (sym (among_code c.in-Err.refusal c.args.earlier.now) ∙ sym w.contains.ensures.value ∙ sym w.value-is ∙ c.if-contains.true)))
    ]

pub returns-in_default : goal.returns-in_default
returns-in_default g c =
    elim c.in_default.branch [
      | in_default-via-in-Ok+else-n-wanted w ↦ rw (c.number-in_default.ensures, w.in-Ok.is) (sym (exported_late _ c.args.n 0 w.if-n-wanted.false (among_nought c.args.earlier.now)))
      | in_default-via-in-Err+else-contains w ↦ elim w.if-n-wanted-2.branch [
        | then-n-wanted-2 v ↦ absurd (clash (v.value-is ∙ eq-eqb c.args.n c.args.wanted v.if-n-wanted-2.true) w.if-contains.false)
        | else-n-wanted-2 v ↦ rw (c.number-in_default.ensures, w.in-Err.is) (sym (exported_late _ c.args.n _ v.if-n-wanted-2.false (sym (among_code w.in-Err.refusal c.args.earlier.now) ∙ sym v.contains.ensures.value ∙ sym v.value-is ∙ w.if-contains.false)))
      ]
    ]
