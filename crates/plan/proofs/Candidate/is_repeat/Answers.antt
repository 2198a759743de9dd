-- `plan::Candidate::is_repeat` meets its contract.
use mathlib.Core.Path.{ap, ◌∙◌, sym}
use Rattle.plan.specs.Layout.{is_dname}
use Rattle.plan.proofs.MarkLaws.{repeats_other, repeats_dname, no_twin}
use Rattle.plan.proofs.Candidate.is_repeat.Goals as goal

pub returns-then-not-is_dname : goal.returns-then-not-is_dname
returns-then-not-is_dname c =
    let a = c.args.self in
    sym (repeats_other a.table.now a.index (sym (c.is_dname.ensures ∙ ap is_dname c.row.ensures) ∙ c.if-not-is_dname.true))

pub returns-then-has_mark : goal.returns-then-has_mark
returns-then-has_mark c =
    let a = c.args.self in
    let d = sym (c.is_dname.ensures ∙ ap is_dname c.row.ensures) ∙ c.if-not-is_dname.false in
    c.has_twin.ensures ∙ sym (repeats_dname a.table.now a.index d)

pub returns-else-has_mark : goal.returns-else-has_mark
returns-else-has_mark c =
    let a = c.args.self in
    let d = sym (c.is_dname.ensures ∙ ap is_dname c.row.ensures) ∙ c.if-not-is_dname.false in
    c.if-has_mark.false ∙ sym (repeats_dname a.table.now a.index d ∙ no_twin a.table.now a.earlier.now a.index a.mark a.ready d (sym c.has_mark.ensures ∙ c.if-has_mark.false))
