-- `names::whole` meets its contract: the scan tells all.
use mathlib.Core.Path.{ap, ◌∙◌, sym}
use Rattle.octets.specs.Refusals.{number_of}
use Rattle.octets.proofs.RefusalLaws.{code_some}
use Rattle.labels.specs.Answers.{used_by}
use Rattle.names.proofs.AnswerLaws.{form_number, form_used, form_good}
use Rattle.names.proofs.whole.Goals as goal

pub returns-in-Ok : goal.returns-in-Ok
returns-in-Ok c =
    let e = c.in-Ok.ensures in
    (form_good c.args.name.now (ap number_of (sym e)) (ap used_by (sym e) ∙ c.if-scanned-name.true), e)

pub returns-in_default : goal.returns-in_default
returns-in_default c = form_used c.args.name.now (λ h. c.if-scanned-name.false (ap used_by c.in-Ok.ensures ∙ h))

pub returns-in_default-2 : goal.returns-in_default-2
returns-in_default-2 c = form_number c.args.name.now (λ h. code_some _ (ap number_of c.in_default.ensures ∙ h))
