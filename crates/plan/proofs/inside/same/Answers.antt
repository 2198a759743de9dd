-- `plan::inside::same` meets its contract: slots that are alike hold the same name.
use mathlib.Core.Path.{◌∙◌, sym}
use Rattle.plan.proofs.AlikeLaws.{alike_same}
use Rattle.plan.proofs.inside.same.Goals as goal

pub returns-then-alike : goal.returns-then-alike
returns-then-alike c =
    let a = c.args in
    c.if-alike.true ∙ sym (alike_same a.a.now a.b.now (sym c.alike.ensures ∙ c.if-alike.true))
