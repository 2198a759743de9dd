-- `a6::inside::name_fits` meets its contract.
use mathlib.Core.Path.{sym, ◌∙◌}
use Rattle.a6.proofs.AcceptedLaws.{fits_none, fits_some}
use Rattle.a6.proofs.inside.name_fits.Goals as goal

pub returns-then-prefix-eq0 : goal.returns-then-prefix-eq0
returns-then-prefix-eq0 c = let a = c.args in c.is_empty.ensures ∙ sym (fits_none a.prefix a.name.now c.if-prefix-eq0.true)

pub returns : goal.returns
returns c = let a = c.args in c.is_standard.ensures ∙ sym (fits_some a.prefix a.name.now c.if-prefix-eq0.false)
