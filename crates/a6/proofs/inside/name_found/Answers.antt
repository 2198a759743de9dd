-- `a6::inside::name_found` meets its contract.
use mathlib.Core.Path.{sym, ◌∙◌}
use Rattle.a6.proofs.EndingLaws.{found_none, found_some}
use Rattle.a6.proofs.inside.name_found.Goals as goal

pub returns-then-prefix-eq0 : goal.returns-then-prefix-eq0
returns-then-prefix-eq0 c = sym (found_none c.args.prefix c.args.rest.now c.if-prefix-eq0.true)

pub returns : goal.returns
returns c = c.scan.ensures ∙ sym (found_some c.args.prefix c.args.rest.now c.if-prefix-eq0.false)
