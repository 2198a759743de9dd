-- `names::hold` meets its contract: the value's parts are what `standard_form` writes and gives.
use mathlib.Core.Path.{ap, sym}
use native.Mathlib.Omega.{arith}
use Rattle.octets.specs.declared.Answer.{Answer}
use Rattle.names.proofs.NameLaws.{held_short, held_is, held_malformed, answer_done, answer_refused}
use Rattle.names.proofs.hold.Goals as goal

pub returns-in_err-done-clause-value : goal.returns-in_err-done-clause-value
returns-in_err-done-clause-value c =
    let w = answer_refused c.args.name.now _ c.in_err-done.ensures.value c.standard_form.ensures.value in
    rw c.from_residual.ensures (sym (held_malformed c.args.name.now w))

pub returns-in_err-done-clause-variant : goal.returns-in_err-done-clause-variant
returns-in_err-done-clause-variant c =
    let w = answer_refused c.args.name.now _ c.in_err-done.ensures.value c.standard_form.ensures.value in
    rw (c.from_residual.ensures, w)

pub overflow_cast-result : goal.overflow_cast-result
overflow_cast-result c =
    let name = c.args.name.now in
    let d = answer_done name _ _ c.in_ok-done.ensures.value c.standard_form.ensures.value in
    let short = held_short name (λ i. omega (arith, c.type_inv.name i)) in
    omega (arith, ap (λ (a : Answer). a.count) d.1)

pub returns-clause-value : goal.returns-clause-value
returns-clause-value c =
    let name = c.args.name.now in
    let d = answer_done name _ _ c.in_ok-done.ensures.value c.standard_form.ensures.value in
    held_is name _ _ d.1 c.standard_form.ensures.out_after

pub returns-clause-variant : goal.returns-clause-variant
returns-clause-variant c = (answer_done c.args.name.now _ _ c.in_ok-done.ensures.value c.standard_form.ensures.value).0
