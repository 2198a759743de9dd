-- `plan::address_good` meets its contract.
use mathlib.Core.Path.{◌∙◌, sym}
use Rattle.plan.specs.Check.{address_good}
use Rattle.plan.proofs.address_good.Goals as goal

pub returns-then-is_a6 : goal.returns-then-is_a6
unfolding address_good
returns-then-is_a6 c =
    let e = sym c.is_a6.ensures ∙ c.if-is_a6.true in
    c.is_clear.ensures ∙ rw (c.prefix_of.ensures, c.address_of.ensures) (sym (rw (address_good, e)))

pub returns : goal.returns
unfolding address_good
returns c =
    let e = sym c.is_a6.ensures ∙ c.if-is_a6.false in
    c.is_clear-2.ensures ∙ rw c.address_of-2.ensures (sym (rw (address_good, e)))
