-- `text::reading::hexadecimal` meets its contract.
use mathlib.Core.Path.{sym, ◌∙◌}
use native.Mathlib.Omega.{arith}
use Rattle.text.proofs.ReadLaws.{digit_most}
use Rattle.text.proofs.StandLaws.{digit_none, digit_some}
use Rattle.text.proofs.reading.hexadecimal.Goals as goal

pub returns-then-not-may_stand : goal.returns-then-not-may_stand
returns-then-not-may_stand c =
    (sym (digit_none c.args.c c.requires (sym c.may_stand.ensures ∙ c.if-not-may_stand.true)), omega arith)

pub returns : goal.returns
returns c =
    let e = digit_some c.args.c c.requires (sym c.may_stand.ensures ∙ c.if-not-may_stand.false) in
    rw c.from-x.ensures (sym e, omega (arith, e, digit_most c.args.c))
