-- `nametext::reading::digit_value` meets its contract.
use native.Mathlib.Omega.{arith}
use Rattle.text.proofs.DecimalLaws.{between_is}
use Rattle.nametext.proofs.reading.digit_value.Goals as goal

pub overflow_sub-x : goal.overflow_sub-x
overflow_sub-x c = (between_is 48 57 c.args.x c.requires).0

pub returns : goal.returns
returns c =
    let d = between_is 48 57 c.args.x c.requires in
    (c.from.ensures, omega (arith, c.from.ensures))
