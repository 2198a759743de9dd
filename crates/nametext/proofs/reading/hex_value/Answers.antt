-- `nametext::reading::hex_value` meets its contract.
use Rattle.text.specs.Digits.{digit_in}
use borrow.Author.Tests.{ltb-true}
use native.Mathlib.Omega.{arith}
use Rattle.nametext.proofs.reading.hex_value.Goals as goal

pub returns : goal.returns
returns c =
    let h = ltb-true (digit_in c.args.x) 16 c.requires in
    (c.digit_in.ensures.0, omega (arith, c.digit_in.ensures.0))
