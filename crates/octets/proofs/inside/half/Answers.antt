-- `octets::inside::half` meets its contract.
use native.Mathlib.Omega.{arith}
use Rattle.octets.proofs.NumberLaws.{eight_octets}
use Rattle.octets.proofs.inside.half.Goals as goal

pub returns : goal.returns
returns c =
    let a = c.before.before.before.args in
    omega (arith, eight_octets a.octets.now a.at (omega arith), c.before.quarter.ensures.0, c.quarter-2.ensures.0)
