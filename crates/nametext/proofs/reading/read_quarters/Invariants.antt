-- `nametext::reading::read_quarters` meets its contract: the value so far and the digits that are left give the whole.
use Rattle.text.proofs.DecimalLaws.{Passed}
use Prim.Native.Nat.{◌+◌, ◌*◌, ◌<◌}
use Rattle.nametext.proofs.reading.read_quarters.Given as goal

abbrev pub invariant-loop-x : goal.invariant-loop-x
invariant-loop-x l = Passed l.s 0 (4 * (l.d + 1)) l.x-index (4 * l.v.whole + l.v.rest) × (l.v.rest < 4)
