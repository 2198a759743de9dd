-- `octets::clear` meets its contract: what is passed is zero.
use Rattle.std.proofs.Common.{◌≡◌, ◌++◌, drop, replicate}
use Rattle.octets.proofs.clear.Given as goal

abbrev pub invariant-loop-x : goal.invariant-loop-x
invariant-loop-x g l = l.out ≡ replicate l.x-index g.T.Zero.nought ++ drop l.x-index l.initial.out
