-- `rewriting::inside::find` meets its contract. The loop's invariant: so many units are still to be passed.
use Prim.Native.Nat.{◌-◌}
use lib.ListN.{length}
use Rattle.rewriting.proofs.SpotLaws.{Seeking}
use Rattle.rewriting.proofs.inside.find.Given as goal

abbrev pub invariant-loop-left : goal.invariant-loop-left
invariant-loop-left l = Seeking l.name l.j l.at l.left

abbrev pub decreases-loop-left : goal.decreases-loop-left
decreases-loop-left l = length l.name - l.at
