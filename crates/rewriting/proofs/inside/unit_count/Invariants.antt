-- `rewriting::inside::unit_count` meets its contract. The loop's invariant: the units passed and those to come are all of them.
use Prim.Native.Nat.{◌-◌}
use lib.ListN.{length}
use Rattle.rewriting.proofs.SpotLaws.{Counting}
use Rattle.rewriting.proofs.inside.unit_count.Given as goal

abbrev pub invariant-loop-at : goal.invariant-loop-at
invariant-loop-at l = Counting l.name l.at l.sum

abbrev pub decreases-loop-at : goal.decreases-loop-at
decreases-loop-at l = length l.name - l.at
