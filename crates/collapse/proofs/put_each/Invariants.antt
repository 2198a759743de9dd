-- `collapse::put_each` meets its contract: the walk along the bucket of the target comes to every record that makes something.
use Prim.Native.Nat.{◌-◌}
use Rattle.plan.specs.Layout.{count_of}
use Rattle.collapse.proofs.LinkLaws.{reach}
use Rattle.collapse.proofs.WalkLaws.{Walking}
use Rattle.collapse.proofs.put_each.Given as goal

abbrev pub invariant-loop-next : goal.invariant-loop-next
invariant-loop-next l = Walking l.table l.r l.initial.out l.out l.n l.m l.next

abbrev pub decreases-loop-next : goal.decreases-loop-next
decreases-loop-next l = count_of l.table - reach l.next
