-- `plan::inside::whole_sum` meets its contract: the sum is that of the words passed.
use mathlib.Core.Path.{◌≡◌}
use Prim.Native.Nat.{◌*◌, ◌^◌, ◌<◌}
use Rattle.plan.specs.Marks.{sum_to}
use Rattle.plan.proofs.inside.whole_sum.Given as goal

abbrev pub invariant-loop-k : goal.invariant-loop-k
invariant-loop-k l = (l.sum ≡ sum_to l.slot l.k) × (l.sum < 2 ^ 52 * l.k)
