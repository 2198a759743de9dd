-- `plan::first_fault` meets its contract: none of the records passed is at fault.
use mathlib.Core.Path.{◌≡◌}
use Prim.Native.Nat.{ℕ, ◌<◌}
use mathlib.Core.Bool.{false}
use Rattle.plan.specs.Check.{faulty}
use Rattle.plan.proofs.first_fault.Given as goal

abbrev pub invariant-loop-index : goal.invariant-loop-index
invariant-loop-index l = (i : ℕ) → i < l.index → faulty l.table i ≡ false
