-- `plan::first_repeat` meets its contract: none of the records passed repeats an owner, and their marks are at hand.
use mathlib.Core.Path.{◌≡◌}
use Prim.Native.Nat.{ℕ, ◌<◌}
use mathlib.Core.Bool.{false}
use Rattle.plan.specs.Check.{repeats}
use Rattle.plan.specs.Marks.{Marked}
use Rattle.plan.proofs.first_repeat.Given as goal

abbrev pub invariant-loop-index : goal.invariant-loop-index
invariant-loop-index l = record { marked : Marked l.table l.marks l.index; none : (i : ℕ) → i < l.index → repeats l.table i ≡ false }
