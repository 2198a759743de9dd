-- `plan::Candidate::has_twin` meets its contract: none of the records passed is a twin.
use mathlib.Core.Path.{◌≡◌}
use Prim.Native.Nat.{ℕ, ◌<◌}
use mathlib.Core.Bool.{false}
use Rattle.plan.specs.Check.{twin}
use Rattle.plan.proofs.Candidate.has_twin.Given as goal

abbrev pub invariant-loop-i : goal.invariant-loop-i
invariant-loop-i l = (i : ℕ) → i < l.i → twin l.self.table.now l.self.index i ≡ false
