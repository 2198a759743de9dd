-- `names::inside::past_letters` meets its contract: a walk finds from each label on what it finds from the first one on.
use Prim.Native.Nat.{◌-◌, ◌≤◌}
use mathlib.Core.Path.{◌≡◌}
use Rattle.names.specs.Keys.{walked}
use Rattle.names.proofs.inside.past_letters.Given as goal

abbrev pub invariant-loop-i : goal.invariant-loop-i
invariant-loop-i l = (l.at ≤ l.i) × (walked l.a l.b l.end l.i ≡ walked l.a l.b l.end l.at)

abbrev pub decreases-loop-i : goal.decreases-loop-i
decreases-loop-i l = l.end - l.i
