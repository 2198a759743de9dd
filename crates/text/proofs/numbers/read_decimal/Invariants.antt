-- `text::numbers::read_decimal` meets its contract.
use Prim.Native.Nat.{◌+◌, ◌-◌, ◌^◌, ◌<◌}
use mathlib.Core.Path.{◌≡◌}
use lib.ListN.{length}
use Rattle.text.proofs.DecimalLaws.{Passed}
use Rattle.text.proofs.numbers.read_decimal.Given as goal

abbrev pub invariant-loop-next : goal.invariant-loop-next
invariant-loop-next l = (l.cap ≡ l.bound + 1) × (l.bound < 2 ^ 32) × Passed l.s l.from (l.bound + 1) l.next l.value

abbrev pub decreases-loop-next : goal.decreases-loop-next
decreases-loop-next l = length l.s - l.next
