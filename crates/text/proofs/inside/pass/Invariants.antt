-- `text::inside::pass` meets its contract.
use Prim.Native.Nat.{ℕ, ◌+◌, ◌-◌, ◌<◌}
use mathlib.Core.Path.{◌≡◌}
use mathlib.Core.Bool.{Bool}
use lib.ListN.{length, drop}
use Rattle.text.specs.Digits.{leading}
use Rattle.text.proofs.inside.pass.Given as goal

abbrev pub invariant-loop-at : goal.invariant-loop-at
invariant-loop-at g l = (t : ℕ → Bool) → ((x : ℕ) → x < 256 → (b : Bool) → goal.T-post g l.test x b → b ≡ t x) → l.at + leading t (drop l.at l.s) ≡ l.from + leading t (drop l.from l.s)

abbrev pub decreases-loop-at : goal.decreases-loop-at
decreases-loop-at g l = length l.s - l.at
