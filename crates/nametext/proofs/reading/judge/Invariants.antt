-- `nametext::reading::judge` meets its contract: what is tallied and the parts that are left give the number of the whole.
use Prim.Native.Nat.{◌-◌, ◌≤◌}
use mathlib.Core.List.{[]}
use mathlib.Core.Path.{◌≡◌}
use lib.ListN.{length, drop}
use Rattle.std.specs.Prelude.{IfOk}
use Rattle.nametext.specs.Places.{Low, judge_from}
use Rattle.nametext.specs.Reading.{parts_from, last_from, text_number}
use Rattle.nametext.proofs.reading.judge.Given as goal

abbrev pub invariant-loop-at : goal.invariant-loop-at
invariant-loop-at l = (l.n ≡ length l.text) × (l.at ≤ l.n) × IfOk l.tally Low × (last_from 0 l.text ≡ 46) × (judge_from l.tally (parts_from [] (drop l.at l.text)) ≡ text_number l.text)

abbrev pub decreases-loop-at : goal.decreases-loop-at
decreases-loop-at l = l.n - l.at
