-- `labels::scan` meets its contract: what is left to read gives the answer of the whole.
use Prim.Native.Nat.{◌-◌, ◌≤◌}
use mathlib.Core.Path.{◌≡◌}
use lib.Dec.{ltb}
use lib.ListN.{length, drop}
use Rattle.labels.specs.Scan.{scan_from, scan_of}
use Rattle.labels.specs.Answers.{scanned}
use Rattle.labels.specs.Steps.{finish}
use Rattle.labels.proofs.scan.Given as goal

abbrev pub invariant-loop-at : goal.invariant-loop-at
invariant-loop-at l =
    (l.at ≤ length l.s) × (l.at ≤ 255) × (l.run ≤ 256) × (finish l.standard (ltb 0 l.run) (scan_from l.at l.run 0 (drop l.at l.s)) ≡ scanned (scan_of l.s))

abbrev pub decreases-loop-at : goal.decreases-loop-at
decreases-loop-at l = length l.s - l.at
