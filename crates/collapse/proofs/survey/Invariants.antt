-- `collapse::survey` meets its contract: each turn looks at one more record.
use mathlib.Core.Path.{◌≡◌}
use Rattle.collapse.specs.Running.{span_of}
use Rattle.collapse.proofs.survey.Given as goal

abbrev pub invariant-loop-i : goal.invariant-loop-i
invariant-loop-i l = (l.shortest ≡ (span_of l.name l.table l.i).shortest) × (l.longest ≡ (span_of l.name l.table l.i).longest)
