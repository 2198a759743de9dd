-- `text::reading::gap` meets its contract.
use Prim.Native.Nat.{◌+◌, ◌-◌}
use mathlib.Core.Path.{◌≡◌}
use lib.ListN.{drop}
use Rattle.text.specs.AddressText.{gap_of}
use Rattle.text.proofs.reading.gap.Given as goal

abbrev pub invariant-loop-end : goal.invariant-loop-end
invariant-loop-end l = l.end - 1 + gap_of (drop (l.end - 1) l.text) ≡ gap_of l.text
