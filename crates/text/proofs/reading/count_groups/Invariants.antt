-- `text::reading::count_groups` meets its contract.
use Prim.Native.Nat.{◌<◌}
use lib.ListN.{length}
use Rattle.text.proofs.CountLaws.{Counting}
use Rattle.text.proofs.reading.count_groups.Given as goal

abbrev pub invariant-loop-c : goal.invariant-loop-c
invariant-loop-c l = (0 < length l.text) × Counting l.text l.t l.c-index
