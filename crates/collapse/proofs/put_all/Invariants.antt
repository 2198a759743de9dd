-- `collapse::put_all` meets its contract: each turn stores what stands in the place of one more record.
use mathlib.Core.Path.{◌≡◌}
use Prim.Native.Nat.{◌+◌, ◌≤◌}
use lib.ListN.{length}
use Rattle.chains.specs.Lists.{up_to}
use Rattle.collapse.specs.Fold.{place_of}
use Rattle.collapse.specs.Running.{stored}
use Rattle.collapse.proofs.put_all.Given as goal

abbrev pub invariant-loop-i : goal.invariant-loop-i
invariant-loop-i l =
    (l.n ≤ l.most) × (l.n ≡ 0 + length (up_to l.i (place_of l.name l.table))) × (l.out ≡ stored l.initial.out 0 (up_to l.i (place_of l.name l.table)))
