-- `nametext::reading::put_labels` meets its contract: what is written and the rest of the name give the whole.
use Rattle.nametext.proofs.NamedLaws.{Merging}
use lib.ListN.{length}
use mathlib.Core.Path.{◌≡◌}
use Prim.Native.Nat.{◌-◌}
use Rattle.nametext.proofs.reading.put_labels.Given as goal

abbrev pub invariant-loop-at : goal.invariant-loop-at
invariant-loop-at l = Merging l.text l.out l.at l.to × (l.n ≡ length l.text) × (length l.initial.out ≡ 255)

abbrev pub decreases-loop-at : goal.decreases-loop-at
decreases-loop-at l = l.n - l.at
