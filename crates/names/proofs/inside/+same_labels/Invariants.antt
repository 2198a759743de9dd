-- `names::inside::same_labels` meets its contract: past ordinary labels, and by one bit label more, the walk finds as much.
use Prim.Native.Nat.{◌-◌}
use Rattle.names.proofs.inside.+same_labels.Given as goal

abbrev pub decreases-same_labels : goal.decreases-same_labels
decreases-same_labels l = l.end - l.at
