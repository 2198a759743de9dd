-- `names::pack_run` meets its contract: the labels to the right are packed first.
use Prim.Native.Nat.{◌-◌}
use lib.ListN.{length}
use Rattle.names.proofs.+pack_run.Given as goal

abbrev pub decreases-pack_run : goal.decreases-pack_run
decreases-pack_run l = length l.name.now - l.at
