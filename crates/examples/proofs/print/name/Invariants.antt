-- `examples::print::name` ends: each label leaves less of the name.
use Rattle.std.proofs.Common.{length}
use Rattle.examples.proofs.print.name.Given as goal

abbrev pub decreases-loop-label : goal.decreases-loop-label
decreases-loop-label g l = length l.rest
