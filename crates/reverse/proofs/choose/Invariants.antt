-- `reverse::choose` meets its contract. The loop's invariant: the best of the records looked at.
use Rattle.reverse.specs.Choice.{Chosen}
use Rattle.reverse.proofs.choose.Given as goal

abbrev pub invariant-loop-index : goal.invariant-loop-index
invariant-loop-index l = Chosen l.table l.name l.index l.best
