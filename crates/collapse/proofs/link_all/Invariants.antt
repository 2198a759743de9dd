-- `collapse::link_all` meets its contract: one record more at each turn, from the last to the first.
use Rattle.collapse.specs.Running.{Linked}
use Rattle.collapse.proofs.link_all.Given as goal

abbrev pub invariant-loop-i : goal.invariant-loop-i
invariant-loop-i l = Linked l.table l.first l.next l.i
