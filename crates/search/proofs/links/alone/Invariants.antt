-- `search::links::alone` meets its contract. The loop's invariant: the places before the index have their own numbers.
use Rattle.search.specs.Links.{Alone}
use Rattle.search.proofs.links.alone.Given as goal

abbrev pub invariant-loop-i : goal.invariant-loop-i
invariant-loop-i l = Alone l.a l.i
