-- `forward::gather::set_owners` meets its contract: a turn fills one more place.
use mathlib.Core.Path.{◌≡◌}
use Rattle.numbering.specs.Numbers.{filled}
use Rattle.forward.specs.Gather.{search_owner}
use Rattle.forward.proofs.gather.set_owners.Given as goal

abbrev pub invariant-loop-i : goal.invariant-loop-i
invariant-loop-i l = l.owners ≡ filled (search_owner l.table l.initial.owners) l.i l.initial.owners
