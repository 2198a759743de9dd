-- `names::inside::same_lowered` meets its contract: they were alike so far, and what is left is.
use mathlib.Core.Path.{◌≡◌}
use mathlib.Core.Bool.{◌&&◌}
use mathlib.Core.List.{map}
use lib.ListN.{drop}
use Rattle.octets.specs.Octets.{same}
use Rattle.names.specs.Standard.{lower}
use Rattle.names.proofs.inside.same_lowered.Given as goal

abbrev pub invariant-loop-i : goal.invariant-loop-i
invariant-loop-i l = (l.alike && same (drop l.i (map lower l.a)) (drop l.i (map lower l.b))) ≡ same (map lower l.a) (map lower l.b)
