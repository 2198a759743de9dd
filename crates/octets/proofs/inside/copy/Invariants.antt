-- `octets::inside::copy` meets its contract. The loop's invariant: the octets passed are copied.
use mathlib.Core.Path.{◌≡◌}
use lib.ListN.{length, drop}
use lib.Seq.{paste}
use Rattle.octets.proofs.inside.copy.Given as goal

abbrev pub invariant-loop-i : goal.invariant-loop-i
invariant-loop-i l = (length l.out ≡ length l.initial.out) × (l.out ≡ paste l.initial.out l.to (drop l.at l.src) l.i)
