-- `address::join` meets its contract. The loop's invariant: the octets passed are those of the join.
use mathlib.Core.Path.{◌≡◌}
use lib.ListN.{length, take}
use Rattle.address.specs.Address.{join_of}
use Rattle.address.proofs.join.Given as goal

abbrev pub invariant-loop-k : goal.invariant-loop-k
invariant-loop-k l = (length l.out ≡ 16) × (take l.k l.out ≡ take l.k (join_of l.high l.low l.at))
