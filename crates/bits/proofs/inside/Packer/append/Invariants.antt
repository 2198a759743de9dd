-- `bits::inside::Packer::append` meets its contract: what is left of the octets gives what the whole would give.
use Rattle.bits.proofs.PackLaws.{Appending}
use Rattle.bits.proofs.inside.Packer.append.Given as goal

abbrev pub invariant-loop-octet : goal.invariant-loop-octet
invariant-loop-octet l = Appending l.src l.initial.out l.out l.n l.initial.packer l.packer l.octet-index
