-- `forward::gather::set_fields` meets its contract: a turn sets the fields of one more record.
use Rattle.forward.specs.Gather.{Fielded}
use Rattle.forward.proofs.gather.set_fields.Given as goal

abbrev pub invariant-loop-i : goal.invariant-loop-i
invariant-loop-i l = Fielded l.table l.targets l.fields l.i
