-- `numbering::inside::Names::meet_all` meets its contract: the records before the index are numbered.
use Rattle.numbering.proofs.NumberingLaws.{Going}
use Rattle.numbering.proofs.inside.Names.meet_all.Given as goal

abbrev pub invariant-loop-index : goal.invariant-loop-index
invariant-loop-index l = Going l.initial.self.table.now l.initial.own l.initial.target l.own l.target l.self l.index
