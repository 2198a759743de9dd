-- `numbering::inside::Names::find` meets its contract: the names from the one that is looked at next on are others.
use Rattle.numbering.proofs.ListingLaws.{Seeking}
use Rattle.numbering.proofs.inside.Names.find.Given as goal

abbrev pub invariant-loop-next : goal.invariant-loop-next
invariant-loop-next l = Seeking l.self.table.now l.self.places l.slot l.self.count l.next

abbrev pub decreases-loop-next : goal.decreases-loop-next
decreases-loop-next l = l.next
