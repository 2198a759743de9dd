-- `nametext::reading::put_escaped` meets its contract: what is written and what is left give the whole.
use lib.ListN.{length}
use Rattle.nametext.proofs.PlaceLaws.{Filling}
use Rattle.nametext.proofs.reading.put_escaped.Given as goal

abbrev pub invariant-loop-octet : goal.invariant-loop-octet
invariant-loop-octet l = Filling l.p l.initial.out l.out l.to l.t l.rest

abbrev pub decreases-loop-octet : goal.decreases-loop-octet
decreases-loop-octet l = length l.rest
