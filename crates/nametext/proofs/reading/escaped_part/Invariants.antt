-- `nametext::reading::escaped_part` meets its contract: what is passed and what is left give the whole.
use lib.ListN.{length}
use Rattle.nametext.proofs.PlaceLaws.{Judging}
use Rattle.nametext.proofs.reading.escaped_part.Given as goal

abbrev pub invariant-loop-octet : goal.invariant-loop-octet
invariant-loop-octet l = Judging l.p l.ranged l.count l.rest

abbrev pub decreases-loop-octet : goal.decreases-loop-octet
decreases-loop-octet l = length l.rest
