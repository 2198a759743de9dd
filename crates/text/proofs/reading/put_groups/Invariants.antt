-- `text::reading::put_groups` meets its contract.
use Rattle.text.proofs.ReadLaws.{Putting}
use Rattle.text.proofs.reading.put_groups.Given as goal

abbrev pub invariant-loop-c : goal.invariant-loop-c
invariant-loop-c l = Putting l.text l.initial.out l.at l.out l.next l.v l.c-index
