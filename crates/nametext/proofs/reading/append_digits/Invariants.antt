-- `nametext::reading::append_digits` meets its contract: what is left of the label gives what the whole would give.
use Rattle.nametext.proofs.HexLaws.{Hexing}
use Rattle.nametext.proofs.reading.append_digits.Given as goal

abbrev pub invariant-loop-left : goal.invariant-loop-left
invariant-loop-left l = Hexing l.p l.initial.out l.out l.n l.initial.q l.q l.i l.left

abbrev pub decreases-loop-left : goal.decreases-loop-left
decreases-loop-left l = l.left
