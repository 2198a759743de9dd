-- `text::inside::put_number` meets its contract.
use Prim.Native.Nat.{◌+◌}
use mathlib.Core.Path.{◌≡◌}
use lib.ListN.{length}
use Rattle.text.specs.Digits.{number_text}
use Rattle.text.proofs.NumberTextLaws.{Putting}
use Rattle.text.proofs.inside.put_number.Given as goal

abbrev pub invariant-loop-rest : goal.invariant-loop-rest
invariant-loop-rest g l = l.last + length (number_text g.row.BASE l.rest) ≡ l.at + length (number_text g.row.BASE l.n)

abbrev pub decreases-loop-rest : goal.decreases-loop-rest
decreases-loop-rest g l = l.rest

abbrev pub invariant-loop-left : goal.invariant-loop-left
invariant-loop-left g l = Putting g.row.BASE l.n l.at l.initial.out l.out l.last l.left

abbrev pub decreases-loop-left : goal.decreases-loop-left
decreases-loop-left g l = l.left
