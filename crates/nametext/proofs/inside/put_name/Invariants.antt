-- `nametext::inside::put_name` meets its contract: what is put and the text of the labels left are the name's text.
use Prim.Native.Nat.{◌-◌}
use lib.ListN.{length}
use Rattle.nametext.proofs.NameTextLaws.{Writing}
use Rattle.nametext.proofs.inside.put_name.Given as goal

abbrev pub invariant-loop-at : goal.invariant-loop-at
invariant-loop-at l = Writing l.name l.initial.out l.out l.at l.to l.end

abbrev pub decreases-loop-at : goal.decreases-loop-at
decreases-loop-at l = length l.name - l.at
