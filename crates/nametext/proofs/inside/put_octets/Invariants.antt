-- `nametext::inside::put_octets` meets its contract: what is put is the text of the octets passed.
use lib.ListN.{take}
use Rattle.nametext.specs.Writing.{ordinary_text}
use Rattle.text.specs.Written.{Put}
use Rattle.nametext.proofs.inside.put_octets.Given as goal

abbrev pub invariant-loop-x : goal.invariant-loop-x
invariant-loop-x l = Put l.initial.out l.out l.to l.end (ordinary_text (take l.x-index l.octets))
