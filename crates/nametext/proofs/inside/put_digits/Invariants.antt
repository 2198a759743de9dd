-- `nametext::inside::put_digits` meets its contract: what is put is the digits of the places passed.
use Prim.Native.Nat.{◌+◌}
use mathlib.Core.List.{map}
use lib.ListN.{take}
use Rattle.nametext.specs.Characters.{hex_digit}
use Rattle.nametext.specs.Writing.{nibbles}
use Rattle.text.specs.Written.{Put}
use Rattle.nametext.proofs.inside.put_digits.Given as goal

abbrev pub invariant-loop-i : goal.invariant-loop-i
invariant-loop-i l = Put l.initial.out l.out l.to (l.to + l.i) (map hex_digit (take l.i (nibbles l.octets)))
