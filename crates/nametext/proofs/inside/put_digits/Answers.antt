-- `nametext::inside::put_digits` meets its contract.
use mathlib.Core.Path.{refl, ap, ◌∙◌}
use mathlib.Core.List.{[]}
use native.Mathlib.Omega.{arith}
use Rattle.nametext.specs.Characters.{hex_digit}
use Rattle.text.proofs.WrittenLaws.{put_none}
use Rattle.nametext.proofs.WriterLaws.{digits_turn}
use Rattle.nametext.proofs.inside.put_digits.Goals as goal

pub loop-i-init : goal.loop-i-init
loop-i-init c = (refl, (put_none c.args.out.now c.args.to [] refl).1)

pub loop-i-preserved : goal.loop-i-preserved
loop-i-preserved c =
    let a = c.args in
    let l = c.loop-i in
    digits_turn a.octets.now a.out.now l.out a.n a.to l.i c.hex_digit.result c.requires.0 (omega arith) c.requires.1 l.auto.out
    (c.hex_digit.ensures ∙ ap hex_digit c.nibble.ensures.0) l.invariant
