-- `nametext::inside::put_octets` meets its contract.
use mathlib.Core.Path.{refl}
use mathlib.Core.List.{[]}
use native.Mathlib.Omega.{arith}
use Rattle.nametext.specs.Writing.{ordinary_text}
use Rattle.text.proofs.WrittenLaws.{put_none}
use Rattle.nametext.proofs.WriterLaws.{octets_turn, octets_room}
use Rattle.nametext.proofs.inside.put_octets.Goals as goal

pub loop-x-init : goal.loop-x-init
unfolding ordinary_text
loop-x-init c = put_none c.args.out.now c.args.to [] refl

pub put_octet-end-requires : goal.put_octet-end-requires
put_octet-end-requires c =
    let a = c.args in
    let l = c.loop-x in
    let r = octets_room a.octets.now a.out.now l.out a.to l.end l.x-index (omega arith) c.requires l.invariant in
    omega (arith, r, l.auto.out)

pub loop-x-preserved : goal.loop-x-preserved
loop-x-preserved c =
    let a = c.args in
    let l = c.loop-x in
    octets_turn a.octets.now a.out.now l.out a.to l.end l.x-index (omega arith) c.requires l.invariant _ _ c.put_octet-end.ensures
