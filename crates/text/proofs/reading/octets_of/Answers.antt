use Prim.Native.Nat.{◌*◌}
use mathlib.Core.Path.{◌≡◌, refl, ◌∙◌}
use lib.ListN.{length, get_or, set, length-set}
use mir.Syntax.{w16}
use mir.Val.{Fits}
use native.Mathlib.Omega.{arith}
use borrow.Author.Rules.{rules}
use Rattle.text.proofs.CountLaws.{octets_start, octets_turn, octets_end}
use Rattle.text.proofs.reading.octets_of.Goals as goal

pub loop-i-init : goal.loop-i-init
loop-i-init c = (refl, octets_start c.args.g c.args.g)

pub loop-i-preserved : goal.loop-i-preserved
loop-i-preserved c =
    let l = c.loop-i in
    let f : Fits w16 (get_or c.args.g c.loop-i.i 0) = search rules in
    let g : length c.args.g ≡ 8 = search rules in
    let two = c.to_be_bytes-two in (
      length-set (set l.octets (2 * l.i) (get_or two.result 0 0)) _ _ ∙ length-set l.octets _ _ ∙ l.invariant.0,
      octets_turn c.args.g l.octets two.result l.i (omega arith) f.fits (omega arith) two.ensures l.invariant.1,
    )

pub returns : goal.returns
returns c =
    let l = c.loop-i in
    let g : length c.args.g ≡ 8 = search rules in
    octets_end c.args.g l.octets l.i (omega arith) (omega arith) l.invariant.1
