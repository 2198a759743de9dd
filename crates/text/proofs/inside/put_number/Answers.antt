use Prim.Native.Nat.{◌/◌}
use native.Mathlib.Omega.{arith}
use Rattle.text.proofs.NumberTextLaws.{text_one, text_some, text_length, putting_start, putting_turn, putting_end}
use Rattle.text.proofs.inside.put_number.Goals as goal

pub loop-rest-preserved : goal.loop-rest-preserved
loop-rest-preserved g c =
    let l = text_length g.row.BASE c.loop-rest.rest c.requires.base.0 (omega arith) in
    omega (arith, c.loop-rest.invariant)

pub loop-left-init : goal.loop-left-init
loop-left-init g c =
    let l = text_one g.row.BASE c.loop-rest.rest (omega arith) in
    putting_start g.row.BASE c.args.n c.args.at c.args.out.now c.loop-rest.last (omega (arith, c.loop-rest.invariant))

pub overflow_sub-last : goal.overflow_sub-last
overflow_sub-last g c =
    let k = c.loop-left in
    let l = text_length g.row.BASE k.left c.requires.base.0 (omega arith) in
    let s = text_some g.row.BASE (k.left / g.row.BASE) in
    omega (arith, k.invariant.place)

pub loop-left-preserved : goal.loop-left-preserved
loop-left-preserved g c = putting_turn c.loop-left.invariant c.requires.room c.digit.result c.requires.base.0 (omega arith) c.digit.ensures

pub returns : goal.returns
returns g c =
    let l = text_one g.row.BASE c.loop-rest.rest (omega arith) in
    (omega (arith, c.loop-rest.invariant), putting_end c.loop-left.invariant c.requires.room c.digit-2.result (omega arith) c.digit-2.ensures)
