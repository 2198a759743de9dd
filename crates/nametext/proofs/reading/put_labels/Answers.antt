use Rattle.nametext.proofs.NamedLaws.{merging_start, merging_turn, merging_room, merging_end, root_written}
use native.Mathlib.Omega.{arith}
use mathlib.Core.Path.{refl}
use Rattle.nametext.proofs.reading.put_labels.Goals as goal

pub returns-then-n-eq1 : goal.returns-then-n-eq1
returns-then-n-eq1 c =
    root_written c.args.text.now c.args.out.now c.requires.0 c.if-n-eq1.true c.requires.1

pub loop-at-init : goal.loop-at-init
loop-at-init c =
    let m = merging_start c.args.text.now c.args.out.now c.requires.0 c.if-n-eq1.false c.requires.1 in
    (m, refl, m.room)

pub put_next-p-requires : goal.put_next-p-requires
put_next-p-requires c =
    let l = c.loop-at in
    let m = l.invariant.0 in record { standing = m.standing; at_in_bounds = (omega arith, m.clean, merging_room c.args.text.now l.out l.at l.to m, m.room) }

pub loop-at-smaller : goal.loop-at-smaller
loop-at-smaller c = omega (arith, c.put_next-p.ensures.on)

pub loop-at-preserved : goal.loop-at-preserved
loop-at-preserved c =
    let l = c.loop-at in
    let n = c.put_next-p in
    (merging_turn c.args.text.now l.out _ l.at l.to n.result l.invariant.0 n.ensures n.auto.out, l.invariant.1, l.invariant.2)

pub overflow_add-result : goal.overflow_add-result
overflow_add-result c =
    let m = c.loop-at.invariant.0 in
    omega (arith, m.low, m.room)

pub returns : goal.returns
returns c =
    let l = c.loop-at in
    merging_end c.args.text.now l.out l.at l.to l.invariant.0 (omega arith)
