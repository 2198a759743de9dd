use Prim.Native.Nat.{◌+◌}
use mathlib.Core.Path.{◌≡◌, ◌∙◌}
use native.Mathlib.Omega.{arith}
use Rattle.plan.specs.Layout.{count_of}
use Rattle.collapse.specs.Fold.{place_of}
use Rattle.collapse.proofs.RunningLaws.{count_start, stored_start, count_turn, stored_turn, put_whole, put_over}
use Rattle.collapse.proofs.LinkLaws.{linked_start}
use Rattle.collapse.proofs.put_all.Goals as goal

pub loop-i-init : goal.loop-i-init
loop-i-init c =
    let f = place_of c.args.name.now c.args.table.now in
    (omega arith, count_start f 0, stored_start f c.args.out.now 0)

pub link_all-requires : goal.link_all-requires
link_all-requires c = (c.requires.0, linked_start c.args.table.now c.requires.0)

pub put_place-n-requires : goal.put_place-n-requires
put_place-n-requires c = record { in_order = (c.requires.0, c.requires.1, c.link_all.ensures); i_bound = (omega arith, omega (arith, c.loop-i.invariant.0, c.requires.2)) }

pub returns-then-most-n : goal.returns-then-most-n
returns-then-most-n c =
    let l = c.loop-i in
    let a = c.args in
    put_over a.name.now a.table.now a.most (l.i + 1) c.put_place-n.result (omega arith) c.if-most-n.true (c.put_place-n.ensures.value ∙ count_turn (place_of a.name.now a.table.now) 0 l.n l.i l.invariant.1)

pub loop-i-preserved : goal.loop-i-preserved
loop-i-preserved c =
    let l = c.loop-i in
    let f = place_of c.args.name.now c.args.table.now in
    let k = c.put_place-n.ensures in
    (c.if-most-n.false, k.value ∙ count_turn f 0 l.n l.i l.invariant.1, k.out_after ∙ stored_turn f c.args.out.now l.out 0 l.n l.i l.invariant.2 l.invariant.1)

pub returns : goal.returns
returns c =
    let l = c.loop-i in
    let a = c.args in
    let e : l.i ≡ count_of a.table.now = omega arith in
    let w = put_whole a.name.now a.table.now a.out.now l.out l.i l.n e l.invariant.1 l.invariant.2 in
    (l.invariant.0, w.0, w.1)
