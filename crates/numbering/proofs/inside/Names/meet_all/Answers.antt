-- `numbering::inside::Names::meet_all` meets its contract.
use Prim.Native.Nat.{◌<◌}
use native.Mathlib.Omega.{arith}
use Rattle.plan.specs.Layout.{count_of}
use Rattle.plan.proofs.OrderLaws.{order_count}
use Rattle.numbering.proofs.NumberingLaws.{going_none, going_before, going_more, going_all}
use Rattle.numbering.proofs.inside.Names.meet_all.Goals as goal

pub loop-index-init : goal.loop-index-init
loop-index-init c = going_none c.args.own.now c.args.target.now c.args.self.now c.requires.start.1

pub meet_owner-owner-requires : goal.meet_owner-owner-requires
meet_owner-owner-requires c =
    let g = c.loop-index.invariant in
    let t = c.args.self.now.table.now in
    let m = order_count t c.requires.start.0 in
    let h : c.loop-index.index < count_of t = omega (arith, c.count-index-end.ensures) in
    record { in_order = rw g.here c.requires.start.0; index_bound = (rw g.here h, omega (arith, g.less, m, h), going_before g h c.requires.room.0) }

pub meet_target-requires : goal.meet_target-requires
meet_target-requires c =
    let g = c.loop-index.invariant in
    let t = c.args.self.now.table.now in
    let o = c.meet_owner-owner.ensures in
    let m = order_count t c.requires.start.0 in
    let h : c.loop-index.index < count_of t = omega (arith, c.count-index-end.ensures) in
    record { in_order = rw (o.table, g.here) c.requires.start.0; index_bound = (rw (o.table, g.here) h, omega (arith, o.most, g.less, m, h)) }

pub loop-index-preserved : goal.loop-index-preserved
loop-index-preserved c =
    let h : c.loop-index.index < count_of c.args.self.now.table.now = omega (arith, c.count-index-end.ensures) in
    going_more c.loop-index.invariant h c.meet_owner-owner.ensures c.meet_target.ensures

pub returns : goal.returns
returns c =
    let y = going_all c.loop-index.invariant (omega (arith, c.count-index-end.ensures)) in
    record { names = y.0; owners = y.1; targets = y.2 }
