-- `collapse::put_place` meets its contract.
use mathlib.Core.Path.{sym, ap, ◌∙◌}
use native.Mathlib.Omega.{arith}
use Rattle.plan.specs.Layout.{record_at}
use Rattle.plan.proofs.OrderLaws.{order_good}
use Rattle.collapse.specs.Fold.{unfinished}
use Rattle.collapse.specs.Running.{stored_one}
use Rattle.collapse.proofs.TestLaws.{unfinished_is}
use Rattle.collapse.proofs.FoldLaws.{place_on, place_off}
use Rattle.collapse.proofs.RunningLaws.{stored_one_lem}
use Rattle.collapse.proofs.put_place.Goals as goal

pub is_unfinished-requires : goal.is_unfinished-requires
is_unfinished-requires c =
    let a = c.args in
    let w = c.requires in
    (rw c.row-row.ensures (order_good a.table.now w.in_order.0 a.i w.i_bound.0), w.in_order.1)

pub put_each-requires : goal.put_each-requires
put_each-requires c =
    let a = c.args in
    let w = c.requires in
    let u = unfinished_is a.name.now c.row-row.result.now (sym c.is_unfinished.ensures ∙ c.if-is_unfinished.true) in
    (w.in_order.0, rw c.row-row.ensures (order_good a.table.now w.in_order.0 a.i w.i_bound.0), u.1, w.i_bound.1, w.in_order.2)

pub returns-then-is_unfinished : goal.returns-then-is_unfinished
returns-then-is_unfinished c =
    let a = c.args in
    let r = c.row-row.ensures in
    let e = place_on a.name.now a.table.now a.i (sym (c.is_unfinished.ensures ∙ ap (unfinished a.name.now) r) ∙ c.if-is_unfinished.true) in
    record { value = rw (e, ← r) c.put_each.ensures.value; out_after = rw (e, ← r) c.put_each.ensures.out_after }

pub returns : goal.returns
returns c =
    let a = c.args in
    let r = c.row-row.ensures in
    let e = place_off a.name.now a.table.now a.i (sym (c.is_unfinished.ensures ∙ ap (unfinished a.name.now) r) ∙ c.if-is_unfinished.false) in
    record { value = rw e (omega arith); out_after = rw e (c.put.ensures ∙ ap (stored_one a.out.now a.n) r ∙ sym (stored_one_lem a.out.now a.n (record_at a.table.now a.i))) }
