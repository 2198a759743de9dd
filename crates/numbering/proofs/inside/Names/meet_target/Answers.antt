-- `numbering::inside::Names::meet_target` meets its contract.
use mathlib.Core.Path.{refl, ap, sym, ◌∙◌}
use native.Mathlib.Omega.{arith}
use Rattle.plan.specs.Check.{targetless}
use Rattle.plan.proofs.OrderLaws.{order_count}
use Rattle.numbering.specs.Meeting.{names_in}
use Rattle.numbering.proofs.OrderLaws.{target_named}
use Rattle.numbering.proofs.NamesLaws.{target_none, target_some}
use Rattle.numbering.proofs.HeldLaws.{slot_target}
use Rattle.numbering.proofs.inside.Names.meet_target.Goals as goal

pub returns-then-is_targetless : goal.returns-then-is_targetless
returns-then-is_targetless c =
    let n = c.args.self.now in
    let e = target_none (names_in n) n.table.now c.args.index (sym (c.is_targetless.ensures ∙ ap targetless c.row.ensures) ∙ c.if-is_targetless.true) in
    record { table = refl; numbered = sym e.1; names_are = sym e.0; most = omega arith }

pub overflow_mul-index : goal.overflow_mul-index
overflow_mul-index c = omega (arith, order_count c.args.self.now.table.now c.requires.in_order)

pub overflow_add-index : goal.overflow_add-index
overflow_add-index c = omega (arith, order_count c.args.self.now.table.now c.requires.in_order)

pub meet-requires : goal.meet-requires
meet-requires c =
    let n = c.args.self.now in
    (target_named n.table.now c.requires.in_order c.args.index c.requires.index_bound.0 (sym (c.is_targetless.ensures ∙ ap targetless c.row.ensures) ∙ c.if-is_targetless.false), c.requires.index_bound.1)

pub returns : goal.returns
returns c =
    let n = c.args.self.now in
    let e = target_some (names_in n) n.table.now c.args.index (sym (c.is_targetless.ensures ∙ ap targetless c.row.ensures) ∙ c.if-is_targetless.false) in
    rw (e.0, e.1, ← slot_target n.table.now c.args.index) c.meet.ensures
