-- `numbering::inside::Names::meet_owner` meets its contract: an owner that is seen to be the same has the number that is noted.
use mathlib.Core.Path.{refl, sym, ◌∙◌}
use native.Mathlib.Omega.{arith}
use Rattle.plan.proofs.OrderLaws.{order_count}
use Rattle.numbering.specs.Meeting.{names_in}
use Rattle.numbering.proofs.OrderLaws.{owner_named}
use Rattle.numbering.proofs.HeldLaws.{slot_owner}
use Rattle.numbering.proofs.ListingLaws.{again_after, noted_again}
use Rattle.numbering.proofs.inside.Names.meet_owner.Goals as goal

pub overflow_sub-result : goal.overflow_sub-result
overflow_sub-result c = again_after c.args.self.now.table.now c.args.index (sym c.is_again.ensures ∙ c.if-is_again.true)

pub bounds-own-index : goal.bounds-own-index
bounds-own-index c = omega (arith, again_after c.args.self.now.table.now c.args.index (sym c.is_again.ensures ∙ c.if-is_again.true), c.requires.index_bound.2.noted)

pub returns-then-is_again : goal.returns-then-is_again
returns-then-is_again c =
    let n = c.args.self.now in
    let e = noted_again n.table.now c.args.index (names_in n) c.requires.index_bound.2 (sym c.is_again.ensures ∙ c.if-is_again.true) in
    record { table = refl; numbered = e.0; names_are = e.1; most = omega arith }

pub overflow_mul-index : goal.overflow_mul-index
overflow_mul-index c = omega (arith, order_count c.args.self.now.table.now c.requires.in_order)

pub meet-requires : goal.meet-requires
meet-requires c = let n = c.args.self.now in (owner_named n.table.now c.requires.in_order c.args.index c.requires.index_bound.0, c.requires.index_bound.1)

pub returns : goal.returns
returns c = rw (← slot_owner c.args.self.now.table.now c.args.index) c.meet.ensures
