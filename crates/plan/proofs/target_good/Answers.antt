-- `plan::target_good` meets its contract.
use mathlib.Core.Path.{◌≡◌, ap, ◌∙◌, sym}
use mathlib.Core.Bool.{true, false}
use lib.ListN.{length}
use borrow.Author.Rules.{rules}
use Rattle.plan.specs.Layout.{slot_size}
use Rattle.plan.specs.Check.{slot_good, slot_empty, targetless}
use Rattle.plan.proofs.SlotLaws.{slot_empty_lem}
use Rattle.plan.proofs.FaultLaws.{target_none, target_some}
use Rattle.plan.proofs.target_good.Goals as goal

pub returns-then-is_targetless : goal.returns-then-is_targetless
returns-then-is_targetless c =
    let r = c.args.row.now in
    let s = c.target_slot-slot.result.now in
    let l : length s ≡ slot_size = search rules in
    let e : targetless r ≡ true = sym c.is_targetless.ensures ∙ c.if-is_targetless.true in
    c.is_blank.ensures ∙ slot_empty_lem s l ∙ ap slot_empty c.target_slot-slot.ensures ∙ sym (target_none r e)

pub returns : goal.returns
returns c =
    let r = c.args.row.now in
    let e : targetless r ≡ false = sym c.is_targetless.ensures ∙ c.if-is_targetless.false in
    c.slot_good.ensures ∙ ap slot_good c.target_slot-slot.ensures ∙ sym (target_some r e)
