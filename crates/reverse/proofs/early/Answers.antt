-- `reverse::early` meets its contract: each test is one law.
use mathlib.Core.Path.{ap, sym, ◌∙◌}
use Rattle.std.proofs.lemmas.Result.{err_from_is_err_and}
use Rattle.octets.specs.Refusals.{code_of}
use Rattle.plan.specs.declared.Refused.{Refused}
use Rattle.plan.proofs.PlaceLaws.{judged_ok, judged_err}
use Rattle.plan.proofs.EntryLaws.{order_place}
use Rattle.reverse.proofs.ReplyLaws.{early_table, early_address, early_room, early_none}
use Rattle.reverse.proofs.early.Goals as goal

pub returns-in_err-check : goal.returns-in_err-check
returns-in_err-check c =
    let a = c.args in
    let p = err_from_is_err_and c.from_residual.result c.from_residual.ensures.1 in
    let w = judged_err a.table.now _ c.in_err-check.ensures in
    rw (p.1, p.2) (w.1 ∙ sym (early_table a.table.now a.address.now a.room w.0), w.2)

pub returns-then-address-ne16 : goal.returns-then-address-ne16
returns-then-address-ne16 c =
    let a = c.args in
    let o = judged_ok a.table.now c.in_ok-check.ensures in (
      ap (λ (e : Refused). code_of e.refusal) c.from.ensures ∙ sym (early_address a.table.now a.address.now a.room o c.if-address-ne16.true),
      ap (λ (e : Refused). e.fault) c.from.ensures ∙ sym (order_place a.table.now o),
    )

pub returns-then-room-ne255 : goal.returns-then-room-ne255
returns-then-room-ne255 c =
    let a = c.args in
    let o = judged_ok a.table.now c.in_ok-check.ensures in (
      ap (λ (e : Refused). code_of e.refusal) c.from-then-room-ne255.ensures ∙ sym (early_room a.table.now a.address.now a.room o c.if-address-ne16.false c.if-room-ne255.true),
      ap (λ (e : Refused). e.fault) c.from-then-room-ne255.ensures ∙ sym (order_place a.table.now o),
    )

pub returns : goal.returns
returns c =
    let a = c.args in
    early_none a.table.now a.address.now a.room (judged_ok a.table.now c.in_ok-check.ensures) c.if-address-ne16.false c.if-room-ne255.false
