-- `collapse::fill` meets its contract: 1 to 5 in front, the name put in standard form, and what that form gives.
use mathlib.Core.Path.{sym, ap, ◌∙◌}
use native.Mathlib.Omega.{arith}
use lib.ListN.{length}
use Rattle.octets.specs.Octets.{Small}
use borrow.Author.Rules.{rules}
use Rattle.std.proofs.lemmas.Result.{err_from_is_err_and}
use Rattle.octets.specs.declared.Refusal.TheVariants.{Output}
use Rattle.octets.proofs.AnswerLaws.{not_nought, refused_answer}
use Rattle.octets.proofs.RefusalLaws.{code_some}
use Rattle.plan.specs.Faults.{replying}
use Rattle.plan.proofs.EntryLaws.{Enters, entered, entered_err, reply_done, reply_refused, reply_fault}
use Rattle.collapse.proofs.CollapseLaws.{number_entry, number_output, given_same}
use Rattle.collapse.proofs.fill.Goals.{In_ok-entered}
use Rattle.collapse.proofs.fill.Goals as goal

-- what is entered: a table in order, and the name's standard form
taken : (c : In_ok-entered) → Enters c.args.table.now c.args.name.now c.enter-entered.result.name c.enter-entered.result.name.length
taken c = entered _ _ _ _ _ c.in_ok-entered.was c.enter-entered.ensures.outcome c.enter-entered.ensures.name (search rules) (search rules)

small : (c : In_ok-entered) → Small c.args.name.now
small c i = omega (arith, c.type_inv.name i)

pub returns-in_err-entered : goal.returns-in_err-entered
returns-in_err-entered c =
    let t = c.args.table.now in
    let x = c.args.name.now in
    let size = length c.args.out.now in
    let p = err_from_is_err_and c.from_residual.result c.from_residual.ensures.1 in
    let w = entered_err t x _ _ c.in_err-entered.was c.enter-entered.ensures.outcome in
    let e = w.0 ∙ sym (number_entry t x size (λ h. code_some _ (w.0 ∙ h))) in
    record { reply = rw (p.1, p.2) (reply_fault t _ w.1 ∙ ap (replying t) (refused_answer _ _ e (code_some _) _ 0)); output = rw p.1 tt }

pub returns-then-out-ne0-clause-reply : goal.returns-then-out-ne0-clause-reply
returns-then-out-ne0-clause-reply c =
    let t = c.args.table.now in
    let x = c.args.name.now in
    let k = taken (goal.at.returns-then-out-ne0-clause-reply c).In_ok-entered in
    let e = number_output t x (length c.args.out.now) k.zero c.if-out-ne0.true in
    rw c.from.ensures (reply_refused t k.order Output ∙ ap (replying t) (refused_answer 5 _ (sym e) (not_nought 4) _ 0))

pub fold-requires : goal.fold-requires
fold-requires c =
    let here = (goal.at.fold-requires c).In_ok-entered in
    let k = taken here in
    (k.order, rw c.as_slice.ensures (k.standing (small here)), c.if-out-ne0.false)

pub returns-in_err-done : goal.returns-in_err-done
returns-in_err-done c =
    let t = c.args.table.now in
    let here = (goal.at.returns-in_err-done c).In_ok-entered in
    let k = taken here in
    let p = err_from_is_err_and c.from_residual-in_err-done.result c.from_residual-in_err-done.ensures.1 in
    let g = given_same t c.args.name.now _ (length c.args.out.now) (small here) k.formed (c.as_slice.ensures ∙ k.part) in
    record { reply = rw (p.1, p.2) (reply_refused t k.order _ ∙ ap (replying t) (c.in_err-done.ensures.answer ∙ g.0)); output = rw p.1 tt }

pub returns : goal.returns
returns c =
    let t = c.args.table.now in
    let here = (goal.at.returns c).In_ok-entered in
    let k = taken here in
    let g = given_same t c.args.name.now _ (length c.args.out.now) (small here) k.formed (c.as_slice.ensures ∙ k.part) in
    record { reply = reply_done t k.order c.in_ok-done.done ∙ ap (replying t) (c.in_ok-done.ensures.answer ∙ g.0); output = c.in_ok-done.ensures.output ∙ g.1 }
