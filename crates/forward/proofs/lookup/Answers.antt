-- `forward::lookup` meets its contract: each refusal is one law, and the search of the standard form answers for the name.
use mathlib.Core.Path.{◌≡◌, ap, ◌∙◌, sym}
use mathlib.Core.Bool.{false}
use lib.ListN.{length}
use native.Mathlib.Omega.{arith}
use borrow.Author.Rules.{rules}
use Rattle.std.proofs.lemmas.Result.{err_from_is_err_and}
use Rattle.octets.specs.declared.Refusal.TheVariants.{Output}
use Rattle.octets.proofs.AnswerLaws.{not_nought}
use Rattle.octets.proofs.RefusalLaws.{code_some}
use Rattle.plan.specs.Faults.{replying}
use Rattle.plan.proofs.EntryLaws.{Enters, entered, entered_err, reply_done, reply_refused, reply_fault}
use Rattle.forward.specs.Lookup.{misfit}
use Rattle.forward.proofs.LookupLaws.{lookup_entry, lookup_misfit, refuses, looked, misfit_not}
use Rattle.forward.proofs.lookup.Goals.{In_ok-entered}
use Rattle.forward.proofs.lookup.Goals as goal

-- the name that is held
taken : (c : In_ok-entered) → Enters c.args.table.now c.args.name.now c.enter-entered.result.name c.enter-entered.result.name.length
taken c = entered _ _ _ _ _ c.in_ok-entered.was c.enter-entered.ensures.outcome c.enter-entered.ensures.name (search rules) (search rules)

pub returns-in_err-entered : goal.returns-in_err-entered
returns-in_err-entered c =
    let a = c.args in
    let p = err_from_is_err_and c.from_residual.result c.from_residual.ensures.1 in
    let w = entered_err a.table.now a.name.now _ _ c.in_err-entered.was c.enter-entered.ensures.outcome in
    let n = code_some c.in_err-entered.field-0.0.refusal in
    let e = lookup_entry a.table.now a.name.now a.limit (length a.out.now) (length a.ttls.now) (λ h. n (w.0 ∙ h)) in
    let r = refuses a.table.now a.name.now a.limit (length a.out.now) (length a.ttls.now) _ (w.0 ∙ sym e) n in
    record {
      reply = rw (p.1, p.2) (reply_fault a.table.now _ w.1 ∙ ap (replying a.table.now) r.answer);
      output = c.clear.ensures ∙ r.out;
      lifetimes = c.clear-2.ensures ∙ r.ttls;
    }

pub returns-then-is_misfit : goal.returns-then-is_misfit
returns-then-is_misfit c =
    let here = (goal.at.returns-then-is_misfit c).In_ok-entered in
    let a = c.args in
    let m = sym (λ i. misfit (c.clear.auto.out i) (c.clear-2.auto.out i)) ∙ sym c.if-is_misfit.ensures in
    let e = lookup_misfit a.table.now a.name.now a.limit (length a.out.now) (length a.ttls.now) (taken here).zero m in
    let r = refuses a.table.now a.name.now a.limit (length a.out.now) (length a.ttls.now) 5 (sym e) (not_nought 4) in
    record {
      reply = rw c.from.ensures (reply_refused a.table.now (taken here).order Output ∙ ap (replying a.table.now) r.answer);
      output = c.clear.ensures ∙ r.out;
      lifetimes = c.clear-2.ensures ∙ r.ttls;
    }

pub look-requires-clause-in_order : goal.look-requires-clause-in_order
look-requires-clause-in_order c =
    let here = (goal.at.look-requires-clause-in_order c).In_ok-entered in
    ((taken here).order, rw c.as_slice.ensures ((taken here).standing (λ i. omega (arith, c.type_inv.name i))))

pub returns-in_err-done : goal.returns-in_err-done
returns-in_err-done c =
    let here = (goal.at.returns-in_err-done c).In_ok-entered in
    let a = c.args in
    let p = err_from_is_err_and c.from_residual-in_err-done.result c.from_residual-in_err-done.ensures.1 in
    let w = c.in_err-done.ensures in
    let m : misfit (length a.out.now) (length a.ttls.now) ≡ false = sym (λ i. misfit (c.clear.auto.out i) (c.clear-2.auto.out i)) ∙ sym c.if-is_misfit.ensures in
    let r = looked a.table.now a.name.now a.limit (length a.out.now) (length a.ttls.now) (taken here).zero (λ i. omega (arith, c.type_inv.name i)) m
    (misfit_not (length a.out.now) (length a.ttls.now) m).1 c.as_slice.result.now (length c.clear.new.out) _ _ _ (c.as_slice.ensures ∙ (taken here).part) c.clear.auto.out w.value w.out_after w.lives_after in
    record {
      reply = rw (p.1, p.2) (reply_refused a.table.now (taken here).order _ ∙ ap (replying a.table.now) r.reply);
      output = r.written;
      lifetimes = r.lasting;
    }

pub returns : goal.returns
returns c =
    let here = (goal.at.returns c).In_ok-entered in
    let a = c.args in
    let w = c.in_ok-done.ensures in
    let m : misfit (length a.out.now) (length a.ttls.now) ≡ false = sym (λ i. misfit (c.clear.auto.out i) (c.clear-2.auto.out i)) ∙ sym c.if-is_misfit.ensures in
    let r = looked a.table.now a.name.now a.limit (length a.out.now) (length a.ttls.now) (taken here).zero (λ i. omega (arith, c.type_inv.name i)) m
    (misfit_not (length a.out.now) (length a.ttls.now) m).1 c.as_slice.result.now (length c.clear.new.out) _ _ _ (c.as_slice.ensures ∙ (taken here).part) c.clear.auto.out w.value w.out_after w.lives_after in
    record {
      reply = reply_done a.table.now (taken here).order c.in_ok-done.done ∙ ap (replying a.table.now) r.reply;
      output = r.written;
      lifetimes = r.lasting;
    }
