-- `reverse::lookup` meets its contract: refused before the walk, or the walk from the starting name.
use mathlib.Core.Path.{◌≡◌, ap, ◌∙◌, sym}
use lib.ListN.{length}
use native.Mathlib.Omega.{arith}
use Rattle.std.proofs.lemmas.Result.{err_from_is_err_and}
use Rattle.octets.specs.Octets.{blank}
use Rattle.octets.proofs.RefusalLaws.{code_some}
use Rattle.plan.specs.Check.{check_of}
use Rattle.plan.specs.Faults.{replying}
use Rattle.plan.proofs.EntryLaws.{reply_done, reply_refused, reply_fault}
use Rattle.reverse.specs.Answers.{early_number}
use Rattle.reverse.proofs.StartLaws.{start_standing}
use Rattle.reverse.proofs.ReplyLaws.{early_zero, early, walked}
use Rattle.reverse.proofs.lookup.Goals.{In_ok-early}
use Rattle.reverse.proofs.lookup.Goals as goal

-- where nothing is refused early: the table, the address and the output are in order
sound : (c : In_ok-early) → (check_of c.args.table.now ≡ 0) × (length c.args.address.now ≡ 16) × (length c.args.out.now ≡ 255)
sound c = early_zero c.args.table.now c.args.address.now (length c.args.out.now) (ap (early_number c.args.table.now c.args.address.now) (sym c.clear.auto.out) ∙ c.in_ok-early.ensures)

pub returns-in_err-early : goal.returns-in_err-early
returns-in_err-early c =
    let a = c.args in
    let p = err_from_is_err_and c.from_residual.result c.from_residual.ensures.1 in
    let w = c.in_err-early.ensures in
    let r = early a.table.now a.address.now a.limit (length a.out.now) _ (w.0 ∙ ap (early_number a.table.now a.address.now) c.clear.auto.out) (code_some _) in
    record {
      reply = rw (p.1, p.2) (reply_fault a.table.now _ w.1 ∙ ap (replying a.table.now) r.0);
      output = c.clear.ensures ∙ r.1;
    }

pub start-name-requires : goal.start-name-requires
start-name-requires c = (sound (goal.at.start-name-requires c).In_ok-early).1

pub walk-requires : goal.walk-requires
walk-requires c =
    let s = sound (goal.at.walk-requires c).In_ok-early in
    record {
      in_order = (s.0, rw c.start-name.ensures (start_standing c.args.address.now (λ i. omega (arith, c.type_inv.address i)) s.1));
      done_bound = (omega (arith, c.ranges), c.clear.ensures ∙ ap blank s.2);
    }

pub returns-in_err-done : goal.returns-in_err-done
returns-in_err-done c =
    let a = c.args in
    let s = sound (goal.at.returns-in_err-done c).In_ok-early in
    let p = err_from_is_err_and c.from_residual-in_err-done.result c.from_residual-in_err-done.ensures.1 in
    let w = c.in_err-done.ensures in
    let r = walked a.table.now a.address.now a.limit (length a.out.now) s (λ i. omega (arith, c.type_inv.address i)) c.start-name.result c.start-name.ensures _ _ w.value w.out_after in
    record {
      reply = rw (p.1, p.2) (reply_refused a.table.now s.0 _ ∙ ap (replying a.table.now) r.0);
      output = r.1;
    }

pub returns : goal.returns
returns c =
    let a = c.args in
    let s = sound (goal.at.returns c).In_ok-early in
    let w = c.in_ok-done.ensures in
    let r = walked a.table.now a.address.now a.limit (length a.out.now) s (λ i. omega (arith, c.type_inv.address i)) c.start-name.result c.start-name.ensures _ _ w.value w.out_after in
    record {
      reply = reply_done a.table.now s.0 c.in_ok-done.done ∙ ap (replying a.table.now) r.0;
      output = r.1;
    }
