-- `names::standard_form` meets its contract: the standard form is put over zeros, where the name and the output are in order.
use Prim.Native.Nat.{ℕ}
use mathlib.Core.Path.{◌≡◌, ap, ◌∙◌, sym}
use Rattle.std.proofs.lemmas.Result.{err_from_is_err_and}
use Rattle.std.specs.Prelude.{Result, Err}
use Rattle.octets.specs.declared.Refusal.{Refusal}
use Rattle.octets.specs.declared.Refusal.TheVariants.{Given}
use Rattle.labels.specs.declared.Scanned.{Scanned}
use Rattle.octets.specs.Octets.{blank}
use Rattle.octets.specs.Answers.{answering}
use Rattle.labels.specs.Answers.{standard_by}
use Rattle.names.proofs.AnswerLaws.{given_answer, given_out, output_answer, output_out, done_is, done_puts}
use Rattle.names.proofs.standard_form.Goals as goal

given : (e : Refusal) → ◌≡◌ {A = Result Scanned Refusal} (Err e) (Err Given) → e ≡ Given
given e h = cc

pub returns-in_err-scanned-clause-value : goal.returns-in_err-scanned-clause-value
returns-in_err-scanned-clause-value c =
    let none = c.in_err-scanned.ensures.ok_part in
    let p = err_from_is_err_and c.from_residual.result c.from_residual.ensures.1 in
    let q = given _ (rw none at c.in_err-scanned.ensures.value) in
    rw (p.1, p.2, q) (given_answer c.args.name.now _ (rw none at c.whole.ensures))

pub returns-in_err-scanned-clause-out_after : goal.returns-in_err-scanned-clause-out_after
returns-in_err-scanned-clause-out_after c =
    let none = c.in_err-scanned.ensures.ok_part in
    c.clear.ensures ∙ given_out c.args.name.now _ (rw none at c.whole.ensures)

pub returns-then-out-ne255-clause-value : goal.returns-then-out-ne255-clause-value
returns-then-out-ne255-clause-value c =
    let some = c.in_ok-scanned.ensures.ok_part in
    let w = rw some at c.whole.ensures in
    output_answer c.args.name.now _ w.0 (λ e. c.if-out-ne255.true (c.clear.auto.out ∙ e))

pub returns-then-out-ne255-clause-out_after : goal.returns-then-out-ne255-clause-out_after
returns-then-out-ne255-clause-out_after c =
    let some = c.in_ok-scanned.ensures.ok_part in
    let w = rw some at c.whole.ensures in
    c.clear.ensures ∙ output_out c.args.name.now _ w.0 (λ e. c.if-out-ne255.true (c.clear.auto.out ∙ e))

pub put_standard-n-requires : goal.put_standard-n-requires
put_standard-n-requires c =
    let some = c.in_ok-scanned.ensures.ok_part in
    let w = rw some at c.whole.ensures in
    (w.0, ap standard_by w.1, c.clear.ensures ∙ ap blank (sym c.clear.auto.out ∙ c.if-out-ne255.false))

pub returns-clause-value : goal.returns-clause-value
returns-clause-value c =
    let some = c.in_ok-scanned.ensures.ok_part in
    let w = rw some at c.whole.ensures in
    ap (λ (l : ℕ). answering l 0) c.put_standard-n.ensures.1 ∙ done_is c.args.name.now _ w.0 (sym c.clear.auto.out ∙ c.if-out-ne255.false)

pub returns-clause-out_after : goal.returns-clause-out_after
returns-clause-out_after c =
    let some = c.in_ok-scanned.ensures.ok_part in
    let w = rw some at c.whole.ensures in
    c.put_standard-n.ensures.0 ∙ done_puts c.args.name.now _ w.0 (sym c.clear.auto.out ∙ c.if-out-ne255.false)
