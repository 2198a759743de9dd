-- `line::read_line` meets its contract: one law for each return.
use mathlib.Core.Path.{◌≡◌, refl, ap, ◌∙◌}
use lib.ListN.{length}
use native.Mathlib.Omega.{arith}
use borrow.Author.Rules.{rules}
use Rattle.std.specs.Prelude.{Err}
use Rattle.octets.specs.Refusals.{answered, code_of}
use Rattle.octets.specs.declared.Refusal.TheVariants.{Form}
use Rattle.octets.proofs.RefusalLaws.{code_some}
use Rattle.line.specs.Words.{body_of}
use Rattle.line.proofs.LineLaws.{read_refused, number_unended, number_short, read_done, ends_ten, ends_other, read_earned, read_whole}
use Rattle.line.proofs.read_line.Goals as goal

pub returns-in_err-body-clause-value : goal.returns-in_err-body-clause-value
returns-in_err-body-clause-value c =
    let line = c.args.line.now in
    let h = rw c.in_err-body.ensures.ok_part at c.strip_suffix.ensures.cases in
    let f : c.in_err-body.field-0.0 ≡ Form = (let e = rw c.in_err-body.ensures.ok_part at c.in_err-body.ensures.value in cc) in
    let r : c.from_residual.result ≡ Err c.in_err-body.field-0.0 = search rules in
    ap answered (r ∙ ap Err f) ∙ (read_refused line _ (length c.args.out.now) c.clear.ensures 20 _ refl (λ z. omega arith) (number_unended line (length c.args.out.now) (ends_other line h))).0

pub returns-in_err-body-clause-out_after : goal.returns-in_err-body-clause-out_after
returns-in_err-body-clause-out_after c =
    let line = c.args.line.now in
    let h = rw c.in_err-body.ensures.ok_part at c.strip_suffix.ensures.cases in
    (read_refused line _ (length c.args.out.now) c.clear.ensures 20 _ refl (λ z. omega arith) (number_unended line (length c.args.out.now) (ends_other line h))).1

pub returns-in_err-fields-clause-value : goal.returns-in_err-fields-clause-value
unfolding body_of
returns-in_err-fields-clause-value c =
    let line = c.args.line.now in
    let h = rw c.in_ok-body.ensures.ok_part at c.strip_suffix.ensures.cases in
    let r : c.from_residual-in_err-fields.result ≡ Err c.in_err-fields.field-0.0 = search rules in
    let e = c.in_err-fields.field-0.0 in
    ap answered r ∙ (read_refused line _ (length c.args.out.now) c.clear.ensures (code_of e) _ refl (code_some e) (read_earned line c.in_ok-body.body.now h.1 (ends_ten line h.0) e (length c.args.out.now) c.in_err-fields.ensures)).0

pub returns-in_err-fields-clause-out_after : goal.returns-in_err-fields-clause-out_after
unfolding body_of
returns-in_err-fields-clause-out_after c =
    let line = c.args.line.now in
    let h = rw c.in_ok-body.ensures.ok_part at c.strip_suffix.ensures.cases in
    let e = c.in_err-fields.field-0.0 in
    (read_refused line _ (length c.args.out.now) c.clear.ensures (code_of e) _ refl (code_some e) (read_earned line c.in_ok-body.body.now h.1 (ends_ten line h.0) e (length c.args.out.now) c.in_err-fields.ensures)).1

pub returns-then-out-lt-RECORD-clause-value : goal.returns-then-out-lt-RECORD-clause-value
unfolding body_of
returns-then-out-lt-RECORD-clause-value c =
    let line = c.args.line.now in
    let h = rw c.in_ok-body.ensures.ok_part at c.strip_suffix.ensures.cases in
    let t = ends_ten line h.0 in
    let w = read_whole line c.in_ok-body.body.now h.1 t c.in_ok-fields.fields c.in_ok-fields.ensures in
    (read_refused line _ (length c.args.out.now) c.clear.ensures 23 _ refl (λ z. omega arith) (number_short line (length c.args.out.now) t w.0 (omega (arith, c.if-out-lt-RECORD.true, c.clear.auto.out)))).0

pub returns-then-out-lt-RECORD-clause-out_after : goal.returns-then-out-lt-RECORD-clause-out_after
unfolding body_of
returns-then-out-lt-RECORD-clause-out_after c =
    let line = c.args.line.now in
    let h = rw c.in_ok-body.ensures.ok_part at c.strip_suffix.ensures.cases in
    let t = ends_ten line h.0 in
    let w = read_whole line c.in_ok-body.body.now h.1 t c.in_ok-fields.fields c.in_ok-fields.ensures in
    (read_refused line _ (length c.args.out.now) c.clear.ensures 23 _ refl (λ z. omega arith) (number_short line (length c.args.out.now) t w.0 (omega (arith, c.if-out-lt-RECORD.true, c.clear.auto.out)))).1

pub returns-clause-value : goal.returns-clause-value
unfolding body_of
returns-clause-value c =
    let line = c.args.line.now in
    let h = rw c.in_ok-body.ensures.ok_part at c.strip_suffix.ensures.cases in
    let t = ends_ten line h.0 in
    let w = read_whole line c.in_ok-body.body.now h.1 t c.in_ok-fields.fields c.in_ok-fields.ensures in
    (read_done line _ _ (length c.args.out.now) c.in_ok-fields.fields t w.0 (omega (arith, c.if-out-lt-RECORD.false, c.clear.auto.out)) w.1 c.clear.ensures c.write_fields.ensures).0

pub returns-clause-out_after : goal.returns-clause-out_after
unfolding body_of
returns-clause-out_after c =
    let line = c.args.line.now in
    let h = rw c.in_ok-body.ensures.ok_part at c.strip_suffix.ensures.cases in
    let t = ends_ten line h.0 in
    let w = read_whole line c.in_ok-body.body.now h.1 t c.in_ok-fields.fields c.in_ok-fields.ensures in
    (read_done line _ _ (length c.args.out.now) c.in_ok-fields.fields t w.0 (omega (arith, c.if-out-lt-RECORD.false, c.clear.auto.out)) w.1 c.clear.ensures c.write_fields.ensures).1
