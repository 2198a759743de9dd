-- `a6::inside::lay` meets its contract: the number decides, and the data is put over zeros.
use Prim.Native.Nat.{ℕ}
use mathlib.Core.Path.{◌≡◌, ap, sym, ◌∙◌}
use lib.ListN.{length}
use borrow.Author.Rules.{rules}
use Rattle.std.specs.Prelude.{Err}
use Rattle.octets.specs.Octets.{blank}
use Rattle.octets.specs.Answers.{answer_by, out_by}
use Rattle.octets.specs.Refusals.{answered, code_of}
use Rattle.octets.proofs.AnswerLaws.{refused_answer, refused_out, else_kept, else_later}
use Rattle.octets.proofs.RefusalLaws.{code_some}
use Rattle.a6.specs.Accepted.{room_number}
use Rattle.a6.specs.Parts.{lent_value, laid_of, laid_number}
use Rattle.a6.proofs.AcceptedLaws.{writable}
use Rattle.a6.proofs.inside.lay.Goals.{After-from_residual}
use Rattle.a6.proofs.inside.lay.Goals as goal

-- the number of a value that is refused
refused : (c : After-from_residual) → code_of c.in_err-check_value.field-0.0 ≡ laid_number (lent_value c.args.value) c.args.before (length c.args.out.now)
refused c = let e = c.in_err-check_value.ensures in e ∙ sym (else_kept _ _ (λ z. code_some c.in_err-check_value.field-0.0 (e ∙ z)))

pub returns-in_err-check_value-clause-value : goal.returns-in_err-check_value-clause-value
returns-in_err-check_value-clause-value c =
    let r : c.from_residual.result ≡ Err c.in_err-check_value.field-0.0 = search rules in
    ap answered r ∙ refused_answer _ _ (refused c) (code_some c.in_err-check_value.field-0.0) (length (laid_of (lent_value c.args.value) c.args.before)) 0

pub returns-in_err-check_value-clause-out_after : goal.returns-in_err-check_value-clause-out_after
returns-in_err-check_value-clause-out_after c =
    c.clear.ensures ∙ refused_out _ _ (refused c) (code_some c.in_err-check_value.field-0.0) (laid_of (lent_value c.args.value) c.args.before) (length c.args.out.now)

pub put_data-requires : goal.put_data-requires
put_data-requires c = ((writable (lent_value c.args.value) (sym c.in_ok-check_value.ensures)).low, c.requires, c.clear.ensures ∙ ap blank (sym c.clear.auto.out))

pub returns : goal.returns
returns c =
    let v = lent_value c.args.value in
    let b = c.args.before in
    let d = laid_of v b in
    let k = c.clear.auto.out in
    let n : room_number d (length c.args.out.now) ≡ laid_number v b (length c.args.out.now) = sym (else_later _ _ (sym c.in_ok-check_value.ensures)) in
    record {
      value = c.put_data.ensures.value ∙ (λ i. answer_by (room_number d (k i)) (length d) 0) ∙ ap (λ (m : ℕ). answer_by m (length d) 0) n;
      out_after = c.put_data.ensures.out_after ∙ (λ i. out_by (room_number d (k i)) d (k i)) ∙ ap (λ (m : ℕ). out_by m d (length c.args.out.now)) n;
    }
