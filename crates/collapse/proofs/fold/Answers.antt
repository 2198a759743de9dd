-- `collapse::fold` meets its contract: 9, then 7, then the records.
use mathlib.Core.Path.{◌≡◌, sym, ap, ◌∙◌}
use mathlib.Core.Bool.{false}
use native.Mathlib.Omega.{arith}
use Prim.Native.Nat.{ℕ, ◌/◌, ◌≤◌}
use lib.ListN.{length}
use Rattle.octets.specs.Answers.{answering}
use Rattle.octets.proofs.AnswerLaws.{not_nought, refused_answer}
use Rattle.names.proofs.StandardLaws.{in_standard}
use Rattle.plan.specs.Layout.{record_size, max_records}
use Rattle.plan.specs.Check.{entry_number}
use Rattle.plan.proofs.EntryLaws.{entry_done}
use Rattle.collapse.specs.Fold.{reviving, fold_of}
use Rattle.collapse.specs.Running.{crossed}
use Rattle.collapse.proofs.FoldLaws.{fold_whole}
use Rattle.collapse.proofs.RunningLaws.{revives_by, quiet_by, stored_cleared}
use Rattle.collapse.proofs.CollapseLaws.{passes_limit, passes_not, number_reviving, number_room, number_done, accepted_answer, accepted_out}
use Rattle.collapse.proofs.fold.Goals.{Start, Else-is_crossed}
use Rattle.collapse.proofs.fold.Goals as goal

valid : (c : Start) → entry_number c.args.table.now c.args.name.now ≡ 0
valid c = entry_done c.args.table.now c.args.name.now c.requires.0 (in_standard c.args.name.now c.requires.1).0

quiet : (c : Else-is_crossed) → reviving c.args.name.now c.args.table.now ≡ false
quiet c = quiet_by c.args.name.now c.args.table.now (sym (c.is_crossed.ensures ∙ ap crossed c.survey.ensures) ∙ c.if-is_crossed.false)

pub returns-then-is_crossed-clause-answer : goal.returns-then-is_crossed-clause-answer
returns-then-is_crossed-clause-answer c =
    let t = c.args.table.now in
    let x = c.args.name.now in
    let v = revives_by x t (sym (c.is_crossed.ensures ∙ ap crossed c.survey.ensures) ∙ c.if-is_crossed.true) in
    let e = number_reviving t x (length c.args.out.now) (valid (goal.at.returns-then-is_crossed-clause-answer c).Start) c.requires.2 v in
    refused_answer 9 _ (sym e) (not_nought 8) _ 0

pub returns-in_default-clause-answer : goal.returns-in_default-clause-answer
returns-in_default-clause-answer c =
    let t = c.args.table.now in
    let x = c.args.name.now in
    let size = length c.args.out.now in
    let q = quiet (goal.at.returns-in_default-clause-answer c).Else-is_crossed in
    let over = passes_limit size (fold_of x t) (omega (arith, c.in_default.ensures, c.min-most.ensures)) in
    let e = number_room t x size (valid (goal.at.returns-in_default-clause-answer c).Start) c.requires.2 q over in
    refused_answer 7 _ (sym e) (not_nought 6) _ 0

pub returns : goal.returns
returns c =
    let t = c.args.table.now in
    let x = c.args.name.now in
    let out = c.args.out.now in
    let size = length out in
    let k = c.in-Some.ensures in
    let q = quiet (goal.at.returns c).Else-is_crossed in
    let room : length (fold_of x t) ≤ size / record_size = omega (arith, k.0, k.1, c.min-most.ensures) in
    let few : length (fold_of x t) ≤ max_records = omega (arith, k.0, k.1, c.min-most.ensures) in
    let e = number_done t x size (valid (goal.at.returns c).Start) c.requires.2 q (passes_not size (fold_of x t) room few) in
    record {
      answer = ap (λ (v : ℕ). answering v 0) k.1 ∙ sym (accepted_answer t x size e);
      output = stored_cleared out _ _ (fold_of x t) c.in-Some.n (fold_whole x t) k.1 room k.2 c.put_all.auto.out c.clear.ensures ∙ sym (accepted_out t x size e);
    }
