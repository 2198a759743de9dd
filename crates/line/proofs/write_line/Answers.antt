-- `line::write_line` meets its contract: a record that is one A6 record in order is put as its line.
use Prim.Native.Nat.{ℕ, ◌≤◌}
use mathlib.Core.Path.{◌≡◌, refl, ap, sym, ◌∙◌}
use mathlib.Core.List.{List}
use lib.ListN.{length, take}
use lib.Seq.{length-take-le}
use native.Mathlib.Omega.{arith}
use Rattle.plan.specs.Fields.{fields_of}
use Rattle.plan.proofs.FieldLaws.{fields_sound}
use Rattle.text.specs.Answers.{text_answer, text_out}
use Rattle.text.proofs.WrittenLaws.{put_front}
use Rattle.line.specs.Writing.{line_of}
use Rattle.line.specs.Longest.{longest_line}
use Rattle.line.specs.FieldText.{fields_text}
use Rattle.line.proofs.WritingLaws.{fields_line, none_answer, none_out, line_answer, line_out}
use Rattle.line.proofs.LongestLaws.{line_short}
use Rattle.line.proofs.write_line.Goals.{After-put_line-n}
use Rattle.line.proofs.write_line.Goals as goal

pub returns-in_default-clause-value : goal.returns-in_default-clause-value
returns-in_default-clause-value c = none_answer c.args.row.now (length c.args.out.now) c.in_default.ensures

pub returns-in_default-clause-out_after : goal.returns-in_default-clause-out_after
returns-in_default-clause-out_after c = c.clear.ensures ∙ none_out c.args.row.now (length c.args.out.now) c.in_default.ensures

-- the line that is put, and that it is no longer than the longest
text_is : (c : After-put_line-n) → fields_text c.fields_of.result ≡ line_of c.args.row.now
text_is c = ap fields_text (c.fields_of.ensures ∙ ap fields_of c.in-Some.ensures.0) ∙ fields_line c.args.row.now

put : (c : After-put_line-n) → take c.put_line-n.result c.put_line-n.new.out ≡ line_of c.args.row.now
put c = put_front _ _ _ _ c.put_line-n.ensures ∙ text_is c

short : (c : After-put_line-n) → c.put_line-n.result ≤ longest_line
short c = omega (arith, c.put_line-n.ensures.0, ap length (text_is c), line_short c.args.row.now c.in-Some.ensures.1 (λ i. omega (arith, c.shared_slice_known-1.given i)))

pub put_line-n-requires : goal.put_line-n-requires
put_line-n-requires c =
    (rw (c.fields_of.ensures, c.in-Some.ensures.0) (fields_sound c.args.row.now c.in-Some.ensures.1 (λ i. omega (arith, c.shared_slice_known-1.given i))), refl)

pub slice_bounds-text-end : goal.slice_bounds-text-end
slice_bounds-text-end c = omega (arith, short (goal.at.slice_bounds-text-end c).After-put_line-n, c.put_line-n.auto.out)

pub slice_bounds-give-end : goal.slice_bounds-give-end
slice_bounds-give-end c =
    sym (length-take-le c.put_line-n.result c.put_line-n.new.out (omega (arith, short (goal.at.slice_bounds-give-end c).After-put_line-n, c.put_line-n.auto.out)))

pub returns-clause-value : goal.returns-clause-value
returns-clause-value c =
    let r = c.args.row.now in
    let room = length c.args.out.now in
    c.give.ensures.value ∙ ap (λ (s : List ℕ). text_answer s room) (put (goal.at.returns-clause-value c).After-put_line-n) ∙ line_answer r room c.in-Some.ensures.1

pub returns-clause-out_after : goal.returns-clause-out_after
returns-clause-out_after c =
    let r = c.args.row.now in
    let room = length c.args.out.now in
    c.give.ensures.out_after ∙ ap (λ (s : List ℕ). text_out s room) (put (goal.at.returns-clause-out_after c).After-put_line-n) ∙ line_out r room c.in-Some.ensures.1
