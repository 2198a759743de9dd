-- `nametext::write_name` meets its contract: the standard form is held, its text stands in front of a list that has room for any, and is given out.
use mathlib.Core.Path.{ap, sym, ◌∙◌}
use lib.ListN.{length}
use lib.Seq.{length-take-le}
use native.Mathlib.Omega.{arith}
use Rattle.octets.proofs.AnswerLaws.{refused_answer, refused_out, not_nought}
use Rattle.text.proofs.WrittenLaws.{put_front}
use Rattle.nametext.specs.Writing.{text_of}
use Rattle.nametext.specs.Answers.{name_text}
use Rattle.nametext.proofs.AnswerLaws.{Held, held_text, number_malformed, written_answer, written_out}
use Rattle.nametext.proofs.write_name.Goals.{After-as_slice}
use Rattle.nametext.proofs.write_name.Goals as goal

pub returns-in_default : goal.returns-in_default
returns-in_default c =
    let name = c.args.name.now in
    let room = length c.args.out.now in
    let e = sym (number_malformed name room (sym c.in_default.ensures.variant)) in
    record {
      value = refused_answer 4 _ e (not_nought 3) (length (name_text name)) 0;
      out_after = c.clear.ensures ∙ refused_out 4 _ e (not_nought 3) (name_text name) room;
    }

-- a name is held
held : (c : After-as_slice) → Held c.args.name.now c.as_slice.result.now
held c =
    rw c.as_slice.ensures (held_text c.args.name.now c.in-Some.held (λ i. (c.type_inv.name i).fits) (sym c.in-Some.ensures.variant) c.in-Some.ensures.value)

pub put_name-length-requires : goal.put_name-length-requires
put_name-length-requires c = let h = held (goal.at.put_name-length-requires c).After-as_slice in (h.standard, omega (arith, h.short))

pub slice_bounds-text-end : goal.slice_bounds-text-end
slice_bounds-text-end c =
    let h = held (goal.at.slice_bounds-text-end c).After-as_slice in
    omega (arith, c.put_name-length.ensures.0, h.text, c.put_name-length.auto.out)

pub slice_bounds-give-end : goal.slice_bounds-give-end
slice_bounds-give-end c =
    let h = held (goal.at.slice_bounds-give-end c).After-as_slice in
    sym (length-take-le _ _ (omega (arith, c.put_name-length.ensures.0, h.text, c.put_name-length.auto.out)))

pub give-requires : goal.give-requires
give-requires c =
    let h = held (goal.at.give-requires c).After-as_slice in
    rw (put_front _ _ _ _ c.put_name-length.ensures) (omega (arith, h.text))

pub returns : goal.returns
returns c =
    let h = held (goal.at.returns c).After-as_slice in
    let name = c.args.name.now in
    let room = length c.args.out.now in
    let f = sym c.in-Some.ensures.variant in
    let t = put_front _ _ _ _ c.put_name-length.ensures ∙ ap text_of h.is in
    record {
      value = c.give.ensures.value ∙ written_answer name room _ f t;
      out_after = c.give.ensures.out_after ∙ written_out name room _ f t;
    }
