-- `text::write_decimal` meets its contract: the digits stand in front of a list that has room for them, and are given out.
use Prim.Native.Nat.{ℕ}
use mathlib.Core.Path.{ap, sym, ◌∙◌}
use mathlib.Core.List.{List}
use lib.ListN.{length}
use lib.Seq.{length-take-le}
use native.Mathlib.Omega.{arith}
use Rattle.text.specs.Decimal.{write_decimal}
use Rattle.text.specs.Answers.{text_answer, text_out}
use Rattle.text.proofs.DecimalLaws.{decimal_few}
use Rattle.text.proofs.WrittenLaws.{put_front}
use Rattle.text.proofs.write_decimal.Goals as goal

pub put_number-length-requires-clause-room : goal.put_number-length-requires-clause-room
put_number-length-requires-clause-room c = rw c.from.ensures (omega (arith, decimal_few c.args.n 9 (omega arith)))

pub slice_bounds-text-end : goal.slice_bounds-text-end
slice_bounds-text-end c =
    let p = rw c.from.ensures at c.put_number-length.ensures in
    omega (arith, decimal_few c.args.n 9 (omega arith), p.0, c.put_number-length.auto.out)

pub slice_bounds-give-end : goal.slice_bounds-give-end
slice_bounds-give-end c =
    let p = rw c.from.ensures at c.put_number-length.ensures in
    sym (length-take-le _ _ (omega (arith, decimal_few c.args.n 9 (omega arith), p.0, c.put_number-length.auto.out)))

pub returns : goal.returns
returns c =
    let room = length c.args.out.now in
    let g = c.give in
    let f = put_front _ _ _ (write_decimal c.args.n) (rw c.from.ensures at c.put_number-length.ensures) in
    record { value = g.ensures.value ∙ ap (λ (t : List ℕ). text_answer t room) f; out_after = g.ensures.out_after ∙ ap (λ (t : List ℕ). text_out t room) f }
