use mathlib.Core.Path.{ap, sym, ◌∙◌}
use lib.ListN.{length, length-set}
use native.Mathlib.Omega.{arith}
use borrow.Author.Tests.{eqb-true, eqb-false}
use Rattle.text.specs.Written.{written}
use Rattle.text.proofs.WrittenLaws.{written_none}
use Rattle.text.proofs.ReadLaws.{putting_start, putting_colon, putting_digit, putting_end, side_empty}
use Rattle.text.proofs.reading.put_groups.Goals.{then-c-eq58, else-c-eq58}
use Rattle.text.proofs.reading.put_groups.Goals as goal

pub returns-then-is_empty : goal.returns-then-is_empty
returns-then-is_empty c =
    let a = c.args in
    let z = eqb-true (length a.text.now) 0 (sym c.is_empty.ensures ∙ c.if-is_empty.true) in
    sym (ap (written a.out.now a.at) (side_empty a.text.now z) ∙ written_none a.out.now a.at)

pub loop-c-init : goal.loop-c-init
loop-c-init c =
    let a = c.args in
    let z = eqb-false (length a.text.now) 0 (sym c.is_empty.ensures ∙ c.if-is_empty.false) in
    putting_start a.text.now a.out.now a.at (omega arith) c.requires.under c.requires.text_in_bounds

pub bounds-out-next : goal.bounds-out-next
bounds-out-next c = let p = putting_colon c.loop-c.invariant (omega arith) (omega arith) in let l = length-set c.loop-c.out c.loop-c.next c.loop-c.v in omega (arith, p.room)

pub overflow_mul-v : goal.overflow_mul-v
overflow_mul-v c = let p = putting_digit c.loop-c.invariant (omega arith) c.if-c-eq58.false in omega (arith, p.0)

pub overflow_add-v : goal.overflow_add-v
overflow_add-v c = let p = putting_digit c.loop-c.invariant (omega arith) c.if-c-eq58.false in omega (arith, p.0, c.hexadecimal.ensures.0)

pub loop-c-preserved : goal.loop-c-preserved
loop-c-preserved c =
    elim c.if-c-eq58.branch [
      | then-c-eq58 w ↦ rw (w.out-is, w.next-is, w.v-is) (putting_colon c.loop-c.invariant (omega arith) w.if-c-eq58.true)
      | else-c-eq58 w ↦ rw (w.out-is, w.next-is, w.v-is, w.hexadecimal.ensures.0) (putting_digit c.loop-c.invariant (omega arith) w.if-c-eq58.false).1
    ]

pub bounds-out-next-2 : goal.bounds-out-next-2
bounds-out-next-2 c = (putting_end c.loop-c.invariant (omega arith)).0

pub returns : goal.returns
returns c = (putting_end c.loop-c.invariant (omega arith)).1
