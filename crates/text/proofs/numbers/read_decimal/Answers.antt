use Prim.Native.Nat.{◌+◌}
use mathlib.Core.Path.{sym, ◌∙◌}
use native.Mathlib.Omega.{arith}
use Rattle.text.proofs.DecimalLaws.{Stopped, passed_none, passed_turn, passed_stop, stop_other, stop_end, decimal_found}
use Rattle.text.proofs.numbers.read_decimal.Goals.{then-loop-next-test+else-is_ascii_digit, else-loop-next-test}
use Rattle.text.proofs.numbers.read_decimal.Goals as goal

pub loop-next-init : goal.loop-next-init
loop-next-init c = let a = c.args in (omega arith, omega arith, passed_none a.s.now a.from (a.bound + 1))

pub loop-next-preserved : goal.loop-next-preserved
loop-next-preserved c =
    let a = c.args in
    let l = c.loop-next in
    let t = passed_turn a.s.now a.from (a.bound + 1) l.next l.value l.invariant.2 (omega arith) (sym c.is_ascii_digit.ensures.value ∙ c.if-is_ascii_digit.true) in
    (omega arith, omega arith, rw (c.min-value.ensures, c.from.ensures, l.invariant.0) t)

pub is_formed-formed-requires : goal.is_formed-formed-requires
is_formed-formed-requires c =
    let a = c.args in
    let l = c.loop-next in
    let p : Stopped c.args.s.now c.args.from (c.args.bound + 1) c.loop-next.next c.loop-next.value = passed_stop a.s.now a.from (a.bound + 1) l.next l.value l.invariant.2
    (elim c.loop-next-test.branch [
      | then-loop-next-test+else-is_ascii_digit w ↦ stop_other a.s.now l.next (omega arith) (sym w.is_ascii_digit.ensures.value ∙ w.if-is_ascii_digit.false)
      | else-loop-next-test w ↦ stop_end a.s.now l.next (omega arith)
    ]) in
    p.0

pub returns : goal.returns
returns c =
    let a = c.args in
    let l = c.loop-next in
    let p : Stopped c.args.s.now c.args.from (c.args.bound + 1) c.loop-next.next c.loop-next.value = passed_stop a.s.now a.from (a.bound + 1) l.next l.value l.invariant.2
    (elim c.loop-next-test.branch [
      | then-loop-next-test+else-is_ascii_digit w ↦ stop_other a.s.now l.next (omega arith) (sym w.is_ascii_digit.ensures.value ∙ w.if-is_ascii_digit.false)
      | else-loop-next-test w ↦ stop_end a.s.now l.next (omega arith)
    ]) in
    decimal_found a.s.now a.from a.bound c.is_formed-formed.result l.value l.next c.is_formed-formed.ensures p.1 p.0
