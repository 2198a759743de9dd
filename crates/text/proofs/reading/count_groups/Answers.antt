use Prim.Native.Nat.{◌+◌}
use mathlib.Core.Path.{sym, ◌∙◌}
use lib.ListN.{length}
use native.Mathlib.Omega.{arith}
use borrow.Author.Tests.{lt-ltb, le-ltb, eqb-true, eqb-false}
use Rattle.text.proofs.CountLaws.{counting_start, counting_turn, counting_end, count_none, count_bad, count_good}
use Rattle.text.proofs.reading.count_groups.Goals as goal

pub returns-then-is_empty : goal.returns-then-is_empty
returns-then-is_empty c = count_none c.args.text.now (eqb-true (length c.args.text.now) 0 (sym c.is_empty.ensures ∙ c.if-is_empty.true))

pub loop-c-init : goal.loop-c-init
loop-c-init c =
    let z = eqb-false (length c.args.text.now) 0 (sym c.is_empty.ensures ∙ c.if-is_empty.false) in
    (omega arith, counting_start c.args.text.now)

pub returns-in_err-t : goal.returns-in_err-t
returns-in_err-t c =
    let text = c.args.text.now in
    let l = c.loop-c in
    let k = counting_turn text l.t l.c-index l.invariant.1 (omega arith) in
    c.from_residual.ensures ∙ count_bad text l.invariant.0 (k.1 (sym c.step.ensures ∙ c.in_err-t.was))

pub loop-c-preserved : goal.loop-c-preserved
loop-c-preserved c =
    let l = c.loop-c in
    (l.invariant.0, (counting_turn c.args.text.now l.t l.c-index l.invariant.1 (omega arith)).0 c.in_ok-t.t (sym c.step.ensures ∙ c.in_ok-t.was))

pub returns-then-t-eq0 : goal.returns-then-t-eq0
returns-then-t-eq0 c =
    let text = c.args.text.now in
    let l = c.loop-c in
    let k = counting_end text l.t l.c-index l.invariant.1 (omega arith) in
    count_bad text l.invariant.0 (k.0 ∙ le-ltb 0 l.t.digits (omega arith))

pub returns : goal.returns
returns c =
    let text = c.args.text.now in
    let l = c.loop-c in
    let k = counting_end text l.t l.c-index l.invariant.1 (omega arith) in
    count_good text (l.t.groups + 1) l.invariant.0 (k.0 ∙ lt-ltb 0 l.t.digits (omega arith)) k.1
