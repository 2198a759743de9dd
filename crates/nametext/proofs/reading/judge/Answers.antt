use Rattle.nametext.proofs.DotLaws.{last_is, dot_there, number_empty, number_unended, number_root, number_start, parts_end}
use Rattle.nametext.proofs.JudgeLaws.{judge_none, judge_stop, judge_next, form_is, form_not}
use Rattle.nametext.specs.Places.{concluded, judge_from}
use Rattle.nametext.specs.Reading.{parts_from, text_number}
use native.Mathlib.Omega.{arith}
use Rattle.octets.specs.Refusals.{number_of}
use Rattle.std.proofs.lemmas.Result.{err_from_is_err_and}
use lib.ListN.{take, drop}
use mathlib.Core.List.{[]}
use mathlib.Core.Path.{◌≡◌, refl, ap, sym, ◌∙◌}
use Prim.Native.Nat.{◌+◌, ◌-◌}
use Rattle.nametext.proofs.reading.judge.Goals.{then-n-eq0-via-then-n-eq0, then-n-eq0-via-else-n-eq0+then-text-n-ne46, in-Ok, in-Err+else-eq, After-loop-at}
use Rattle.nametext.proofs.reading.judge.Goals as goal

pub returns-then-n-eq0 : goal.returns-then-n-eq0
returns-then-n-eq0 c =
    let text = c.args.text.now in
    elim c.then-n-eq0.branch [
      | then-n-eq0-via-then-n-eq0 w ↦ number_empty text w.if-n-eq0.true
      | then-n-eq0-via-else-n-eq0+then-text-n-ne46 w ↦ number_unended text (λ e. w.if-text-n-ne46.true (sym (last_is text (omega (arith, w.if-n-eq0.false))) ∙ e))
    ]

pub returns-then-n-eq1 : goal.returns-then-n-eq1
returns-then-n-eq1 c =
    let text = c.args.text.now in
    number_root text c.if-n-eq1.true (last_is text (omega (arith, c.if-n-eq0.false)) ∙ c.if-text-n-ne46.false)

pub loop-at-init : goal.loop-at-init
loop-at-init c =
    let text = c.args.text.now in
    let l = last_is text (omega (arith, c.if-n-eq0.false)) ∙ c.if-text-n-ne46.false in
    (refl, omega arith, record { size = omega arith; run = omega arith }, l, number_start text c.if-n-eq1.false l)

pub loop-at-preserved : goal.loop-at-preserved
loop-at-preserved c =
    let l = c.loop-at in
    let d = c.next_dot-e in
    let text = c.args.text.now in
    let r = dot_there text l.at d.result d.ensures (omega arith) l.invariant.3 in
    let p = take (d.result - l.at) (drop l.at text) in
    let ps = parts_from [] (drop (d.result + 1) text) in
    let q = ap (judge_from l.tally) (sym (d.ensures.found r).1) ∙ l.invariant.4 in
    elim c.match-read_part.branch [
      | in-Ok w ↦ (
        l.invariant.0,
        omega arith,
        rw w.tally-is w.count-tally.ensures.low,
        l.invariant.3,
        judge_next l.tally _ p ps _ (sym w.in-Ok.is ∙ c.read_part.ensures) (λ e. omega arith) (w.tally-is ∙ w.count-tally.ensures.value) ∙ q,
      )
      | in-Err+else-eq w ↦ (
        l.invariant.0,
        omega arith,
        rw w.tally-is tt,
        l.invariant.3,
        judge_next l.tally _ p ps _ (sym w.in-Err.is ∙ c.read_part.ensures) (form_not w.in-Err.refusal (sym w.eq.ensures ∙ w.if-eq.false)) w.tally-is ∙ q,
      )
    ]

pub returns-then-eq : goal.returns-then-eq
returns-then-eq c =
    let l = c.loop-at in
    let d = c.next_dot-e in
    let text = c.args.text.now in
    let r = dot_there text l.at d.result d.ensures (omega arith) l.invariant.3 in
    let f = form_is c.in-Err.refusal (sym c.eq.ensures ∙ c.if-eq.true) in
    let n = ap number_of (sym c.read_part.ensures ∙ c.in-Err.is) ∙ f in
    f ∙ sym (sym l.invariant.4 ∙ ap (judge_from l.tally) (d.ensures.found r).1 ∙ judge_stop l.tally (take (d.result - l.at) (drop l.at text)) (parts_from [] (drop (d.result + 1) text)) n)

-- where the text has ended
ended : (c : After-loop-at) → concluded c.loop-at.tally ≡ text_number c.args.text.now
ended c =
    let l = c.loop-at in
    let text = c.args.text.now in
    sym (judge_none l.tally) ∙ ap (judge_from l.tally) (sym (parts_end text l.at (omega arith))) ∙ l.invariant.4

pub returns-in_err-tally : goal.returns-in_err-tally
returns-in_err-tally c =
    let p = err_from_is_err_and c.from_residual.result c.from_residual.ensures.1 in
    rw (p.1, p.2) (ap concluded (sym c.in_err-tally.was) ∙ ended (goal.at.returns-in_err-tally c).After-loop-at)

pub conclude-requires : goal.conclude-requires
conclude-requires c = let h = rw c.in_ok-tally.was at c.loop-at.invariant.2 in h

pub returns : goal.returns
returns c = c.conclude.ensures ∙ ap concluded (sym c.in_ok-tally.was) ∙ ended (goal.at.returns c).After-loop-at
