-- `labels::scan` meets its contract: each turn is one law of what is left to read.
use mathlib.Core.Path.{◌∙◌, sym}
use lib.ListN.{length-drop}
use native.Mathlib.Omega.{arith}
use Rattle.std.proofs.lemmas.Result.{err_from_is_err_and}
use Rattle.labels.specs.Scan.{scan_of}
use Rattle.labels.proofs.ScanLaws.{apart_run, apart_other, finish_all, turn_missing, turn_refused, turn_within, turn_ended, turn_on}
use Rattle.labels.proofs.scan.Goals as goal

pub loop-at-init : goal.loop-at-init
unfolding scan_of
loop-at-init c = (omega arith, omega arith, omega arith, finish_all _)

pub returns-in_err-step : goal.returns-in_err-step
returns-in_err-step c =
    let l = c.loop-at in
    let n = length-drop l.at c.args.s.now in
    let p = err_from_is_err_and c.from_residual.result c.from_residual.ensures.1 in
    rw (p.1, p.2) (sym (turn_refused l.at l.run l.standard _ _ (omega arith) c.in_err-step.ensures) ∙ l.invariant.3)

pub returns-then-s-at-eq0 : goal.returns-then-s-at-eq0
returns-then-s-at-eq0 c = turn_ended c.args.s.now c.loop-at.at c.loop-at.run c.loop-at-test.true c.in_ok-step.step c.in_ok-step.ensures _ c.if-s-at-eq0.true ∙ c.loop-at.invariant.3

pub loop-at-smaller-then-step-ne0 : goal.loop-at-smaller-then-step-ne0
loop-at-smaller-then-step-ne0 c = let w = turn_within c.args.s.now c.loop-at.at c.loop-at.run c.loop-at-test.true c.in_ok-step.step c.in_ok-step.ensures in omega arith

pub loop-at-preserved-then-step-ne0 : goal.loop-at-preserved-then-step-ne0
loop-at-preserved-then-step-ne0 c =
    let w = turn_within c.args.s.now c.loop-at.at c.loop-at.run c.loop-at-test.true c.in_ok-step.step c.in_ok-step.ensures in
    let v = sym (apart_run c.loop-at.standard c.loop-at.run c.in_ok-step.step.run c.if-step-ne0.true) in
    (omega arith, omega arith, omega arith, turn_on c.args.s.now c.loop-at.at c.loop-at.run c.loop-at-test.true c.in_ok-step.step c.in_ok-step.ensures c.loop-at.standard _ v c.if-s-at-eq0.false ∙ c.loop-at.invariant.3)

pub loop-at-smaller : goal.loop-at-smaller
loop-at-smaller c = let w = turn_within c.args.s.now c.loop-at.at c.loop-at.run c.loop-at-test.true c.in_ok-step.step c.in_ok-step.ensures in omega arith

pub loop-at-preserved : goal.loop-at-preserved
loop-at-preserved c =
    let w = turn_within c.args.s.now c.loop-at.at c.loop-at.run c.loop-at-test.true c.in_ok-step.step c.in_ok-step.ensures in
    let v = sym (apart_other c.loop-at.standard c.loop-at.run c.in_ok-step.step.run c.if-step-ne0.false) in
    (omega arith, omega arith, omega arith, turn_on c.args.s.now c.loop-at.at c.loop-at.run c.loop-at-test.true c.in_ok-step.step c.in_ok-step.ensures c.loop-at.standard _ v c.if-s-at-eq0.false ∙ c.loop-at.invariant.3)

pub returns : goal.returns
returns c =
    let l = c.loop-at in
    let n = length-drop l.at c.args.s.now in
    sym (turn_missing l.at l.run l.standard _ (omega arith)) ∙ l.invariant.3
