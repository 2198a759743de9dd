use mathlib.Core.Path.{sym, ◌∙◌}
use lib.ListN.{length}
use native.Mathlib.Omega.{arith}
use borrow.Author.Tests.{eqb-true, eqb-false}
use Rattle.nametext.proofs.PlaceLaws.{judging_turn, judging_bad, judging_none, judging_good, judging_over}
use Rattle.nametext.proofs.reading.escaped_part.Goals.{then-ranged, else-ranged, then-not-is_empty-via-then-not-is_empty, then-not-is_empty-via-else-not-is_empty+then-count-eq0}
use Rattle.nametext.proofs.reading.escaped_part.Goals as goal

pub loop-octet-preserved : goal.loop-octet-preserved
loop-octet-preserved c =
    let l = c.loop-octet in
    judging_turn c.args.p.now l.ranged l.count l.rest.now l.invariant c.in-Some.octet c.if-ranged.ranged c.in-Some.ensures
    (elim c.if-ranged.branch [ then-ranged w ↦ rw (w.ranged-is, w.if-ranged.true) | else-ranged w ↦ rw (w.ranged-is, w.if-ranged.false) ])

pub returns-then-not-is_empty : goal.returns-then-not-is_empty
returns-then-not-is_empty c =
    let l = c.loop-octet in
    elim c.then-not-is_empty.branch [
      | then-not-is_empty-via-then-not-is_empty w ↦ judging_bad c.args.p.now l.ranged l.count l.rest.now l.invariant (let n = eqb-false (length l.rest.now) 0 (sym c.is_empty.ensures ∙ w.if-not-is_empty.true) in omega (arith, n)) c.in_default.ensures
      | then-not-is_empty-via-else-not-is_empty+then-count-eq0 w ↦ judging_none c.args.p.now l.ranged l.count l.rest.now l.invariant (eqb-true (length l.rest.now) 0 (sym c.is_empty.ensures ∙ w.if-not-is_empty.false)) w.if-count-eq0.true
    ]

pub returns-then-not-ranged : goal.returns-then-not-ranged
returns-then-not-ranged c =
    let l = c.loop-octet in
    judging_over c.args.p.now l.ranged l.count l.rest.now l.invariant (eqb-true (length l.rest.now) 0 (sym c.is_empty.ensures ∙ c.if-not-is_empty.false)) c.if-count-eq0.false c.if-not-ranged.true

pub returns : goal.returns
returns c =
    let l = c.loop-octet in
    judging_good c.args.p.now l.ranged l.count l.rest.now l.invariant (eqb-true (length l.rest.now) 0 (sym c.is_empty.ensures ∙ c.if-not-is_empty.false)) c.if-count-eq0.false c.if-not-ranged.false
