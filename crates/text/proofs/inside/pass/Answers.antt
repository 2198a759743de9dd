use mathlib.Core.Path.{refl, sym, ◌∙◌}
use native.Mathlib.Omega.{arith}
use Rattle.text.proofs.LeadingLaws.{lead_turn, lead_stop, lead_end}
use Rattle.text.proofs.inside.pass.Goals.{then-loop-at-test+else-test, else-loop-at-test}
use Rattle.text.proofs.inside.pass.Goals as goal

pub loop-at-init : goal.loop-at-init
loop-at-init g c = λ t w. refl

pub loop-at-preserved : goal.loop-at-preserved
loop-at-preserved g c =
    λ t w.
    let s = c.args.s.now in
    let i = c.loop-at.at in
    let k = c.loop-at.invariant t w in
    let b = w _ (c.type_inv.s i).fits c.test.result c.test.ensures in
    let e = lead_turn t s i (omega arith) (sym b ∙ c.if-test.true) in
    omega arith

pub returns : goal.returns
returns g c =
    λ t w.
    let s = c.args.s.now in
    let i = c.loop-at.at in
    let k = c.loop-at.invariant t w in
    elim c.loop-at-test.branch [
      | then-loop-at-test+else-test v ↦
          let b = w _ (c.type_inv.s i).fits v.test.result v.test.ensures in
          let e = lead_stop t s i (omega arith) (sym b ∙ v.if-test.false) in
          omega arith
      | else-loop-at-test v ↦ let e = lead_end t s i (omega arith) in omega arith
    ]
