use Rattle.std.proofs.Common.{◌∙◌, arith, List, ℕ, sym, ap, ◌<◌, ◌+◌, ◌*◌, ◌^◌}
use Rattle.std.proofs.lemmas.Grind.{common_steps}
use Rattle.address.specs.Order.{order_of}
use Rattle.rows.specs.Halves.{whole}
use Rattle.rows.proofs.HalvesLaws.{whole_before, before_whole}
use Rattle.rows.proofs.RowsLaws.{seeking_right, seeking_left, seeking_end}
use Rattle.rows.proofs.inside.Rows.place.Goals as goal

pub loop-from-preserved-then-lt : goal.loop-from-preserved-then-lt
loop-from-preserved-then-lt c =
    let a = c.args in
    let l = c.loop-from in
    let u = c.if-lt.ensures in
    let p : c.at.result.high * 2 ^ 64 + c.at.result.low < a.address.high * 2 ^ 64 + a.address.low = grind (arith, common_steps, u) in
    let e = ap (λ (r : List ℕ). order_of r (whole a.address)) (sym c.at.ensures) ∙ whole_before c.at.result a.address (omega arith, omega arith) (omega arith, omega arith) p in
    (omega arith, l.invariant.1, seeking_right a.self.now.out.now (whole a.address) _ l.from l.to c.loop-from-test.true l.invariant.2 e)

pub loop-from-preserved : goal.loop-from-preserved
loop-from-preserved c =
    let a = c.args in
    let l = c.loop-from in
    let u = c.if-lt.ensures in (
      omega arith,
      omega arith,
      seeking_left a.self.now.out.now (whole a.address) _ l.from l.to c.loop-from-test.true l.invariant.2
          (λ e. let p = before_whole c.at.result a.address (omega arith, omega arith) (omega arith, omega arith) (ap (λ (r : List ℕ). order_of r (whole a.address)) c.at.ensures ∙ e) in grind (arith, common_steps, u, p)),
    )

pub returns : goal.returns
returns c =
    let l = c.loop-from in
    (seeking_end c.args.self.now.out.now (whole c.args.address) _ l.from l.to (omega arith) l.invariant.2, omega arith)
