use mathlib.Core.Path.{◌≡◌, refl, sym, ap, ◌∙◌}
use native.Mathlib.Omega.{arith}
use Rattle.std.specs.Prelude.{Some}
use Rattle.plan.specs.Layout.{prefix_of, count_of}
use Rattle.plan.proofs.OrderLaws.{order_good}
use Rattle.collapse.specs.Fold.{unfinished, refers}
use Rattle.collapse.specs.Running.{lesser_of, greater_of, span_of, least_of, most_of}
use Rattle.collapse.proofs.RunningLaws.{shortest_on, shortest_off, longest_on, longest_off}
use Rattle.collapse.proofs.survey.Goals.{then-is_referrer, else-is_referrer, then-is_unfinished, else-is_unfinished}
use Rattle.collapse.proofs.survey.Goals as goal

pub loop-i-init : goal.loop-i-init
unfolding span_of least_of most_of
loop-i-init c = (refl, refl)

pub is_referrer-requires : goal.is_referrer-requires
is_referrer-requires c = (rw c.row-row.ensures (order_good c.args.table.now c.requires.0 c.loop-i.i (omega arith)), c.requires.1)

pub is_unfinished-requires : goal.is_unfinished-requires
is_unfinished-requires c = (rw c.row-row.ensures (order_good c.args.table.now c.requires.0 c.loop-i.i (omega arith)), c.requires.1)

pub loop-i-preserved : goal.loop-i-preserved
loop-i-preserved c =
    let l = c.loop-i in
    let x = c.args.name.now in
    let t = c.args.table.now in
    let e = c.row-row.ensures in
    let p = c.prefix_of-prefix.ensures ∙ ap prefix_of e in
    let s = c.is_referrer.ensures ∙ ap (refers x) e in
    let u = c.is_unfinished.ensures ∙ ap (unfinished x) e in (
      elim c.if-is_referrer.branch [
        | then-is_referrer w ↦ w.shortest-is ∙ ap Some (w.lesser.ensures ∙ λ j. lesser_of (l.invariant.0 j) (p j)) ∙ shortest_on x t l.i (sym s ∙ w.if-is_referrer.true)
        | else-is_referrer w ↦ w.shortest-is ∙ l.invariant.0 ∙ shortest_off x t l.i (sym s ∙ w.if-is_referrer.false)
      ],
      elim c.if-is_unfinished.branch [
        | then-is_unfinished w ↦ w.longest-is ∙ ap Some (w.greater.ensures ∙ λ j. greater_of (l.invariant.1 j) (p j)) ∙ longest_on x t l.i (sym u ∙ w.if-is_unfinished.true)
        | else-is_unfinished w ↦ w.longest-is ∙ l.invariant.1 ∙ longest_off x t l.i (sym u ∙ w.if-is_unfinished.false)
      ],
    )

pub returns : goal.returns
returns c =
    let l = c.loop-i in
    let e : l.i ≡ count_of c.args.table.now = omega arith in
    rw (← e) (λ j. record { shortest = l.invariant.0 j; longest = l.invariant.1 j })
