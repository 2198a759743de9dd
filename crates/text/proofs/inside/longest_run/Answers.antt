use mathlib.Core.Path.{◌≡◌, ap, sym, ◌∙◌}
use lib.ListN.{drop}
use native.Mathlib.Omega.{arith}
use Rattle.text.specs.Groups.{zeros_at}
use Rattle.text.proofs.RunLaws.{zeros_while, run_start, run_new, run_old, run_end, rest_whole}
use Rattle.text.proofs.inside.longest_run.Goals.{then-run-count, else-run-count}
use Rattle.text.proofs.inside.longest_run.Goals as goal

pub loop-place-preserved : goal.loop-place-preserved
loop-place-preserved c =
    let l = c.loop-place in
    let g = c.args.groups.now in
    let e : c.zeros_at-count.result ≡ zeros_at (drop c.loop-place.place c.args.groups.now) = c.zeros_at-count.ensures ∙ zeros_while _ ∙ ap zeros_at (rest_whole g l.place) in
    elim c.if-run-count.branch [
      | then-run-count w ↦ rw (w.run-is, e) (run_new g l.place l.run (omega arith) (omega arith) ∙ l.invariant)
      | else-run-count w ↦ rw w.run-is (run_old g l.place l.run (omega arith) (omega arith) ∙ l.invariant)
    ]

pub returns : goal.returns
returns c =
    let l = c.loop-place in
    let g = c.args.groups.now in
    sym (run_end g l.place l.run (omega arith)) ∙ l.invariant ∙ run_start g
