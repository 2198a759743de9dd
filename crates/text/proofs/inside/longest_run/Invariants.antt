-- `text::inside::longest_run` meets its contract.
use mathlib.Core.Path.{◌≡◌}
use lib.ListN.{drop}
use Rattle.text.proofs.RunLaws.{run_over}
use Rattle.text.proofs.inside.longest_run.Given as goal

abbrev pub invariant-loop-place : goal.invariant-loop-place
invariant-loop-place l = run_over l.place l.run (drop l.place l.groups) ≡ run_over 0 (record { place = 0; count = 0 }) l.groups
