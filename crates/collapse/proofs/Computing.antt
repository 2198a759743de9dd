-- For theorems by computation. An `unfolding` line that has `collapses_compute` unfolds all that a collapse comes to.
use Prim.Native.Nat.{ℕ}
use Rattle.octets.specs.Answers.{answer_by, out_by}
use Rattle.chains.specs.Lists.{up_to}
use Rattle.plan.proofs.Computing.{tables_compute}
use Rattle.collapse.specs.Fold.{unfinished, continues, joined_of, made_of, place_of, fold_of, refers, ignores, reviving}
use Rattle.collapse.specs.Collapse.{misshapen, passes, number_of, collapse_of}

unfoldable pub collapses_compute : ℕ
unfolding tables_compute answer_by out_by up_to unfinished continues joined_of made_of place_of fold_of refers ignores reviving misshapen passes number_of collapse_of
collapses_compute = 0
