-- For theorems by computation. An `unfolding` line that has `walks_compute` unfolds all that a reverse lookup comes to.
use Prim.Native.Nat.{ℕ}
use Rattle.octets.specs.Answers.{answer_by, out_by}
use Rattle.chains.specs.Lists.{up_to}
use Rattle.rewriting.specs.Rewrite.{same_unit, below_of, rewrite_of, long_run, too_large}
use Rattle.plan.proofs.Computing.{tables_compute}
use Rattle.reverse.specs.Walk.{start_of, better, due_from, due_of, onward, walk_of}
use Rattle.reverse.specs.Answers.{rule_of, rules_of, early_number, end_of}

unfoldable pub walks_compute : ℕ
unfolding tables_compute answer_by out_by up_to same_unit below_of rewrite_of long_run too_large start_of better due_from due_of onward walk_of rule_of rules_of early_number end_of
walks_compute = 0
