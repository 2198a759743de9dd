-- `plan::inside::term` meets its contract.
use native.Mathlib.Omega.{arith}
use Rattle.plan.specs.Marks.{term_at}
use Rattle.plan.proofs.MarkLaws.{term_fits}
use Rattle.plan.proofs.inside.term.Goals as goal

pub returns : goal.returns
unfolding term_at
returns c = (rw c.masked.ensures.0, term_fits c.masked.result c.args.k (omega arith) (omega arith))
