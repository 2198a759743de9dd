-- `plan::Candidate::has_twin` meets its contract.
use native.Mathlib.Omega.{arith}
use mathlib.Core.Path.{◌∙◌, sym}
use borrow.Author.Count.{below_more}
use Rattle.plan.proofs.FirstLaws.{has_some, none_first, none_some}
use Rattle.plan.proofs.Candidate.has_twin.Goals as goal

pub returns-then-is_twin : goal.returns-then-is_twin
returns-then-is_twin c = sym (has_some _ c.args.self.index c.loop-i.i (omega arith) (sym c.is_twin.ensures ∙ c.if-is_twin.true))

pub loop-i-preserved : goal.loop-i-preserved
loop-i-preserved c = below_more _ _ c.loop-i.invariant (sym c.is_twin.ensures ∙ c.if-is_twin.false)

pub returns : goal.returns
returns c = sym (none_some _ c.args.self.index (none_first _ c.args.self.index (λ i h. c.loop-i.invariant i (omega arith))))
