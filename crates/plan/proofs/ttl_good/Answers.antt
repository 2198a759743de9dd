-- `plan::ttl_good` meets its contract.
use mathlib.Core.Path.{ap}
use Prim.Native.Nat.{ℕ}
use lib.Dec.{leb}
use Rattle.chains.specs.Graph.{max_ttl}
use Rattle.plan.specs.Check.{ttl_good}
use Rattle.plan.proofs.ttl_good.Goals as goal

pub returns : goal.returns
unfolding ttl_good
returns c = ap (λ (v : ℕ). leb v max_ttl) c.ttl_of.ensures
