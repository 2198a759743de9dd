-- `plan::inside::is_dname` meets its contract.
use mathlib.Core.Path.{ap}
use Prim.Native.Nat.{ℕ}
use lib.Dec.{eqb}
use Rattle.plan.specs.Layout.{dname, is_type}
use Rattle.plan.proofs.inside.is_dname.Goals as goal

pub returns : goal.returns
unfolding is_type
returns c = ap (λ (k : ℕ). eqb k dname) c.kind_of.ensures
