-- `plan::inside::is_a6` meets its contract.
use mathlib.Core.Path.{ap}
use Prim.Native.Nat.{ℕ}
use lib.Dec.{eqb}
use Rattle.plan.specs.Layout.{a6, is_type}
use Rattle.plan.proofs.inside.is_a6.Goals as goal

pub returns : goal.returns
unfolding is_type
returns c = ap (λ (k : ℕ). eqb k a6) c.kind_of.ensures
