-- `plan::inside::name_in` meets its contract.
use native.Mathlib.Omega.{arith}
use Prim.Native.Nat.{ℕ, ◌-◌}
use lib.ListN.{get_or, take, drop}
use mathlib.Core.Path.{◌≡◌, ap}
use Rattle.plan.specs.Layout.{name_in}
use Rattle.plan.proofs.inside.name_in.Goals as goal

pub returns : goal.returns
unfolding name_in
returns c =
    let s = c.args.slot.now in
    let e : c.fill_in-end.result - 1 ≡ get_or s 0 0 = omega (arith, c.fill_in-end.ensures) in
    ap (λ (k : ℕ). take k (drop 1 s)) e
