use mathlib.Core.Path.{◌≡◌, sym, subst}
use native.Mathlib.Omega.{arith}
use Prim.Native.Nat.{◌+◌, ◌-◌}
use Rattle.plan.proofs.OrderLaws.{order_count}
use Rattle.collapse.specs.Running.{Linked}
use Rattle.collapse.proofs.link_all.Goals as goal

pub loop-i-init : goal.loop-i-init
loop-i-init c = rw c.count-i.ensures c.requires.1

pub link-requires : goal.link-requires
link-requires c =
    let t = c.args.table.now in
    let l = c.loop-i in
    let e : l.i - 1 + 1 ≡ l.i = omega arith in
    (omega arith, order_count t c.requires.0, subst (Linked t l.first l.next) (sym e) l.invariant)
