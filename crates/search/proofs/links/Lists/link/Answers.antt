-- `search::links::Lists::link` meets its contract: each record goes to the end of its owner's list.
use Prim.Native.Nat.{ℕ, ◌+◌}
use mathlib.Core.List.{List}
use mathlib.Core.Path.{◌≡◌, refl, ap, subst, ◌∙◌}
use native.Mathlib.Omega.{arith}
use lib.ListN.{length, get_or}
use Rattle.search.specs.Links.{Linked, max_nodes}
use Rattle.search.proofs.BuildLaws.{chained_none, chained_as, chained_all}
use Rattle.search.proofs.links.Lists.link.Goals as goal

pub loop-i-init : goal.loop-i-init
loop-i-init c =
    let p = c.requires in (
      _,
      chained_none c.args.owners.now _ _ max_nodes (λ j l. omega (arith, p.owner j l, p.few)) (omega arith) (omega arith) c.alone.ensures c.alone-2.ensures,
    )

pub loop-i-preserved : goal.loop-i-preserved
loop-i-preserved c =
    let l = c.loop-i in
    let o = c.args.owners.now in
    let next = l.self.next in
    let prev = l.self.prev in
    let k = length o + c.wide.result in
    let e : k ≡ length o + get_or o l.i 0 = ap (λ (v : ℕ). length o + v) c.wide.ensures in
    let t = ap (λ (v : ℕ). get_or prev v 0) e in (
      _,
      chained_as o l.invariant.0 next prev max_nodes l.i l.invariant.1 c.loop-i-test.true _ k k (get_or prev k 0) (c.wide-in-loop-i.ensures ∙ t) e refl t,
    )

pub returns : goal.returns
returns c =
    let l = c.loop-i in
    let o = c.args.owners.now in
    let h = l.invariant.1 in
    let e : l.i ≡ length o = omega (arith, h.upto, c.loop-i-test.false) in
    let k = chained_all o l.invariant.0 l.self.next l.self.prev max_nodes l.i h e in
    record { linked = subst (λ (u : List ℕ). Linked o u l.self.next l.self.prev) k h.linked; nodes = h.sized }
