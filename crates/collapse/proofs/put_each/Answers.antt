use Rattle.std.specs.Prelude.{Some}
use Prim.Native.Nat.{ℕ, ◌+◌, ◌≤◌}
use mathlib.Core.Path.{◌≡◌, ap, subst, ◌∙◌}
use mathlib.Core.List.{List}
use native.Mathlib.Omega.{arith}
use lib.ListN.{length}
use Rattle.plan.specs.Layout.{max_records, count_of, record_at}
use Rattle.plan.proofs.OrderLaws.{order_count, order_good}
use Rattle.collapse.specs.Running.{bucket_of, first_in, within, made_by, stored}
use Rattle.collapse.proofs.LinkLaws.{reach, Walked, walked}
use Rattle.collapse.proofs.RunningLaws.{made_is}
use Rattle.collapse.proofs.WalkLaws.{Walking, walking_start, walking_few, walking_on, walking_end}
use Rattle.collapse.proofs.put_each.Goals.{After-start-next, In-Some, After-after-next}
use Rattle.collapse.proofs.put_each.Goals as goal

-- where the walk starts
start : (c : After-start-next) → Walked c.args.table.now c.args.r.now 0 c.start-next.result
start c =
    let t = c.args.table.now in
    let w = c.requires in
    let e = c.bucket.ensures.0 ∙ ap bucket_of c.target_slot.ensures in
    walked t w.0 c.args.r.now w.1 w.2 0 _ (omega arith) (order_count t w.0) (c.start-next.ensures ∙ ap within (w.4.head c.bucket.result c.bucket.ensures.1) ∙ ap (λ (b : ℕ). within (first_in t b 0)) e)

-- at the record j, and on to the next one
here : (c : In-Some) → Walking c.args.table.now c.args.r.now c.args.out.now c.loop-next.out c.args.n c.loop-next.m (Some c.in-Some.j)
here c = subst (Walking c.args.table.now c.args.r.now c.args.out.now c.loop-next.out c.args.n c.loop-next.m) c.in-Some.is c.loop-next.invariant

step : (c : After-after-next) → Walked c.args.table.now c.args.r.now (c.in-Some.j + 1) c.after-next.result
step c =
    let t = c.args.table.now in
    let w = c.requires in
    let j = c.in-Some.j in
    let f = (subst (Walking t c.args.r.now c.args.out.now c.loop-next.out c.args.n c.loop-next.m) c.in-Some.is c.loop-next.invariant).found in
    walked t w.0 c.args.r.now w.1 w.2 (j + 1) _ (omega (arith, f.0)) (order_count t w.0) (c.after-next.ensures ∙ ap within (w.4.after j (omega arith) f.0) ∙ ap (λ (b : ℕ). within (first_in t b (j + 1))) f.1)

pub loop-next-init : goal.loop-next-init
loop-next-init c = walking_start c.args.table.now c.args.r.now c.args.out.now c.args.n _ (start (goal.at.loop-next-init c).After-start-next)

pub row-requires : goal.row-requires
row-requires c = (here c).found.0

pub put_made-m-requires : goal.put_made-m-requires
put_made-m-requires c =
    let t = c.args.table.now in
    let k = here (goal.at.put_made-m-requires c).In-Some in
    let n : count_of t ≤ max_records = order_count t c.requires.0 in
    (c.requires.1, rw c.row.ensures (order_good t c.requires.0 c.in-Some.j k.found.0), c.requires.2, omega (arith, walking_few t c.args.r.now c.args.out.now c.args.n k, c.requires.3))

pub after-next-requires : goal.after-next-requires
after-next-requires c = omega (arith, (here (goal.at.after-next-requires c).In-Some).found.0, order_count c.args.table.now c.requires.0)

pub loop-next-smaller : goal.loop-next-smaller
loop-next-smaller c =
    let at = (goal.at.loop-next-smaller c).After-after-next in
    let e : reach c.loop-next.next ≡ c.in-Some.j = ap reach c.in-Some.is in
    omega (arith, (step at).from, (here (goal.at.loop-next-smaller c).In-Some).found.0)

pub loop-next-preserved : goal.loop-next-preserved
loop-next-preserved c =
    let a = c.args in
    let t = a.table.now in
    let r = a.r.now in
    let j = c.in-Some.j in
    let m = c.loop-next.m in
    let at = (goal.at.loop-next-preserved c).After-after-next in
    let e : made_by r c.row.result.now ≡ made_by r (record_at t j) = ap (made_by r) c.row.ensures in
    walking_on t r a.out.now a.n j (here (goal.at.loop-next-preserved c).In-Some) c.put_made-m.new.out c.put_made-m.result _ (step at)
    (c.put_made-m.ensures.value ∙ ap (λ (l : List (List ℕ)). m + length l) (e ∙ made_is t r j))
    (c.put_made-m.ensures.out_after ∙ ap (stored c.loop-next.out m) (e ∙ made_is t r j))

pub returns : goal.returns
returns c =
    let a = c.args in
    let w = subst (Walking a.table.now a.r.now a.out.now c.loop-next.out a.n c.loop-next.m) c.in_default.is c.loop-next.invariant in
    let y = walking_end a.table.now a.r.now a.out.now a.n w (order_count a.table.now c.requires.0) in
    record { value = y.0; out_after = y.1 }
