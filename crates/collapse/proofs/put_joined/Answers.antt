-- `collapse::put_joined` meets its contract.
use Prim.Native.Nat.{ℕ, ◌*◌, min}
use mathlib.Core.Path.{◌≡◌, sym, ap, ◌∙◌}
use mathlib.Core.List.{List}
use lib.Seq.{paste}
use Rattle.plan.specs.Layout.{record_size, record_of}
use Rattle.collapse.specs.Fold.{joined_of}
use Rattle.collapse.proofs.RecordLaws.{bits, least, joined_is}
use Rattle.collapse.proofs.RunningLaws.{stored_in, stored_out}
use Rattle.collapse.proofs.put_joined.Goals as goal

pub returns-then-n-out : goal.returns-then-n-out
returns-then-n-out c =
    let a = c.args in
    let j : c.join.result ≡ bits a.r.now a.q.now = c.join.ensures ∙ rw (c.address_of-high.ensures, c.address_of-low.ensures, c.prefix_of-then-n-out.ensures) in
    let m : c.lesser.result ≡ least a.r.now a.q.now = c.lesser.ensures ∙ λ i. min (c.ttl_of.ensures i) (c.ttl_of-then-n-out.ensures i) in
    let e = joined_is a.r.now a.q.now _ _ _ _ _ c.prefix_of.ensures j c.owner_slot.ensures c.target_slot.ensures m in
    c.write.ensures
    ∙ ap (λ (k : ℕ). paste a.out.now (a.n * record_size) (record_of k c.prefix_of.result c.join.result c.owner_slot.result.now c.target_slot.result.now c.lesser.result) record_size) c.number.ensures
    ∙ ap (λ (s : List ℕ). paste a.out.now (a.n * record_size) s record_size) e ∙ sym (stored_in a.out.now a.n (joined_of a.r.now a.q.now) c.if-n-out.true)

pub returns-else-n-out : goal.returns-else-n-out
returns-else-n-out c = let a = c.args in sym (stored_out a.out.now a.n (joined_of a.r.now a.q.now) c.if-n-out.false)
