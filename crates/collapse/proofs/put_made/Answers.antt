-- `collapse::put_made` meets its contract.
use mathlib.Core.Path.{sym, ◌∙◌}
use native.Mathlib.Omega.{arith}
use Rattle.collapse.specs.Fold.{joined_of}
use Rattle.collapse.proofs.RunningLaws.{by_on, by_off, stored_none, stored_one_lem}
use Rattle.collapse.proofs.put_made.Goals as goal

pub returns-then-not-is_next : goal.returns-then-not-is_next
returns-then-not-is_next c =
    let a = c.args in
    let e = by_off a.r.now a.q.now (sym c.is_next.ensures ∙ c.if-not-is_next.true) in
    record { value = rw e (omega arith); out_after = rw e (sym (stored_none a.out.now a.n)) }

pub returns : goal.returns
returns c =
    let a = c.args in
    let e = by_on a.r.now a.q.now (sym c.is_next.ensures ∙ c.if-not-is_next.false) in
    record { value = rw e (omega arith); out_after = rw e (c.put_joined.ensures ∙ sym (stored_one_lem a.out.now a.n (joined_of a.r.now a.q.now))) }
