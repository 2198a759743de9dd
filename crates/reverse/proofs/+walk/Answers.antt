use Prim.Native.Nat.{ℕ, ◌≤◌}
use mathlib.Core.Path.{◌≡◌, refl, ap, ◌∙◌, sym}
use lib.ListN.{length}
use lib.Seq.{length-take-le}
use native.Mathlib.Omega.{arith}
use Rattle.std.specs.Prelude.{Some}
use Rattle.octets.specs.Octets.{blank}
use Rattle.octets.specs.Answers.{answering}
use Rattle.octets.proofs.OctetLaws.{length_blank}
use Rattle.reverse.specs.Walk.{End}
use Rattle.reverse.specs.Answers.{answer_for, out_for}
use Rattle.reverse.proofs.ReplyLaws.{name_copied, Onward, Walking, walking, onward, reply_ended, reply_out, reply_large, target_stands}
use Rattle.reverse.proofs.+walk.Goals.{Start, After-choose, In-Some, In-Some-splice}
use Rattle.reverse.proofs.+walk.Goals as goal

-- where it begins: the lengths
sizes : (t : ℕ) (c : Start t) → (length c.args.name.now ≤ 255) × (length c.args.out.now ≡ 255)
sizes t c = (c.requires.in_order.1.begins.short, ap length c.requires.done_bound.1 ∙ length_blank 255)

-- where a DNAME applies
due : (t : ℕ) (c : In-Some t) → Walking c.args.table.now c.args.name.now (Some c.in-Some.best)
due t c = walking c.requires.in_order.0 c.requires.in_order.1 c.in-Some.ensures

-- where the rewrite is not too large, the walk goes on from it
goes_on : (t : ℕ) (c : In-Some-splice t) → Onward c.args.table.now c.args.name.now c.args.limit c.args.done c.in-Some-splice.n c.splice.new.out
goes_on t c =
    onward (walking c.requires.in_order.0 c.requires.in_order.1 c.in-Some.ensures) c.args.limit c.args.done c.if-limit-eq0.false (λ i. omega (arith, c.type_inv.table i)) c.in-Some-splice.n c.splice.new.out
    (rw c.target-target.ensures at c.in-Some-splice.ensures.value) (rw c.target-target.ensures at c.in-Some-splice.ensures.out_after)

pub choose-requires : goal.choose-requires
choose-requires t c = c.requires.in_order

pub slice_bounds-copy_whole-end : goal.slice_bounds-copy_whole-end
slice_bounds-copy_whole-end t c = let s = sizes t (goal.at.slice_bounds-copy_whole-end t c).Start in omega arith

pub slice_bounds-copy_whole-end-in_default : goal.slice_bounds-copy_whole-end-in_default
slice_bounds-copy_whole-end-in_default t c =
    let s = sizes t (goal.at.slice_bounds-copy_whole-end-in_default t c).Start in
    sym (length-take-le (length c.args.name.now) c.args.out.now (omega arith))

pub copy_whole-requires : goal.copy_whole-requires
copy_whole-requires t c =
    let s = sizes t (goal.at.copy_whole-requires t c).Start in
    length-take-le (length c.args.name.now) c.args.out.now (omega arith)

pub returns-in_default : goal.returns-in_default
returns-in_default t c =
    let s = sizes t (goal.at.returns-in_default t c).Start in
    let r = reply_ended (walking c.requires.in_order.0 c.requires.in_order.1 c.in_default.ensures) c.args.limit c.args.done (λ i. omega (arith, c.type_inv.name i)) in
    record {
      value = ap (answering (length c.args.name.now)) c.from.ensures ∙ r.0;
      out_after = name_copied c.args.out.now _ c.args.name.now c.requires.done_bound.1 c.copy_whole.ensures s.0 ∙ r.1;
    }

pub returns-then-limit-eq0 : goal.returns-then-limit-eq0
returns-then-limit-eq0 t c =
    let r = reply_out (due t (goal.at.returns-then-limit-eq0 t c).In-Some) c.args.limit c.args.done c.if-limit-eq0.true in
    record { value = r.0; out_after = c.requires.done_bound.1 ∙ r.1 }

pub target-target-requires : goal.target-target-requires
target-target-requires t c = c.in-Some.ensures.listed.there

pub splice-requires : goal.splice-requires
unfolding blank
splice-requires t c =
    let w = due t (goal.at.splice-requires t c).In-Some in
    let n = c.in-Some.ensures.listed in
    record {
      standing = (c.requires.in_order.1, rw c.target-target.ensures (target_stands w c.args.limit c.args.done (λ i. omega (arith, c.type_inv.table i))));
      k_nonzero = (n.some, n.within, refl);
    }

pub returns-in_default-splice : goal.returns-in_default-splice
returns-in_default-splice t c =
    let w = due t (goal.at.returns-in_default-splice t c).In-Some in
    let r = reply_large w c.args.limit c.args.done c.if-limit-eq0.false (rw c.target-target.ensures at c.in_default-splice.ensures.value) in
    record { value = r.0; out_after = c.requires.done_bound.1 ∙ r.1 }

pub slice_bounds-next-end : goal.slice_bounds-next-end
slice_bounds-next-end t c =
    let g = goes_on t c in
    let k : length c.splice.new.out ≡ 255 = c.splice.auto.out in
    omega (arith, g.short)

pub slice_bounds-walk-end : goal.slice_bounds-walk-end
slice_bounds-walk-end t c = (goes_on t (goal.at.slice_bounds-walk-end t c).In-Some-splice).size

pub walk-requires : goal.walk-requires
walk-requires t c =
    let g = goes_on t (goal.at.walk-requires t c).In-Some-splice in
    (omega (arith, c.if-limit-eq0.false), ((c.requires.in_order.0, g.standing), (omega (arith, c.requires.done_bound.0, c.if-limit-eq0.false), c.requires.done_bound.1)))

pub returns : goal.returns
returns t c =
    let e = (goes_on t (goal.at.returns t c).In-Some-splice).walk in
    record { value = c.walk.ensures.value ∙ ap answer_for e; out_after = c.walk.ensures.out_after ∙ ap (λ (y : End). out_for y 255) e }
