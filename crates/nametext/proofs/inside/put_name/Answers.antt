-- `nametext::inside::put_name` meets its contract.
use Prim.Native.Nat.{◌<◌}
use native.Mathlib.Omega.{arith}
use lib.ListN.{length}
use Rattle.names.proofs.MergeLaws.{begins_start, begins_inside}
use Rattle.text.proofs.WrittenLaws.{put_one, put_as}
use Rattle.nametext.proofs.NameTextLaws.{root_text, writing_start, writing_room, writing_turn, writing_end}
use Rattle.nametext.proofs.inside.put_name.Goals.{At-loop-at, Start}
use Rattle.nametext.proofs.inside.put_name.Goals as goal

-- a name has an octet, and so has what is left of it
some : (c : Start) → 0 < length c.args.name.now
some c = begins_inside c.args.name.now 0 (begins_start c.args.name.now c.requires.0)

left : (c : At-loop-at) → c.loop-at.at < length c.args.name.now
left c = begins_inside c.args.name.now c.loop-at.at c.loop-at.invariant.begins

pub bounds-name-0 : goal.bounds-name-0
bounds-name-0 c = some (goal.at.bounds-name-0 c).Start

pub bounds-out-to : goal.bounds-out-to
bounds-out-to c = omega (arith, some (goal.at.bounds-out-to c).Start)

pub overflow_add-result : goal.overflow_add-result
overflow_add-result c = omega (arith, some (goal.at.overflow_add-result c).Start)

pub returns-then-name-eq0 : goal.returns-then-name-eq0
returns-then-name-eq0 c =
    let here = (goal.at.returns-then-name-eq0 c).Start in
    put_as _ _ _ _ _ _ (root_text c.args.name.now c.requires.0 c.if-name-eq0.true) (put_one c.args.out.now c.args.to 46 (omega (arith, some here)))

pub loop-at-init : goal.loop-at-init
loop-at-init c = writing_start c.args.name.now c.args.out.now c.args.to c.requires.0 c.if-name-eq0.false

pub bounds-name-at : goal.bounds-name-at
bounds-name-at c = left (goal.at.bounds-name-at c).At-loop-at

pub put_label-p-requires : goal.put_label-p-requires
put_label-p-requires c =
    let a = c.args in
    let l = c.loop-at in
    let w = l.invariant in
    record {
      begins = w.begins;
      nonzero = (omega (arith, c.loop-at-test.true), writing_room a.name.now a.out.now l.out l.at a.to l.end w c.requires.1);
    }

pub loop-at-smaller : goal.loop-at-smaller
loop-at-smaller c = omega (arith, left (goal.at.loop-at-smaller c).At-loop-at, c.put_label-p.ensures.on)

pub loop-at-preserved : goal.loop-at-preserved
loop-at-preserved c =
    let a = c.args in
    let l = c.loop-at in
    let p = c.put_label-p in
    writing_turn a.name.now a.out.now l.out l.at a.to l.end l.invariant c.requires.1 _ p.result p.ensures p.auto.out

pub returns : goal.returns
returns c =
    let a = c.args in
    let l = c.loop-at in
    writing_end a.name.now a.out.now l.out l.at a.to l.end l.invariant c.requires.1 c.loop-at-test.false
