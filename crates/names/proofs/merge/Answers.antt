use Rattle.names.proofs.MergeLaws.{begins_inside, merging_start, merging_end}
use Rattle.names.proofs.merge.Goals as goal

pub loop-at-init : goal.loop-at-init
loop-at-init c = merging_start c.args.name.now c.args.out.now c.requires.0 c.requires.1

pub bounds-name-at : goal.bounds-name-at
bounds-name-at c = begins_inside c.args.name.now c.loop-at.at c.loop-at.invariant.begins

pub returns : goal.returns
returns c = let l = c.loop-at in merging_end c.args.name.now l.out l.at l.to l.invariant c.loop-at-test.false
