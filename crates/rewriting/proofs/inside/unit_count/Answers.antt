use Rattle.names.proofs.MergeLaws.{begins_inside}
use Rattle.rewriting.proofs.SpotLaws.{counting_end}
use Rattle.rewriting.proofs.inside.unit_count.Goals as goal

pub bounds-name-at : goal.bounds-name-at
bounds-name-at c = begins_inside c.args.name.now c.loop-at.at c.loop-at.invariant.begins

pub returns : goal.returns
returns c = counting_end c.loop-at.invariant c.loop-at-test.false
