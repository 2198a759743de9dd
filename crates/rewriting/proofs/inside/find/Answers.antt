use native.Mathlib.Omega.{arith}
use Rattle.rewriting.proofs.SpotLaws.{passed_within, seeking_start, seeking_on, seeking_more}
use Rattle.rewriting.proofs.inside.find.Goals as goal

pub loop-left-init : goal.loop-left-init
loop-left-init c = seeking_start c.args.name.now c.args.j c.requires.begins c.requires.j_in_bounds

pub pass-turn-requires : goal.pass-turn-requires
pass-turn-requires c = record { begins = c.loop-left.invariant.begins; nonzero = seeking_more c.loop-left.invariant }

pub loop-left-smaller : goal.loop-left-smaller
loop-left-smaller c = let w = passed_within c.pass-turn.ensures in omega arith

pub loop-left-preserved : goal.loop-left-preserved
loop-left-preserved c = seeking_on c.loop-left.invariant c.pass-turn.ensures (omega (arith, c.if-left-turn.false))
