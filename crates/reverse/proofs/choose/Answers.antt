use mathlib.Core.Path.{◌≡◌}
use native.Mathlib.Omega.{arith}
use Rattle.plan.specs.Layout.{count_of}
use Rattle.reverse.proofs.ChoiceLaws.{chosen_start}
use Rattle.reverse.proofs.choose.Goals as goal

pub loop-index-init : goal.loop-index-init
loop-index-init c = chosen_start c.args.table.now c.args.name.now

pub consider-best-requires : goal.consider-best-requires
consider-best-requires c = (c.requires.0, c.requires.1, omega arith, c.loop-index.invariant)

pub returns : goal.returns
returns c =
    let e : c.loop-index.index ≡ count_of c.args.table.now = omega arith in
    rw (← e) c.loop-index.invariant
