use Prim.Native.Nat.{◌+◌}
use mathlib.Core.Path.{◌∙◌, sym}
use native.Mathlib.Omega.{arith}
use Rattle.names.proofs.SameKeyLaws.{walk_letters}
use Rattle.names.proofs.inside.past_letters.Goals as goal

pub loop-i-preserved : goal.loop-i-preserved
loop-i-preserved c =
    let a = c.args in
    let l = c.loop-i in
    let i = l.i + (1 + c.wide.result) in
    let w = walk_letters a.a.now a.b.now a.end c.requires.0 c.requires.1 l.i (omega arith) c.if-a-i.true i (omega (arith, c.wide.ensures.0)) c.if-a-i-ne65.true in
    (omega arith, sym w ∙ l.invariant.1)
