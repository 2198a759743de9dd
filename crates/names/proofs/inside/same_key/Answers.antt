use mathlib.Core.Path.{ap, ◌∙◌, sym}
use native.Mathlib.Omega.{arith}
use Rattle.octets.specs.Octets.{same}
use Rattle.octets.proofs.SameLaws.{same_eq, same_refl, same_on, same_end}
use Rattle.names.specs.Keys.{key_octets}
use Rattle.names.proofs.SameKeyLaws.{keys_unlike}
use Rattle.names.proofs.inside.same_key.Goals as goal

pub returns-then-a-b : goal.returns-then-a-b
returns-then-a-b c = let a = c.args in sym (keys_unlike a.a.now a.b.now c.if-a-b.true)

pub loop-i-preserved : goal.loop-i-preserved
loop-i-preserved c =
    let a = c.args in
    let l = c.loop-i in
    sym (same_on a.a.now a.b.now l.i (omega arith) (omega arith) c.if-x-b.false) ∙ l.invariant

pub returns : goal.returns
returns c =
    let a = c.args in
    let l = c.loop-i in
    let e = sym l.invariant ∙ same_end a.a.now a.b.now l.i (omega arith) (omega arith) in
    sym (ap (λ xs. same (key_octets xs) (key_octets a.b.now)) (same_eq a.a.now a.b.now e) ∙ same_refl (key_octets a.b.now))
