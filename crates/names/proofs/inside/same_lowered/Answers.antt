use mathlib.Core.Path.{ap, ◌∙◌, sym}
use mathlib.Core.Bool.{Bool, ◌&&◌}
use mathlib.Core.List.{map}
use lib.ListN.{length-map}
use native.Mathlib.Omega.{arith}
use Rattle.octets.proofs.SameLaws.{same_end}
use Rattle.octets.proofs.BoolLaws.{and_true}
use Rattle.names.specs.Standard.{lower}
use Rattle.names.proofs.SameKeyLaws.{same_lowered_turn}
use Rattle.names.proofs.inside.same_lowered.Goals as goal

pub loop-i-preserved : goal.loop-i-preserved
loop-i-preserved c =
    let a = c.args in
    let l = c.loop-i in
    same_lowered_turn a.a.now a.b.now l.i l.alike _ _ (omega arith) (omega arith) c.lowered.ensures c.lowered-in-loop-i.ensures ∙ l.invariant

pub returns : goal.returns
returns c =
    let a = c.args in
    let l = c.loop-i in
    let m = length-map a.a.now lower in
    let n = length-map a.b.now lower in
    sym (and_true l.alike) ∙ ap (λ (v : Bool). l.alike && v) (sym (same_end (map lower a.a.now) (map lower a.b.now) l.i (omega arith) (omega arith))) ∙ l.invariant
