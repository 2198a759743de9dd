-- `names::inside::respelt` meets its contract: octets that differ by more than the case of a letter have other keys.
use mathlib.Core.Path.{◌∙◌, sym}
use borrow.Author.Tests.{ne_eqb}
use Rattle.names.proofs.SameKeyLaws.{keys_differ, walk_whole}
use Rattle.names.proofs.inside.respelt.Goals as goal

pub returns-then-lowered : goal.returns-then-lowered
returns-then-lowered c =
    let a = c.args in
    c.same_labels.ensures ∙ walk_whole a.a.now a.b.now c.requires.0

pub returns-else-lowered : goal.returns-else-lowered
returns-else-lowered c =
    let a = c.args in
    ne_eqb _ _ c.if-lowered.false ∙ sym (keys_differ a.a.now a.b.now a.i (λ h. c.if-lowered.false (c.lowered.ensures ∙ h ∙ sym c.lowered-2.ensures)))
