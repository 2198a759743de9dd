-- `plan::inside::slot_of` meets its contract: the length, the name, and the zeros that were there.
use mathlib.Core.Path.{◌∙◌}
use Rattle.octets.specs.Octets.{blank}
use Rattle.plan.proofs.SlotLaws.{slot_written}
use Rattle.plan.proofs.inside.slot_of.Goals as goal

pub returns : goal.returns
unfolding blank
returns c =
    let a = c.args in
    c.copy.ensures ∙ slot_written a.name.now c.requires
