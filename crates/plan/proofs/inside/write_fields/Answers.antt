-- `plan::inside::write_fields` meets its contract: the record of the two slots.
use mathlib.Core.Path.{◌∙◌}
use lib.Seq.{paste}
use Rattle.plan.specs.Layout.{record_size, record_of}
use Rattle.plan.specs.Fields.{a6_record}
use Rattle.plan.proofs.inside.write_fields.Goals as goal

pub returns : goal.returns
unfolding a6_record
returns c =
    let a = c.args in
    let owner = c.slot_for-owner.ensures in
    let target = c.slot_for-target.ensures in
    c.write.ensures
    ∙ λ i. paste a.out.now a.to (record_of (c.number.ensures i) a.fields.prefix a.fields.address (owner i) (target i) a.fields.ttl) record_size
