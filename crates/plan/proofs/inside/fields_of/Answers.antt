-- `plan::inside::fields_of` meets its contract, field by field.
use mathlib.Core.Path.{ap, ◌∙◌}
use mathlib.Core.List.{List}
use Prim.Native.Nat.{ℕ}
use Rattle.names.specs.Name.{name_of}
use Rattle.plan.specs.Layout.{name_in}
use Rattle.plan.specs.Fields.{fields_of}
use Rattle.plan.proofs.inside.fields_of.Goals as goal

pub returns : goal.returns
unfolding fields_of
returns c =
    let owner = c.held_name.ensures ∙ ap (λ (s : List ℕ). name_of (name_in s)) c.owner_slot.ensures in
    let target = c.held_name-2.ensures ∙ ap (λ (s : List ℕ). name_of (name_in s)) c.target_slot.ensures in
    λ i. record { prefix = c.prefix_of.ensures i; address = c.address_of.ensures i; owner = owner i; target = target i; ttl = c.ttl_of.ensures i }
