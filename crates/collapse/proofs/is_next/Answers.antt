-- `collapse::is_next` meets its contract: both names are in standard form.
use mathlib.Core.Path.{ap, ◌∙◌}
use native.Mathlib.Omega.{arith}
use Rattle.names.specs.Standard.{in_standard_form}
use Rattle.plan.specs.Layout.{name_in}
use Rattle.plan.proofs.FaultLaws.{targetless_on}
use Rattle.collapse.proofs.is_next.Goals as goal

pub equal-requires : goal.equal-requires
equal-requires c = (
  ap in_standard_form (c.name_in.ensures ∙ ap name_in c.owner_slot.ensures) ∙ c.requires.1.owner.name,
  ap in_standard_form (c.name_in-then-prefix_of.ensures ∙ ap name_in c.target_slot.ensures) ∙ (c.requires.0.target (targetless_on c.args.r.now (λ z. omega (arith, c.requires.2)))).name,
)
