-- `collapse::is_referrer` meets its contract: the target is in its slot.
use mathlib.Core.Path.{ap, ◌∙◌}
use mathlib.Core.List.{List}
use Prim.Native.Nat.{ℕ}
use Rattle.names.specs.Standard.{in_standard_form}
use Rattle.plan.specs.Layout.{name_in}
use Rattle.plan.proofs.FaultLaws.{targetless_on}
use Rattle.collapse.proofs.RunningLaws.{leads_some}
use Rattle.collapse.proofs.is_referrer.Goals as goal

pub is_named-requires : goal.is_named-requires
is_named-requires c =
    (λ l. ap (λ (s : List ℕ). in_standard_form (name_in s)) c.target_slot.ensures ∙ (c.requires.0.target (targetless_on _ (leads_some _ l))).name, c.requires.1)
