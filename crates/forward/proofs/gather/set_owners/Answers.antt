use mathlib.Core.Path.{ap, ◌∙◌, sym}
use mathlib.Core.List.{List}
use Prim.Native.Nat.{ℕ}
use lib.ListN.{set}
use Rattle.plan.specs.Layout.{is_a6}
use Rattle.numbering.proofs.NamesLaws.{filled_none}
use Rattle.forward.specs.Gather.{no_owner, search_owner}
use Rattle.forward.proofs.GatherLaws.{owners_none, owners_same}
use Rattle.forward.proofs.gather.set_owners.Goals.{then-not-in_chains, else-not-in_chains}
use Rattle.forward.proofs.gather.set_owners.Goals as goal

pub loop-i-init : goal.loop-i-init
loop-i-init c = let a = c.args in sym (filled_none (search_owner a.table.now a.owners.now) a.owners.now)

pub loop-i-preserved : goal.loop-i-preserved
loop-i-preserved c =
    let a = c.args in
    let l = c.loop-i in
    let k = sym (c.is_a6-in_chains.ensures ∙ ap is_a6 c.row.ensures) in
    elim c.if-not-in_chains.branch [
      | then-not-in_chains w ↦
          w.owners-is ∙ ap (λ (o : List ℕ). set o l.i no_owner) l.invariant ∙ owners_none a.table.now a.owners.now l.i (k ∙ w.if-not-in_chains.true)
      | else-not-in_chains w ↦ w.owners-is ∙ l.invariant ∙ owners_same a.table.now a.owners.now l.i (k ∙ w.if-not-in_chains.false)
    ]
