-- `reverse::consider` meets its contract: a record that is no DNAME changes nothing.
use mathlib.Core.Path.{◌≡◌, sym, ap, ◌∙◌}
use mathlib.Core.Bool.{true}
use native.Mathlib.Omega.{arith}
use Prim.Native.Nat.{ℕ}
use mathlib.Core.List.{List}
use Rattle.names.specs.Standard.{Unit, units_of}
use Rattle.plan.specs.Layout.{is_dname, record_at, owner_at}
use Rattle.rewriting.specs.Rewrite.{below_of}
use Rattle.rewriting.specs.Splice.{over_zero}
use Rattle.rewriting.specs.Spots.{units_at}
use Rattle.rewriting.proofs.LinkLaws.{form_units}
use Rattle.reverse.proofs.TableLaws.{owner_form, owner_standing}
use Rattle.reverse.proofs.ChoiceLaws.{chosen_other, chosen_none, chosen_some}
use Rattle.reverse.proofs.consider.Goals.{After-owner, After-beneath}
use Rattle.reverse.proofs.consider.Goals as goal

dname : (c : After-owner) → is_dname (record_at c.args.table.now c.args.index) ≡ true
dname c = sym (c.is_dname.ensures ∙ ap is_dname c.row.ensures) ∙ c.if-not-is_dname.false

-- how many units of the name are below that owner
below : (c : After-beneath) → c.beneath.result ≡ over_zero (below_of (units_of (owner_at c.args.table.now c.args.index)) (units_at c.args.name.now 0))
below c =
    let a = c.args in
    let f = form_units (owner_at a.table.now a.index) (owner_form a.table.now c.requires.0 a.index c.requires.2) in
    c.beneath.ensures ∙ ap (λ (xs : List ℕ). over_zero (below_of (units_at xs 0) (units_at a.name.now 0))) c.owner.ensures
    ∙ ap (λ (us : List Unit). over_zero (below_of us (units_at a.name.now 0))) f

pub returns-then-not-is_dname : goal.returns-then-not-is_dname
returns-then-not-is_dname c =
    let a = c.args in
    chosen_other a.table.now a.name.now a.index a.best c.requires.3 (sym (c.is_dname.ensures ∙ ap is_dname c.row.ensures) ∙ c.if-not-is_dname.true)

pub beneath-requires : goal.beneath-requires
beneath-requires c =
    let a = c.args in
    (c.requires.1, rw c.owner.ensures (owner_standing a.table.now c.requires.0 a.index c.requires.2 (λ i. omega (arith, c.type_inv.table i))))

pub returns-in-Some : goal.returns-in-Some
returns-in-Some c =
    let a = c.args in
    let here = (goal.at.returns-in-Some c).After-beneath in
    rw c.better.ensures (chosen_some a.table.now a.name.now a.index a.best c.requires.3 c.requires.2 (dname (goal.at.returns-in-Some c).After-owner) c.in-Some.below (sym c.in-Some.is ∙ below here))

pub returns-in-None : goal.returns-in-None
returns-in-None c =
    let a = c.args in
    let here = (goal.at.returns-in-None c).After-beneath in
    chosen_none a.table.now a.name.now a.index a.best c.requires.3 c.requires.2 (dname (goal.at.returns-in-None c).After-owner) (sym c.in-None.is ∙ below here)
