-- `plan::Candidate::is_twin` meets its contract: names with other marks are other names.
use native.Mathlib.Omega.{arith}
use mathlib.Core.Path.{◌≡◌, ap, ◌∙◌, sym}
use mathlib.Core.Bool.{true}
use Rattle.names.specs.Standard.{in_standard_form}
use Rattle.plan.specs.Layout.{is_dname}
use Rattle.plan.proofs.OrderLaws.{sound_owner}
use Rattle.plan.proofs.MarkLaws.{twin_other, twin_dname, twin_not}
use Rattle.plan.proofs.Candidate.is_twin.Goals.{After-owner-2}
use Rattle.plan.proofs.Candidate.is_twin.Goals as goal

-- both owners that are compared are in standard form
standing : (c : After-owner-2) → (in_standard_form c.owner.result.now ≡ true) × (in_standard_form c.owner-2.result.now ≡ true)
standing c =
    let t = c.args.self.table.now in
    let w = c.args.self.ready in (
      ap in_standard_form c.owner.ensures ∙ sound_owner t w.sound c.args.i (omega (arith, w.here, c.requires.0)),
      ap in_standard_form c.owner-2.ensures ∙ sound_owner t w.sound c.args.self.index w.here,
    )

pub returns-then-self-i : goal.returns-then-self-i
returns-then-self-i c =
    let a = c.args.self in
    sym (twin_not a.table.now a.earlier.now a.index a.mark a.ready c.requires.1 c.args.i c.requires.0 c.if-self-i.true)

pub returns-then-not-is_dname : goal.returns-then-not-is_dname
returns-then-not-is_dname c =
    let a = c.args.self in
    sym (twin_other a.table.now a.index c.args.i (sym (c.is_dname.ensures ∙ ap is_dname c.row.ensures) ∙ c.if-not-is_dname.true))

pub equal-requires : goal.equal-requires
equal-requires c = standing c

pub returns : goal.returns
returns c =
    let a = c.args.self in
    let t = a.table.now in
    let d = sym (c.is_dname.ensures ∙ ap is_dname c.row.ensures) ∙ c.if-not-is_dname.false in
    c.equal.ensures ∙ rw (c.owner.ensures, c.owner-2.ensures) (sym (twin_dname t a.index c.args.i d))
