-- `plan::first_field` meets its contract: the tests in their order.
use mathlib.Core.Path.{ap, ◌∙◌, sym}
use borrow.Author.Tests.{eq-eqb, ne_eqb}
use Rattle.plan.specs.Check.{slot_good}
use Rattle.plan.proofs.FaultLaws.{fault_by}
use Rattle.plan.proofs.first_field.Goals as goal

pub returns-then-not-type_good : goal.returns-then-not-type_good
returns-then-not-type_good c =
    let r = c.args.row.now in
    sym (fault_by r ∙ rw (← c.type_good.ensures, c.if-not-type_good.true))

pub returns-then-not-prefix_good : goal.returns-then-not-prefix_good
returns-then-not-prefix_good c =
    let r = c.args.row.now in
    sym (fault_by r ∙ rw (← c.type_good.ensures, c.if-not-type_good.false, ← c.prefix_good.ensures, c.if-not-prefix_good.true))

pub returns-then-zero_of-ne0 : goal.returns-then-zero_of-ne0
returns-then-zero_of-ne0 c =
    let r = c.args.row.now in
    let z = ne_eqb c.zero_of.result 0 c.if-zero_of-ne0.true in
    sym (fault_by r ∙ rw (← c.type_good.ensures, c.if-not-type_good.false, ← c.prefix_good.ensures, c.if-not-prefix_good.false, ← c.zero_of.ensures, z))

pub returns-then-not-address_good : goal.returns-then-not-address_good
returns-then-not-address_good c =
    let r = c.args.row.now in
    let z = eq-eqb c.zero_of.result 0 c.if-zero_of-ne0.false in
    sym (fault_by r ∙ rw (← c.type_good.ensures, c.if-not-type_good.false, ← c.prefix_good.ensures, c.if-not-prefix_good.false, ← c.zero_of.ensures, z, ← c.address_good.ensures, c.if-not-address_good.true))

pub returns-then-not-slot_good : goal.returns-then-not-slot_good
returns-then-not-slot_good c =
    let r = c.args.row.now in
    let z = eq-eqb c.zero_of.result 0 c.if-zero_of-ne0.false in
    let s = c.slot_good.ensures ∙ ap slot_good c.owner_slot.ensures in
    sym (fault_by r ∙ rw (← c.type_good.ensures, c.if-not-type_good.false, ← c.prefix_good.ensures, c.if-not-prefix_good.false, ← c.zero_of.ensures, z, ← c.address_good.ensures, c.if-not-address_good.false, ← s, c.if-not-slot_good.true))

pub returns-then-not-target_good : goal.returns-then-not-target_good
returns-then-not-target_good c =
    let r = c.args.row.now in
    let z = eq-eqb c.zero_of.result 0 c.if-zero_of-ne0.false in
    let s = c.slot_good.ensures ∙ ap slot_good c.owner_slot.ensures in
    sym (fault_by r ∙ rw (← c.type_good.ensures, c.if-not-type_good.false, ← c.prefix_good.ensures, c.if-not-prefix_good.false, ← c.zero_of.ensures, z, ← c.address_good.ensures, c.if-not-address_good.false, ← s, c.if-not-slot_good.false, ← c.target_good.ensures, c.if-not-target_good.true))

pub returns-then-not-ttl_good : goal.returns-then-not-ttl_good
returns-then-not-ttl_good c =
    let r = c.args.row.now in
    let z = eq-eqb c.zero_of.result 0 c.if-zero_of-ne0.false in
    let s = c.slot_good.ensures ∙ ap slot_good c.owner_slot.ensures in
    sym (fault_by r ∙ rw (← c.type_good.ensures, c.if-not-type_good.false, ← c.prefix_good.ensures, c.if-not-prefix_good.false, ← c.zero_of.ensures, z, ← c.address_good.ensures, c.if-not-address_good.false, ← s, c.if-not-slot_good.false, ← c.target_good.ensures, c.if-not-target_good.false, ← c.ttl_good.ensures, c.if-not-ttl_good.true))

pub returns : goal.returns
returns c =
    let r = c.args.row.now in
    let z = eq-eqb c.zero_of.result 0 c.if-zero_of-ne0.false in
    let s = c.slot_good.ensures ∙ ap slot_good c.owner_slot.ensures in
    sym (fault_by r ∙ rw (← c.type_good.ensures, c.if-not-type_good.false, ← c.prefix_good.ensures, c.if-not-prefix_good.false, ← c.zero_of.ensures, z, ← c.address_good.ensures, c.if-not-address_good.false, ← s, c.if-not-slot_good.false, ← c.target_good.ensures, c.if-not-target_good.false, ← c.ttl_good.ensures, c.if-not-ttl_good.false))
