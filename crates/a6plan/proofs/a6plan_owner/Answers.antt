-- `a6plan::a6plan_owner` meets its contract: the part's place and length fit 32 bits, and are its figures.
use Rattle.std.proofs.Common.{◌≡◌, ℕ, ◌+◌, ◌*◌, List, eqb, length, ap, ◌∙◌, sym, arith}
use Rattle.octets.specs.Answers.{answering}
use Rattle.chains.specs.Lists.{pick}
use Rattle.plan.specs.Layout.{record_size, owner_place}
use Rattle.plan.specs.Part.{owner_part}
use Rattle.plan.proofs.PartLaws.{part_small, part_long, part_place}
use Rattle.a6plan.specs.Exports.{exported_figures}
use Rattle.a6plan.proofs.a6plan_owner.Goals as goal

-- where a part of n octets starts
placed : (t : List ℕ) (i n offset : ℕ) → n ≡ (owner_part t i).length → offset ≡ pick (eqb n 0) 0 (i * record_size + (owner_place + 1)) → offset ≡ (owner_part t i).offset
placed t i n offset l e = e ∙ ap (λ (m : ℕ). pick (eqb m 0) 0 (i * record_size + (owner_place + 1))) l ∙ sym (part_place t i).0

pub owner_place-offset-requires : goal.owner_place-offset-requires
owner_place-offset-requires c = λ h. (part_place c.args.table.now c.args.index).1 (λ e. h (ap length c.owner-length.ensures.contents ∙ part_long c.args.table.now c.args.index ∙ e))

pub overflow_cast-done : goal.overflow_cast-done
overflow_cast-done c =
    let l = ap length c.owner-length.ensures.contents ∙ part_long c.args.table.now c.args.index in
    omega (arith, placed c.args.table.now c.args.index _ _ l c.owner_place-offset.ensures, part_small c.args.table.now c.args.index)

pub overflow_cast-done-2 : goal.overflow_cast-done-2
overflow_cast-done-2 c = omega (arith, ap length c.owner-length.ensures.contents ∙ part_long c.args.table.now c.args.index, part_small c.args.table.now c.args.index)

pub returns-clause-figured : goal.returns-clause-figured
returns-clause-figured c =
    let l = ap length c.owner-length.ensures.contents ∙ part_long c.args.table.now c.args.index in
    let p = placed c.args.table.now c.args.index _ _ l c.owner_place-offset.ensures in
    c.figure.ensures.figured ∙ λ i. exported_figures c.figure.result (answering (p i) (l i)) (length c.args.figures.now)
