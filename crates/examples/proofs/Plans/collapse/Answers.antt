-- `examples::Plans::collapse`: the records that a collapse gives fit the table.
use Rattle.std.proofs.Common.{◌≡◌, ◌≤◌, ◌*◌, length, rules, arith}
use Rattle.examples.proofs.FitLaws.{done_fits}
use Rattle.examples.proofs.Plans.collapse.Goals as goal

pub invariant_of-self : goal.invariant_of-self
invariant_of-self g c =
    let l : length c.collapse-outcome.new.out ≡ 17152 = search rules in
    let fit : c.in-Ok.field-0.count * 536 ≤ 17152 = done_fits c.plan.result.now c.name_in.result.now 17152 _ c.in-Ok.ensures.reply in
    record { fits = omega arith }
