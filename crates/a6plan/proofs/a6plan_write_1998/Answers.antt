-- `a6plan::a6plan_write_1998` meets its contract: the whole address before the prefix length.
use Rattle.draft.proofs.DataLaws.{data_laid}
use Rattle.a6plan.specs.Exports.{value_in}
use Rattle.a6plan.proofs.ExportLaws.{address_short, written_as}
use Rattle.a6plan.proofs.a6plan_write_1998.Goals as goal

pub returns : goal.returns
returns c = let xs = c.args.value.now in
    let y = written_as _ _ (value_in xs) 16 _ _ (data_laid (value_in xs) (address_short xs)) (c.write_from.ensures.number, (c.write_from.ensures.output, c.write_from.ensures.figured)) in
    record { number = y.0; output = y.1.0; figured = y.1.1 }
