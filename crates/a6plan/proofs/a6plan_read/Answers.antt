-- `a6plan::a6plan_read` meets its contract: what the tests say, and the value.
use Rattle.a6plan.proofs.ExportLaws.{read_told}
use Rattle.a6plan.proofs.a6plan_read.Goals as goal

pub returns : goal.returns
returns c =
    let y = read_told _ _ _ _ _ c.check.ensures (c.read_into.ensures.number, c.read_into.ensures.valued) in
    record { number = y.0; valued = y.1 }
