-- `rows::inside::put` meets its contract: what stood is moved, then the two halves are written.
use Rattle.std.proofs.Common.{arith}
use Rattle.rows.proofs.RowsLaws.{put_halves}
use Rattle.rows.proofs.inside.put.Goals as goal

pub returns : goal.returns
returns c =
    let a = c.args in
    put_halves a.k a.c a.out.now a.address.high a.address.low (omega arith) (omega arith) c.copy_within.new.self c.write.new.out c.write-2.new.out c.copy_within.ensures.after
    c.write.ensures c.write-2.ensures
