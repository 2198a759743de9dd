-- `line::writing::put_number` meets its contract: a space, and the digits after it.
use lib.ListN.{length-set}
use native.Mathlib.Omega.{arith}
use Rattle.line.proofs.WritingLaws.{put_spaced}
use Rattle.line.proofs.writing.put_number.Goals as goal

pub put_number-requires : goal.put_number-requires
put_number-requires c =
    rw (length-set c.args.out.now c.args.at 32) (omega arith)

pub returns : goal.returns
returns c =
    put_spaced c.args.out.now _ c.args.at _ _ (omega arith) c.put_number.ensures
