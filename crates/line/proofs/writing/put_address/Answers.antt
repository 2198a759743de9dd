-- `line::writing::put_address` meets its contract: a space, and the text of the address after it.
use lib.ListN.{length-set}
use native.Mathlib.Omega.{arith}
use Rattle.line.proofs.WritingLaws.{put_spaced}
use Rattle.line.proofs.writing.put_address.Goals as goal

pub put_address-requires : goal.put_address-requires
put_address-requires c =
    rw (length-set c.args.out.now c.args.at 32) (omega arith)

pub returns : goal.returns
returns c =
    put_spaced c.args.out.now _ c.args.at _ _ (omega arith) c.put_address.ensures
