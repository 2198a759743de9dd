-- `line::writing::put_type` meets its contract.
use mathlib.Core.Path.{refl}
use native.Mathlib.Omega.{arith}
use Rattle.line.proofs.WritingLaws.{put_copied}
use Rattle.line.proofs.writing.put_type.Goals as goal

pub returns : goal.returns
returns c = (refl, put_copied c.args.out.now c.args.at _ _ _ c.copy_from_slice.ensures.after (omega arith))
