-- `address::mix` meets its contract: the ones of `rest` pick the last bits of one octet, and the others the first bits of the other.
use native.Mathlib.Omega.{arith}
use Rattle.address.proofs.JoinLaws.{ones_mix}
use Rattle.address.proofs.mix.Goals as goal

pub returns : goal.returns
returns c = let a = c.args in ones_mix a.n a.high a.low (omega arith) (omega arith)
