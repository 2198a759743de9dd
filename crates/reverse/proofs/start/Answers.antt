-- `reverse::start` meets its contract: the header, the address and the suffix.
use native.Mathlib.Omega.{arith}
use Rattle.reverse.proofs.StartLaws.{start_written}
use Rattle.reverse.proofs.start.Goals as goal

pub returns : goal.returns
returns c = start_written c.args.address.now (λ i. omega (arith, c.type_inv.address i)) c.requires _ _ c.copy_from_slice.ensures.after c.copy_from_slice-2.ensures.after
