-- `a6::inside::unpadded` meets its contract.
use Rattle.a6.proofs.SuffixLaws.{mask_octet}
use Rattle.a6.proofs.inside.unpadded.Goals as goal

pub returns : goal.returns
returns c = mask_octet c.args.x c.args.p c.requires
