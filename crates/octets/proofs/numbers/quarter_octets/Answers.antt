-- `octets::numbers::quarter_octets` meets its contract.
use Rattle.std.proofs.Common.{◌∙◌}
use Rattle.octets.proofs.NumberLaws.{octets_high_first}
use Rattle.octets.proofs.numbers.quarter_octets.Goals as goal

pub returns : goal.returns
returns c = c.to_be_bytes.ensures ∙ octets_high_first 4 c.args.v
