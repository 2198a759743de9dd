-- `nametext::reading::is_clear` meets its contract.
use Rattle.nametext.proofs.reading.is_clear.Goals as goal

pub returns : goal.returns
returns c = rw (c.low.ensures, c.hex_value.ensures.0)
