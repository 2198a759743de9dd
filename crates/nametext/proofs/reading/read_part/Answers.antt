-- `nametext::reading::read_part` meets its contract: by the kind of the part.
use mathlib.Core.Path.{sym, ◌∙◌}
use Rattle.nametext.proofs.JudgeLaws.{part_bits, part_word}
use Rattle.nametext.proofs.reading.read_part.Goals as goal

pub returns-then-is_bits : goal.returns-then-is_bits
returns-then-is_bits c = c.bit_part.ensures ∙ sym (part_bits c.args.p.now (sym c.is_bits.ensures ∙ c.if-is_bits.true))

pub returns-else-is_bits : goal.returns-else-is_bits
returns-else-is_bits c = c.ordinary_part.ensures ∙ sym (part_word c.args.p.now (sym c.is_bits.ensures ∙ c.if-is_bits.false))
