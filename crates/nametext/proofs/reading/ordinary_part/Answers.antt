-- `nametext::reading::ordinary_part` meets its contract: one law for each return.
use mathlib.Core.Path.{sym, ◌∙◌}
use Rattle.nametext.proofs.PlaceLaws.{part_none}
use Rattle.nametext.proofs.PlainLaws.{plain_part}
use Rattle.nametext.proofs.reading.ordinary_part.Goals as goal

pub returns-then-n-eq0 : goal.returns-then-n-eq0
returns-then-n-eq0 c = part_none c.args.p.now c.if-n-eq0.true

pub returns-then-plain_end-n : goal.returns-then-plain_end-n
returns-then-plain_end-n c = plain_part c.args.p.now (λ i. (c.type_inv.p i).fits) c.if-n-eq0.false (sym c.plain_end.ensures ∙ c.if-plain_end-n.true)
