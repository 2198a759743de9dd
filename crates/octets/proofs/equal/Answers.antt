-- `octets::equal` meets its contract: the library compares element by element, and so does `same`.
use Rattle.std.proofs.Common.{◌∙◌}
use lib.Dec.{eqb}
use Rattle.octets.proofs.SameLaws.{by_pointwise}
use Rattle.octets.proofs.equal.Goals as goal

pub returns : goal.returns
returns c = c.eq.ensures ∙ by_pointwise eqb c.args.a.now c.args.b.now
