-- `nametext::reading::closes` meets its contract: more than one octet is no bracket alone.
use mathlib.Core.Path.{sym}
use native.Mathlib.Omega.{arith}
use Rattle.nametext.proofs.BitPartLaws.{not_alone}
use Rattle.nametext.proofs.reading.closes.Goals as goal

pub returns-in_default-3 : goal.returns-in_default-3
returns-in_default-3 c = sym (not_alone 93 c.args.rest.now (λ e. omega (arith, c.in_default.len_at_least)))
