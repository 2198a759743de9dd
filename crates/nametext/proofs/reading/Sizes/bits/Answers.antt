-- `nametext::reading::Sizes::bits` meets its contract.
use mathlib.Core.Path.{sym}
use native.Mathlib.Omega.{arith}
use Rattle.nametext.proofs.JudgeLaws.{bits_over, bits_fit}
use Rattle.nametext.proofs.reading.Sizes.bits.Goals as goal

pub returns-then-self-n-clause-value : goal.returns-then-self-n-clause-value
returns-then-self-n-clause-value c = sym (bits_over c.args.self c.args.n (omega (arith, c.requires.run)))

pub returns-clause-value : goal.returns-clause-value
returns-clause-value c = sym (bits_fit c.args.self c.args.n (omega (arith, c.requires.run)))
