-- `nametext::reading::Sizes::word` meets its contract.
use mathlib.Core.Path.{sym}
use native.Mathlib.Omega.{arith}
use Rattle.nametext.proofs.JudgeLaws.{word_long, word_large, word_fit}
use Rattle.nametext.proofs.reading.Sizes.word.Goals as goal

pub returns-then-n-gt63-clause-value : goal.returns-then-n-gt63-clause-value
returns-then-n-gt63-clause-value c = sym (word_long c.args.self c.args.n (omega arith))

pub returns-then-size-gt254-clause-value : goal.returns-then-size-gt254-clause-value
returns-then-size-gt254-clause-value c = sym (word_large c.args.self c.args.n (omega arith) (omega (arith, c.run_size.ensures.0)))

pub returns-clause-value : goal.returns-clause-value
returns-clause-value c = let e = c.run_size.ensures.0 in rw e (sym (word_fit c.args.self c.args.n (omega arith) (omega (arith, e))))
