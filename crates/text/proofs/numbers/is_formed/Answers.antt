-- `text::numbers::is_formed` meets its contract.
use mathlib.Core.Path.{sym}
use native.Mathlib.Omega.{arith}
use borrow.Author.Tests.{le-ltb, ne_eqb}
use Rattle.text.proofs.DecimalLaws.{inside, formed_none, formed_zero, formed_some}
use Rattle.text.proofs.numbers.is_formed.Goals as goal

pub bounds-s-from : goal.bounds-s-from
bounds-s-from c = let a = c.args in inside a.s.now a.from (omega (arith, c.requires))

pub returns-then-s-from-ne48 : goal.returns-then-s-from-ne48
returns-then-s-from-ne48 c = let a = c.args in rw (ne_eqb _ 48 c.if-s-from-ne48.true) (sym (formed_some a.s.now a.from a.to c.requires (omega arith) (omega arith)))

pub returns-else-s-from-ne48 : goal.returns-else-s-from-ne48
returns-else-s-from-ne48 c = let a = c.args in sym (formed_zero a.s.now a.from a.to c.requires (omega arith) (omega arith))

pub returns-else-from-to : goal.returns-else-from-to
returns-else-from-to c = let a = c.args in rw (le-ltb a.from a.to (omega arith)) (sym (formed_none a.s.now a.from a.to c.requires (omega (arith, c.requires))))
