-- `collapse::put` meets its contract.
use mathlib.Core.Path.{◌≡◌, sym}
use lib.ListN.{length}
use native.Mathlib.Omega.{arith}
use borrow.Author.Rules.{rules}
use Rattle.collapse.proofs.RunningLaws.{stored_at, stored_out}
use Rattle.collapse.proofs.put.Goals as goal

pub returns-then-n-out : goal.returns-then-n-out
returns-then-n-out c =
    let a = c.args in
    let l : length a.row.now ≡ 536 = search rules in
    stored_at a.out.now a.n a.row.now _ _ c.if-n-out.true c.copy_whole.ensures l (omega arith)

pub returns-else-n-out : goal.returns-else-n-out
returns-else-n-out c = let a = c.args in sym (stored_out a.out.now a.n a.row.now c.if-n-out.false)
