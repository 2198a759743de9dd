-- `nametext::inside::put_octet` meets its contract.
use Prim.Native.Nat.{◌/◌, ◌%◌, ◌+◌}
use mathlib.Core.Path.{sym, ◌∙◌}
use native.Mathlib.Omega.{arith}
use lib.ListN.{length-set}
use Rattle.nametext.proofs.OrdinaryLaws.{octet_plain, octet_escaped}
use Rattle.text.proofs.WrittenLaws.{put_one, put_four, put_as}
use Rattle.nametext.proofs.inside.put_octet.Goals as goal

pub returns-then-is_plain : goal.returns-then-is_plain
returns-then-is_plain c = let a = c.args in put_as _ _ _ _ _ _ (sym (octet_plain a.x (sym c.is_plain.ensures ∙ c.if-is_plain.true))) (put_one a.out.now a.to a.x (omega arith))

pub bounds-out-to-3 : goal.bounds-out-to-3
bounds-out-to-3 c = simp length-set (omega arith)

pub bounds-out-to-4 : goal.bounds-out-to-4
bounds-out-to-4 c = simp length-set (omega arith)

pub bounds-out-to-5 : goal.bounds-out-to-5
bounds-out-to-5 c = simp length-set (omega arith)

pub returns : goal.returns
returns c = let a = c.args in put_as _ _ _ _ _ _ (sym (octet_escaped a.x (sym c.is_plain.ensures ∙ c.if-is_plain.false))) (put_four a.out.now a.to 92 (48 + a.x / 100) (48 + a.x / 10 % 10) (48 + a.x % 10) (omega arith))
