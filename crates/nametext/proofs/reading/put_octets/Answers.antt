-- `nametext::reading::put_octets` meets its contract: a copy where the label has no escape.
use Rattle.nametext.proofs.PlainLaws.{plain_holds, plain_filled}
use native.Mathlib.Omega.{arith}
use lib.ListN.{length}
use Prim.Native.Nat.{ℕ}
use mathlib.Core.List.{List}
use mathlib.Core.Path.{ap, sym, ◌∙◌}
use Rattle.nametext.proofs.reading.put_octets.Goals as goal

pub copy-requires : goal.copy-requires
copy-requires c =
    let a = c.args in
    let l = ap (λ (xs : List ℕ). length xs) (plain_holds a.p.now (sym c.plain_end.ensures ∙ c.if-plain_end-n.true)) in
    (omega arith, omega (arith, c.requires.clean.1))

pub returns-then-plain_end-n : goal.returns-then-plain_end-n
returns-then-plain_end-n c =
    let a = c.args in
    rw c.copy.ensures (plain_filled a.p.now a.out.now a.to (sym c.plain_end.ensures ∙ c.if-plain_end-n.true) c.requires.clean.0 c.requires.clean.1)
