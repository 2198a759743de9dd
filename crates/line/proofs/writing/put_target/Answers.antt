-- `line::writing::put_target` meets its contract: nothing at prefix length 0, else a space and the name.
use mathlib.Core.Path.{sym}
use lib.ListN.{length-set}
use native.Mathlib.Omega.{arith}
use Rattle.text.proofs.WrittenLaws.{put_none, put_as}
use Rattle.line.proofs.WritingLaws.{field_none, field_some, put_spaced}
use Rattle.line.proofs.writing.put_target.Goals as goal

pub returns-then-prefix-eq0 : goal.returns-then-prefix-eq0
returns-then-prefix-eq0 c =
    let a = c.args in
    put_none a.out.now a.at _ (field_none a.prefix a.target c.if-prefix-eq0.true)

pub put_held-requires : goal.put_held-requires
put_held-requires c =
    (c.requires.0 c.if-prefix-eq0.false, rw (length-set c.args.out.now c.args.at 32) c.requires.1)

pub returns : goal.returns
returns c =
    let a = c.args in
    put_as _ _ _ _ _ _ (sym (field_some a.prefix a.target c.if-prefix-eq0.false))
    (put_spaced a.out.now _ a.at _ _ (omega (arith, c.requires.1)) c.put_held.ensures)
