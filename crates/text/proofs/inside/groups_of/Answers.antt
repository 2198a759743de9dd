-- `text::inside::groups_of` meets its contract.
use mathlib.Core.Path.{◌≡◌, sym}
use lib.ListN.{length}
use Rattle.text.proofs.RunLaws.{group_is, groups_sixteen}
use borrow.Author.Rules.{rules}
use Rattle.text.proofs.inside.groups_of.Goals as goal

pub returns : goal.returns
returns c =
    let a = c.args.a in
    let l : length c.args.a ≡ 16 = search rules in
    rw (group_is _ _ _ c.from_be_bytes.ensures, group_is _ _ _ c.from_be_bytes-2.ensures, group_is _ _ _ c.from_be_bytes-3.ensures, group_is _ _ _ c.from_be_bytes-4.ensures, group_is _ _ _ c.from_be_bytes-5.ensures, group_is _ _ _ c.from_be_bytes-6.ensures, group_is _ _ _ c.from_be_bytes-7.ensures, group_is _ _ _ c.from_be_bytes-8.ensures) (sym (groups_sixteen a l))
