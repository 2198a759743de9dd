-- `plan::inside::held_name` meets its contract: the name over zeros, and its length.
use Prim.Native.Nat.{◌<◌}
use mathlib.Core.Path.{◌≡◌}
use lib.ListN.{length, get_or}
use borrow.Author.Rules.{rules}
use native.Mathlib.Omega.{arith}
use Rattle.octets.specs.Octets.{blank}
use Rattle.plan.specs.Layout.{slot_size}
use Rattle.plan.proofs.SlotLaws.{name_length, name_held_lem}
use Rattle.plan.proofs.inside.held_name.Goals as goal

pub copy-requires : goal.copy-requires
copy-requires c =
    let l : length c.args.slot.now ≡ slot_size = search rules in
    let o : get_or c.args.slot.now 0 0 < 256 = search rules in
    let n = name_length c.args.slot.now l o in
    rw (c.name_in-name.ensures, n) (omega arith, omega arith)

pub returns : goal.returns
unfolding blank
returns c =
    let l : length c.args.slot.now ≡ slot_size = search rules in
    let o : get_or c.args.slot.now 0 0 < 256 = search rules in
    name_held_lem c.args.slot.now _ _ l o c.name_in-name.ensures c.copy.ensures
