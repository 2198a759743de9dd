-- `text::inside::put_address` meets its contract.
use Prim.Native.Nat.{◌+◌, ◌-◌, ◌≤◌, ◌<◌}
use mathlib.Core.Path.{◌≡◌, ap}
use mathlib.Core.List.{◌∷◌, ◌++◌}
use lib.ListN.{length, take, drop}
use native.Mathlib.Omega.{arith}
use Rattle.text.specs.AddressText.{groups_text, write_address}
use Rattle.text.proofs.WrittenLaws.{put_as}
use Rattle.text.proofs.WriteLaws.{address_full, address_short}
use borrow.Author.Rules.{rules}
use Rattle.text.proofs.inside.put_address.Goals.{After-longest_run-run}
use Rattle.text.proofs.inside.put_address.Goals as goal

full : (c : After-longest_run-run) → c.longest_run-run.result.count < 2 → groups_text c.groups_of-groups.result ≡ write_address c.args.address
full c = address_full c.args.address _ c.longest_run-run.result c.groups_of-groups.ensures c.longest_run-run.ensures

pub write_groups-requires : goal.write_groups-requires
write_groups-requires c = omega (arith, ap length (full (goal.at.write_groups-requires c).After-longest_run-run (omega arith)), c.requires)

pub returns-then-run-lt2 : goal.returns-then-run-lt2
returns-then-run-lt2 c =
    let w = c.write_groups in
    put_as c.args.out.now w.new.out c.args.at w.result _ (write_address c.args.address) (full (goal.at.returns-then-run-lt2 c).After-longest_run-run (omega arith)) w.ensures

short : (c : After-longest_run-run) → 2 ≤ c.longest_run-run.result.count
    → (c.longest_run-run.result.place + c.longest_run-run.result.count ≤ 8)
    × (groups_text (take c.longest_run-run.result.place c.groups_of-groups.result)
    ++ (58 ∷ 58 ∷ groups_text (take (8 - (c.longest_run-run.result.place + c.longest_run-run.result.count)) (drop (c.longest_run-run.result.place + c.longest_run-run.result.count) c.groups_of-groups.result)))
    ≡ write_address c.args.address)
short c h = address_short c.args.address _ c.longest_run-run.result c.groups_of-groups.ensures c.longest_run-run.ensures h (search rules)

pub overflow_add-end : goal.overflow_add-end
overflow_add-end c = omega (arith, (short (goal.at.overflow_add-end c).After-longest_run-run (omega arith)).0)

pub shared_ref_as_front-write_sides : goal.shared_ref_as_front-write_sides
shared_ref_as_front-write_sides c = omega (arith, (short (goal.at.shared_ref_as_front-write_sides c).After-longest_run-run (omega arith)).0)

pub offset_bounds-groups-end : goal.offset_bounds-groups-end
offset_bounds-groups-end c = omega (arith, (short (goal.at.offset_bounds-groups-end c).After-longest_run-run (omega arith)).0)

pub slice_bounds-write_sides-count : goal.slice_bounds-write_sides-count
slice_bounds-write_sides-count c = (short (goal.at.slice_bounds-write_sides-count c).After-longest_run-run (omega arith)).0

pub slice_bounds-write_sides-start : goal.slice_bounds-write_sides-start
slice_bounds-write_sides-start c =
    let h : c.longest_run-run.result.place + c.longest_run-run.result.count ≤ 8 = (short (goal.at.slice_bounds-write_sides-start c).After-longest_run-run (omega arith)).0 in
    search rules

pub write_sides-requires : goal.write_sides-requires
write_sides-requires c = omega (arith, ap length (short (goal.at.write_sides-requires c).After-longest_run-run (omega arith)).1, c.requires)

pub returns : goal.returns
returns c =
    let w = c.write_sides in
    put_as c.args.out.now w.new.out c.args.at w.result _ (write_address c.args.address) (short (goal.at.returns c).After-longest_run-run (omega arith)).1 w.ensures
