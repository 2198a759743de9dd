-- `text::reading::read_whole` meets its contract.
use Prim.Native.Nat.{◌+◌, ◌≤◌}
use mathlib.Core.Path.{sym, ◌∙◌}
use lib.ListN.{length}
use lib.Seq.{length-take-le}
use native.Mathlib.Omega.{arith}
use borrow.Author.Rules.{rules}
use Rattle.text.proofs.WholeLaws.{gap_some, gap_nothing, gap_room, whole_parts}
use Rattle.text.proofs.reading.read_whole.Goals.{In-Some}
use Rattle.text.proofs.reading.read_whole.Goals as goal

-- two colons stand within the text
within : (c : In-Some) → c.in-Some.at + 2 ≤ length c.args.text.now
within c =
    let g = gap_some c.args.text.now _ (sym c.gap.ensures ∙ c.in-Some.is) in
    omega (arith, g.0, g.1, gap_room c.args.text.now (omega (arith, g.0, g.1)))

pub slice_bounds-read_sides-end : goal.slice_bounds-read_sides-end
slice_bounds-read_sides-end c = sym (length-take-le _ c.args.text.now (omega (arith, within c)))

pub overflow_add-at : goal.overflow_add-at
overflow_add-at c = omega (arith, within c)

pub slice_bounds-read_sides-count : goal.slice_bounds-read_sides-count
slice_bounds-read_sides-count c = within c

pub slice_bounds-read_sides-start : goal.slice_bounds-read_sides-start
slice_bounds-read_sides-start c =
    let h : c.in-Some.at + 2 ≤ length c.args.text.now = within c in
    search rules

pub read_full-requires : goal.read_full-requires
read_full-requires c = gap_nothing c.args.text.now (sym c.gap.ensures ∙ c.in-None.is)

pub returns-in-Some : goal.returns-in-Some
returns-in-Some c =
    let g = gap_some c.args.text.now _ (sym c.gap.ensures ∙ c.in-Some.is) in
    c.read_sides.ensures ∙ whole_parts c.args.text.now c.in-Some.at g.0 g.1
