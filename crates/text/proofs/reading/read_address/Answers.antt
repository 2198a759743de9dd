-- `text::reading::read_address` meets its contract.
use Prim.Native.Nat.{◌+◌, ◌≤◌}
use mathlib.Core.Path.{◌≡◌}
use lib.ListN.{length, drop}
use native.Mathlib.Omega.{arith}
use borrow.Author.Rules.{rules}
use Rattle.text.specs.AddressText.{may_stand, address_count}
use Rattle.text.proofs.WholeLaws.{end_within, found_some, found_none}
use Rattle.text.proofs.reading.read_address.Goals.{After-pass-next}
use Rattle.text.proofs.reading.read_address.Goals as goal

next : (c : After-pass-next) → c.pass-next.result ≡ c.args.from + address_count (drop c.args.from c.args.s.now)
next c = c.pass-next.ensures may_stand (λ x l b p. search rules)

pub returns-then-s-from : goal.returns-then-s-from
returns-then-s-from c = let a = c.args in found_none a.s.now a.from c.pass-next.result (next (goal.at.returns-then-s-from c).After-pass-next) (omega arith)

pub slice_bounds-read_whole-count : goal.slice_bounds-read_whole-count
slice_bounds-read_whole-count c = omega (arith, next (goal.at.slice_bounds-read_whole-count c).After-pass-next)

pub slice_bounds-read_whole-start : goal.slice_bounds-read_whole-start
slice_bounds-read_whole-start c =
    let h : c.args.from ≤ c.pass-next.result = omega (arith, next (goal.at.slice_bounds-read_whole-start c).After-pass-next) in
    search rules

pub slice_bounds-read_whole-end : goal.slice_bounds-read_whole-end
slice_bounds-read_whole-end c =
    let a = c.args in
    let h : c.pass-next.result ≤ length c.args.s.now = end_within a.s.now a.from c.pass-next.result (next (goal.at.slice_bounds-read_whole-end c).After-pass-next) (omega arith) in
    search rules

pub returns : goal.returns
returns c = let a = c.args in found_some a.s.now a.from c.pass-next.result c.read_whole.result (next (goal.at.returns c).After-pass-next) c.read_whole.ensures
