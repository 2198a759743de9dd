-- `rewriting::inside::pass` meets its contract: a bit label or an ordinary one, each by one law.
use Prim.Native.Nat.{◌+◌, ◌≤◌, ◌<◌}
use mathlib.Core.Path.{◌≡◌, refl}
use lib.ListN.{length, get_or}
use native.Mathlib.Omega.{arith}
use Rattle.labels.specs.Labels.{count_for}
use Rattle.names.proofs.MergeLaws.{at_bits, begins_inside}
use Rattle.rewriting.proofs.SpotLaws.{turned_bits, turned_ordinary}
use Rattle.rewriting.proofs.inside.pass.Goals.{Start}
use Rattle.rewriting.proofs.inside.pass.Goals as goal

-- the label begins within the name
within : (s : Start) → (s.args.at < length s.args.name.now) × (length s.args.name.now ≤ 255)
within s = (begins_inside s.args.name.now s.args.at s.requires.begins, s.requires.begins.short)

-- ---- and what it owes
pub bounds-name-at-then-x-eq65 : goal.bounds-name-at-then-x-eq65
bounds-name-at-then-x-eq65 c =
    let a = c.args in
    let b = at_bits a.name.now a.at (count_for (get_or a.name.now (a.at + 1) 0)) c.requires.begins c.if-x-eq65.true refl in
    omega (arith, b.inside)

pub returns-then-x-eq65 : goal.returns-then-x-eq65
returns-then-x-eq65 c = rw c.octets_for.ensures (turned_bits c.args.name.now c.args.at c.count-n.result c.requires.begins c.if-x-eq65.true c.count-n.ensures.0)

pub returns : goal.returns
returns c =
    let a = c.args in
    let x = c.wide.result in
    let e : a.at + 1 + x ≡ a.at + (x + 1) = omega arith in
    rw e (turned_ordinary a.name.now a.at (x + 1) c.requires.begins (λ h. omega (arith, c.requires.nonzero)) c.if-x-eq65.false (omega arith))
