-- `rows::inside::Rows::place` meets its contract. The loop's invariant: what is left to seek comes to what all of it comes to.
use Rattle.std.proofs.Common.{◌-◌, ◌≤◌}
use Rattle.rows.specs.Halves.{whole}
use Rattle.rows.specs.Rows.{seek}
use Rattle.rows.proofs.RowsLaws.{Seeking}
use Rattle.rows.proofs.inside.Rows.place.Given as goal

abbrev pub invariant-loop-from : goal.invariant-loop-from
invariant-loop-from l =
    let out = l.self.out.now in
    let v = whole l.address in
    (l.from ≤ l.to) × (l.to ≤ l.self.count) × Seeking out v (seek l.self.count out v 0 l.self.count) l.from l.to

abbrev pub decreases-loop-from : goal.decreases-loop-from
decreases-loop-from l = l.to - l.from
