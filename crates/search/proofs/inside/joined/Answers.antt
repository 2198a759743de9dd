-- `search::inside::joined` meets its contract: what it makes are the joined halves, and joining halves is joining addresses.
use Prim.Native.Nat.{ℕ, ◌-◌}
use mathlib.Core.Path.{◌≡◌}
use native.Mathlib.Omega.{arith}
use Rattle.rows.proofs.HalvesLaws.{halves_first, halves_last, halves_join}
use Rattle.search.proofs.inside.joined.Goals as goal

pub returns-then-bound-le64 : goal.returns-then-bound-le64
returns-then-bound-le64 c =
    let a = c.args in
    let x : ℕ × ℕ = (a.first.high, a.first.low) in
    let y : ℕ × ℕ = (a.last.high, a.last.low) in
    rw c.mixed.ensures (rw (halves_first a.bound x y c.if-bound-le64.true) at (halves_join a.bound x y (omega arith)))

pub returns-else-bound-le64 : goal.returns-else-bound-le64
returns-else-bound-le64 c =
    let a = c.args in
    let x : ℕ × ℕ = (a.first.high, a.first.low) in
    let y : ℕ × ℕ = (a.last.high, a.last.low) in
    let q = c.if-bound-le64.false in
    let k : 64 - (a.bound - 64) ≡ 128 - a.bound = omega arith in
    rw c.mixed-else-bound-le64.ensures (rw (halves_last a.bound x y q, k) at (halves_join a.bound x y (omega arith)))
