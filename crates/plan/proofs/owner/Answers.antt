-- `plan::owner` meets its contract.
use native.Mathlib.Omega.{arith}
use mathlib.Core.Path.{◌≡◌, refl}
use Prim.Native.Nat.{◌+◌, ◌-◌, ◌≤◌}
use lib.ListN.{length}
use mathlib.Core.List.{List}
use Prim.Native.Nat.{ℕ}
use Rattle.plan.specs.Part.{owner_part}
use Rattle.plan.specs.declared.Part.{Part}
use Rattle.plan.proofs.PartLaws.{part_fits}
use Rattle.plan.proofs.owner.Goals as goal

-- the part lies within the table
fits : (t : List ℕ) (i : ℕ) (p : Part) → p ≡ owner_part t i → p.offset + p.length ≤ length t
fits t i p e = rw e (part_fits t i)

pub overflow_add-result : goal.overflow_add-result
overflow_add-result c = omega (arith, fits _ _ _ c.owner_part-offset.ensures)

pub slice_bounds-result-end : goal.slice_bounds-result-end
slice_bounds-result-end c = omega (arith, fits _ _ _ c.owner_part-offset.ensures)

pub returns : goal.returns
returns c =
    let p = c.owner_part-offset.result in
    let e : p.offset + p.length - p.offset ≡ p.length = omega arith in
    rw (← c.owner_part-offset.ensures) (record { contents = rw e; block = refl; place = refl })
