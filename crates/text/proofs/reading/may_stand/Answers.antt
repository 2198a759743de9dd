-- `text::reading::may_stand` meets its contract.
use Prim.Native.Nat.{◌+◌, ◌-◌}
use mathlib.Core.Path.{◌≡◌, ap, sym, ◌∙◌}
use native.Mathlib.Omega.{arith}
use Rattle.text.specs.AddressText.{may_stand}
use Rattle.text.proofs.StandLaws.{stand_first, stand_last, bit_stands}
use Rattle.text.proofs.reading.may_stand.Goals as goal

pub returns-in-48-to-102 : goal.returns-in-48-to-102
returns-in-48-to-102 c =
    let x = c.args.c in
    let e : 48 + (c.args.c - 48) ≡ c.args.c = omega arith in
    rw c.from.ensures (bit_stands (x - 48) (omega arith) ∙ ap may_stand e)

pub returns-in_default : goal.returns-in_default
returns-in_default c = sym (stand_first c.args.c (omega arith))

pub returns-in_default-2 : goal.returns-in_default-2
returns-in_default-2 c = sym (stand_last c.args.c (omega arith))
