-- `text::inside::write_groups` meets its contract.
use Prim.Native.Nat.{◌+◌}
use mathlib.Core.Path.{◌≡◌}
use lib.ListN.{length, drop}
use Rattle.text.specs.Written.{written}
use Rattle.text.specs.AddressText.{more_text}
use Rattle.text.proofs.inside.write_groups.Given as goal

abbrev pub invariant-loop-group : goal.invariant-loop-group
invariant-loop-group l =
    (length l.out ≡ length l.initial.out)
    × (l.next + length (more_text (drop l.group-index l.more)) ≡ l.initial.next + length (more_text l.more))
    × (written l.out l.next (more_text (drop l.group-index l.more)) ≡ written l.initial.out l.initial.next (more_text l.more))
