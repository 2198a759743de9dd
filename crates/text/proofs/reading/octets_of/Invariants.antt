-- `text::reading::octets_of` meets its contract.
use Prim.Native.Nat.{◌*◌}
use mathlib.Core.Path.{◌≡◌}
use lib.ListN.{length, take}
use Rattle.text.specs.Groups.{octets_of}
use Rattle.text.proofs.reading.octets_of.Given as goal

abbrev pub invariant-loop-i : goal.invariant-loop-i
invariant-loop-i l = (length l.octets ≡ 16) × (take (2 * l.i) l.octets ≡ octets_of (take l.i l.g))
