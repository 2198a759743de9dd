-- `a6::inside::put_address` meets its contract: only the first octet of the suffix has bits before the prefix's end.
use Prim.Native.Nat.{◌-◌}
use mathlib.Core.Path.{ap}
use lib.ListN.{length, drop, length-take, length-drop}
use native.Mathlib.Omega.{arith}
use Rattle.octets.proofs.OctetLaws.{length_blank}
use Rattle.a6.proofs.SuffixLaws.{address_none, address_some, put_last}
use Rattle.a6.proofs.inside.put_address.Goals as goal

pub slice_bounds-copy_whole-count : goal.slice_bounds-copy_whole-count
slice_bounds-copy_whole-count c = omega (arith, ap length c.requires.2, length_blank 16)

pub slice_bounds-copy_whole-start : goal.slice_bounds-copy_whole-start
slice_bounds-copy_whole-start c = omega (arith, ap length c.requires.2, length_blank 16)

pub copy_whole-requires : goal.copy_whole-requires
copy_whole-requires c =
    let out = c.args.out.now in
    let k = 16 - length c.args.suffix.now in
    omega (arith, length-take (length out - k) (drop k out), length-drop k out, ap length c.requires.2, length_blank 16, c.requires.1)

pub returns-then-first-lt16 : goal.returns-then-first-lt16
returns-then-first-lt16 c =
    let s = c.args.suffix.now in
    address_some c.args.prefix s _ c.requires.0 c.requires.1 (λ i. omega (arith, c.type_inv.suffix i))
    (put_last s _ _ _ (omega (arith, c.requires.1)) c.copy_whole.ensures c.requires.2 (omega (arith, ap length c.requires.2, length_blank 16, c.requires.1))) c.if-first-lt16.true c.unpadded.result c.unpadded.ensures

pub returns-else-first-lt16 : goal.returns-else-first-lt16
returns-else-first-lt16 c =
    let s = c.args.suffix.now in
    address_none c.args.prefix s _ c.requires.0 c.requires.1 (λ i. omega (arith, c.type_inv.suffix i))
    (put_last s _ _ _ (omega (arith, c.requires.1)) c.copy_whole.ensures c.requires.2 (omega (arith, ap length c.requires.2, length_blank 16, c.requires.1))) c.if-first-lt16.false
