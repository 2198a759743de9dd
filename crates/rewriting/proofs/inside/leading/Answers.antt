-- `rewriting::inside::leading` meets its contract.
use Prim.Native.Nat.{◌+◌}
use mathlib.Core.Path.{refl}
use lib.ListN.{get_or}
use native.Mathlib.Omega.{arith}
use Rattle.labels.specs.Labels.{count_for}
use Rattle.names.proofs.MergeLaws.{at_bits}
use Rattle.rewriting.proofs.BeneathLaws.{fronted_bits, fronted_none}
use Rattle.rewriting.proofs.inside.leading.Goals as goal

pub returns-then-name-ne65 : goal.returns-then-name-ne65
returns-then-name-ne65 c = fronted_none c.args.name.now c.requires c.if-name-ne65.true

pub bounds-name-1 : goal.bounds-name-1
bounds-name-1 c =
    let b = at_bits c.args.name.now 0 (count_for (get_or c.args.name.now 1 0)) c.requires.begins c.if-name-ne65.false refl in
    omega (arith, b.inside)

pub slice_bounds-result-end : goal.slice_bounds-result-end
slice_bounds-result-end c =
    let b = at_bits c.args.name.now 0 c.count-bits.result c.requires.begins c.if-name-ne65.false c.count-bits.ensures.0 in
    omega (arith, b.inside)

pub returns : goal.returns
returns c = fronted_bits c.args.name.now _ _ c.count-bits.result (2 + c.octets_for-end.result) c.requires c.if-name-ne65.false c.count-bits.ensures.0 c.count-bits.ensures.2 (omega arith) refl refl
