-- `rewriting::inside::join` meets its contract: the octets before the label, the run, and the rest of the target.
use Prim.Native.Nat.{◌+◌, ◌%◌}
use mathlib.Core.Path.{refl, ap, ◌∙◌}
use mathlib.Core.List.{◌++◌}
use lib.ListN.{length, take, drop, length-set}
use lib.Seq.{length-take-le}
use native.Mathlib.Omega.{arith}
use Rattle.octets.proofs.OctetLaws.{length_blank}
use Rattle.bits.specs.Bits.{unpack}
use Rattle.rewriting.proofs.SkipLaws.{skip_none}
use Rattle.std.proofs.lemmas.List.{take_rest}
use Rattle.rewriting.proofs.FillLaws.{Packed, packed_on}
use Rattle.rewriting.proofs.SpliceLaws.{Joint, joint, front_length, begun, opened, ready_first, ready_next, ready_last, ends, rest_fits, over_run, over_size, over_none}
use Rattle.rewriting.proofs.inside.join.Goals.{After-unwrap_or-front, After-append_from-packer-2}
use Rattle.rewriting.proofs.inside.join.Goals as goal

-- what the run is made of
made : (k : After-unwrap_or-front) → Joint k.args.name.now k.args.at k.args.skip k.args.kept k.args.target.now k.unwrap_or-front.result.octets.now k.unwrap_or-front.result.bits k.unwrap_or-front.result.rest.now
made k = joint k.leading.result _ k.unwrap_or-front.result k.requires.standing.0 (λ i. omega (arith, k.type_inv.target i)) k.requires.name_len_bound k.leading.ensures k.unwrap_or-front.ensures refl refl refl

-- its bits are packed
packed : (c : After-append_from-packer-2)
    → Packed (take c.args.at c.args.name.now) c.args.at ((c.unwrap_or-front.result.bits + c.args.kept) % 256) c.append_from-packer-2.new.out c.append_from-packer-2.result
    (unpack c.unwrap_or-front.result.bits c.unwrap_or-front.result.octets.now ++ drop c.args.skip (unpack (c.args.skip + c.args.kept) (drop (c.args.at + 2) c.args.name.now)))
packed c =
    let k = joint c.leading.result _ c.unwrap_or-front.result c.requires.standing.0 (λ i. omega (arith, c.type_inv.target i)) c.requires.name_len_bound c.leading.ensures c.unwrap_or-front.ensures refl refl refl in
    let q = packed_on (opened k _ _ c.new-packer.result c.requires.standing.1 c.copy_from_slice.ensures.after (omega arith) c.new-packer.ensures) _ _ _ (skip_none _ _ _ _ _ _ c.append_from-packer.ensures) c.append_from-packer.auto.out in
    packed_on q _ _ _ (rw take_rest at c.append_from-packer-2.ensures) c.append_from-packer-2.auto.out

pub returns-then-total-gt256 : goal.returns-then-total-gt256
returns-then-total-gt256 c =
    let r = over_run (made (goal.at.returns-then-total-gt256 c).After-unwrap_or-front) c.if-total-gt256.true in
    record { value = r.0; out_after = c.requires.standing.1 ∙ r.1 }

pub returns-then-size-gt255 : goal.returns-then-size-gt255
returns-then-size-gt255 c =
    let r = over_size (made (goal.at.returns-then-size-gt255 c).After-unwrap_or-front) c.if-total-gt256.false (omega arith) in
    record { value = r.0; out_after = c.requires.standing.1 ∙ r.1 }

pub slice_bounds-copy_from_slice-end : goal.slice_bounds-copy_from_slice-end
slice_bounds-copy_from_slice-end c = omega (arith, c.if-size-gt255.false, ap length c.requires.standing.1, length_blank 255)

pub slice_bounds-copy_from_slice-end-2 : goal.slice_bounds-copy_from_slice-end-2
slice_bounds-copy_from_slice-end-2 c =
    let l = ap length c.requires.standing.1 ∙ length_blank 255 in
    omega (arith, length-take-le c.args.at c.args.out.now (omega (arith, c.if-size-gt255.false)))

pub copy_from_slice-requires : goal.copy_from_slice-requires
copy_from_slice-requires c =
    let l = ap length c.requires.standing.1 ∙ length_blank 255 in
    omega (arith, length-take-le c.args.at c.args.out.now (omega (arith, c.if-size-gt255.false)), front_length (made (goal.at.copy_from_slice-requires c).After-unwrap_or-front))

pub bounds-out-at : goal.bounds-out-at
bounds-out-at c =
    let f = begun (made (goal.at.bounds-out-at c).After-unwrap_or-front) _ _ c.requires.standing.1 c.copy_from_slice.ensures.after (omega arith) in
    omega (arith, f.room, c.if-size-gt255.false)

pub bounds-out-at-2 : goal.bounds-out-at-2
bounds-out-at-2 c =
    let f = begun (made (goal.at.bounds-out-at-2 c).After-unwrap_or-front) _ _ c.requires.standing.1 c.copy_from_slice.ensures.after (omega arith) in
    simp length-set (omega (arith, f.room, c.if-size-gt255.false))

pub append_from-packer-requires-clause-ready : goal.append_from-packer-requires-clause-ready
append_from-packer-requires-clause-ready c =
    let k = made (goal.at.append_from-packer-requires-clause-ready c).After-unwrap_or-front in
    ready_first k (omega arith) (opened k _ _ c.new-packer.result c.requires.standing.1 c.copy_from_slice.ensures.after (omega arith) c.new-packer.ensures)

pub append_from-packer-requires-2-clause-ready : goal.append_from-packer-requires-2-clause-ready
append_from-packer-requires-2-clause-ready c =
    let k = made (goal.at.append_from-packer-requires-2-clause-ready c).After-unwrap_or-front in
    ready_next k (omega arith) (packed_on (opened k _ _ c.new-packer.result c.requires.standing.1 c.copy_from_slice.ensures.after (omega arith) c.new-packer.ensures) _ _ _ (skip_none _ _ _ _ _ _ c.append_from-packer.ensures) c.append_from-packer.auto.out)

pub flush-end-requires : goal.flush-end-requires
flush-end-requires c =
    let k = made (goal.at.flush-end-requires c).After-unwrap_or-front in
    let g = packed (goal.at.flush-end-requires c).After-append_from-packer-2 in
    ready_last k (omega arith) g

pub slice_bounds-copy_from_slice-count : goal.slice_bounds-copy_from_slice-count
slice_bounds-copy_from_slice-count c =
    let k = made (goal.at.slice_bounds-copy_from_slice-count c).After-unwrap_or-front in
    let g = packed (goal.at.slice_bounds-copy_from_slice-count c).After-append_from-packer-2 in
    omega (arith, ends k (omega arith) g c.flush-end.ensures)

pub slice_bounds-copy_from_slice-start : goal.slice_bounds-copy_from_slice-start
slice_bounds-copy_from_slice-start c =
    let k = made (goal.at.slice_bounds-copy_from_slice-start c).After-unwrap_or-front in
    let g = packed (goal.at.slice_bounds-copy_from_slice-start c).After-append_from-packer-2 in
    omega (arith, ends k (omega arith) g c.flush-end.ensures, g.room)

pub slice_bounds-copy_from_slice-end-4 : goal.slice_bounds-copy_from_slice-end-4
slice_bounds-copy_from_slice-end-4 c =
    let k = made (goal.at.slice_bounds-copy_from_slice-end-4 c).After-unwrap_or-front in
    let g = packed (goal.at.slice_bounds-copy_from_slice-end-4 c).After-append_from-packer-2 in
    omega (arith, ends k (omega arith) g c.flush-end.ensures, g.room, c.flush-end.auto.out)

pub copy_from_slice-requires-2 : goal.copy_from_slice-requires-2
copy_from_slice-requires-2 c =
    let k = made (goal.at.copy_from_slice-requires-2 c).After-unwrap_or-front in
    let g = packed (goal.at.copy_from_slice-requires-2 c).After-append_from-packer-2 in
    rest_fits k (omega arith) _ (omega arith) g c.flush-end.ensures c.flush-end.auto.out

pub returns : goal.returns
returns c =
    let k = made (goal.at.returns c).After-unwrap_or-front in
    let g = packed (goal.at.returns c).After-append_from-packer-2 in
    let y = over_none k _ (omega arith) c.if-total-gt256.false (omega arith) g c.flush-end.ensures c.flush-end.auto.out c.copy_from_slice-2.ensures.after in
    record { value = y.0; out_after = y.1 }
