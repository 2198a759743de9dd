-- `nametext::inside::put_label` meets its contract: the label that begins here, and its dot.
use Prim.Native.Nat.{◌+◌, ◌-◌, ◌*◌, ◌≤◌, ◌<◌}
use mathlib.Core.Path.{◌≡◌, refl}
use native.Mathlib.Omega.{arith}
use borrow.Author.Rules.{rules}
use lib.ListN.{length, get_or, set, length-drop}
use Rattle.octets.specs.Octets.{Small}
use Rattle.bits.specs.Bits.{octets_for}
use Rattle.labels.specs.Labels.{count_for}
use Rattle.names.proofs.MergeLaws.{begins_inside, at_bits, placed}
use Rattle.text.proofs.RunLaws.{rest_whole}
use Rattle.nametext.specs.Writing.{digits_for}
use Rattle.nametext.specs.Put.{Labelled}
use Rattle.nametext.proofs.LabelTextLaws.{bits_inside, bits_labelled, ordinary_inside, ordinary_labelled}
use Rattle.nametext.proofs.inside.put_label.Goals.{After-count-n, After-put_bits-e, After-wide, After-put_octets-e, Start}
use Rattle.nametext.proofs.inside.put_label.Goals as goal

inside : (c : Start) → c.args.at < length c.args.name.now
inside c = begins_inside c.args.name.now c.args.at c.requires.begins

pub bounds-name-at : goal.bounds-name-at
bounds-name-at c = inside (goal.at.bounds-name-at c).Start

-- a bit label whose count is known
pub bounds-name-at-then-x-eq65 : goal.bounds-name-at-then-x-eq65
bounds-name-at-then-x-eq65 c =
    let a = c.args in
    let w = at_bits a.name.now a.at (count_for (get_or a.name.now (a.at + 1) 0)) c.requires.begins c.if-x-eq65.true refl in
    omega (arith, w.inside)

bits_room : (c : After-count-n) → Small c.args.name.now → let a = c.args in let n = c.count-n.result in (a.at + 2 + octets_for n ≤ length a.name.now) × (a.to + digits_for n + 8 < length a.out.now)
bits_room c s =
    let a = c.args in
    bits_inside a.name.now a.out.now a.out.now a.at c.count-n.result a.to 0 s c.requires.begins c.requires.nonzero.1 c.if-x-eq65.true c.count-n.ensures.0

pub slice_bounds-put_bits-count : goal.slice_bounds-put_bits-count
slice_bounds-put_bits-count c = omega (arith, (bits_room (goal.at.slice_bounds-put_bits-count c).After-count-n (λ i. (c.type_inv.name i).fits)).0)

pub slice_bounds-put_bits-start : goal.slice_bounds-put_bits-start
slice_bounds-put_bits-start c =
    let r = bits_room (goal.at.slice_bounds-put_bits-start c).After-count-n (λ i. (c.type_inv.name i).fits) in
    let h : c.args.at + 2 ≤ length c.args.name.now = omega (arith, r.0) in
    search rules

pub put_bits-e-requires : goal.put_bits-e-requires
put_bits-e-requires c =
    let a = c.args in
    let n = c.count-n in
    let r = bits_room (goal.at.put_bits-e-requires c).After-count-n (λ i. (c.type_inv.name i).fits) in
    let d = length-drop (a.at + 2) a.name.now in
    (n.ensures.2, rw (rest_whole a.name.now (a.at + 2)) (omega arith), omega arith)

bits_put : (c : After-put_bits-e) → Small c.args.name.now → let a = c.args in let e = c.put_bits-e.result in
    (e < length c.put_bits-e.new.out) × Labelled a.name.now a.out.now (set c.put_bits-e.new.out e 46) a.at a.to (placed (a.at + 2 + octets_for c.count-n.result) (e + 1))
bits_put c s =
    let a = c.args in
    let n = c.count-n in
    let p = rw (rest_whole a.name.now (a.at + 2)) at c.put_bits-e.ensures in
    bits_labelled a.name.now a.out.now _ a.at n.result a.to c.put_bits-e.result s c.requires.begins c.requires.nonzero.1 c.if-x-eq65.true n.ensures.0 n.ensures.2 c.put_bits-e.auto.out p

pub bounds-out-e : goal.bounds-out-e
bounds-out-e c = (bits_put (goal.at.bounds-out-e c).After-put_bits-e (λ i. (c.type_inv.name i).fits)).0

pub overflow_add-result-then-x-eq65 : goal.overflow_add-result-then-x-eq65
overflow_add-result-then-x-eq65 c =
    let p = bits_put (goal.at.overflow_add-result-then-x-eq65 c).After-put_bits-e (λ i. (c.type_inv.name i).fits) in
    omega (arith, p.0, c.put_bits-e.auto.out)

pub returns-then-x-eq65 : goal.returns-then-x-eq65
returns-then-x-eq65 c = rw c.octets_for.ensures (bits_put (goal.at.returns-then-x-eq65 c).After-put_bits-e (λ i. (c.type_inv.name i).fits)).1

-- an ordinary label
ordinary_room : (c : After-wide) → Small c.args.name.now → let a = c.args in let n = c.wide.result in (a.at + 1 + n ≤ length a.name.now) × (a.to + 4 * n < length a.out.now)
ordinary_room c s =
    let a = c.args in
    ordinary_inside a.name.now a.out.now a.out.now a.at c.wide.result a.to 0 s c.requires.begins c.requires.nonzero.1 (λ z. omega (arith, c.requires.nonzero.0)) c.if-x-eq65.false c.wide.ensures.0

pub slice_bounds-put_octets-end : goal.slice_bounds-put_octets-end
slice_bounds-put_octets-end c =
    let r = ordinary_room (goal.at.slice_bounds-put_octets-end c).After-wide (λ i. (c.type_inv.name i).fits) in
    let h : c.args.at + 1 + c.wide.result ≤ length c.args.name.now = r.0 in
    search rules

ordinary_put : (c : After-put_octets-e) → Small c.args.name.now → let a = c.args in let e = c.put_octets-e.result in
    (e < length c.put_octets-e.new.out) × Labelled a.name.now a.out.now (set c.put_octets-e.new.out e 46) a.at a.to (placed (a.at + 1 + c.wide.result) (e + 1))
ordinary_put c s =
    let a = c.args in
    let n = c.wide.result in
    let k : a.at + 1 + n - (a.at + 1) ≡ n = omega arith in
    let p = rw k at c.put_octets-e.ensures in
    ordinary_labelled a.name.now a.out.now _ a.at n a.to c.put_octets-e.result s c.requires.begins c.requires.nonzero.1 (λ z. omega (arith, c.requires.nonzero.0)) c.if-x-eq65.false c.wide.ensures.0 c.put_octets-e.auto.out p

pub bounds-out-e-2 : goal.bounds-out-e-2
bounds-out-e-2 c = (ordinary_put (goal.at.bounds-out-e-2 c).After-put_octets-e (λ i. (c.type_inv.name i).fits)).0

pub overflow_add-result-2 : goal.overflow_add-result-2
overflow_add-result-2 c =
    let p = ordinary_put (goal.at.overflow_add-result-2 c).After-put_octets-e (λ i. (c.type_inv.name i).fits) in
    omega (arith, p.0, c.put_octets-e.auto.out)

pub returns : goal.returns
returns c = (ordinary_put (goal.at.returns c).After-put_octets-e (λ i. (c.type_inv.name i).fits)).1
