-- `rewriting::inside::beneath` meets its contract: each answer by one law about the place where the owner would begin.
use Prim.Native.Nat.{◌+◌}
use mathlib.Core.Path.{◌∙◌, sym}
use lib.ListN.{length-drop}
use native.Mathlib.Omega.{arith}
use Rattle.rewriting.specs.Spots.{units_at}
use Rattle.std.proofs.lemmas.List.{take_rest}
use Rattle.rewriting.proofs.ApplyLaws.{below_few}
use Rattle.rewriting.proofs.BeneathLaws.{Meeting, met_within, over_none, edge, inside, bits_within, inside_count, inside_bits, inside_rest}
use Rattle.rewriting.proofs.inside.beneath.Goals.{After-find-spot}
use Rattle.rewriting.proofs.inside.beneath.Goals as goal

-- the unit before the owner's place is found
met : (c : After-find-spot) → Meeting c.args.name.now c.args.owner.now c.unit_count-n.result c.unit_count-m.result c.find-spot.result
met c =
    record {
      found = c.find-spot.ensures;
      standing = c.requires;
      small = (λ i. omega (arith, c.type_inv.name i), λ i. omega (arith, c.type_inv.owner i));
      counts = (c.unit_count-n.ensures, c.unit_count-m.ensures, omega (arith, c.if-n-m.false));
    }

pub returns-then-n-m : goal.returns-then-n-m
returns-then-n-m c =
    let a = c.args in
    over_none _ (below_few (units_at a.owner.now 0) (units_at a.name.now 0) (omega (arith, c.unit_count-n.ensures, c.unit_count-m.ensures, c.if-n-m.true)))

pub slice_bounds-same_key-count : goal.slice_bounds-same_key-count
slice_bounds-same_key-count c = let w = met_within (met (goal.at.slice_bounds-same_key-count c).After-find-spot) in omega arith

pub slice_bounds-same_key-start : goal.slice_bounds-same_key-start
slice_bounds-same_key-start c = let w = met_within (met (goal.at.slice_bounds-same_key-start c).After-find-spot) in omega arith

pub returns-then-spot : goal.returns-then-spot
returns-then-spot c = c.then_some.ensures ∙ edge (met (goal.at.returns-then-spot c).After-find-spot) c.if-spot.true c.same_key.result (sym c.same_key.ensures)

pub returns-in_err-front : goal.returns-in_err-front
returns-in_err-front c =
    let k = met (goal.at.returns-in_err-front c).After-find-spot in
    c.from_residual.ensures ∙ inside_count (inside k c.in_err-front.ensures c.if-spot.false) (λ h. c.if-spot.false (omega arith))

pub overflow_add-spot-3 : goal.overflow_add-spot-3
overflow_add-spot-3 c =
    let k = met (goal.at.overflow_add-spot-3 c).After-find-spot in
    omega (arith, c.in_ok-front.ensures.few, k.found.within, k.found.turned.few, met_within k)

pub returns-then-spot-front : goal.returns-then-spot-front
returns-then-spot-front c =
    let k = met (goal.at.returns-then-spot-front c).After-find-spot in
    inside_count (inside k c.in_ok-front.ensures c.if-spot.false) c.if-spot-front.true

pub slice_bounds-same_bits-count : goal.slice_bounds-same_bits-count
slice_bounds-same_bits-count c =
    let k = met (goal.at.slice_bounds-same_bits-count c).After-find-spot in
    omega (arith, bits_within (inside k c.in_ok-front.ensures c.if-spot.false))

pub slice_bounds-same_bits-start : goal.slice_bounds-same_bits-start
slice_bounds-same_bits-start c =
    let k = met (goal.at.slice_bounds-same_bits-start c).After-find-spot in
    omega (arith, bits_within (inside k c.in_ok-front.ensures c.if-spot.false))

pub same_bits-requires : goal.same_bits-requires
same_bits-requires c =
    let k = met (goal.at.same_bits-requires c).After-find-spot in
    let r = c.find-spot.result in
    let d = length-drop (r.at + 2) c.args.name.now in
    let b = bits_within (inside k c.in_ok-front.ensures c.if-spot.false) in
    (rw take_rest (omega (arith, c.if-spot-front.false)), c.in_ok-front.ensures.inside)

pub returns-then-not-same_bits : goal.returns-then-not-same_bits
returns-then-not-same_bits c =
    let k = met (goal.at.returns-then-not-same_bits c).After-find-spot in
    let e = sym c.same_bits.ensures ∙ c.if-not-same_bits.true in
    inside_bits (inside k c.in_ok-front.ensures c.if-spot.false) c.if-spot-front.false (rw take_rest at e)

pub slice_bounds-same_key-count-2 : goal.slice_bounds-same_key-count-2
slice_bounds-same_key-count-2 c = let w = met_within (met (goal.at.slice_bounds-same_key-count-2 c).After-find-spot) in omega arith

pub slice_bounds-same_key-start-2 : goal.slice_bounds-same_key-start-2
slice_bounds-same_key-start-2 c = let w = met_within (met (goal.at.slice_bounds-same_key-start-2 c).After-find-spot) in omega arith

pub returns : goal.returns
returns c =
    let k = met (goal.at.returns c).After-find-spot in
    let e = sym c.same_bits.ensures ∙ c.if-not-same_bits.false in
    c.then_some-2.ensures ∙ inside_rest (inside k c.in_ok-front.ensures c.if-spot.false) c.if-spot-front.false (rw take_rest at e) c.same_key-2.result (sym c.same_key-2.ensures)
