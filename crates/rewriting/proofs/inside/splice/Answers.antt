-- `rewriting::inside::splice` meets its contract: the last unit kept is a label, or a bit of a run.
use mathlib.Core.Path.{◌≡◌, ap, ◌∙◌, sym}
use lib.ListN.{length, drop, length-append, length-drop}
use lib.Seq.{length-take-le}
use native.Mathlib.Omega.{arith}
use Rattle.octets.proofs.OctetLaws.{length_blank}
use Rattle.rewriting.proofs.SpliceLaws.{Splicing, found_within, bits_inside, bits_spliced, end_length, label_over, label_fits}
use Rattle.rewriting.proofs.inside.splice.Goals.{After-find-spot}
use Rattle.rewriting.proofs.inside.splice.Goals as goal

-- the last unit kept is found
held : (c : After-find-spot) → Splicing c.args.name.now c.args.k c.args.target.now c.find-spot.result
held c =
    record {
      found = c.find-spot.ensures;
      standing = c.requires.standing;
      small = (λ i. omega (arith, c.type_inv.name i), λ i. omega (arith, c.type_inv.target i));
      some = c.requires.k_nonzero.0;
    }

room : (c : After-find-spot) → length c.args.out.now ≡ 255
room c = ap length c.requires.k_nonzero.2 ∙ length_blank 255

pub bounds-name-spot : goal.bounds-name-spot
bounds-name-spot c = (found_within (held (goal.at.bounds-name-spot c).After-find-spot)).0

pub join-requires-clause-name_len_bound : goal.join-requires-clause-name_len_bound
join-requires-clause-name_len_bound c =
    let k = held (goal.at.join-requires-clause-name_len_bound c).After-find-spot in
    let b = bits_inside k c.if-name-spot-eq65.true in
    ((found_within k).2, b.0, b.1, omega arith)

pub returns-then-name-spot-eq65 : goal.returns-then-name-spot-eq65
returns-then-name-spot-eq65 c =
    let y = bits_spliced (held (goal.at.returns-then-name-spot-eq65 c).After-find-spot) c.if-name-spot-eq65.true c.join.result _ (c.join.ensures.value, c.join.ensures.out_after) in
    record { value = y.0; out_after = y.1 }

pub returns-then-size-gt255 : goal.returns-then-size-gt255
returns-then-size-gt255 c =
    let y = label_over (held (goal.at.returns-then-size-gt255 c).After-find-spot) c.if-name-spot-eq65.false c.if-size-gt255.true in
    record { value = y.0; out_after = c.requires.k_nonzero.2 ∙ y.1 }

pub slice_bounds-copy_from_slice-end : goal.slice_bounds-copy_from_slice-end
slice_bounds-copy_from_slice-end c =
    let l = room (goal.at.slice_bounds-copy_from_slice-end c).After-find-spot in
    omega (arith, c.if-size-gt255.false)

pub slice_bounds-copy_from_slice-end-2 : goal.slice_bounds-copy_from_slice-end-2
slice_bounds-copy_from_slice-end-2 c =
    let l = room (goal.at.slice_bounds-copy_from_slice-end-2 c).After-find-spot in
    omega (arith, length-take-le c.find-spot.result.end c.args.out.now (omega (arith, c.if-size-gt255.false)))

pub slice_bounds-copy_from_slice-end-3 : goal.slice_bounds-copy_from_slice-end-3
slice_bounds-copy_from_slice-end-3 c = sym (end_length (held (goal.at.slice_bounds-copy_from_slice-end-3 c).After-find-spot) c.if-name-spot-eq65.false)

pub copy_from_slice-requires : goal.copy_from_slice-requires
copy_from_slice-requires c =
    let l = room (goal.at.copy_from_slice-requires c).After-find-spot in
    length-take-le c.find-spot.result.end c.args.out.now (omega (arith, c.if-size-gt255.false)) ∙ sym (end_length (held (goal.at.copy_from_slice-requires c).After-find-spot) c.if-name-spot-eq65.false)

pub slice_bounds-copy_from_slice-end-4 : goal.slice_bounds-copy_from_slice-end-4
slice_bounds-copy_from_slice-end-4 c =
    let l = room (goal.at.slice_bounds-copy_from_slice-end-4 c).After-find-spot in
    let e = ap length c.copy_from_slice.ensures.after ∙ end_length (held (goal.at.slice_bounds-copy_from_slice-end-4 c).After-find-spot) c.if-name-spot-eq65.false in
    omega (arith, c.if-size-gt255.false, length-append c.copy_from_slice.new.self (drop c.find-spot.result.end c.args.out.now), length-drop c.find-spot.result.end c.args.out.now)

pub returns : goal.returns
returns c =
    let y = label_fits (held (goal.at.returns c).After-find-spot) c.if-name-spot-eq65.false _ _ _ c.requires.k_nonzero.2 c.copy_from_slice.ensures.after c.copy_from_slice-2.ensures.after c.if-size-gt255.false in
    record { value = y.0; out_after = y.1 }
