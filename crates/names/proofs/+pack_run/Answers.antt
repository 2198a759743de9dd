use Prim.Native.Nat.{ℕ, ◌+◌, ◌≤◌}
use mathlib.Core.Path.{refl}
use lib.ListN.{length, get_or, length-drop, length-set}
use native.Mathlib.Omega.{arith}
use borrow.Author.Rules.{rules}
use Rattle.std.proofs.lemmas.List.{take_rest}
use Rattle.bits.specs.Bits.{octets_for}
use Rattle.labels.specs.Labels.{count_for}
use Rattle.names.specs.Merge.{Ran}
use Rattle.names.proofs.MergeLaws.{AtBits, begins_inside, at_bits, ran_none, ran_more, ran_ready, run_length}
use Rattle.names.proofs.+pack_run.Goals.{After-count-bits, Joined-name-after-eq65, then-name-after-eq65, else-name-after-eq65}
use Rattle.names.proofs.+pack_run.Goals as goal

-- the bit label at the place
here : (t : ℕ) (c : After-count-bits t) → AtBits c.args.name.now c.args.at c.count-bits.result
here t c = at_bits c.args.name.now c.args.at c.count-bits.result c.requires.begins.0 c.requires.begins.1 c.count-bits.ensures.0

pub bounds-name-at : goal.bounds-name-at
bounds-name-at t c =
    let a = c.args in omega (arith, (at_bits a.name.now a.at (count_for (get_or a.name.now (a.at + 1) 0)) c.requires.begins.0 c.requires.begins.1 refl).inside)

pub bounds-name-after : goal.bounds-name-after
bounds-name-after t c =
    let b = here t (goal.at.bounds-name-after t c).After-count-bits in
    rw c.octets_for.ensures (begins_inside c.args.name.now (c.args.at + 2 + octets_for c.count-bits.result) b.begins)

pub pack_run-run-requires : goal.pack_run-run-requires
pack_run-run-requires t c =
    let b = here t (goal.at.pack_run-run-requires t c).After-count-bits in
    (omega (arith, b.inside), ((rw c.octets_for.ensures b.begins, c.if-name-after-eq65.true), (omega (arith, b.inside), omega (arith, c.requires.sum_bound.1), c.requires.sum_bound.2)))

pub bounds-out-to-else-name-after-eq65 : goal.bounds-out-to-else-name-after-eq65
bounds-out-to-else-name-after-eq65 t c =
    let b = here t (goal.at.bounds-out-to-else-name-after-eq65 t c).After-count-bits in
    omega (arith, b.inside, c.requires.sum_bound.1, length-set c.args.out.now c.args.to 65)

-- the labels to the right are packed, or the header alone
ran : (t : ℕ) (c : Joined-name-after-eq65 t) → AtBits c.args.name.now c.args.at c.count-bits.result
    → Ran c.args.name.now c.args.out.now c.if-name-after-eq65.out (c.args.at + 2 + octets_for c.count-bits.result) (c.args.sum + c.count-bits.result) c.args.to c.if-name-after-eq65.run
ran t c b =
    let a = c.args in
    let e = c.octets_for.ensures in
    elim c.if-name-after-eq65.branch [
      | then-name-after-eq65 w ↦ rw (w.out-is, w.run-is, ← e) w.pack_run-run.ensures.ran
      | else-name-after-eq65 w ↦ rw (w.out-is, w.run-is, w.new.ensures, ← e) (ran_none a.name.now a.out.now (a.at + 2 + c.octets_for.result) (a.sum + c.count-bits.result) a.to _ (rw e b.begins) w.if-name-after-eq65.false (omega (arith, b.inside, c.requires.sum_bound.1)) c.requires.sum_bound.2 refl)
    ]

pub slice_bounds-append-count : goal.slice_bounds-append-count
slice_bounds-append-count t c = omega (arith, (here t (goal.at.slice_bounds-append-count t c).After-count-bits).inside)

pub slice_bounds-append-start : goal.slice_bounds-append-start
slice_bounds-append-start t c = let b = (here t (goal.at.slice_bounds-append-start t c).After-count-bits).inside in let h : c.args.at + 2 ≤ length c.args.name.now = omega arith in search rules

pub append-requires-clause-ready : goal.append-requires-clause-ready
append-requires-clause-ready t c =
    let b = here t (goal.at.append-requires-clause-ready t c).After-count-bits in
    let r = ran t (goal.at.append-requires-clause-ready t c).Joined-name-after-eq65 b in
    let a = c.args in
    ran_ready a.name.now a.out.now _ a.at c.count-bits.result (a.sum + c.count-bits.result) a.to c.if-name-after-eq65.run b r c.if-name-after-eq65.auto.out (omega (arith, c.requires.sum_bound.1))

pub append-requires-clause-n_bound : goal.append-requires-clause-n_bound
append-requires-clause-n_bound t c =
    let b = here t (goal.at.append-requires-clause-n_bound t c).After-count-bits in
    let a = c.args in
    rw (take_rest a.name.now (a.at + 2)) (omega (arith, b.inside, length-drop (a.at + 2) a.name.now))

pub returns-clause-ran : goal.returns-clause-ran
returns-clause-ran t c =
    let b = here t (goal.at.returns-clause-ran t c).After-count-bits in
    let r = ran t (goal.at.returns-clause-ran t c).Joined-name-after-eq65 b in
    let a = c.args in
    let n = c.count-bits.result in
    ran_more a.name.now a.out.now _ _ a.at n a.sum (a.sum + n) a.to c.if-name-after-eq65.run c.append.result b refl r (rw (take_rest a.name.now (a.at + 2)) at c.append.ensures)

pub returns-clause-short : goal.returns-clause-short
returns-clause-short t c =
    let b = here t (goal.at.returns-clause-short t c).After-count-bits in
    let r = ran t (goal.at.returns-clause-short t c).Joined-name-after-eq65 b in
    omega (arith, run_length c.args.name.now c.args.at c.count-bits.result b, r.fits, r.far)
