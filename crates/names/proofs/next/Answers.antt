-- `names::next` meets its contract: a run or an ordinary label, each by one law.
use Prim.Native.Nat.{◌+◌}
use native.Mathlib.Omega.{arith}
use Rattle.names.proofs.MergeLaws.{AtOrdinary, begins_inside, at_ordinary, moved_run, moved_ordinary, run_some}
use Rattle.names.proofs.next.Goals.{After-wide-size}
use Rattle.names.proofs.next.Goals as goal

-- the ordinary label at the place
word : (c : After-wide-size) → AtOrdinary c.args.name.now c.args.at (c.wide-size.result + 1)
word c =
    let u = c.requires.to_le_at in
    at_ordinary c.args.name.now c.args.at (c.wide-size.result + 1) c.requires.begins (λ h. omega arith) c.if-x-eq65.false (omega arith)

pub flush-requires : goal.flush-requires
flush-requires c =
    let r = c.pack_run-run in
    let i = begins_inside c.args.name.now r.result.end r.ensures.ran.begins in
    let s = c.requires.begins.short in
    let w = r.ensures.ran in
    record { clean = w.clean; have = w.have; value = w.value; room = omega (arith, w.place, w.far, r.ensures.short) }

pub returns-then-x-eq65 : goal.returns-then-x-eq65
returns-then-x-eq65 c =
    let a = c.args in
    let r = c.pack_run-run in
    moved_run a.name.now a.out.now _ _ a.at a.to c.flush.result r.result (run_some a.name.now a.at c.requires.begins c.if-x-eq65.true) c.requires.to_le_at.0 r.ensures.short r.ensures.ran c.flush.ensures

pub copy-requires : goal.copy-requires
copy-requires c =
    let b = word (goal.at.copy-requires c).After-wide-size in
    let s = c.requires.begins.short in
    (omega (arith, b.inside), omega (arith, b.inside))

pub returns : goal.returns
returns c =
    let b = word (goal.at.returns c).After-wide-size in
    let a = c.args in
    let s = c.requires.begins.short in
    moved_ordinary a.name.now a.out.now _ a.at (c.wide-size.result + 1) a.to b c.requires.to_le_at.0 (omega arith) (omega arith) c.requires.to_le_at.1 c.copy.ensures
