use Prim.Native.Nat.{◌+◌, ◌-◌}
use mathlib.Core.Path.{◌≡◌, sym, ◌∙◌}
use native.Mathlib.Omega.{arith}
use borrow.Author.Tests.{eq-eqb, ne_eqb}
use Rattle.text.proofs.ReadLaws.{gap_turn, gap_stop, gap_all, two_word}
use Rattle.text.proofs.WholeLaws.{found_gap, found_no_gap}
use Rattle.text.proofs.reading.gap.Goals as goal

pub returns-then-from_be_bytes-eq-COLONS : goal.returns-then-from_be_bytes-eq-COLONS
returns-then-from_be_bytes-eq-COLONS c =
    let s = c.args.text.now in
    let end = c.loop-end.end in
    let i = end - 1 in
    let w = two_word s i end c.from_be_bytes.result (omega arith) (c.type_inv.text i).fits (c.type_inv.text end).fits c.from_be_bytes.ensures in
    let k = gap_stop s i (omega arith) (sym w ∙ eq-eqb c.from_be_bytes.result 14906 c.if-from_be_bytes-eq-COLONS.true) in
    found_gap s i (omega (arith, c.loop-end.invariant)) (omega arith)

pub loop-end-preserved : goal.loop-end-preserved
loop-end-preserved c =
    let s = c.args.text.now in
    let end = c.loop-end.end in
    let i = end - 1 in
    let w = two_word s i end c.from_be_bytes.result (omega arith) (c.type_inv.text i).fits (c.type_inv.text end).fits c.from_be_bytes.ensures in
    let k = gap_turn s i (omega arith) (sym w ∙ ne_eqb c.from_be_bytes.result 14906 c.if-from_be_bytes-eq-COLONS.false) in
    let e : c.loop-end.end + 1 - 1 ≡ c.loop-end.end - 1 + 1 = omega arith in
    rw e (omega (arith, c.loop-end.invariant))

pub returns : goal.returns
returns c = found_no_gap c.args.text.now (gap_all c.args.text.now c.loop-end.end (omega arith) (omega arith) c.loop-end.invariant)
