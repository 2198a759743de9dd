use Rattle.nametext.proofs.HexLaws.{hexing_start, hexing_there, hexing_hex, hexing_turn, hexing_none, hexing_last, digit_small}
use Rattle.bits.proofs.PackLaws.{ready_less}
use native.Mathlib.Omega.{arith}
use Rattle.nametext.proofs.reading.append_digits.Goals as goal

pub loop-left-init : goal.loop-left-init
loop-left-init c =
    let a = c.args in
    hexing_start a.p.now a.n c.requires.n_bound a.out.now a.packer c.requires.ready

pub bounds-p-i : goal.bounds-p-i
bounds-p-i c =
    let l = c.loop-left in
    let a = c.args in
    hexing_there a.p.now a.n c.requires.n_bound a.out.now l.out a.packer l.q l.i l.left l.invariant (omega (arith, c.loop-left-test.true))

pub hex_value-requires : goal.hex_value-requires
hex_value-requires c =
    let l = c.loop-left in
    let a = c.args in
    hexing_hex a.p.now a.n c.requires.n_bound a.out.now l.out a.packer l.q l.i l.left l.invariant (omega (arith, c.loop-left-test.true))

pub push-q-requires : goal.push-q-requires
push-q-requires c =
    let l = c.loop-left in record { ready = ready_less l.out l.q 4 l.left (omega (arith, c.loop-left-test.true)) l.invariant.ready; m_bound = (omega arith, c.hex_value.ensures.1) }

pub overflow_add-i : goal.overflow_add-i
overflow_add-i c =
    let l = c.loop-left in
    let a = c.args in
    omega (arith, hexing_there a.p.now a.n c.requires.n_bound a.out.now l.out a.packer l.q l.i l.left l.invariant (omega (arith, c.loop-left-test.true)))

pub loop-left-smaller : goal.loop-left-smaller
loop-left-smaller c = omega (arith, c.loop-left-test.true)

pub loop-left-preserved : goal.loop-left-preserved
loop-left-preserved c =
    let l = c.loop-left in
    let a = c.args in
    let u = c.push-q in
    hexing_turn a.p.now a.n c.requires.n_bound a.out.now l.out a.packer l.q l.i l.left l.invariant _ u.result c.loop-left-test.true (rw (← c.hex_value.ensures.0) u.ensures) u.auto.out

pub returns-then-left-eq0 : goal.returns-then-left-eq0
returns-then-left-eq0 c =
    let l = c.loop-left in
    let a = c.args in
    hexing_none a.p.now a.n c.requires.n_bound a.out.now l.out a.packer l.q l.i l.left l.invariant c.if-left-eq0.true

pub bounds-p-i-2 : goal.bounds-p-i-2
bounds-p-i-2 c =
    let l = c.loop-left in
    let a = c.args in
    hexing_there a.p.now a.n c.requires.n_bound a.out.now l.out a.packer l.q l.i l.left l.invariant (omega (arith, c.if-left-eq0.false))

pub hex_value-requires-2 : goal.hex_value-requires-2
hex_value-requires-2 c =
    let l = c.loop-left in
    let a = c.args in
    hexing_hex a.p.now a.n c.requires.n_bound a.out.now l.out a.packer l.q l.i l.left l.invariant (omega (arith, c.if-left-eq0.false))

pub overflow_shr-hex_value : goal.overflow_shr-hex_value
overflow_shr-hex_value c = omega (arith, c.if-left-eq0.false)

pub push-requires : goal.push-requires
push-requires c =
    let l = c.loop-left in record { ready = l.invariant.ready; m_bound = (omega arith, digit_small c.hex_value-2.result l.left c.hex_value-2.ensures.1 (omega arith)) }

pub returns : goal.returns
returns c =
    let l = c.loop-left in
    let a = c.args in
    let u = c.push in
    hexing_last a.p.now a.n c.requires.n_bound a.out.now l.out a.packer l.q l.i l.left l.invariant _ u.result (omega (arith, c.if-left-eq0.false)) (omega arith) (rw (← c.hex_value-2.ensures.0) u.ensures)
