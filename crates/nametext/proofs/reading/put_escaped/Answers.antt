use native.Mathlib.Omega.{arith}
use Rattle.nametext.proofs.PlaceLaws.{filling_start, filling_small, filling_room, filling_turn, filling_end}
use Rattle.nametext.proofs.reading.put_escaped.Goals as goal

pub loop-octet-init : goal.loop-octet-init
loop-octet-init c =
    let a = c.args in
    let r = c.requires in
    filling_start a.p.now a.out.now a.to r.p_value.0 r.p_value.1 r.clean.0

pub overflow_cast-out : goal.overflow_cast-out
overflow_cast-out c =
    let l = c.loop-octet in
    let a = c.args in
    omega (arith, filling_small a.p.now a.out.now l.out a.to l.t l.rest.now l.invariant c.in-Some.octet c.in-Some.ensures)

pub bounds-out-t : goal.bounds-out-t
bounds-out-t c =
    let l = c.loop-octet in
    let a = c.args in
    filling_room a.p.now a.out.now l.out a.to l.t l.rest.now l.invariant c.in-Some.octet c.in-Some.ensures c.requires.clean.1

pub overflow_add-t : goal.overflow_add-t
overflow_add-t c =
    let l = c.loop-octet in
    let a = c.args in
    omega (arith, filling_room a.p.now a.out.now l.out a.to l.t l.rest.now l.invariant c.in-Some.octet c.in-Some.ensures c.requires.clean.1, l.invariant.size, c.requires.clean.2)

pub loop-octet-preserved : goal.loop-octet-preserved
loop-octet-preserved c =
    let l = c.loop-octet in
    let a = c.args in
    filling_turn a.p.now a.out.now l.out a.to l.t l.rest.now l.invariant c.in-Some.octet c.in-Some.ensures c.requires.clean.1

pub returns : goal.returns
returns c =
    let l = c.loop-octet in
    let a = c.args in
    filling_end a.p.now a.out.now l.out a.to l.t l.rest.now l.invariant c.in_default.ensures
