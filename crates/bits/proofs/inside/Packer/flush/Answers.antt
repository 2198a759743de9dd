-- `bits::inside::Packer::flush` meets its contract.
use Prim.Native.Nat.{◌-◌}
use native.Mathlib.Omega.{arith}
use Rattle.bits.proofs.PackLaws.{shifted, flush_small, flushed_none, flushed_some}
use Rattle.bits.proofs.inside.Packer.flush.Goals as goal

pub returns-then-self-eq0 : goal.returns-then-self-eq0
returns-then-self-eq0 c = flushed_none c.args.out.now c.args.self c.requires c.if-self-eq0.true

pub overflow_cast-out : goal.overflow_cast-out
overflow_cast-out c =
    let p = c.args.self in
    let r = c.requires in
    omega (arith, shifted p.have (8 - p.have) p.value r.have (omega arith) r.value, flush_small p.have p.value r.have r.value)

pub returns : goal.returns
returns c =
    let p = c.args.self in
    let r = c.requires in
    flushed_some c.args.out.now p _ r c.if-self-eq0.false (shifted p.have (8 - p.have) p.value r.have (omega arith) r.value)
