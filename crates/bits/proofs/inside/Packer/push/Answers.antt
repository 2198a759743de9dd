-- `bits::inside::Packer::push` meets its contract.
use Prim.Native.Nat.{◌-◌}
use mathlib.Core.Path.{◌∙◌}
use native.Mathlib.Omega.{arith}
use Rattle.bits.proofs.PackLaws.{shifted, full_value, part_done, full_done}
use Rattle.bits.proofs.inside.Packer.push.Goals as goal

pub returns-then-total-lt8 : goal.returns-then-total-lt8
returns-then-total-lt8 c =
    let a = c.args in
    let p = a.self in
    let r = c.requires.ready in
    part_done a.out.now p a.m a.x _ r (omega arith) c.requires.m_bound.1 (omega (arith, shifted p.have a.m p.value r.have c.requires.m_bound.0 r.value))

pub overflow_cast-out : goal.overflow_cast-out
overflow_cast-out c =
    let a = c.args in
    let p = a.self in
    let r = c.requires.ready in
    omega (arith, shifted p.have (8 - p.have) p.value r.have (omega arith) r.value, full_value p.have a.m p.value a.x r.have c.requires.m_bound.0 (omega arith) r.value c.requires.m_bound.1)

pub returns : goal.returns
returns c =
    let a = c.args in
    let p = a.self in
    let r = c.requires.ready in
    let s = shifted p.have (8 - p.have) p.value r.have (omega arith) r.value in
    full_done a.out.now p a.m a.x _ _ r c.requires.m_bound.0 (omega arith) c.requires.m_bound.1 (omega arith) (c.from-3.ensures ∙ c.low.ensures)
