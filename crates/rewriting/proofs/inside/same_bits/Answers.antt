-- `rewriting::inside::same_bits` meets its contract: the whole octets, and then the bits left.
use Prim.Native.Nat.{◌/◌, ◌%◌}
use native.Mathlib.Omega.{arith}
use mathlib.Core.Path.{◌∙◌}
use borrow.Author.Tests.{eq-eqb}
use Rattle.rewriting.proofs.BitLaws.{bits_off, bits_even, bits_left, unlike, not_unlike}
use Rattle.rewriting.proofs.inside.same_bits.Goals as goal

pub returns-then-ne : goal.returns-then-ne
returns-then-ne c =
    let a = c.args in
    bits_off a.n a.a.now a.b.now c.requires.0 c.requires.1 (λ i. omega (arith, c.type_inv.a i)) (λ i. omega (arith, c.type_inv.b i)) (unlike _ _ _ c.ne.ensures c.if-ne.true)

pub returns-then-left-eq0 : goal.returns-then-left-eq0
returns-then-left-eq0 c =
    let a = c.args in
    eq-eqb (a.n % 8) 0 c.if-left-eq0.true ∙ bits_even a.n a.a.now a.b.now c.requires.0 c.requires.1 (not_unlike _ _ _ c.ne.ensures c.if-ne.false) c.if-left-eq0.true

pub returns-else-left-eq0 : goal.returns-else-left-eq0
returns-else-left-eq0 c =
    let a = c.args in
    bits_left a.n a.a.now a.b.now c.requires.0 c.requires.1 (not_unlike _ _ _ c.ne.ensures c.if-ne.false) c.if-left-eq0.false (omega (arith, c.type_inv.a (a.n / 8))) (omega (arith, c.type_inv.b (a.n / 8)))
