use Prim.Native.Nat.{ℕ, ◌/◌, ◌%◌, ◌<◌, ◌≤◌}
use mathlib.Core.Path.{◌≡◌}
use mathlib.Core.List.{List}
use native.Mathlib.Omega.{arith}
use lib.ListN.{length, get_or, take}
use Rattle.std.proofs.lemmas.List.{get_or-take, length-take-le}
use Rattle.bits.specs.Bits.{octets_for}
use Rattle.bits.proofs.PackLaws.{appending_turn, appending_none, appending_last, last_small}
use Rattle.bits.proofs.inside.Packer.append.Goals as goal

-- the whole octets are there
whole_length : (n : ℕ) (src : List ℕ) → octets_for n ≤ length src → length (take (n / 8) src) ≡ n / 8
whole_length n src h = length-take-le (n / 8) src (omega arith)

pub loop-octet-preserved : goal.loop-octet-preserved
loop-octet-preserved c =
    let l = c.loop-octet in
    let a = c.args in
    let n : l.octet-index < a.n / 8 = omega (arith, whole_length a.n a.src.now c.requires.n_bound) in
    let s = rw (get_or-take (a.n / 8) a.src.now l.octet-index 0 n) at c.push-packer.ensures in
    appending_turn a.src.now a.out.now l.out a.n a.self l.packer l.octet-index c.requires.n_bound l.invariant _ _ n s c.push-packer.auto.out

pub push-requires-clause-m_bound : goal.push-requires-clause-m_bound
push-requires-clause-m_bound c =
    let a = c.args in
    (omega arith, last_small (get_or a.src.now (a.n / 8) 0) (a.n % 8) (omega (arith, c.type_inv.src (a.n / 8))) (omega arith))

pub returns-in-0 : goal.returns-in-0
returns-in-0 c =
    let l = c.loop-octet in
    let a = c.args in
    appending_none a.src.now a.out.now l.out a.n a.self l.packer l.octet-index c.requires.n_bound l.invariant (omega (arith, whole_length a.n a.src.now c.requires.n_bound)) (omega arith)

pub returns-in_default : goal.returns-in_default
returns-in_default c =
    let l = c.loop-octet in
    let a = c.args in
    appending_last a.src.now a.out.now l.out a.n a.self l.packer l.octet-index c.requires.n_bound l.invariant _ _ (omega (arith, whole_length a.n a.src.now c.requires.n_bound)) (λ e. omega arith) c.push.ensures
