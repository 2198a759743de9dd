-- `line::writing::put_line` meets its contract: the pieces one after another are the line, and each has room.
use Prim.Native.Nat.{ℕ}
use mathlib.Core.Path.{◌≡◌, ap}
use mathlib.Core.List.{◌∷◌}
use lib.ListN.{length}
use native.Mathlib.Omega.{arith}
use Rattle.text.specs.Decimal.{write_decimal}
use Rattle.text.proofs.WrittenLaws.{put_one, put_then, put_as}
use Rattle.line.specs.FieldText.{fields_text}
use Rattle.line.proofs.LongestLaws.{pieces_short}
use Rattle.line.proofs.writing.put_line.Goals as goal

-- the digits of a number are those of the same number in 64 bits
digits : (m n : ℕ) → m ≡ n → length (write_decimal m) ≡ length (write_decimal n)
digits m n e = ap (λ (k : ℕ). length (write_decimal k)) e

pub put_held-a-requires : goal.put_held-a-requires
put_held-a-requires c = (c.requires.0.owner, omega (arith, c.requires.1))

pub put_number-b-requires : goal.put_number-b-requires
put_number-b-requires c =
    let s = pieces_short c.args.fields c.requires.0 in
    omega (arith, s.owner, s.ttl, c.put_held-a.ensures.0, c.put_held-a.auto.out, digits _ _ c.from.ensures, c.requires.1)

pub put_type-c-requires : goal.put_type-c-requires
put_type-c-requires c =
    let s = pieces_short c.args.fields c.requires.0 in
    omega (arith, s.owner, s.ttl, c.put_held-a.ensures.0, c.put_held-a.auto.out, digits _ _ c.from.ensures, c.put_number-b.ensures.0, c.put_number-b.auto.out, c.requires.1)

pub put_number-d-requires : goal.put_number-d-requires
put_number-d-requires c =
    let s = pieces_short c.args.fields c.requires.0 in
    omega (arith, s.owner, s.ttl, s.middle, c.put_held-a.ensures.0, c.put_held-a.auto.out, digits _ _ c.from.ensures, c.put_number-b.ensures.0, c.put_number-b.auto.out, c.put_type-c.ensures.0, c.put_type-c.auto.out, digits _ _ c.from-2.ensures, c.requires.1)

pub put_address-e-requires : goal.put_address-e-requires
put_address-e-requires c =
    let s = pieces_short c.args.fields c.requires.0 in
    omega (arith, s.owner, s.ttl, s.middle, c.put_held-a.ensures.0, c.put_held-a.auto.out, digits _ _ c.from.ensures, c.put_number-b.ensures.0, c.put_number-b.auto.out, c.put_type-c.ensures.0, c.put_type-c.auto.out, digits _ _ c.from-2.ensures, c.put_number-d.ensures.0, c.put_number-d.auto.out, c.requires.1)

pub put_target-end-requires : goal.put_target-end-requires
put_target-end-requires c =
    let s = pieces_short c.args.fields c.requires.0 in
    (c.requires.0.target, omega (arith, s.owner, s.ttl, s.middle, c.put_held-a.ensures.0, c.put_held-a.auto.out, digits _ _ c.from.ensures, c.put_number-b.ensures.0, c.put_number-b.auto.out, c.put_type-c.ensures.0, c.put_type-c.auto.out, digits _ _ c.from-2.ensures, c.put_number-d.ensures.0, c.put_number-d.auto.out, c.put_address-e.ensures.0, c.put_address-e.auto.out, c.requires.1))

pub bounds-out-end : goal.bounds-out-end
bounds-out-end c =
    let s = pieces_short c.args.fields c.requires.0 in
    omega (arith, s.owner, s.ttl, s.middle, s.target, c.put_held-a.ensures.0, c.put_held-a.auto.out, digits _ _ c.from.ensures, c.put_number-b.ensures.0, c.put_number-b.auto.out, c.put_type-c.ensures.0, c.put_type-c.auto.out, digits _ _ c.from-2.ensures, c.put_number-d.ensures.0, c.put_number-d.auto.out, c.put_address-e.ensures.0, c.put_address-e.auto.out, c.put_target-end.ensures.0, c.put_target-end.auto.out, c.requires.1)

pub overflow_add-result : goal.overflow_add-result
overflow_add-result c =
    let s = pieces_short c.args.fields c.requires.0 in
    omega (arith, s.owner, s.ttl, s.middle, s.target, c.put_held-a.ensures.0, digits _ _ c.from.ensures, c.put_number-b.ensures.0, c.put_type-c.ensures.0, digits _ _ c.from-2.ensures, c.put_number-d.ensures.0, c.put_address-e.ensures.0, c.put_target-end.ensures.0)

pub returns : goal.returns
unfolding fields_text
returns c =
    let s = pieces_short c.args.fields c.requires.0 in
    let o1 = c.put_held-a.auto.out in
    let o2 = c.put_number-b.auto.out in
    let o3 = c.put_type-c.auto.out in
    let o4 = c.put_number-d.auto.out in
    let o5 = c.put_address-e.auto.out in
    let o6 = c.put_target-end.auto.out in
    let e1 = c.put_held-a.ensures.0 in
    let e2 = c.put_number-b.ensures.0 in
    let e3 = c.put_type-c.ensures.0 in
    let e4 = c.put_number-d.ensures.0 in
    let e5 = c.put_address-e.ensures.0 in
    let e6 = c.put_target-end.ensures.0 in
    let n1 = digits _ _ c.from.ensures in
    let n2 = digits _ _ c.from-2.ensures in
    let b = put_as _ _ _ _ _ _ (ap (λ (n : ℕ). 32 ∷ write_decimal n) c.from.ensures) c.put_number-b.ensures in
    let d = put_as _ _ _ _ _ _ (ap (λ (n : ℕ). 32 ∷ write_decimal n) c.from-2.ensures) c.put_number-d.ensures in
    let q6 = put_then _ _ _ _ _ _ _ _ (omega (arith, s.owner, s.ttl, s.middle, s.target)) c.put_target-end.ensures (put_one _ c.put_target-end.result 10 (omega (arith, s.owner, s.ttl, s.middle, s.target))) in
    let q5 = put_then _ _ _ _ _ _ _ _ (omega (arith, s.owner, s.ttl, s.middle)) c.put_address-e.ensures q6 in
    let q4 = put_then _ _ _ _ _ _ _ _ (omega (arith, s.owner, s.ttl, s.middle)) d q5 in
    let q3 = put_then _ _ _ _ _ _ _ _ (omega (arith, s.owner, s.ttl)) c.put_type-c.ensures q4 in
    let q2 = put_then _ _ _ _ _ _ _ _ (omega (arith, s.owner, s.ttl)) b q3 in
    put_then _ _ _ _ _ _ _ _ (omega (arith, s.owner)) c.put_held-a.ensures q2
