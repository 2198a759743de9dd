-- `nametext::inside::put_bits` meets its contract: the pieces of a bit label's text, put one after the other.
use Prim.Native.Nat.{◌+◌, ◌<◌}
use mathlib.Core.Path.{◌≡◌, ◌∙◌}
use native.Mathlib.Omega.{arith}
use lib.ListN.{length, set, length-set}
use Rattle.text.specs.Decimal.{write_decimal}
use Rattle.text.specs.Written.{Put}
use Rattle.nametext.specs.Writing.{digits_for}
use Rattle.nametext.specs.Put.{raw_bits}
use Rattle.nametext.proofs.WriterLaws.{begun_length, count_room, bits_put}
use Rattle.nametext.proofs.inside.put_bits.Goals.{After-put_number-b, After-put_digits-a}
use Rattle.nametext.proofs.inside.put_bits.Goals as goal

same : (c : After-put_digits-a) → length c.put_digits-a.new.out ≡ length c.args.out.now
same c = c.put_digits-a.auto.out ∙ begun_length c.args.out.now c.args.to

room : (c : After-put_digits-a) → c.put_digits-a.result + 1 + length (write_decimal c.args.n) < length c.args.out.now
room c =
    let a = c.args in
    let e : c.div_ceil.result ≡ digits_for a.n = omega (arith, c.div_ceil.ensures) in
    count_room a.octets.now a.out.now _ a.n a.to c.put_digits-a.result c.requires.0 c.requires.1 c.requires.2 (same c) (rw (← e) c.put_digits-a.ensures)

pub put_number-b-requires-clause-room : goal.put_number-b-requires-clause-room
put_number-b-requires-clause-room c =
    let here = (goal.at.put_number-b-requires-clause-room c).After-put_digits-a in
    simp length-set (omega (arith, room here, same here))

-- where the count is put too
ended : (c : After-put_number-b) → let a = c.args in let e = c.put_number-b.new.out in let b = c.put_number-b.result in
    (b < length e) × (length (set e b 93) ≡ length a.out.now) × (b < length a.out.now) × Put a.out.now (set e b 93) a.to (b + 1) (raw_bits a.n a.octets.now)
ended c =
    let a = c.args in
    let e : c.div_ceil.result ≡ digits_for a.n = omega (arith, c.div_ceil.ensures) in
    bits_put a.octets.now a.out.now _ a.n a.to c.put_digits-a.result c.requires.0 c.requires.1 c.requires.2 (c.put_digits-a.auto.out ∙ begun_length a.out.now a.to) (rw (← e) c.put_digits-a.ensures) _ c.put_number-b.result c.put_number-b.auto.out c.put_number-b.ensures

pub bounds-out-b : goal.bounds-out-b
bounds-out-b c = (ended (goal.at.bounds-out-b c).After-put_number-b).0

pub overflow_add-result : goal.overflow_add-result
overflow_add-result c = omega (arith, (ended (goal.at.overflow_add-result c).After-put_number-b).2)

pub returns : goal.returns
returns c = (ended (goal.at.returns c).After-put_number-b).3
