-- `nametext::reading::put_ordinary` meets its contract: the length goes in front of the octets.
use Rattle.nametext.proofs.PlaceLaws.{filled_length}
use Rattle.bits.proofs.PackLaws.{clean_drop}
use Rattle.nametext.specs.Reading.{octets_in}
use native.Mathlib.Omega.{arith}
use Prim.Native.Nat.{◌+◌, ◌-◌}
use Rattle.nametext.proofs.reading.put_ordinary.Goals as goal

pub put_octets-e-requires : goal.put_octets-e-requires
put_octets-e-requires c =
    let a = c.args in
    let r = c.requires in record { p_value = r.p_value; clean = (clean_drop a.out.now a.to 1 r.clean.0, omega (arith, r.clean.1), r.clean.2) }

pub returns : goal.returns
returns c =
    let a = c.args in
    let r = c.requires in
    let f = c.put_octets-e in
    filled_length a.out.now _ a.to f.result (f.result - (a.to + 1)) (octets_in 0 a.p.now) f.ensures f.auto.out r.clean.1 (omega (arith, f.ensures.place))
