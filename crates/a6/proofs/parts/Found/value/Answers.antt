-- `a6::parts::Found::value` meets its contract: the parts of the value.
use mathlib.Core.Path.{refl}
use Rattle.octets.specs.Octets.{blank}
use Rattle.a6.specs.Ending.{value_from}
use Rattle.a6.proofs.parts.Found.value.Goals as goal

pub put_address-requires : goal.put_address-requires
unfolding blank
put_address-requires c = let f = c.args.self in (f.low, f.whole, refl)

pub put_name-length-requires : goal.put_name-length-requires
unfolding blank
put_name-length-requires c = let f = c.args.self in (f.ended, f.told, refl)

pub returns : goal.returns
unfolding value_from
returns c =
    let f = c.args.self in
    λ i. record { prefix = f.prefix; address = c.put_address.ensures i; name = record { octets = c.put_name-length.ensures.0 i; length = c.put_name-length.ensures.1 i } }
