-- `octets::inside::quarter` meets its contract.
use Rattle.std.proofs.Common.{◌≡◌, ◌+◌, ◌*◌, get_or, arith}
use Rattle.octets.proofs.NumberLaws.{four_octets}
use Rattle.octets.proofs.inside.quarter.Goals as goal

pub returns : goal.returns
returns c =
    let o = c.args.octets.now in
    let at = c.args.at in
    let e : c.from_be_bytes.result ≡ get_or o at 0 * 16777216 + get_or o (at + 1) 0 * 65536 + get_or o (at + 2) 0 * 256 + get_or o (at + 3) 0 = c.from_be_bytes.ensures in
    let f = four_octets o at (omega arith) in
    (omega (arith, e, f, c.from.ensures), omega (arith, c.from.ensures))
