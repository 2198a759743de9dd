-- `octets::zeros::is_blank` meets its contract: all octets are joined by OR.
use Rattle.std.proofs.Common.{◌≡◌, ◌-◌, take, length, drop}
use Rattle.std.proofs.lemmas.List.{take_rest}
use Rattle.octets.proofs.OctetLaws.{drop_min}
use Rattle.octets.proofs.ZeroLaws.{blank_fold}
use Rattle.octets.proofs.zeros.is_blank.Goals as goal

pub returns : goal.returns
returns c =
    let s = c.args.s.now in
    let m = c.min.result in
    let e : take (length s - m) (drop m s) ≡ drop c.args.from s = rw (take_rest, c.min.ensures) (drop_min c.args.from s) in
    rw (c.joined.ensures, e) (blank_fold (drop c.args.from s) 0)
