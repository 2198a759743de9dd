use mathlib.Core.Path.{◌≡◌, refl}
use lib.ListN.{length, get_or, length-set}
use native.Mathlib.Omega.{arith}
use mir.Syntax.{w8}
use mir.Val.{Fits}
use Rattle.octets.specs.Octets.{Small}
use Rattle.address.specs.Address.{join_of}
use Rattle.address.proofs.AddressLaws.{join_length}
use Rattle.address.proofs.JoinLaws.{octet_chosen, same_more, same_all}
use borrow.Author.Rules.{rules}
use Rattle.address.proofs.join.Goals.{Start}
use Rattle.address.proofs.join.Goals as goal

small_high : (c : Start) → Small c.args.high
small_high c i = let f : Fits w8 (get_or c.args.high i 0) = search rules in f.fits

small_low : (c : Start) → Small c.args.low
small_low c i = let f : Fits w8 (get_or c.args.low i 0) = search rules in f.fits

long : (c : Start) → length (join_of c.args.high c.args.low c.args.at) ≡ 16
long c = join_length c.args.high c.args.low c.args.at (search rules) (search rules)

pub loop-k-init : goal.loop-k-init
loop-k-init c = (search rules, refl)

pub loop-k-preserved : goal.loop-k-preserved
loop-k-preserved c =
    let here = (goal.at.loop-k-preserved c).Start in
    let l = c.loop-k in
    let a = c.args in
    let n = long here in
    let e = octet_chosen a.high a.low a.at (search rules) (search rules) (small_high here) (small_low here) l.k c.wide-place.result c.mix-mixed.result c.octet.result (omega arith) c.wide-place.ensures.0 c.mix-mixed.ensures c.octet.ensures in (
      simp length-set l.invariant.0,
      same_more l.out (join_of a.high a.low a.at) l.k c.octet.result (omega arith) (omega arith) l.invariant.1 e,
    )

pub returns : goal.returns
returns c =
    let here = (goal.at.returns c).Start in
    let l = c.loop-k in
    let a = c.args in
    let n = long here in
    same_all l.out (join_of a.high a.low a.at) l.k (omega arith) (omega arith) l.invariant.1
