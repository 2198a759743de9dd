use Rattle.std.proofs.Common.{◌≡◌, ◌∙◌, sym, length, arith, append-nil}
use lib.Seq.{drop-length}
use Rattle.octets.proofs.OctetLaws.{fill_turn}
use Rattle.octets.proofs.clear.Goals as goal

pub loop-x-preserved : goal.loop-x-preserved
loop-x-preserved g c = rw (c.loop-x.invariant, c.zero-nought.ensures) (fill_turn c.loop-x.x-index g.T.Zero.nought c.args.out.now c.loop-x-test.true)

pub returns : goal.returns
returns g c =
    let e : c.loop-x.x-index ≡ length c.args.out.now = omega arith in
    rw (c.loop-x.invariant, e, drop-length) (append-nil _ ∙ sym (g.met.T.Zero.replicated (length c.args.out.now)))
