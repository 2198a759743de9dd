-- `rewriting::inside::append_from` meets its contract: the rest of an octet first, then whole octets.
use Prim.Native.Nat.{ℕ, ◌+◌, ◌-◌, ◌/◌, ◌%◌}
use lib.ListN.{length, get_or, length-drop}
use lib.Pow.{pow_pos}
use native.Mathlib.Nat.{mod-lt}
use native.Mathlib.Omega.{arith}
use Rattle.std.proofs.lemmas.List.{take_rest}
use Rattle.bits.specs.Bits.{bits_of}
use Rattle.bits.proofs.BitLaws.{bits_length}
use Rattle.bits.proofs.PackLaws.{ready_less, ready_after}
use Rattle.rewriting.proofs.SkipLaws.{even_pushed, short_pushed, long_pushed, field_small}
use Rattle.rewriting.proofs.inside.append_from.Goals.{Start}
use Rattle.rewriting.proofs.inside.append_from.Goals as goal

-- ---- the octet that is cut, and how many bits are left of it
abbrev octet : Start → ℕ
octet s = get_or s.args.octets.now (s.args.skip / 8) 0

abbrev width : Start → ℕ
width s = 8 - s.args.skip % 8

pub append-requires : goal.append-requires
append-requires c =
    let a = c.args in
    let l = length-drop (a.skip / 8) a.octets.now in
    record { ready = c.requires.ready; n_bound = rw (take_rest a.octets.now (a.skip / 8)) (omega (arith, c.requires.n_bound, c.if-cut-eq0.true)) }

pub returns-then-cut-eq0 : goal.returns-then-cut-eq0
returns-then-cut-eq0 c =
    let a = c.args in
    even_pushed a.octets.now a.skip a.n c.if-cut-eq0.true (rw (take_rest a.octets.now (a.skip / 8)) at c.append.ensures)

pub push-requires : goal.push-requires
push-requires c =
    let here = (goal.at.push-requires c).Start in
    record { ready = c.requires.ready; m_bound = (omega arith, rw c.low-x.ensures (field_small (octet here) (width here) c.args.n c.if-n-width.true)) }

pub returns-then-n-width : goal.returns-then-n-width
returns-then-n-width c =
    let a = c.args in
    short_pushed a.octets.now a.skip a.n c.low-x.result c.low-x.ensures (omega (arith, c.requires.n_bound, c.if-cut-eq0.false)) (omega (arith, c.if-n-width.true)) c.push.ensures

pub push-packer-requires : goal.push-packer-requires
push-packer-requires c =
    let here = (goal.at.push-packer-requires c).Start in
    record {
      ready = ready_less c.args.out.now c.args.packer (width here) c.args.n (omega (arith, c.if-n-width.false)) c.requires.ready;
      m_bound = (omega arith, rw c.low-x.ensures (mod-lt (octet here) (pow_pos (width here))));
    }

pub append-requires-2 : goal.append-requires-2
append-requires-2 c =
    let here = (goal.at.append-requires-2 c).Start in
    let a = c.args in
    let h = c.if-n-width.false in
    let bs = bits_of (width here) c.low-x.result in
    let l = bits_length (width here) c.low-x.result in
    let m = a.n - width here in
    let d = length-drop (a.skip / 8 + 1) a.octets.now in
    let r = ready_less a.out.now a.packer (length bs + m) a.n (omega (arith, h)) c.requires.ready in
    record {
      ready = ready_after a.out.now _ a.packer c.push-packer.result bs m c.push-packer.ensures c.push-packer.auto.out r;
      n_bound = rw (take_rest a.octets.now (a.skip / 8 + 1)) (omega (arith, c.requires.n_bound, h, c.if-cut-eq0.false));
    }

pub returns : goal.returns
returns c =
    let a = c.args in
    long_pushed a.octets.now a.skip a.n c.low-x.result c.low-x.ensures (omega (arith, c.requires.n_bound, c.if-cut-eq0.false)) (omega (arith, c.if-n-width.false)) c.push-packer.ensures
    (rw (take_rest a.octets.now (a.skip / 8 + 1)) at c.append-2.ensures)
