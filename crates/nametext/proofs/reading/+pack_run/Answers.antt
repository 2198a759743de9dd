-- `nametext::reading::pack_run` meets its contract: what stands at a place, and the run from there on.
use Prim.Native.Nat.{ℕ, ◌+◌}
use mathlib.Core.Path.{ap, refl, sym, ◌∙◌}
use native.Mathlib.Omega.{arith}
use Rattle.text.proofs.RunLaws.{rest_whole}
use Rattle.nametext.specs.Reading.{is_bits_text}
use Rattle.nametext.proofs.RestLaws.{AtBits, at_bits, part_at}
use Rattle.nametext.proofs.RunLaws.{ran_none, run_length, ran_ready, ran_more}
use Rattle.nametext.proofs.reading.+pack_run.Goals.{After-bits_in-n}
use Rattle.nametext.proofs.reading.+pack_run.Goals as goal

bits_here : (t : ℕ) (c : After-bits_in-n t) → AtBits c.args.text.now c.args.at c.next_dot-e.result c.bits_in-n.result
bits_here t c =
    let k = sym (c.is_bits.ensures ∙ ap is_bits_text (rest_whole c.args.text.now c.args.at)) ∙ c.if-not-is_bits.false in
    at_bits c.args.text.now c.args.at c.next_dot-e.result c.bits_in-n.result c.requires.standing c.next_dot-e.ensures k c.bits_in-n.ensures

pub bits_in-n-requires : goal.bits_in-n-requires
bits_in-n-requires t c =
    part_at c.args.text.now c.args.at c.next_dot-e.result c.requires.standing c.next_dot-e.ensures (sym (c.is_bits.ensures ∙ ap is_bits_text (rest_whole c.args.text.now c.args.at)) ∙ c.if-not-is_bits.false)

pub returns-then-not-is_bits : goal.returns-then-not-is_bits
returns-then-not-is_bits t c =
    let a = c.args in
    let b = c.requires.at_bound in
    rw c.new.ensures
    (ran_none a.text.now a.out.now a.at a.sum a.to _ c.requires.standing (sym (c.is_bits.ensures ∙ ap is_bits_text (rest_whole a.text.now a.at)) ∙ c.if-not-is_bits.true) (omega (arith, b.1, b.2)) b.3 refl)

pub overflow_add-sum : goal.overflow_add-sum
overflow_add-sum t c = omega (arith, c.requires.at_bound.0, run_length c.args.text.now c.args.at c.next_dot-e.result c.bits_in-n.result (bits_here t (goal.at.overflow_add-sum t c).After-bits_in-n))

pub pack_run-run-requires : goal.pack_run-run-requires
pack_run-run-requires t c =
    let p = c.requires.at_bound in
    let b = bits_here t (goal.at.pack_run-run-requires t c).After-bits_in-n in
    let l = run_length c.args.text.now c.args.at c.next_dot-e.result c.bits_in-n.result b in
    (omega (arith, b.inside), (b.standing, (omega (arith, p.0), omega (arith, p.1), p.2, p.3)))

pub append_digits-packer-requires : goal.append_digits-packer-requires
append_digits-packer-requires t c =
    let r = c.pack_run-run in
    let a = c.args in
    let n = c.bits_in-n.result in
    let b = bits_here t (goal.at.append_digits-packer-requires t c).After-bits_in-n in
    record {
      ready = ran_ready a.text.now a.at c.next_dot-e.result n b a.out.now _ (a.sum + n) a.to r.result r.ensures r.auto.out c.requires.at_bound.1;
      n_bound = b.digits;
    }

pub returns : goal.returns
returns t c =
    let q = c.append_digits-packer in
    let r = c.pack_run-run in
    let a = c.args in
    let n = c.bits_in-n.result in
    ran_more a.text.now a.at c.next_dot-e.result n (bits_here t (goal.at.returns t c).After-bits_in-n) a.out.now _ _ a.sum (a.sum + n) a.to r.result q.result refl r.ensures q.ensures
