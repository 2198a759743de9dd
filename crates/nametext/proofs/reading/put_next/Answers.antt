-- `nametext::reading::put_next` meets its contract: a run or an ordinary label, each by one law.
use Prim.Native.Nat.{◌+◌, ◌*◌, ◌≤◌, ◌<◌}
use mathlib.Core.Bool.{true}
use mathlib.Core.Path.{◌≡◌, ap, sym, ◌∙◌}
use native.Mathlib.Omega.{arith}
use lib.ListN.{length, drop}
use Rattle.names.specs.Merge.{run_bits}
use Rattle.text.proofs.RunLaws.{rest_whole}
use Rattle.nametext.specs.Reading.{is_bits_text}
use Rattle.nametext.specs.Places.{rest_of}
use Rattle.nametext.proofs.RestLaws.{AtWord, at_word}
use Rattle.nametext.proofs.RunLaws.{run_begins, run_room, run_ready, moved_run, word_room, moved_word}
use Rattle.nametext.proofs.reading.put_next.Goals.{After-is_bits, After-next_dot-e}
use Rattle.nametext.proofs.reading.put_next.Goals as goal

kind : (c : After-is_bits) → c.is_bits.result ≡ is_bits_text (drop c.args.at c.args.text.now)
kind c = c.is_bits.ensures ∙ ap is_bits_text (rest_whole c.args.text.now c.args.at)

run_here : (c : After-is_bits) → c.is_bits.result ≡ true → 0 < length (run_bits (rest_of c.args.text.now c.args.at))
run_here c h = run_begins c.args.text.now c.args.at c.requires.standing (sym (kind c) ∙ h)

-- there is room for the header and the bits of the run
room_bits : (c : After-is_bits) → c.is_bits.result ≡ true → (c.args.to + 2) * 8 + length (run_bits (rest_of c.args.text.now c.args.at)) ≤ 2040
room_bits c h =
    let p = c.requires.at_in_bounds in
    let k = run_room c.args.text.now c.args.at (run_here c h) in
    omega (arith, p.2, p.3)

word_here : (c : After-next_dot-e) → AtWord c.args.text.now c.args.at c.next_dot-e.result
word_here c =
    at_word c.args.text.now c.args.at c.next_dot-e.result c.requires.standing c.next_dot-e.ensures c.requires.at_in_bounds.0
    (sym (c.is_bits.ensures ∙ ap is_bits_text (rest_whole c.args.text.now c.args.at)) ∙ c.if-is_bits.false)

pub pack_run-run-requires : goal.pack_run-run-requires
pack_run-run-requires c =
    let k = room_bits (goal.at.pack_run-run-requires c).After-is_bits c.if-is_bits.true in
    let p = c.requires in
    record {
      standing = p.standing;
      at_bound = (omega (arith, k), omega (arith, k, p.at_in_bounds.3), p.at_in_bounds.3, p.at_in_bounds.1);
    }

pub flush-end-requires : goal.flush-end-requires
flush-end-requires c =
    let a = c.args in
    let r = c.pack_run-run in
    let k = room_bits (goal.at.flush-end-requires c).After-is_bits c.if-is_bits.true in
    run_ready a.text.now a.out.now _ a.at 0 a.to r.result r.ensures r.auto.out (omega (arith, k, c.requires.at_in_bounds.3))

pub returns-then-is_bits : goal.returns-then-is_bits
returns-then-is_bits c =
    let a = c.args in
    let r = c.pack_run-run in
    let f = c.flush-end in
    moved_run a.text.now a.out.now _ _ a.at a.to f.result r.result (run_here (goal.at.returns-then-is_bits c).After-is_bits c.if-is_bits.true) c.requires.at_in_bounds.2 (f.auto.out ∙ r.auto.out) r.ensures f.ensures

pub put_ordinary-end-requires : goal.put_ordinary-end-requires
put_ordinary-end-requires c =
    let p = c.requires.at_in_bounds in
    let w = word_here (goal.at.put_ordinary-end-requires c).After-next_dot-e in
    record {
      p_value = (w.formed, w.ranged);
      clean = (p.1, omega (arith, p.2, word_room c.args.text.now c.args.at c.next_dot-e.result w), p.3);
    }

pub returns : goal.returns
returns c =
    let a = c.args in
    let o = c.put_ordinary-end in
    moved_word a.text.now a.at c.next_dot-e.result (word_here (goal.at.returns c).After-next_dot-e) a.out.now _ a.to o.result c.requires.at_in_bounds.2 o.auto.out o.ensures
