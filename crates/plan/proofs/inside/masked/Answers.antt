-- `plan::inside::masked` meets its contract.
use native.Mathlib.Omega.{arith}
use mathlib.Core.Path.{◌≡◌, ◌∙◌}
use lib.ListN.{take, drop}
use lib.Bits.{and_le_l}
use borrow.Author.Rules.{rules}
use Rattle.octets.specs.Octets.{Small}
use Rattle.plan.proofs.MaskLaws.{mask_word}
use Rattle.plan.proofs.ReadLaws.{word_read}
use Rattle.plan.proofs.inside.masked.Goals as goal

pub returns : goal.returns
returns c =
    let a = c.args in
    let e : c.unwrap.result.now ≡ take 4 (drop a.i a.slot.now) = search rules in
    let w = c.from_le_bytes.ensures ∙ word_read _ a.slot.now a.i e in
    let s : Small a.slot.now = λ i. search rules in
    (rw w (mask_word a.slot.now s a.i), omega (arith, and_le_l c.from_le_bytes.result 3755991007))
