-- `plan::inside::pair` meets its contract.
use mathlib.Core.Path.{◌≡◌, ◌∙◌}
use lib.ListN.{take, drop}
use borrow.Author.Rules.{rules}
use Rattle.plan.proofs.ReadLaws.{pair_read}
use Rattle.plan.proofs.inside.pair.Goals as goal

pub returns : goal.returns
returns c =
    let e : c.unwrap.result.now ≡ take 8 (drop c.args.i c.args.slot.now) = search rules in
    c.from_le_bytes.ensures ∙ pair_read _ c.args.slot.now c.args.i e
