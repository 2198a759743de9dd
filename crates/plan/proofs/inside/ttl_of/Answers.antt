-- `plan::inside::ttl_of` meets its contract.
use native.Mathlib.Omega.{arith}
use mathlib.Core.Path.{◌≡◌, ◌∙◌}
use lib.ListN.{length, take, drop}
use borrow.Author.Rules.{rules}
use Rattle.plan.specs.Layout.{record_size, ttl_size, ttl_place, ttl_of}
use Rattle.plan.proofs.ReadLaws.{number_read}
use Rattle.plan.proofs.inside.ttl_of.Goals as goal

pub returns : goal.returns
unfolding ttl_of
returns c =
    let r = c.args.row.now in
    let e : c.unwrap.result.now ≡ take ttl_size (drop ttl_place r) = search rules in
    let l : length r ≡ record_size = search rules in
    c.from_be_bytes.ensures ∙ number_read _ r ttl_place l e (omega arith)
