-- `numbering::inside::bucket_of` meets its contract.
use Prim.Native.Nat.{ℕ, ◌%◌}
use mathlib.Core.Path.{ap, ◌∙◌}
use Rattle.numbering.specs.Buckets.{buckets, bucket_of}
use Rattle.numbering.proofs.inside.bucket_of.Goals as goal

pub returns : goal.returns
unfolding bucket_of
returns c = ap (λ (v : ℕ). v % buckets) (c.wide.ensures ∙ c.mark.ensures)
