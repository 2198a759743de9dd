-- `octets::inside::copy_whole` meets its contract: a paste of as many octets as there are leaves none of the old ones.
use Prim.Native.Nat.{ℕ, ◌+◌, ◌≤◌}
use mathlib.Core.Path.{◌≡◌, ◌∙◌}
use mathlib.Core.List.{List, ◌++◌, append-nil}
use lib.ListN.{length, take}
use lib.Seq.{paste, take_all}
use Rattle.std.proofs.lemmas.List.{drop_all}
use native.Mathlib.Omega.{arith}
use Rattle.octets.proofs.inside.copy_whole.Goals as goal

whole : (out s : List ℕ) (n : ℕ) → length s ≤ n → length out ≤ 0 + n → paste out 0 s n ≡ s
whole out s n h k = (λ i. take 0 out ++ take_all n s h i ++ drop_all (0 + n) out k i) ∙ append-nil s

pub returns : goal.returns
returns c = c.copy.ensures ∙ whole c.args.out.now c.args.src.now (length c.args.src.now) (omega arith) (omega arith)
