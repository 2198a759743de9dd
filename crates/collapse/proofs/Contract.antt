-- What a caller of the running `collapse` learns of its answer and its output is `collapse_of`, which Demand 3 speaks of.
use Prim.Native.Nat.{ℕ}
use mathlib.Core.Path.{◌≡◌}
use mathlib.Core.List.{List}
use lib.ListN.{length}
use contract.Lifetimes.{Lfts}
use denote.Ref.{Bor}
use denote.MutBor.{MutBor}
use Rattle.std.specs.Prelude.{Result}
use Rattle.octets.specs.declared.Done.{Done}
use Rattle.plan.specs.declared.Refused.{Refused}
use Rattle.plan.specs.Faults.{replied}
use Rattle.collapse.specs.Collapse.{collapse_of}
use Rattle.collapse.proofs.collapse.Reads as running

-- Theorem: what a caller of the running `collapse` learns of them is `collapse_of`
pub learnt : (κs : Lfts 3) (table name : Bor (List ℕ)) (out out_end : MutBor (List ℕ)) (r : Result Done Refused)
    → running.Learnt κs (table, (name, (out, tt))) r (table, (name, (out_end, tt)))
    → ((replied r).answer, out_end.now) ≡ collapse_of table.now name.now (length out.now)
unfolding collapse_of
learnt κs table name out out_end r h = λ i. ((h.0 i).answer, h.1 i)
