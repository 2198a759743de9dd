-- Demand 3: no list of collapses changes the addresses of any name, and each call is refused or gives 01's table.
use Prim.Native.Nat.{ℕ}
use mathlib.Core.Path.{◌≡◌}
use mathlib.Core.List.{List}
use lib.ListN.{length}
use contract.Lifetimes.{Lfts}
use denote.Ref.{Bor}
use denote.MutBor.{MutBor}
use Rattle.std.specs.Prelude.{Result}
use Rattle.octets.specs.declared.Done.{Done}
use Rattle.plan.specs.declared.Refused.{Refused}
use Rattle.plan.specs.Faults.{replied}
use Rattle.collapse.specs.Demand3.{gives, Demand3}
use Rattle.collapse.proofs.collapse.Reads as collapse
use Rattle.collapse.proofs.Contract.{learnt}
use Rattle.collapse.proofs.Demanded.{demand3}

-- any list of collapses keeps the addresses of every name, and each call is refused or gives the rule's table
pub kept : Demand3
kept = demand3

-- what a caller of the running `collapse` learns of its answer and its output is what the demand says that a call gives
pub running : (κs : Lfts 3) (table name : Bor (List ℕ)) (out end : MutBor (List ℕ)) (r : Result Done Refused)
    → collapse.Learnt κs (table, (name, (out, tt))) r (table, (name, (end, tt)))
    → ((replied r).answer, end.now) ≡ gives table.now (record { name = name.now; size = length out.now })
unfolding gives
running κs table name out end r h = learnt κs table name out end r h
