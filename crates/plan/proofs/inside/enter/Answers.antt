-- `plan::inside::enter` meets its contract: a name is held exactly when it is well formed, and the fault is the one that the check gives.
use Prim.Native.Nat.{ℕ}
use mathlib.Core.Path.{◌≡◌, refl, ◌∙◌, subst}
use mathlib.Core.Bool.{Bool, not}
use mathlib.Core.List.{List, []}
use Rattle.std.specs.Prelude.{Option, Some, None, Result, MatchResult}
use Rattle.std.specs.Option.{unwrap_or}
use Rattle.octets.specs.Refusals.{code_of}
use Rattle.octets.specs.Answers.{earns, or_else}
use Rattle.labels.specs.Scan.{well_formed}
use Rattle.names.specs.Name.{name_of, held}
use Rattle.names.specs.declared.Name.{Name}
use Rattle.plan.specs.Check.{check_of, entry_number}
use Rattle.plan.specs.Faults.{fault_in}
use Rattle.plan.specs.declared.Refused.{Refused}
use Rattle.plan.proofs.inside.enter.Goals as goal

-- what a table and a name earn, by whether the name is well formed
entered : {A : Type 0} (t name : List ℕ) (b : Bool) (r : Result A Refused) → b ≡ well_formed name
    → MatchResult r (λ x. or_else (check_of t) (earns (not b) 4 0) ≡ 0) (λ x. (code_of x.refusal ≡ or_else (check_of t) (earns (not b) 4 0)) × (x.fault ≡ fault_in t))
    → MatchResult r (λ x. entry_number t name ≡ 0) (λ x. (code_of x.refusal ≡ entry_number t name) × (x.fault ≡ fault_in t))
unfolding entry_number
entered t name b r e h =
    subst (λ (w : Bool). MatchResult r (λ x. or_else (check_of t) (earns (not w) 4 0) ≡ 0) (λ x. (code_of x.refusal ≡ or_else (check_of t) (earns (not w) 4 0)) × (x.fault ≡ fault_in t))) e h

-- the name that is held, or none
kept : (o : Option Name) (n : Name) → n ≡ name_of [] → unwrap_or o n ≡ held o
kept (Some m) n e = refl
kept None n e = e

pub returns-clause-outcome : goal.returns-clause-outcome
returns-clause-outcome c = entered c.args.table.now c.args.name.now c.is_some.result c.admit.result (c.is_some.ensures ∙ c.hold-held.ensures.variant) c.admit.ensures

pub returns-clause-name : goal.returns-clause-name
returns-clause-name c = c.unwrap_or.ensures ∙ kept c.hold-held.result c.none.result c.none.ensures ∙ c.hold-held.ensures.value
