-- The rule that is due, found record by record: the code's own, nothing that a reader must believe.
use Rattle.std.specs.Prelude.{ℕ, ◌≤◌, ◌<◌, ◌≡◌, true, cond, Option, Some, None, IfSome, List, [], ◌∷◌, leb, length}
use Rattle.names.specs.Standard.{units_of}
use Rattle.plan.specs.Layout.{target_at, is_dname, count_of, record_at}
use Rattle.reverse.specs.Walk.{Rule, Due, none, due, due_of}
use Rattle.rewriting.specs.Spots.{units_at}
use Rattle.chains.specs.Lists.{pick, up_to}
use Rattle.reverse.specs.Answers.{rule_of}
use Rattle.reverse.specs.declared.Best.{Best}

-- the rules among the first n records of a table
abbrev pub rules_to : List ℕ → ℕ → List Rule
rules_to t n = up_to n (λ i. pick (is_dname (record_at t i)) (rule_of (record_at t i) ∷ []) [])

-- the rewrite that the best stands for; none for none
abbrev pub due_for : List ℕ → Option Best → Due
due_for t None = none
due_for t (Some b) = due b.below (units_of (target_at t b.index))

-- the better of the best so far and another one
abbrev pub better_of : Option Best → Best → Best
better_of None next = next
better_of (Some first) next = cond (leb first.below next.below) first next

-- a DNAME of the table that applies to the name
pub record Listed (t name : List ℕ) (b : Best) : Type 0 where
  pub some : 0 < b.below
  pub there : b.index < count_of t
  pub dname : is_dname (record_at t b.index) ≡ true
  pub within : b.below ≤ length (units_at name 0)

-- the first n records of the table were looked at
pub record Chosen (t name : List ℕ) (n : ℕ) (best : Option Best) : Type 0 where
  pub due : due_for t best ≡ due_of (rules_to t n) (units_at name 0)
  pub listed : IfSome best (Listed t name)
