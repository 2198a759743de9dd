-- The rewriting relation (01, Reverse names), said without computing.
use Rattle.std.specs.Prelude.{ℕ, suc, ◌≤◌, ◌≡◌, true, false, List, ◌++◌, length}
use Rattle.names.specs.Standard.{Unit}
use Rattle.chains.specs.Lists.{In}
use Rattle.rewriting.specs.Rewrite.{Applies, too_large}
use Rattle.reverse.specs.Walk.{Rule}

-- no rule of the list applies to the name
abbrev pub Settled : List Rule → List Unit → Type 0
Settled rules name = (r : Rule) → In r rules → (below : List Unit) → Applies r.owner name below → ⊥

-- one rewrite: by a rule of the list that applies, and that has at least as many units in its owner as each other rule that applies
pub record Rewrites (rules : List Rule) (name next : List Unit) : Type 0 where
  pub rule : Rule
  pub listed : In rule rules
  pub below : List Unit
  pub applies : Applies rule.owner name below
  pub most : (r : Rule) → In r rules → (under : List Unit) → Applies r.owner name under → length r.owner ≤ length rule.owner
  pub result : next ≡ below ++ rule.target

-- so many rewrites lead from a name to the last one, and none of their results is too large
pub data Path : List Rule → List Unit → ℕ → List Unit → Type 0 where
  here : {rules : List Rule} {name : List Unit} → Path rules name 0 name
  then : {rules : List Rule} {name next last : List Unit} {n : ℕ} → Rewrites rules name next → too_large next ≡ false → Path rules next n last → Path rules name (suc n) last

-- a walk may end in three ways: settled after at most `limit` rewrites; due for a rewrite after `limit` of them; and due for one that is too large after fewer
pub record Settles (limit : ℕ) (rules : List Rule) (name last : List Unit) (n : ℕ) : Type 0 where
  pub path : Path rules name n last
  pub settled : Settled rules last
  pub within : n ≤ limit

pub record Exhausts (limit : ℕ) (rules : List Rule) (name : List Unit) : Type 0 where
  pub last : List Unit
  pub next : List Unit
  pub path : Path rules name limit last
  pub due : Rewrites rules last next

pub record Outgrows (limit : ℕ) (rules : List Rule) (name : List Unit) : Type 0 where
  pub last : List Unit
  pub next : List Unit
  pub n : ℕ
  pub path : Path rules name n last
  pub due : Rewrites rules last next
  pub large : too_large next ≡ true
  pub within : suc n ≤ limit
