-- The names that are met while a table is numbered. The code's own: nothing that a reader must believe.
use Rattle.std.specs.Prelude.{ℕ, ◌+◌, ◌≤◌, ◌≡◌, List}
use Rattle.numbering.specs.Buckets.{held}
use Rattle.numbering.specs.declared.inside.Names.{Names}

-- the names in the list
abbrev pub names_in : Names → List (List ℕ)
names_in n = held n.table.now n.places n.count

-- a name is met: its number, and the list after it
pub record Meets (old new : Names) (number : ℕ) (names : List (List ℕ)) (m : ℕ) : Type 0 where
  pub table : new.table ≡ old.table
  pub numbered : m ≡ number
  pub names_are : names_in new ≡ names
  pub most : new.count ≤ old.count + 1
