-- The records of a table as the search reads them: the code's own, nothing that a reader must believe.
use Rattle.std.specs.Prelude.{ℕ, ◌<◌, ◌≡◌, List, get_or}
use Rattle.chains.specs.Lists.{pick}
use Rattle.plan.specs.Layout.{is_a6, record_at, prefix_at, address_at, ttl_at}
use Rattle.rows.specs.Halves.{whole}
use Rattle.search.specs.declared.inside.Fields.{Fields}
use Rattle.search.specs.Search.{no_fields}

-- a number that no name has, for a record that no name owns in the search
abbrev pub no_owner : ℕ
no_owner = 2303

-- the owner of the record at i in the search: that of the list for an A6 record, none for a DNAME
abbrev pub search_owner : List ℕ → List ℕ → ℕ → ℕ
search_owner t owners i = pick (is_a6 (record_at t i)) (get_or owners i 0) no_owner

-- the first n fields are those of the table's records, with the targets of the list
pub record Fielded (t targets : List ℕ) (fields : List Fields) (n : ℕ) : Type 0 where
  pub target : (i : ℕ) → i < n → (get_or fields i no_fields).target ≡ get_or targets i 0
  pub length : (i : ℕ) → i < n → (get_or fields i no_fields).length ≡ prefix_at t i
  pub ttl : (i : ℕ) → i < n → (get_or fields i no_fields).ttl ≡ ttl_at t i
  pub address : (i : ℕ) → i < n → whole (get_or fields i no_fields).address ≡ address_at t i
