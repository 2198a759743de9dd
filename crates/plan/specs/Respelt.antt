-- Two tables that differ in the spelling of names alone (T-03).
use Rattle.std.specs.Prelude.{ℕ, ◌<◌, ◌≡◌, List}
use Rattle.names.specs.Standard.{Same}
use Rattle.plan.specs.Layout.{count_of, prefix_at, address_at, owner_at, target_at, ttl_at}
use Rattle.plan.specs.Records.{type_at}

-- record by record: the same type, prefix length, address and TTL, and the same names in any spelling
pub record Respelt (t u : List ℕ) : Type 0 where
  pub counts : count_of t ≡ count_of u
  pub types : (i : ℕ) → i < count_of t → type_at t i ≡ type_at u i
  pub prefixes : (i : ℕ) → i < count_of t → prefix_at t i ≡ prefix_at u i
  pub addresses : (i : ℕ) → i < count_of t → address_at t i ≡ address_at u i
  pub owners : (i : ℕ) → i < count_of t → Same (owner_at t i) (owner_at u i)
  pub targets : (i : ℕ) → i < count_of t → Same (target_at t i) (target_at u i)
  pub ttls : (i : ℕ) → i < count_of t → ttl_at t i ≡ ttl_at u i
