-- Demand 2 for lookup, as one statement (01, Chains; the numbers 6 and 7; T-01).
use Rattle.std.specs.Prelude.{ℕ, ◌-◌, ◌*◌, ◌≤◌, ◌<◌, ◌≡◌, ◌↔◌, List, ◌++◌, map, length, take}
use Rattle.octets.specs.Octets.{blank, flat}
use Rattle.octets.specs.Answers.{answering, refusal}
use Rattle.octets.specs.declared.Answer.{Answer}
use Rattle.chains.specs.Lists.{In, Distinct}
use Rattle.chains.specs.Chain.{Chain, Spells}
use Rattle.chains.specs.Addresses.{Ascending}
use Rattle.chains.specs.Lifetimes.{Lifetime}
use Rattle.plan.specs.Layout.{ttl_place, count_of, record_at}
use Rattle.plan.specs.Graph.{graph_of}

-- A lookup of the name with room for so many addresses answers r and leaves `out` and `ttls`. The addresses are those that some complete finite
-- chain of the name spells, loops included, in ascending order and once each. The lifetime of each is the least TTL among all records of all
-- complete chains that use no position twice and spell it. The chains are the non-empty ones that use no position twice, complete or not, once
-- each: their number is the work. The answer is 6 when the work is more than the limit; else 7 when the addresses are more than the room; both
-- leave zeros alone; else 0 with both figures, the addresses and their lifetimes, zeros after them. One of the three holds, and they exclude each
-- other, so each number comes exactly when it is said.
pub record Demanded (t name : List ℕ) (limit room : ℕ) (r : Answer) (out ttls : List ℕ) : Type 0 where
  pub addresses : List (List ℕ)
  pub ascending : Ascending addresses
  pub exactly : (a : List ℕ) → In a addresses ↔ Spells (graph_of t) name a
  pub lifetime : List ℕ → ℕ
  pub least : (a : List ℕ) → In a addresses → Lifetime (graph_of t) name a (lifetime a)
  pub chains : List (List ℕ)
  pub once : Distinct chains
  pub every : (p : List ℕ) → In p chains ↔ (Chain (graph_of t) name p × Distinct p)
  pub over : limit < length chains → (r ≡ refusal 6) × (out ≡ blank (room * 16)) × (ttls ≡ blank room)
  pub full : length chains ≤ limit → room < length addresses → (r ≡ refusal 7) × (out ≡ blank (room * 16)) × (ttls ≡ blank room)
  pub done : length chains ≤ limit → length addresses ≤ room → (r ≡ answering (length addresses) (length chains))
      × (out ≡ flat addresses ++ blank ((room - length addresses) * 16)) × (ttls ≡ map lifetime addresses ++ blank (room - length addresses))

-- two tables differ in TTLs alone: record by record, the octets before the TTL are the same
pub record ApartInTtls (t u : List ℕ) : Type 0 where
  pub counts : count_of t ≡ count_of u
  pub fields : (i : ℕ) → i < count_of t → take ttl_place (record_at t i) ≡ take ttl_place (record_at u i)
