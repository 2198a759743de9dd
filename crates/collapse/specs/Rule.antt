-- The same rule and the same test once more, as statements that a reader can hold against 01 (Collapse of a name X; number 9) and T-01.
use Rattle.std.specs.Prelude.{ℕ, zero, suc, ◌≤◌, ◌<◌, min, ◌≡◌, List, [], ◌∷◌, ◌++◌, length}
use Rattle.names.specs.Standard.{Same}
use Rattle.address.specs.Address.{join_of}
use Rattle.plan.specs.Layout.{record_size, a6, type_of, prefix_of, zero_of, address_of, owner_slot, target_slot, ttl_of, owner_of, target_of, count_of, record_at, prefix_at}

-- an unfinished A6 record of x
abbrev pub Unfinished : List ℕ → List ℕ → Type 0
Unfinished x r = (type_of r ≡ a6) × (0 < prefix_of r) × Same (owner_of r) x

-- an A6 record that the target of r owns, no longer than r
abbrev pub Continues : List ℕ → List ℕ → Type 0
Continues r q = (type_of q ≡ a6) × (prefix_of q ≤ prefix_of r) × Same (owner_of q) (target_of r)

-- s is what r and q make
pub record Joins (r q s : List ℕ) : Type 0 where
  pub kind : type_of s ≡ a6
  pub owner : owner_slot s ≡ owner_slot r
  pub prefix : prefix_of s ≡ prefix_of q
  pub target : target_slot s ≡ target_slot q
  pub bits : address_of s ≡ join_of (address_of q) (address_of r) (prefix_of r)
  pub ttl : ttl_of s ≡ min (ttl_of r) (ttl_of q)
  pub nought : zero_of s ≡ 0
  pub whole : length s ≡ record_size

-- the records that r makes with the first records of t: one for each q, in table order
pub data Made (t r : List ℕ) : ℕ → List (List ℕ) → Type 0 where
  start : Made t r zero []
  taken : {j : ℕ} {l : List (List ℕ)} {s : List ℕ} → Continues r (record_at t j) → Joins r (record_at t j) s → Made t r j l → Made t r (suc j) (l ++ s ∷ [])
  passed : {j : ℕ} {l : List (List ℕ)} → (Continues r (record_at t j) → ⊥) → Made t r j l → Made t r (suc j) l

-- what the first records of t become: each unfinished one of x is replaced, at its place, by what it makes; every other one is copied
pub data Ruled (x t : List ℕ) : ℕ → List (List ℕ) → Type 0 where
  start : Ruled x t zero []
  replaced : {i : ℕ} {l m : List (List ℕ)} → Unfinished x (record_at t i) → Made t (record_at t i) (count_of t) m → Ruled x t i l → Ruled x t (suc i) (l ++ m)
  copied : {i : ℕ} {l : List (List ℕ)} → (Unfinished x (record_at t i) → ⊥) → Ruled x t i l → Ruled x t (suc i) (l ++ record_at t i ∷ [])

-- an A6 record with the target x
abbrev pub Refers : List ℕ → List ℕ → Type 0
Refers x p = (type_of p ≡ a6) × (0 < prefix_of p) × Same (target_of p) x

-- some A6 record with the target x has a smaller prefix length than an unfinished A6 record of x
pub record Reviving (x t : List ℕ) : Type 0 where
  pub referrer : ℕ
  pub there : referrer < count_of t
  pub refers : Refers x (record_at t referrer)
  pub own : ℕ
  pub here : own < count_of t
  pub unfinished : Unfinished x (record_at t own)
  pub shorter : prefix_at t referrer < prefix_at t own
