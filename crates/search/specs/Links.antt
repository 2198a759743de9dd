-- The unused records as one circular list a name. Node j, below the number n of records, is the record j; node n + x is both ends of the list of x.
-- The code's own: nothing that a reader must believe.
use Rattle.std.specs.Prelude.{ℕ, zero, suc, ◌+◌, ◌≤◌, ◌<◌, ◌≡◌, Bool, true, false, ◌&&◌, List, [], ◌∷◌, eqb, length, get_or}
use Rattle.octets.specs.Octets.{blank}
use Rattle.chains.specs.Lists.{pick}
use Rattle.chains.specs.Graph.{max_ttl}
use Rattle.search.specs.Search.{max_records, Records, target_of, length_of, ttl_of}

-- how many names and nodes there may be
abbrev pub max_names : ℕ
max_names = 2304

abbrev pub max_nodes : ℕ
max_nodes = max_records + max_names

-- not too many records, and owners by number
pub record Owned (owners : List ℕ) : Type 0 where
  pub few : length owners ≤ max_records
  pub owner : (j : ℕ) → j < length owners → get_or owners j 0 < max_names

-- what a search asks of the records: targets by number too, prefix lengths up to 128, and TTLs up to the greatest
pub record Numbered (r : Records) : Type 0 where
  pub owned : Owned r.owners
  pub level : length r.owners ≤ length r.fields
  pub target : (j : ℕ) → j < length r.owners → 0 < length_of r j → target_of r j < max_names
  pub short : (j : ℕ) → j < length r.owners → length_of r j ≤ 128
  pub lived : (j : ℕ) → j < length r.owners → ttl_of r j ≤ max_ttl

-- the record m is unused and one of x
abbrev pub lists : List ℕ → List ℕ → ℕ → ℕ → Bool
lists owners u x m = eqb (get_or u m 0) 0 && eqb (get_or owners m 0) x

-- k is the first from j on, below n, of which p holds; where there is none it is e
pub record First (p : ℕ → Bool) (n e j k : ℕ) : Type 0 where
  pub none : (m : ℕ) → j ≤ m → m < k → m < n → p m ≡ false
  pub here : k < n → (j ≤ k) × (p k ≡ true)
  pub over : n ≤ k → k ≡ e

-- k is the last before j of which p holds; where there is none it is e
pub record Last (p : ℕ → Bool) (n e j k : ℕ) : Type 0 where
  pub none : (m : ℕ) → m < j → (k < n → k < m) → p m ≡ false
  pub here : k < n → (k < j) × (p k ≡ true)
  pub over : n ≤ k → k ≡ e

-- each unused record leads to the next and the last one of its owner, and a name's own node to the first and the last of all
pub record Linked (owners u next prev : List ℕ) : Type 0 where
  pub level : length prev ≡ length next
  pub marks : length u ≡ length owners
  pub owner : (j : ℕ) → j < length owners → length owners + get_or owners j 0 < length next
  pub on : (j : ℕ) → j < length owners → get_or u j 0 ≡ 0
      → First (lists owners u (get_or owners j 0)) (length owners) (length owners + get_or owners j 0) (suc j) (get_or next j 0)
  pub head : (x : ℕ) → length owners + x < length next → First (lists owners u x) (length owners) (length owners + x) 0 (get_or next (length owners + x) 0)
  pub back : (j : ℕ) → j < length owners → get_or u j 0 ≡ 0
      → Last (lists owners u (get_or owners j 0)) (length owners) (length owners + get_or owners j 0) j (get_or prev j 0)
  pub tail : (x : ℕ) → length owners + x < length next → Last (lists owners u x) (length owners) (length owners + x) (length owners) (get_or prev (length owners + x) 0)

-- f 0, f 1, .. f (n - 1)
unfoldable pub table : ℕ → (ℕ → ℕ) → List ℕ
table zero f = []
table (suc n) f = f 0 ∷ table n (λ i. f (suc i))

-- the marks that the links stand for: a record is unused when the node before it leads to it
unfoldable pub marks_of : ℕ → List ℕ → List ℕ → List ℕ
marks_of n next prev = table n (λ i. pick (eqb (get_or next (get_or prev i 0) 0) i) 0 1)

-- each place has its own number, up to n
pub record Alone (l : List ℕ) (n : ℕ) : Type 0 where
  pub each : (j : ℕ) → j < n → get_or l j 0 ≡ j

-- every record is in its list
pub record Fresh (owners next prev : List ℕ) : Type 0 where
  pub linked : Linked owners (blank (length owners)) next prev
  pub nodes : length next ≡ max_nodes
