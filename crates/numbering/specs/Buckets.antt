-- How the list of names is kept while a table is numbered: each name by its place in the table, in buckets by the mark of its slot.
-- The code's own: nothing that a reader must believe.
use Rattle.std.specs.Prelude.{ℕ, zero, suc, ◌-◌, ◌/◌, ◌%◌, ◌≤◌, ◌<◌, ◌≡◌, Bool, true, false, ◌&&◌, List, [], ◌∷◌, ◌++◌, ltb, eqb, length, get_or}
use Rattle.plan.specs.Layout.{name_in, owner_slot, target_slot, count_of, record_at, owner_at}
use Rattle.plan.specs.Good.{Holds}
use Rattle.plan.specs.Marks.{mark_of, alike_of}
use Rattle.numbering.specs.Numbers.{number_in}

-- the most names of a table, and the number of buckets
abbrev pub max_names : ℕ
max_names = 2048

abbrev pub buckets : ℕ
buckets = 4096

-- the slot at a place, and the name in it: those of the owner of record i are at 2 i, those of its target at 2 i + 1
unfoldable pub slot_at : List ℕ → ℕ → List ℕ
unfolding record_at owner_slot target_slot
slot_at t p = elim (eqb (p % 2) 0) [ true ↦ owner_slot (record_at t (p / 2)) | false ↦ target_slot (record_at t (p / 2)) ]

abbrev pub name_at : List ℕ → ℕ → List ℕ
name_at t p = name_in (slot_at t p)

-- a place that holds a name
pub record Named (t : List ℕ) (p : ℕ) : Type 0 where
  pub inside : p / 2 < count_of t
  pub small : p < max_names
  pub holds : Holds (slot_at t p)

-- the names at the first n of some places
unfoldable pub held : List ℕ → List ℕ → ℕ → List (List ℕ)
unfolding slot_at name_in
held t places zero = []
held t places (suc n) = held t places n ++ (name_at t (get_or places n 0) ∷ [])

-- the bucket of a slot, and that of the slot with number k
unfoldable pub bucket_of : List ℕ → ℕ
unfolding mark_of
bucket_of s = mark_of s % buckets

abbrev pub bucket_at : List ℕ → List ℕ → ℕ → ℕ
bucket_at t places k = bucket_of (slot_at t (get_or places k 0))

-- one more than the last number before n that f takes to b; 0 where there is none
unfoldable pub last_in : (ℕ → ℕ) → ℕ → ℕ → ℕ
last_in f b zero = 0
last_in f b (suc n) = elim (eqb (f n) b) [ true ↦ suc n | false ↦ last_in f b n ]

-- the list of `count` names: each has a place and its own number, `head` has the last name of each bucket, `link` the one before each name in its bucket
pub record Listing (t head link places : List ℕ) (count : ℕ) : Type 0 where
  pub heads : length head ≡ buckets
  pub links : length link ≡ max_names
  pub room : length places ≡ max_names
  pub fits : count ≤ max_names
  pub named : (k : ℕ) → k < count → Named t (get_or places k 0)
  pub apart : (k : ℕ) → k < count → number_in (held t places count) (name_at t (get_or places k 0)) ≡ k
  pub last : (b : ℕ) → b < buckets → get_or head b 0 ≡ last_in (bucket_at t places) b count
  pub before : (k : ℕ) → k < count → get_or link k 0 ≡ last_in (bucket_at t places) (bucket_at t places k) k

-- the owner of record i is seen at once to be that of the record before it
unfoldable pub again : List ℕ → ℕ → Bool
unfolding alike_of owner_slot record_at
again t i = ltb 0 i && alike_of (owner_slot (record_at t (i - 1))) (owner_slot (record_at t i))

-- the owner of the record before i is in the list, under the number that is noted for it
pub record Before (t own : List ℕ) (names : List (List ℕ)) (i : ℕ) : Type 0 where
  pub noted : i ≤ length own
  pub number : 0 < i → get_or own (i - 1) 0 ≡ number_in names (owner_at t (i - 1))
  pub listed : 0 < i → number_in names (owner_at t (i - 1)) < length names
