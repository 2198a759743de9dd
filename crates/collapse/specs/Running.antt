-- What the pieces of the running collapse compute: the code's own, nothing that a reader must believe.
use Rattle.std.specs.Prelude.{ℕ, zero, suc, ◌+◌, ◌-◌, ◌*◌, ◌/◌, ◌%◌, ◌≤◌, ◌<◌, min, max, ◌≡◌, Bool, false, ◌&&◌, Option, Some, None, List, [], ◌∷◌, ltb, eqb, length, get_or}
use Rattle.std.proofs.Math.Seq.{paste}
use Rattle.chains.specs.Lists.{pick}
use Rattle.plan.specs.First.{first_from}
use Rattle.plan.specs.Layout.{record_size, max_records, prefix_of, owner_slot, count_of, record_at, prefix_at}
use Rattle.plan.specs.Marks.{mark_of}
use Rattle.collapse.specs.Fold.{unfinished, refers, continues, joined_of}
use Rattle.collapse.specs.declared.Span.{Span}

-- the lesser of a value and the best so far, and the greater; the value, where there is no best
abbrev pub lesser_of : Option ℕ → ℕ → ℕ
lesser_of None v = v
lesser_of (Some best) v = min best v

abbrev pub greater_of : Option ℕ → ℕ → ℕ
greater_of None v = v
greater_of (Some best) v = max best v

-- the least value of the first n numbers that pass a test, and the greatest; none where none does
unfoldable pub least_of : (ℕ → Bool) → (ℕ → ℕ) → ℕ → Option ℕ
least_of f v zero = None
least_of f v (suc n) = pick (f n) (Some (lesser_of (least_of f v n) (v n))) (least_of f v n)

unfoldable pub most_of : (ℕ → Bool) → (ℕ → ℕ) → ℕ → Option ℕ
most_of f v zero = None
most_of f v (suc n) = pick (f n) (Some (greater_of (most_of f v n) (v n))) (most_of f v n)

-- the prefix lengths of the shortest record that refers to x and of the longest unfinished one of x, among the first n
unfoldable pub span_of : List ℕ → List ℕ → ℕ → Span
unfolding least_of most_of refers unfinished record_at prefix_of
span_of x t n = record { shortest = least_of (λ i. refers x (record_at t i)) (prefix_at t) n; longest = most_of (λ i. unfinished x (record_at t i)) (prefix_at t) n }

-- the shortest is shorter than the longest
abbrev pub lies_below : Option ℕ → Option ℕ → Bool
lies_below (Some shortest) (Some longest) = ltb shortest longest
lies_below (Some shortest) None = false
lies_below None longest = false

abbrev pub crossed : Span → Bool
crossed s = lies_below s.shortest s.longest

-- the bucket of a slot, one of 256; slots of the same name share it
unfoldable pub bucket_of : List ℕ → ℕ
unfolding mark_of
bucket_of s = mark_of s % 256

-- the record at j is one whose owner's slot belongs to the bucket b
unfoldable pub belongs : List ℕ → ℕ → ℕ → Bool
unfolding count_of record_at owner_slot bucket_of
belongs t b j = ltb j (count_of t) && eqb (bucket_of (owner_slot (record_at t j))) b

-- the first of them from i on, 1,024 where there is none
unfoldable pub first_in : List ℕ → ℕ → ℕ → ℕ
unfolding belongs first_from
first_in t b i = first_from (belongs t b) i (max_records - i)

-- a record's number, none for 1,024
unfoldable pub within : ℕ → Option ℕ
within n = pick (ltb n max_records) (Some n) None

-- the records from i on are linked: the first of each bucket, and after each record the next of its bucket
pub record Linked (t heads next : List ℕ) (i : ℕ) : Type 0 where
  pub buckets : length heads ≡ 256
  pub records : length next ≡ max_records
  pub head : (b : ℕ) → b < 256 → get_or heads b 0 ≡ first_in t b i
  pub after : (j : ℕ) → i ≤ j → j < count_of t → get_or next j 0 ≡ first_in t (bucket_of (owner_slot (record_at t j))) (j + 1)

-- what r and q make, if anything
unfoldable pub made_by : List ℕ → List ℕ → List (List ℕ)
made_by r q = pick (continues r q) (joined_of r q ∷ []) []

-- the output with one record as its record n, and as it was where there is no room for that
unfoldable pub stored_one : List ℕ → ℕ → List ℕ → List ℕ
stored_one out n r = pick (ltb n (length out / record_size)) (paste out (n * record_size) r record_size) out

-- the output with records from its record n on, as many as there is room for
unfoldable pub stored : List ℕ → ℕ → List (List ℕ) → List ℕ
unfolding stored_one
stored out n [] = out
stored out n (r ∷ rs) = stored (stored_one out n r) (suc n) rs
