-- Marks of slots: a short number that slots of the same name share, looked at before names are compared.
-- The code's own: nothing that a reader must believe.
use Rattle.std.specs.Prelude.{ℕ, zero, suc, ◌+◌, ◌*◌, ◌/◌, ◌%◌, ◌<◌, ◌≡◌, Bool, true, false, ◌&&◌, List, ltb, length, get_or, take}
use Rattle.octets.specs.Octets.{same_by, same}
use Rattle.plan.specs.Layout.{owner_slot, is_dname, count_of, record_at, is_type}
use Rattle.plan.specs.Check.{first_fault}

-- the four octets from a place on as one number, the lowest first
unfoldable pub word_at : List ℕ → ℕ → ℕ
word_at s i = get_or s i 0 + get_or s (i + 1) 0 * 256 + get_or s (i + 2) 0 * 65536 + get_or s (i + 3) 0 * 16777216

-- the eight octets from a place on as one number
unfoldable pub pair_at : List ℕ → ℕ → ℕ
unfolding word_at
pair_at s i = word_at s i + word_at s (i + 4) * 4294967296

-- an octet without the bit of weight 32: a letter is the same in either case then (T-03)
unfoldable pub caseless : ℕ → ℕ
caseless x = x / 64 * 64 + x % 32

-- the four octets from a place on as one number, each without that bit, the lowest first
unfoldable pub masked_at : List ℕ → ℕ → ℕ
unfolding caseless
masked_at s i = caseless (get_or s i 0) + caseless (get_or s (i + 1) 0) * 256 + caseless (get_or s (i + 2) 0) * 65536 + caseless (get_or s (i + 3) 0) * 16777216

-- what word k adds to the sum of a slot: each has a factor of its own, so that the order of words tells
unfoldable pub term_at : List ℕ → ℕ → ℕ
unfolding masked_at
term_at s k = masked_at s (k * 4) * (52361 + k * 7919)

-- the sum of the first k words
unfoldable pub sum_to : List ℕ → ℕ → ℕ
unfolding term_at
sum_to s zero = 0
sum_to s (suc k) = sum_to s k + term_at s k

-- the sum of a slot: of its first eight words where the name ends in them, since zeros follow it; else of all 64
unfoldable pub sum_of : List ℕ → ℕ
unfolding sum_to
sum_of s = elim (ltb (get_or s 0 0) 32) [ true ↦ sum_to s 8 | false ↦ sum_to s 64 ]

-- the mark of a slot: its sum, mixed
unfoldable pub mark_of : List ℕ → ℕ
unfolding sum_of
mark_of s = (sum_of s / 4096 + sum_of s / 16777216 * 3 + sum_of s) % 65536

-- the first 32 octets of two slots are the same and hold their names whole
unfoldable pub alike_of : List ℕ → List ℕ → Bool
unfolding same_by
alike_of a b = same (take 32 a) (take 32 b) && ltb (get_or a 0 0) 32

-- the mark of the owner's slot of a DNAME; 0 for any other record
unfoldable pub mark_at : List ℕ → ℕ → ℕ
unfolding is_type record_at owner_slot mark_of
mark_at t i = elim (is_dname (record_at t i)) [ true ↦ mark_of (owner_slot (record_at t i)) | false ↦ 0 ]

-- the first n marks of a list are those of the table's records
abbrev pub Marked : List ℕ → List ℕ → ℕ → Type 0
Marked t marks n = (i : ℕ) → i < n → get_or marks i 0 ≡ mark_at t i

-- what is at hand when record j is looked at: no record is at fault, the marks of the records before it, and its own mark m
pub record Ready (t marks : List ℕ) (j m : ℕ) : Type 0 where
  pub sound : first_fault t ≡ count_of t
  pub here : j < count_of t
  pub size : length marks ≡ j
  pub before : Marked t marks j
  pub own : m ≡ mark_at t j
