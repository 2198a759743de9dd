-- Laws of the layout: a table and its records.
use Prim.Native.Nat.{ℕ, suc, ◌+◌, ◌*◌, ◌≤◌, ◌<◌}
use mathlib.Core.Path.{◌≡◌, ap, ◌∙◌, sym}
use mathlib.Core.List.{List, [], ◌∷◌, append-nil}
use lib.ListN.{length, get_or, take, drop, length-drop}
use lib.Seq.{length-take-le}
use native.Mathlib.Omega.{arith}
use Rattle.octets.proofs.FlatLaws.{each_at, flat_length, flat_at}
use Rattle.octets.specs.Octets.{Small, flat}
use Rattle.octets.specs.Each.{Each}
use Rattle.octets.proofs.OctetLaws.{small_take, small_drop}
use Rattle.plan.specs.Layout.{record_size, count_of, record_at}

-- the record at an index is within the table, and whole
module _ (t : List ℕ) (i : ℕ) (h : i < count_of t) where
  pub record_fits : i * record_size + record_size ≤ length t
  unfolding count_of
  record_fits = omega arith

  pub record_length : length (record_at t i) ≡ record_size
  unfolding record_at
  record_length = length-take-le record_size (drop (i * record_size) t) (rw (length-drop (i * record_size) t) (omega (arith, record_fits)))

pub record_small : (t : List ℕ) (i : ℕ) → Small t → Small (record_at t i)
unfolding record_at
record_small t i s = small_take record_size (drop (i * record_size) t) (small_drop (i * record_size) t s)

-- a table that is made of records
abbrev pub Whole : List (List ℕ) → Type 0
Whole rs = (i : ℕ) → i < length rs → length (get_or rs i []) ≡ record_size

whole_tail : (r : List ℕ) (rs : List (List ℕ)) → Whole (r ∷ rs) → Whole rs
whole_tail r rs w i h = w (suc i) (omega arith)

whole_each : (rs : List (List ℕ)) → Whole rs → Each record_size rs
whole_each rs w = each_at record_size rs w

pub octets_length : (rs : List (List ℕ)) → Whole rs → length (flat rs) ≡ length rs * record_size
octets_length rs w = flat_length record_size rs (whole_each rs w)

pub count_octets : (rs : List (List ℕ)) → Whole rs → count_of (flat rs) ≡ length rs
unfolding count_of
count_octets rs w = omega (arith, octets_length rs w)

pub record_octets : (rs : List (List ℕ)) → Whole rs → (i : ℕ) → i < length rs → record_at (flat rs) i ≡ get_or rs i []
unfolding record_at
record_octets rs w i h = ap (λ (t : List ℕ). take record_size (drop (i * record_size) t)) (sym (append-nil (flat rs))) ∙ flat_at record_size [] i rs (whole_each rs w) h
