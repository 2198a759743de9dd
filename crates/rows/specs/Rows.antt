-- The output while a search runs: rows of sixteen octets, ascending, each address once, and beside each its lifetime so far.
-- The code's own: nothing that a reader must believe.
use Rattle.std.specs.Prelude.{◌≡◌, ℕ, zero, suc, ◌+◌, ◌-◌, ◌*◌, ◌/◌, ◌<◌, ◌≤◌, min, Bool, true, false, ◌&&◌, ◌⊎◌, List, [], ◌∷◌, ◌++◌, map, length, take, drop, nat_le, nat_lt, slice_index, slice_range, slice_set}
use Rattle.octets.specs.Octets.{blank, same, flat}
use Rattle.octets.specs.Each.{Each}
use Rattle.std.specs.declared.cmp.Ordering.{Ordering}
use Rattle.std.specs.declared.cmp.Ordering.TheVariants.{Less, Equal, Greater}
use Rattle.address.specs.Order.{order_of}
use Rattle.chains.specs.Lists.{In, pick}
use Rattle.chains.specs.Graph.{max_ttl}
use Rattle.chains.specs.Addresses.{Ascending}

-- the row at k
abbrev pub row : List ℕ → ℕ → List ℕ
row out k = take 16 (drop (k * 16) out)

-- where v belongs among the rows from a to b, which are halved at most so many times
unfoldable pub seek : ℕ → List ℕ → List ℕ → ℕ → ℕ → ℕ
seek zero out v a b = a
seek (suc most) out v a b =
    elim (nat_lt a b) [
      | true ↦ elim (order_of (row out ((a + b) / 2)) v) [
        | Less ↦ seek most out v ((a + b) / 2 + 1) b
        | Equal ↦ seek most out v a ((a + b) / 2)
        | Greater ↦ seek most out v a ((a + b) / 2)
      ]
      | false ↦ a
    ]

-- v at k, and what stands from k to c moved on as far as a row is wide
unfoldable pub put_at : ℕ → ℕ → ℕ → List ℕ → List ℕ → List ℕ
put_at wide k c v out = take k out ++ v ++ slice_range out k c ++ drop (c + wide) out

-- the number at k, or t where that is less
unfoldable pub lowered : ℕ → ℕ → List ℕ → List ℕ
lowered k t l = slice_set l k (min (slice_index l k) t)

-- what is kept: the rows, their lifetimes, how many of them have an address, and whether there was no room for one
pub record Kept : Type 0 where
  pub out : List ℕ
  pub lives : List ℕ
  pub count : ℕ
  pub full : Bool

abbrev pub is_same : Ordering → Bool
is_same Less = false
is_same Equal = true
is_same Greater = false

-- v at the row k with the lifetime t; where it stands there, its lifetime becomes t if that is less; where there is no room, that is marked
unfoldable pub keep_at : ℕ → List ℕ → ℕ → Kept → Kept
keep_at k v t s =
    pick (nat_lt k s.count && is_same (order_of (row s.out k) v))
    (record { out = s.out; lives = lowered k t s.lives; count = s.count; full = s.full })
    (pick (nat_le (s.count * 16 + 16) (length s.out))
    (record { out = put_at 16 (k * 16) (s.count * 16) v s.out; lives = put_at 1 k s.count (t ∷ []) s.lives; count = s.count + 1; full = false })
    (record { out = s.out; lives = s.lives; count = s.count; full = true }))

-- v in its place; once there was no room nothing is kept
unfoldable pub keep_in : List ℕ → ℕ → Kept → Kept
keep_in v t s = pick s.full s (keep_at (seek s.count s.out v 0 s.count) v t s)

-- the list l, which ascends, stands in the rows, of which there are `room`, with zeros after it, or is longer than that
pub record Holds (room : ℕ) (l : List (List ℕ)) (s : Kept) : Type 0 where
  pub rows : Each 16 l
  pub ascending : Ascending l
  pub stands : ((s.full ≡ false) × (s.count ≡ length l) × (length l ≤ room) × (s.out ≡ flat l ++ blank ((room - length l) * 16)))
      ⊎ ((s.full ≡ true) × (room < length l))

-- some list does
pub record Ordered (s : Kept) : Type 0 where
  pub room : ℕ
  pub list : List (List ℕ)
  pub holds : Holds room list s

-- what an address v with the lifetime t leaves of the lifetimes of all addresses
abbrev pub shortened : List ℕ → ℕ → (List ℕ → ℕ) → List ℕ → ℕ
shortened v t life a = pick (same v a) (min (life a) t) (life a)

-- the lifetimes of the list l stand beside its rows, with zeros after them, unless there was no room; that of an address not met is the greatest
pub record Lived (room : ℕ) (l : List (List ℕ)) (life : List ℕ → ℕ) (s : Kept) : Type 0 where
  pub unmet : (a : List ℕ) → (In a l → ⊥) → life a ≡ max_ttl
  pub beside : s.full ≡ false → s.lives ≡ map life l ++ blank (room - length l)
