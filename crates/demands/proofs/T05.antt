-- T-05, join by octets: the picture that field staff draw is the join, and what the running function gives (its contract is in Demand1).
use Prim.Native.Nat.{ℕ, ◌≤◌}
use mathlib.Core.Path.{◌≡◌, refl, ◌∙◌, sym}
use mathlib.Core.List.{List, [], ◌∷◌}
use lib.ListN.{length}
use contract.Lifetimes.{Lfts}
use Rattle.octets.specs.Octets.{Small}
use Rattle.address.specs.Address.{join_of}
use Rattle.address.specs.Picture.{mixed_at, join_octets}
use Rattle.address.proofs.AddressLaws.{join_all}
use Rattle.address.proofs.JoinLaws.{picture}
use Rattle.address.proofs.join.Reads as address_join

-- at each position from 0 to 128 the picture in octets is the join by bits
pub drawn : (at : ℕ) (high low : List ℕ) → at ≤ 128 → length high ≡ 16 → length low ≡ 16 → Small high → Small low → join_octets at high low ≡ join_of high low at
drawn at high low p hl ll hs ls = picture high low at hl ll hs p ls

-- what a caller of `address::join` learns
module _ (κs : Lfts 0) (high low : List ℕ) (at : ℕ) (r : List ℕ) (l : address_join.Learnt κs (high, (low, (at, tt))) r (high, (low, (at, tt)))) (hl : length high ≡ 16) (ll : length low ≡ 16) (hs : Small high) where
  -- at a position up to 128 the running function gives the picture
  pub join_drawn : at ≤ 128 → Small low → r ≡ join_octets at high low
  join_drawn p ls = l ∙ sym (drawn at high low p hl ll hs ls)

  -- and from 128 on all of the first address
  pub join_past : 128 ≤ at → r ≡ high
  join_past p = l ∙ join_all high low at hl ll hs p

-- ---- the pictures of FORMATS
abbrev first : List ℕ
first = 0x20 ∷ 0x01 ∷ 0x0D ∷ 0xB8 ∷ 0xA1 ∷ 0xB2 ∷ 0xC3 ∷ 0xD4 ∷ 0xE5 ∷ 0xF6 ∷ 0x11 ∷ 0x22 ∷ 0x33 ∷ 0x44 ∷ 0x55 ∷ 0x66 ∷ []

abbrev second : List ℕ
second = 0xFE ∷ 0xDC ∷ 0xBA ∷ 0x98 ∷ 0x76 ∷ 0x4F ∷ 0x32 ∷ 0x10 ∷ 0x0F ∷ 0x1E ∷ 0x2D ∷ 0x3C ∷ 0x4B ∷ 0x5A ∷ 0x69 ∷ 0x78 ∷ []

-- at 43, inside the octet 5: it has the first three bits of B2 and the last five of 4F
pub inside : join_octets 43 first second
    ≡ 0x20 ∷ 0x01 ∷ 0x0D ∷ 0xB8 ∷ 0xA1 ∷ 0xAF ∷ 0x32 ∷ 0x10 ∷ 0x0F ∷ 0x1E ∷ 0x2D ∷ 0x3C ∷ 0x4B ∷ 0x5A ∷ 0x69 ∷ 0x78 ∷ []
unfolding join_octets mixed_at
inside = refl

-- at 48, at the edge between the octets 5 and 6: none is mixed
pub edge : join_octets 48 first second
    ≡ 0x20 ∷ 0x01 ∷ 0x0D ∷ 0xB8 ∷ 0xA1 ∷ 0xB2 ∷ 0x32 ∷ 0x10 ∷ 0x0F ∷ 0x1E ∷ 0x2D ∷ 0x3C ∷ 0x4B ∷ 0x5A ∷ 0x69 ∷ 0x78 ∷ []
unfolding join_octets mixed_at
edge = refl
