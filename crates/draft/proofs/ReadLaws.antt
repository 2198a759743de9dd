-- Laws of the reader: one for each test, and what holds where all are passed.
use Prim.Native.Nat.{ℕ, ◌-◌, ◌/◌, ◌≤◌, ◌<◌}
use mathlib.Core.Path.{◌≡◌, ap, ◌∙◌}
use mathlib.Core.List.{List}
use lib.Dec.{ltb}
use lib.ListN.{length, take, drop, length-drop}
use lib.Seq.{length-take-le}
use native.Mathlib.Omega.{arith}
use Rattle.std.proofs.lemmas.Slice.{between_is}
use borrow.Author.Tests.{lt-ltb, le-ltb, ltb-false}
use Rattle.octets.specs.Octets.{blank}
use Rattle.octets.proofs.AnswerLaws.{earns_zero}
use Rattle.address.specs.Address.{join_of}
use Rattle.a6.specs.Data.{suffix_octets}
use Rattle.a6.specs.Ending.{name_number, name_in, value_from}
use Rattle.a6.specs.Parts.{in_last}
use Rattle.a6.proofs.SuffixLaws.{join_own}
use Rattle.draft.specs.Layout.{address_part, prefix_part, rest_part}
use Rattle.draft.specs.Read.{draft_number, draft_value}

-- the data has its sixteen octets and a prefix length in range
pub record Fronted (octets : List ℕ) : Type 0 where
  pub long : 17 ≤ length octets
  pub low : prefix_part octets ≤ 128

module _ (octets : List ℕ) where
  pub read_short : length octets < 17 → draft_number octets ≡ 11
  unfolding draft_number
  read_short h = rw (draft_number, lt-ltb (length octets) 17 h)

  pub read_prefix : 17 ≤ length octets → 128 < prefix_part octets → draft_number octets ≡ 10
  unfolding draft_number
  read_prefix h p = rw (draft_number, le-ltb (length octets) 17 h, lt-ltb 128 (prefix_part octets) p)

  pub read_ending : Fronted octets → draft_number octets ≡ name_number (prefix_part octets) (rest_part octets)
  unfolding draft_number
  read_ending f = rw (draft_number, le-ltb (length octets) 17 f.long, le-ltb 128 (prefix_part octets) f.low)

  -- the data can be read: its front is there, and it ends well
  pub readable : draft_number octets ≡ 0 → Fronted octets × (name_number (prefix_part octets) (rest_part octets) ≡ 0)
  unfolding draft_number
  readable e =
      let t1 = earns_zero (ltb (length octets) 17) 10 _ e in
      let t2 = earns_zero (ltb 128 (prefix_part octets)) 9 _ t1.1 in
      (record { long = ltb-false (length octets) 17 t1.0; low = ltb-false 128 (prefix_part octets) t2.0 }, t2.1)

  module _ (f : Fronted octets) where
    pub address_long : length (address_part octets) ≡ 16
    address_long = length-take-le 16 octets (omega (arith, f.long))

    -- the octets that the prefix does not fill
    pub last_part : (whole : ℕ) → whole ≡ prefix_part octets / 8 → take (16 - whole) (drop whole octets) ≡ drop (16 - suffix_octets (prefix_part octets)) (address_part octets)
    last_part whole e =
        let l = prefix_part octets in
        let k : 16 - suffix_octets l ≡ whole = omega (arith, f.low) in
        rw k (between_is octets whole 16)

    pub last_long : (whole : ℕ) → whole ≡ prefix_part octets / 8 → length (take (16 - whole) (drop whole octets)) ≡ suffix_octets (prefix_part octets)
    last_long whole e = length-take-le (16 - whole) (drop whole octets) (omega (arith, f.long, f.low, length-drop whole octets)) ∙ omega (arith, f.low)

    -- in the last of sixteen, they are as good as all of them: the value by where the parts are
    pub value_parts : (whole : ℕ) → whole ≡ prefix_part octets / 8
        → value_from (prefix_part octets) (in_last (prefix_part octets) (take (16 - whole) (drop whole octets))) (drop 17 octets) ≡ draft_value octets
    unfolding draft_value value_from rest_part
    value_parts whole e =
        let l = prefix_part octets in
        let a = ap (λ (xs : List ℕ). join_of (blank 16) (in_last l xs) l) (last_part whole e) ∙ join_own l (address_part octets) f.low address_long in
        ap (λ (xs : List ℕ). record { prefix = l; address = xs; name = name_in l (drop 17 octets) }) a
