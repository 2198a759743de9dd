-- The suffix of an address: what a join with zeros makes of it, and how the code makes it.
use Prim.Native.Nat.{ℕ, zero, suc, ◌+◌, ◌-◌, ◌*◌, ◌/◌, ◌%◌, ◌^◌, ◌≤◌, ◌<◌, min}
use mathlib.Core.Path.{◌≡◌, refl, ap, ◌∙◌, sym}
use mathlib.Core.Bool.{Bool, true, false}
use mathlib.Core.List.{List, [], ◌∷◌, ◌++◌, append-nil}
use lib.Dec.{ltb}
use lib.ListN.{length, get_or, take, drop, set, length-append, length-drop, get_or-append}
use lib.Bits.{bit_and, and_mask}
use lib.Seq.{get_or-drop, get_or-append-add, ext_get_or, take-length, get_or_at, set_at, paste}
use native.Mathlib.Omega.{arith}
use native.Mathlib.Nat.{zero-div, zero-mul, zero-add, zero-mod, mod-one}
use borrow.Author.Tests.{ltb-true, ltb-false}
use borrow.Rule.Slice.PartMut.{put_mid}
use Rattle.std.proofs.lemmas.Slice.{put_mid-paste}
use Rattle.octets.specs.Octets.{blank, Small}
use Rattle.octets.proofs.OctetLaws.{length_blank, drop_blank}
use Rattle.octets.proofs.SmallLaws.{get_or_blank, small_blank}
use Rattle.address.specs.Address.{join_of}
use Rattle.address.proofs.AddressLaws.{join_length}
use Rattle.address.proofs.JoinLaws.{join_octet}
use Rattle.a6.specs.Data.{suffix_octets}
use Rattle.a6.specs.Standard.{without_padding}
use Rattle.a6.specs.Parts.{in_last}

-- zeros, and then the bits of a from l on: an octet keeps its bits from there on
module _ (a : List ℕ) (l : ℕ) (long : length a ≡ 16) where
  after_length : length (join_of (blank 16) a l) ≡ 16
  after_length = join_length (blank 16) a l (length_blank 16) long

  after_octet : (k : ℕ) → k < 16 → get_or (join_of (blank 16) a l) k 0 ≡ get_or a k 0 % 2 ^ (8 - min 8 (l - k * 8))
  after_octet k h =
      let m = 2 ^ (8 - min 8 (l - k * 8)) in
      join_octet (blank 16) a l k (length_blank 16) long (small_blank 16) h ∙ rw (get_or_blank 16 k, zero-div m, zero-mul m, zero-add (get_or a k 0 % m))

-- octets in the last places
right_octet : (k i : ℕ) (xs : List ℕ) → get_or (blank k ++ xs) (k + i) 0 ≡ get_or xs i 0
right_octet k i xs = ap (λ (n : ℕ). get_or (blank k ++ xs) (n + i) 0) (sym (length_blank k)) ∙ get_or-append-add (blank k) xs i 0

-- a suffix as it stands in the address, its padding gone
padding_length : (p : ℕ) (s : List ℕ) → length (without_padding p s) ≡ length s
unfolding without_padding
padding_length p [] = refl
padding_length p (x ∷ xs) = refl

padding_octet : (l i : ℕ) (s : List ℕ) → Small s → get_or s i 0 % 2 ^ (8 - min 8 (l - (l / 8 + i) * 8)) ≡ get_or (without_padding (l % 8) s) i 0
unfolding without_padding
padding_octet l i [] t = zero-mod (2 ^ (8 - min 8 (l - (l / 8 + i) * 8)))
padding_octet l zero (x ∷ xs) t = let e : min 8 (l - (l / 8 + 0) * 8) ≡ l % 8 = omega arith in rw e
padding_octet l (suc i) (x ∷ xs) t =
    let e : 8 - min 8 (l - (l / 8 + suc i) * 8) ≡ 8 = omega arith in
    let m : get_or xs i 0 % 256 ≡ get_or xs i 0 = omega (arith, t (suc i)) in
    rw (e, m)

module _ (l : ℕ) (s : List ℕ) (low : l ≤ 128) (long : length s ≡ suffix_octets l) (small : Small s) where
  pub join_suffix : join_of (blank 16) (blank (16 - suffix_octets l) ++ s) l ≡ blank (16 - suffix_octets l) ++ without_padding (l % 8) s
  join_suffix = rw k (ext_get_or 0 whole clean (after_length right l count ∙ sym clean_count) (λ i h. go i (omega (arith, after_length right l count)) (ltb i (l / 8)) refl))
    where
      right : List ℕ
      right = blank (l / 8) ++ s

      whole : List ℕ
      whole = join_of (blank 16) (blank (l / 8) ++ s) l

      clean : List ℕ
      clean = blank (l / 8) ++ without_padding (l % 8) s

      k : 16 - suffix_octets l ≡ l / 8
      k = omega arith

      count : length (blank (l / 8) ++ s) ≡ 16
      count = simp (length-append, length_blank) (omega arith)

      clean_count : length (blank (l / 8) ++ without_padding (l % 8) s) ≡ 16
      clean_count = simp (length-append, length_blank, padding_length) (omega arith)

      go : (i : ℕ) → i < 16 → (t : Bool) → ltb i (l / 8) ≡ t → get_or whole i 0 ≡ get_or clean i 0
      go i h true e =
          let p = ltb-true i (l / 8) e in
          let z : 8 - min 8 (l - i * 8) ≡ 0 = omega arith in
          after_octet right l count i h ∙ rw (z, mod-one (get_or right i 0))
          (sym (get_or-append (blank (l / 8)) (without_padding (l % 8) s) 0 i (omega (arith, length_blank (l / 8))) ∙ get_or_blank (l / 8) i))
      go i h false e =
          let p = ltb-false i (l / 8) e in
          let j = i - l / 8 in
          let m : l / 8 + j ≡ i = omega arith in
          let f : get_or right i 0 ≡ get_or s j 0 = rw m at (right_octet (l / 8) j s) in
          let g : get_or clean i 0 ≡ get_or (without_padding (l % 8) s) j 0 = rw m at (right_octet (l / 8) j (without_padding (l % 8) s)) in
          let q : get_or s j 0 % 2 ^ (8 - min 8 (l - i * 8)) ≡ get_or (without_padding (l % 8) s) j 0 = rw m at (padding_octet l j s small) in
          after_octet right l count i h ∙ rw (f, g) q

-- the octets that the prefix fills do not count
module _ (l : ℕ) (a : List ℕ) (low : l ≤ 128) (long : length a ≡ 16) where
  join_whole : join_of (blank 16) (blank (l / 8) ++ drop (l / 8) a) l ≡ join_of (blank 16) a l
  join_whole =
      ext_get_or 0 (join_of (blank 16) own l) (join_of (blank 16) a l) (after_length own l right ∙ sym (after_length a l long))
      (λ i h. go i (omega (arith, after_length own l right)) (ltb i (l / 8)) refl)
    where
      own : List ℕ
      own = blank (l / 8) ++ drop (l / 8) a

      right : length (blank (l / 8) ++ drop (l / 8) a) ≡ 16
      right = simp (length-append, length_blank, length-drop) (omega arith)

      go : (i : ℕ) → i < 16 → (t : Bool) → ltb i (l / 8) ≡ t → get_or (join_of (blank 16) (blank (l / 8) ++ drop (l / 8) a) l) i 0 ≡ get_or (join_of (blank 16) a l) i 0
      go i h true e =
          let p = ltb-true i (l / 8) e in
          let z : 8 - min 8 (l - i * 8) ≡ 0 = omega arith in
          after_octet own l right i h ∙ rw (z, mod-one (get_or own i 0)) (sym (after_octet a l long i h ∙ rw (z, mod-one (get_or a i 0))))
      go i h false e =
          let p = ltb-false i (l / 8) e in
          let k : l / 8 + (i - l / 8) ≡ i = omega arith in
          let f : get_or own i 0 ≡ get_or a i 0 = rw k at (right_octet (l / 8) (i - l / 8) (drop (l / 8) a) ∙ get_or-drop (l / 8) a (i - l / 8) 0) in
          after_octet own l right i h ∙ rw f (sym (after_octet a l long i h))

  pub join_own : join_of (blank 16) (blank (16 - suffix_octets l) ++ drop (16 - suffix_octets l) a) l ≡ join_of (blank 16) a l
  join_own = let k : 16 - suffix_octets l ≡ l / 8 = omega arith in rw k join_whole

-- a suffix that the code has put into the last of sixteen octets over zeros
module _ (l : ℕ) (s out : List ℕ) (low : l ≤ 128) (long : length s ≡ suffix_octets l) (small : Small s) (made : out ≡ blank (16 - length s) ++ s) where
  abbrev address : List ℕ
  address = join_of (blank 16) (in_last l s) l

  address_is : address ≡ blank (16 - length s) ++ without_padding (l % 8) s
  address_is = rw long (join_suffix l s low long small)

  -- it is the address where there are no octets of a suffix; else the first of them loses its first bits
  pub address_none : 16 ≤ 16 - length s → out ≡ address
  unfolding without_padding
  address_none z = go s refl
    where
      go : (t : List ℕ) → s ≡ t → out ≡ address
      go [] q = made ∙ ap (λ (t : List ℕ). blank (16 - length s) ++ t) q ∙ sym (address_is ∙ ap (λ (t : List ℕ). blank (16 - length s) ++ without_padding (l % 8) t) q)
      go (x ∷ xs) q = let v : ⊥ = omega (arith, long, ap length q) in absurd v

  pub address_some : 16 - length s < 16 → (v : ℕ) → v ≡ get_or out (16 - length s) 0 % 2 ^ (8 - l % 8) → set out (16 - length s) v ≡ address
  unfolding without_padding
  address_some z v w = go s refl
    where
      go : (t : List ℕ) → s ≡ t → set out (16 - length s) v ≡ address
      go [] q = let u : ⊥ = omega (arith, ap length q, z) in absurd u
      go (x ∷ xs) q =
          let m : out ≡ blank (16 - length s) ++ (x ∷ xs) = made ∙ ap (λ (t : List ℕ). blank (16 - length s) ++ t) q in
          let a : address ≡ blank (16 - length s) ++ (x % 2 ^ (8 - l % 8) ∷ xs) = address_is ∙ ap (λ (t : List ℕ). blank (16 - length s) ++ without_padding (l % 8) t) q in
          let g : get_or out (16 - length s) 0 ≡ x = rw m (get_or_at (blank (16 - length s)) x xs 0 (16 - length s) (length_blank (16 - length s))) in
          rw (w, g, m) (set_at (blank (16 - length s)) x xs (x % 2 ^ (8 - l % 8)) (16 - length s) (length_blank (16 - length s))) ∙ sym a

-- the zeros that stay before it
take_blank : (k n : ℕ) → k ≤ n → take k (blank n) ≡ blank k
unfolding blank
take_blank zero n h = refl
take_blank (suc k) zero h = let z : ⊥ = omega arith in absurd z
take_blank (suc k) (suc n) h = ap (λ (xs : List ℕ). 0 ∷ xs) (take_blank k n (omega arith))

pub put_last : (s put out : List ℕ) (n : ℕ) → length s ≤ 16 → put ≡ s → out ≡ blank 16 → n ≡ length s → put_mid (16 - length s) n out put ≡ blank (16 - length s) ++ s
unfolding blank
put_last s put out n h p z e = rw (p, z, e) (put_mid-paste (16 - length s) (length s) (blank 16) s s (length s) refl refl refl ∙ pasted)
  where
    pasted : paste (blank 16) (16 - length s) s (length s) ≡ blank (16 - length s) ++ s
    pasted =
        let k : 16 - length s + length s ≡ 16 = omega arith in
        rw (take_blank (16 - length s) 16 (omega arith), k, drop_blank 16 16, take-length s) (append-nil (blank (16 - length s) ++ s))

-- the ones that leave the first p bits of an octet out
ones : (p : ℕ) → p < 8 → 255 / 2 ^ p ≡ 2 ^ (8 - p) - 1
ones zero h = refl
ones (suc zero) h = refl
ones (suc (suc zero)) h = refl
ones (suc (suc (suc zero))) h = refl
ones (suc (suc (suc (suc zero)))) h = refl
ones (suc (suc (suc (suc (suc zero))))) h = refl
ones (suc (suc (suc (suc (suc (suc zero)))))) h = refl
ones (suc (suc (suc (suc (suc (suc (suc zero))))))) h = refl
ones (suc (suc (suc (suc (suc (suc (suc (suc p)))))))) h = let z : ⊥ = omega arith in absurd z

pub mask_octet : (x p : ℕ) → p < 8 → bit_and x (255 / 2 ^ p) ≡ x % 2 ^ (8 - p)
mask_octet x p h = rw (ones p h) (and_mask x (8 - p))
