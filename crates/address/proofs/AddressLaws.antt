-- Laws of addresses as bits and of joins, bit by bit.
use Prim.Native.Nat.{ℕ, zero, suc, ◌+◌, ◌-◌, ◌≤◌, ◌<◌}
use mathlib.Core.Path.{◌≡◌, refl, ap, ◌∙◌, sym}
use mathlib.Core.Bool.{Bool, true, false}
use mathlib.Core.List.{List, [], ◌∷◌, ◌++◌, append-nil}
use lib.Dec.{ltb}
use lib.ListN.{length, get_or, take, drop, length-append, length-take, length-drop, drop_of_length-le}
use lib.Seq.{take_all, get_or-take, get_or-drop, ext_get_or}
use native.Mathlib.Omega.{arith}
use native.Mathlib.Nat.{mod-one}
use borrow.Author.Tests.{ltb-true, ltb-false}
use Rattle.octets.specs.Octets.{Small}
use Rattle.bits.specs.Bits.{octets_for, pack_from, pack, unpack}
use Rattle.bits.specs.Packing.{Bits}
use Rattle.bits.proofs.BitLaws.{unpack_length, pack_unpack}
use Rattle.bits.proofs.PackingLaws.{pack_length, unpack_pack, unpack_bits, bits_append, bits_take, bits_drop}
use Rattle.address.specs.Address.{bits, bit_at, join_of}
use Rattle.bits.proofs.UnpackLaws.{pack_small}

-- the first n of a list, then the rest of another that is as long
splice_length : (n : ℕ) (xs ys : List ℕ) → length xs ≡ length ys → length (take n xs ++ drop n ys) ≡ length ys
splice_length n xs ys e = simp (length-append, length-take, length-drop) (omega arith)

splice_take : (n : ℕ) (xs ys : List ℕ) → length xs ≡ length ys → take n (take n xs ++ drop n ys) ≡ take n xs
splice_take zero xs ys e = refl
splice_take (suc n) [] [] e = refl
splice_take (suc n) [] (y ∷ ys) e = let z : ⊥ = omega arith in absurd z
splice_take (suc n) (x ∷ xs) [] e = let z : ⊥ = omega arith in absurd z
splice_take (suc n) (x ∷ xs) (y ∷ ys) e = ap (λ (zs : List ℕ). x ∷ zs) (splice_take n xs ys (omega arith))

splice_drop : (n : ℕ) (xs ys : List ℕ) → length xs ≡ length ys → drop n (take n xs ++ drop n ys) ≡ drop n ys
splice_drop zero xs ys e = refl
splice_drop (suc n) [] [] e = refl
splice_drop (suc n) [] (y ∷ ys) e = let z : ⊥ = omega arith in absurd z
splice_drop (suc n) (x ∷ xs) [] e = let z : ⊥ = omega arith in absurd z
splice_drop (suc n) (x ∷ xs) (y ∷ ys) e = splice_drop n xs ys (omega arith)

-- an address has 128 bits, and they say which it is
pub bits_count : (a : List ℕ) → length a ≡ 16 → length (bits a) ≡ 128
unfolding bits
bits_count a e = unpack_length 128 a (omega arith)

bits_even : (a b : List ℕ) → length a ≡ 16 → length b ≡ 16 → length (bits a) ≡ length (bits b)
bits_even a b e f = bits_count a e ∙ sym (bits_count b f)

pub pack_of_bits : (a : List ℕ) → length a ≡ 16 → Small a → pack (bits a) ≡ a
unfolding bits pack
pack_of_bits a e s = pack_unpack 128 a s e (mod-one (get_or a 15 0))

address_ext : (a b : List ℕ) → length a ≡ 16 → length b ≡ 16 → Small a → Small b → bits a ≡ bits b → a ≡ b
address_ext a b e f s t h = sym (pack_of_bits a e s) ∙ ap pack h ∙ pack_of_bits b f t

pub bit_ext : (a b : List ℕ) → length a ≡ 16 → length b ≡ 16 → Small a → Small b → ((i : ℕ) → i < 128 → bit_at a i ≡ bit_at b i) → a ≡ b
unfolding bit_at
bit_ext a b e f s t h =
    let p = bits_count a e in
    address_ext a b e f s t (ext_get_or 0 (bits a) (bits b) (bits_even a b e f) (λ i l. h i (omega arith)))

-- two addresses joined
module _ (h l : List ℕ) (at : ℕ) (hl : length h ≡ 16) (ll : length l ≡ 16) where
  joined_bits : Bits (take at (bits h) ++ drop at (bits l))
  unfolding bits
  joined_bits = bits_append (take at (bits h)) (drop at (bits l)) (bits_take at (bits h) (unpack_bits 128 h)) (bits_drop at (bits l) (unpack_bits 128 l))

  joined_count : length (take at (bits h) ++ drop at (bits l)) ≡ 128
  joined_count = splice_length at (bits h) (bits l) (bits_even h l hl ll) ∙ bits_count l ll

  pub join_length : length (join_of h l at) ≡ 16
  unfolding join_of
  join_length = pack_length (take at (bits h) ++ drop at (bits l)) ∙ ap octets_for joined_count

  pub join_small : Small (join_of h l at)
  unfolding join_of
  join_small = pack_small (take at (bits h) ++ drop at (bits l)) joined_bits

  -- Theorem: the bits of a join are the first bits of the one address and the rest of the other
  pub join_bits : bits (join_of h l at) ≡ take at (bits h) ++ drop at (bits l)
  unfolding join_of bits unpack pack pack_from
  join_bits =
      let s = take at (bits h) ++ drop at (bits l) in
      let u = unpack_pack 128 s (omega (arith, joined_count)) joined_bits [] in
      rw (joined_count, append-nil (pack_from 0 0 s)) at u

  -- Theorem: a bit before the place is that of the first address
  pub join_bit_high : (i : ℕ) → i < at → bit_at (join_of h l at) i ≡ bit_at h i
  unfolding bit_at
  join_bit_high i p =
      let s = take at (bits h) ++ drop at (bits l) in
      let e : get_or (take at s) i 0 ≡ get_or (take at (bits h)) i 0 = rw (splice_take at (bits h) (bits l) (bits_even h l hl ll)) in
      rw join_bits (rw (get_or-take at s i 0 p, get_or-take at (bits h) i 0 p) at e)

  -- Theorem: a bit from the place on is that of the second address
  pub join_bit_low : (i : ℕ) → at ≤ i → bit_at (join_of h l at) i ≡ bit_at l i
  unfolding bit_at
  join_bit_low i p =
      let s = take at (bits h) ++ drop at (bits l) in
      let k : at + (i - at) ≡ i = omega arith in
      let e : get_or (drop at s) (i - at) 0 ≡ get_or (drop at (bits l)) (i - at) 0 = rw (splice_drop at (bits h) (bits l) (bits_even h l hl ll)) in
      rw join_bits (rw (get_or-drop at s (i - at) 0, get_or-drop at (bits l) (i - at) 0, k) at e)

-- only the bits on each side of the place count
module _ (x y z : List ℕ) (xl : length x ≡ 16) (yl : length y ≡ 16) (zl : length z ≡ 16) where
  -- Theorem: of the second address only the bits from the place on count
  pub join_again_low : (at : ℕ) → join_of z (join_of y x at) at ≡ join_of z x at
  unfolding join_of
  join_again_low at =
      ap (λ (bs : List ℕ). pack (take at (bits z) ++ bs)) (ap (drop at) (join_bits y x at yl xl) ∙ splice_drop at (bits y) (bits x) (bits_even y x yl xl))

  -- Theorem: of the first address only the bits before the place count
  pub join_again_high : (at : ℕ) → join_of (join_of z y at) x at ≡ join_of z x at
  unfolding join_of
  join_again_high at =
      ap (λ (bs : List ℕ). pack (bs ++ drop at (bits x))) (ap (take at) (join_bits z y at zl yl) ∙ splice_take at (bits z) (bits y) (bits_even z y zl yl))

  -- Theorem: three addresses joined at two places: it is the same which join comes first
  pub join_assoc : (k l : ℕ) → k ≤ l → join_of (join_of z y k) x l ≡ join_of z (join_of y x l) k
  join_assoc k l p =
      bit_ext (join_of zy x l) (join_of z yx k) (join_length zy x l zyl xl) (join_length z yx k zl yxl) (join_small zy x l zyl xl) (join_small z yx k zl yxl)
      (λ i q. go i (ltb i k) (ltb i l) refl refl)
    where
      zy : List ℕ
      zy = join_of z y k

      yx : List ℕ
      yx = join_of y x l

      zyl : length (join_of z y k) ≡ 16
      zyl = join_length z y k zl yl

      yxl : length (join_of y x l) ≡ 16
      yxl = join_length y x l yl xl

      go : (i : ℕ) (s t : Bool) → ltb i k ≡ s → ltb i l ≡ t → bit_at (join_of (join_of z y k) x l) i ≡ bit_at (join_of z (join_of y x l) k) i
      go i true true f g =
          join_bit_high zy x l zyl xl i (ltb-true i l g) ∙ join_bit_high z y k zl yl i (ltb-true i k f) ∙ sym (join_bit_high z yx k zl yxl i (ltb-true i k f))
      go i true false f g = let v : ⊥ = omega (arith, ltb-true i k f, ltb-false i l g) in absurd v
      go i false true f g =
          join_bit_high zy x l zyl xl i (ltb-true i l g) ∙ join_bit_low z y k zl yl i (ltb-false i k f)
          ∙ sym (join_bit_low z yx k zl yxl i (ltb-false i k f) ∙ join_bit_high y x l yl xl i (ltb-true i l g))
      go i false false f g =
          join_bit_low zy x l zyl xl i (ltb-false i l g) ∙ sym (join_bit_low z yx k zl yxl i (ltb-false i k f) ∙ join_bit_low y x l yl xl i (ltb-false i l g))

-- Theorem: joined at 0 it is all of the second address
pub join_zero : (h l : List ℕ) → length l ≡ 16 → Small l → join_of h l 0 ≡ l
unfolding join_of
join_zero h l e s = pack_of_bits l e s

-- Theorem: joined at 128 or further on it is all of the first address
pub join_all : (h l : List ℕ) (at : ℕ) → length h ≡ 16 → length l ≡ 16 → Small h → 128 ≤ at → join_of h l at ≡ h
unfolding join_of
join_all h l at e f s p =
    let m = bits_count h e in
    let n = bits_count l f in
    let b : take at (bits h) ≡ bits h = take_all at (bits h) (omega arith) in
    let d : drop at (bits l) ≡ [] = drop_of_length-le (bits l) {i = at} (omega arith) in
    rw (b, d, append-nil (bits h)) (pack_of_bits h e s)
