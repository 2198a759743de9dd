-- The join octet by octet: the picture that is drawn of it, and how the code makes it.
use Prim.Native.Nat.{ℕ, zero, suc, ◌+◌, ◌-◌, ◌*◌, ◌/◌, ◌%◌, ◌^◌, ◌≤◌, ◌<◌, min}
use mathlib.Core.Path.{◌≡◌, refl, ap, ◌∙◌, sym}
use mathlib.Core.Bool.{Bool, true, false}
use mathlib.Core.List.{List, [], ◌∷◌, ◌++◌, append_assoc}
use lib.Bits.{bit_and, bit_or, and_mask, and_high, or_shifted}
use lib.Dec.{eqb, ltb}
use lib.ListN.{length, get_or, take, drop, set, length-append, length-drop, get_or-append}
use lib.Pow.{pow_pos, high, shr_lt, shr_mod, ones_lt, ones_split}
use lib.Seq.{take-suc, take-suc-set, take_all, get_or-take, get_or-drop, get_or-append-add, ext_get_or, length-take-le}
use native.Mathlib.Omega.{arith}
use native.Mathlib.Nat.{mod-eq_of_lt, mod-lt, zero-add}
use native.Mathlib.Numerals.{add-one}
use borrow.Author.Tests.{eqb-true, eqb-false, ltb-true, ltb-false}
use Rattle.octets.specs.Octets.{Small}
use Rattle.bits.specs.Bits.{octets_for, bits_of, unpack, pack_from, pack}
use Rattle.bits.proofs.BitLaws.{pack_some, pack_full, unpack_octet}
use Rattle.address.specs.Address.{join_of, bits}
use Rattle.address.specs.Picture.{mix, mixed_at, join_octets}
use Rattle.bits.proofs.UnpackLaws.{octet_take, octet_drop, past_octet, beyond_octet}
use Rattle.address.proofs.AddressLaws.{join_length}

-- all bits of octets
abbrev every : List ℕ → List ℕ
every xs = unpack (length xs * 8) xs

every_octet : (x : ℕ) (xs : List ℕ) → every (x ∷ xs) ≡ bits_of 8 x ++ every xs
every_octet x xs =
    let e : suc (length xs) * 8 ≡ 8 + length xs * 8 = omega arith in
    let e' : 8 + length xs * 8 - 8 ≡ length xs * 8 = omega arith in
    ap (λ (m : ℕ). unpack m (x ∷ xs)) e ∙ unpack_octet (8 + length xs * 8) x xs (omega arith) ∙ ap (λ (m : ℕ). bits_of 8 x ++ unpack m xs) e'

-- one octet with bits of both
mix_octet : (r x y : ℕ) (rest : List ℕ) → r < 8 → x < 256 → pack_from 0 0 (bits_of r (x / 2 ^ (8 - r)) ++ (bits_of (8 - r) y ++ rest)) ≡ mix 8 r x y ∷ pack_from 0 0 rest
mix_octet r x y rest h k =
    let u = x / 2 ^ (8 - r) in
    let w : r + (8 - r) ≡ 8 = omega arith in
    let t : x < 2 ^ (r + (8 - r)) = rw w (omega arith) in
    let v : 0 * 2 ^ r + u % 2 ^ r ≡ u = rw (mod-eq_of_lt (shr_lt r (8 - r) t)) (omega arith) in
    let g : suc (7 - r) ≡ 8 - r = omega arith in
    pack_some r 0 0 u (bits_of (8 - r) y ++ rest) (omega arith) ∙ rw (v, zero-add r) (rw g at (pack_full (7 - r) r u y rest (omega arith)))

-- the first octets of two lists, joined, before the join of the rest
join_step : (at x y : ℕ) (xs ys : List ℕ) → x < 256 → pack_from 0 0 (take at (every (x ∷ xs)) ++ drop at (every (y ∷ ys)))
    ≡ mix 8 (min 8 at) x y ∷ pack_from 0 0 (take (at - 8) (every xs) ++ drop (at - 8) (every ys))
join_step at x y xs ys s = rw (every_octet x xs, every_octet y ys) (go (ltb at 8) refl)
  where
    go : (t : Bool) → ltb at 8 ≡ t → pack_from 0 0 (take at (bits_of 8 x ++ every xs) ++ drop at (bits_of 8 y ++ every ys))
        ≡ mix 8 (min 8 at) x y ∷ pack_from 0 0 (take (at - 8) (every xs) ++ drop (at - 8) (every ys))
    go true e =
        let k : at < 8 = ltb-true at 8 e in
        let m : min 8 at ≡ at = omega arith in
        let z : at - 8 ≡ 0 = omega arith in
        rw (octet_take at x (every xs) (omega arith), octet_drop at y (every ys) (omega arith), m, z) (mix_octet at x y (every ys) k s)
    go false e =
        let k : 8 ≤ at = ltb-false at 8 e in
        let m : min 8 at ≡ 8 = omega arith in
        let n : 8 + (at - 8) ≡ at = omega arith in
        let v : 0 * 2 ^ 8 + x % 2 ^ 8 ≡ mix 8 8 x y = omega arith in
        let rest = take (at - 8) (every xs) ++ drop (at - 8) (every ys) in
        let b : take at (bits_of 8 x ++ every xs) ≡ bits_of 8 x ++ take (at - 8) (every xs) = rw n at (past_octet (at - 8) x (every xs)) in
        let d : drop at (bits_of 8 y ++ every ys) ≡ drop (at - 8) (every ys) = rw n at (beyond_octet (at - 8) y (every ys)) in
        rw (b, d, m, append_assoc (bits_of 8 x) (take (at - 8) (every xs)) (drop (at - 8) (every ys)))
        (pack_full 7 0 0 x rest (omega arith) ∙ ap (λ (z : ℕ). z ∷ pack_from 0 0 rest) v)

join_octets_lem : (k at : ℕ) (h l : List ℕ) → Small h → length h ≡ length l → k < length h
    → get_or (pack_from 0 0 (take at (every h) ++ drop at (every l))) k 0 ≡ mix 8 (min 8 (at - k * 8)) (get_or h k 0) (get_or l k 0)
join_octets_lem k at [] l s e p = let z : ⊥ = omega arith in absurd z
join_octets_lem k at (x ∷ xs) [] s e p = let z : ⊥ = omega arith in absurd z
join_octets_lem zero at (x ∷ xs) (y ∷ ys) s e p = let z : at - 0 * 8 ≡ at = omega arith in rw (join_step at x y xs ys (s 0), z)
join_octets_lem (suc k) at (x ∷ xs) (y ∷ ys) s e p =
    let z : at - suc k * 8 ≡ at - 8 - k * 8 = omega arith in
    rw (join_step at x y xs ys (s 0), z) (join_octets_lem k (at - 8) xs ys (λ i. s (suc i)) (omega arith) (omega arith))

-- Theorem: each octet of a join has as many first bits as stand before the position of the first address, and its other bits of the second
pub join_octet : (h l : List ℕ) (at k : ℕ) → length h ≡ 16 → length l ≡ 16 → Small h → k < 16
    → get_or (join_of h l at) k 0 ≡ mix 8 (min 8 (at - k * 8)) (get_or h k 0) (get_or l k 0)
unfolding join_of pack pack_from bits unpack
join_octet h l at k e f s p = rw (e, f) at (join_octets_lem k at h l s (e ∙ sym f) (omega arith))

-- ---- the picture
module _ (h l : List ℕ) (at : ℕ) (hl : length h ≡ 16) (ll : length l ≡ 16) (hs : Small h) where
  -- Theorem: an octet before the one that the position is in is that of the first address
  pub octet_before : (k : ℕ) → k < 16 → k < at / 8 → get_or (join_of h l at) k 0 ≡ get_or h k 0
  octet_before k p q =
      let n : 8 - min 8 (at - k * 8) ≡ 0 = omega arith in
      join_octet h l at k hl ll hs p ∙ rw n (omega arith)

  -- Theorem: the octet that the position is in is mixed of both
  pub octet_in : (k : ℕ) → k < 16 → k ≡ at / 8 → get_or (join_of h l at) k 0 ≡ mix 8 (at % 8) (get_or h k 0) (get_or l k 0)
  octet_in k p q = let n : min 8 (at - k * 8) ≡ at % 8 = omega arith in join_octet h l at k hl ll hs p ∙ rw n

  -- Theorem: an octet that begins at the position or after it is that of the second address
  pub octet_after : Small l → (k : ℕ) → k < 16 → at ≤ k * 8 → get_or (join_of h l at) k 0 ≡ get_or l k 0
  octet_after ls k p q =
      let n : 8 - min 8 (at - k * 8) ≡ 8 = omega arith in
      join_octet h l at k hl ll hs p ∙ rw n (omega (arith, hs k, ls k))

  -- as the code chooses an octet
  pub octet_chosen : Small l → (k place mixed r : ℕ) → k < 16 → place ≡ at / 8 → mixed ≡ mix 8 (at % 8) (get_or h (place % 16) 0) (get_or l (place % 16) 0)
      → r ≡ elim (eqb k place) [ true ↦ mixed | false ↦ elim (ltb k place) [ true ↦ get_or h k 0 | false ↦ get_or l k 0 ] ] → r ≡ get_or (join_of h l at) k 0
  octet_chosen ls k place mixed r p q m = go (eqb k place) (ltb k place) refl refl
    where
      go : (s t : Bool) → eqb k place ≡ s → ltb k place ≡ t → r ≡ elim s [ true ↦ mixed | false ↦ elim t [ true ↦ get_or h k 0 | false ↦ get_or l k 0 ] ] → r ≡ get_or (join_of h l at) k 0
      go true t e f v =
          let i = eqb-true k place e in
          let o : place % 16 ≡ k = omega arith in
          v ∙ m ∙ rw o (sym (octet_in k p (i ∙ q)))
      go false true e f v = v ∙ sym (octet_before k p (omega (arith, ltb-true k place f)))
      go false false e f v = v ∙ sym (octet_after ls k p (omega (arith, eqb-false k place e, ltb-false k place f)))

  -- whole octets of the first address, and after them those from the one on that the position is in
  module _ (ys : List ℕ) (p : at ≤ 128) (count : at / 8 + length ys ≡ 16) (rest : (j : ℕ) → at / 8 + j < 16 → get_or ys j 0 ≡ get_or (join_of h l at) (at / 8 + j) 0) where
    front : length (take (at / 8) h) ≡ at / 8
    front = length-take-le (at / 8) h (omega arith)

    long : length (take (at / 8) h ++ ys) ≡ 16
    long = length-append (take (at / 8) h) ys ∙ omega (arith, front)

    each : (i : ℕ) → i < 16 → (t : Bool) → ltb i (at / 8) ≡ t → get_or (take (at / 8) h ++ ys) i 0 ≡ get_or (join_of h l at) i 0
    each i q true e =
        let b = ltb-true i (at / 8) e in
        get_or-append (take (at / 8) h) ys 0 i (omega (arith, front)) ∙ get_or-take (at / 8) h i 0 b ∙ sym (octet_before i q b)
    each i q false e =
        let b = ltb-false i (at / 8) e in
        let m : at / 8 + (i - at / 8) ≡ i = omega arith in
        rw (front, rest (i - at / 8) (omega arith), m) at (get_or-append-add (take (at / 8) h) ys (i - at / 8) 0)

    drawn : take (at / 8) h ++ ys ≡ join_of h l at
    drawn = ext_get_or 0 (take (at / 8) h ++ ys) (join_of h l at) (long ∙ sym (join_length h l at hl ll)) (λ i q. each i (omega (arith, long)) (ltb i (at / 8)) refl)

  -- Theorem: the picture in octets is the join by bits, at each position from 0 to 128
  pub picture : at ≤ 128 → Small l → join_octets at h l ≡ join_of h l at
  unfolding join_octets mixed_at
  picture p ls = append_assoc (take (at / 8) h) (mixed_at at h l) (drop (octets_for at) l) ∙ go (eqb (at % 8) 0) refl
    where
      after : List ℕ
      after = drop (octets_for at) l

      mixed : ℕ
      mixed = mix 8 (at % 8) (get_or h (at / 8) 0) (get_or l (at / 8) 0)

      rest : (at % 8 ≡ 0 → ⊥) → (j : ℕ) → at / 8 + j < 16 → get_or (mixed ∷ after) j 0 ≡ get_or (join_of h l at) (at / 8 + j) 0
      rest q zero r = let m : at / 8 + 0 ≡ at / 8 = omega arith in rw m (sym (octet_in (at / 8) (omega arith) refl))
      rest q (suc j) r =
          let m : octets_for at + j ≡ at / 8 + suc j = omega arith in
          get_or-drop (octets_for at) l j 0 ∙ rw m (sym (octet_after ls (at / 8 + suc j) r (omega arith)))

      go : (t : Bool) → eqb (at % 8) 0 ≡ t → take (at / 8) h ++ (mixed_at at h l ++ drop (octets_for at) l) ≡ join_of h l at
      go true e =
          let q = eqb-true (at % 8) 0 e in
          rw (mixed_at, e)
          (drawn after p (omega (arith, length-drop (octets_for at) l))
          (λ j r. let m : octets_for at + j ≡ at / 8 + j = omega arith in get_or-drop (octets_for at) l j 0 ∙ rw m (sym (octet_after ls (at / 8 + j) r (omega arith)))))
      go false e =
          let q = eqb-false (at % 8) 0 e in
          rw (mixed_at, e) (drawn (mixed ∷ after) p (omega (arith, length-drop (octets_for at) l)) (rest q))

-- one octet more is written
pub same_more : (a b : List ℕ) (k v : ℕ) → k < length a → k < length b → take k a ≡ take k b → v ≡ get_or b k 0 → take (k + 1) (set a k v) ≡ take (k + 1) b
same_more a b k v p q e f = rw (add-one k, take-suc-set a k v p, take-suc b k 0 q, e, f)

pub same_all : (a b : List ℕ) (k : ℕ) → length a ≤ k → length b ≤ k → take k a ≡ take k b → a ≡ b
same_all a b k p q e = sym (take_all k a p) ∙ e ∙ take_all k b q

-- the ones that the code mixes two octets by
rest_ones : (n : ℕ) → n ≤ 8 → 255 / 2 ^ n ≡ 2 ^ (8 - n) - 1
rest_ones n h =
    let w : 8 - n + n ≡ 8 = omega arith in
    let e : 255 ≡ (2 ^ (8 - n) - 1) * 2 ^ n + (2 ^ n - 1) = rw w at (ones_split (8 - n) n) in
    ap (λ (v : ℕ). v / 2 ^ n) e ∙ high (2 ^ (8 - n) - 1) n (ones_lt n)

pub ones_mix : (n x y : ℕ) → n ≤ 8 → x < 256 → bit_or (bit_and x (255 - 255 / 2 ^ n)) (bit_and y (255 / 2 ^ n)) ≡ mix 8 n x y
ones_mix n x y h k =
    let w : n + (8 - n) ≡ 8 = omega arith in
    let q = pow_pos (8 - n) in
    let d : 255 - (2 ^ (8 - n) - 1) ≡ 2 ^ 8 - 2 ^ (8 - n) = omega arith in
    let t : x < 2 ^ (n + (8 - n)) = rw w (omega arith) in
    let a : bit_and x (2 ^ 8 - 2 ^ (8 - n)) ≡ x / 2 ^ (8 - n) * 2 ^ (8 - n) = rw (w, shr_mod n (8 - n) t) at (and_high x n (8 - n)) in
    rw (rest_ones n h, d, a, and_mask y (8 - n)) (or_shifted (x / 2 ^ (8 - n)) (8 - n) (y % 2 ^ (8 - n)) (mod-lt y q))
