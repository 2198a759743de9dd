-- Laws of bits compared octet by octet, and of the first bits of a label.
use Prim.Native.Nat.{ℕ, zero, suc, ◌+◌, ◌-◌, ◌*◌, ◌/◌, ◌%◌, ◌^◌, ◌≤◌, ◌<◌, min}
use mathlib.Core.Path.{◌≡◌, refl, ap, ap₂, ◌∙◌, sym}
use mathlib.Core.Bool.{Bool, true, false, not}
use mathlib.Core.List.{List, [], ◌∷◌, ◌++◌, append-nil, head-eq_of_cons-eq, tail-eq_of_cons-eq}
use lib.Dec.{eqb, ltb}
use lib.ListN.{length, get_or, take, drop}
use lib.Seq.{take-nil, take-append-le, take-append-add, take_at, drop_at, drop-cons}
use lib.Pow.{shr-shr, shr_lt, mod-pow-add}
use native.Mathlib.Omega.{arith}
use native.Mathlib.Nat.{mod-eq_of_lt}
use borrow.Author.Tests.{eq-eqb, eqb-true, eqb-false, ltb-true, ltb-false}
use Rattle.bits.specs.Bits.{bits_of, unpack}
use Rattle.octets.specs.Octets.{same_by, same, Small}
use Rattle.std.specs.Str.{bytes_eq}
use Rattle.std.proofs.lemmas.Slice.Eq.{bytes_eq-Decides}
use Rattle.bits.proofs.BitLaws.{bits_length, bits_split, unpack_zero, unpack_octet}
use Rattle.bits.proofs.UnpackLaws.{unpack_top}
use Rattle.octets.proofs.SameLaws.{same_eq, same_refl}

-- the first q of n bits are q bits of the same octets
pub unpack_first : (q n : ℕ) (xs : List ℕ) → q ≤ n → take q (unpack n xs) ≡ unpack q xs
unfolding unpack
unpack_first q n [] h = take-nil q
unpack_first q n (x ∷ xs) h = go (ltb q 8) refl (λ i. unpack_first (q - 8) (n - 8) xs i)
  where
    go : (t : Bool) → ltb q 8 ≡ t → (q - 8 ≤ n - 8 → take (q - 8) (unpack (n - 8) xs) ≡ unpack (q - 8) xs) → take q (unpack n (x ∷ xs)) ≡ unpack q (x ∷ xs)
    go true e ih =
        let k : q < 8 = ltb-true q 8 e in
        let m : min 8 q ≡ q = omega arith in
        let z : q - 8 ≡ 0 = omega arith in
        let w = min 8 n in
        let y = x / 2 ^ (8 - w) in
        let l = bits_length w y in
        let v : w ≡ q + (w - q) = omega arith in
        let u : 8 - w + (w - q) ≡ 8 - q = omega arith in
        let f : take q (bits_of w y ++ unpack (n - 8) xs) ≡ take q (bits_of w y) = take-append-le q (bits_of w y) (unpack (n - 8) xs) (omega arith) in
        let g : take q (bits_of w y) ≡ bits_of q (y / 2 ^ (w - q)) =
        ap (λ (i : ℕ). take q (bits_of i y)) v ∙ ap (take q) (bits_split q (w - q) y) ∙ take_at (bits_of q (y / 2 ^ (w - q))) (bits_of (w - q) y) q (bits_length q (y / 2 ^ (w - q))) in
        let d : y / 2 ^ (w - q) ≡ x / 2 ^ (8 - q) = shr-shr x (8 - w) (w - q) ∙ ap (λ (i : ℕ). x / 2 ^ i) u in
        f ∙ g ∙ ap (bits_of q) d ∙ sym (rw (m, z, unpack_zero xs, append-nil (bits_of q (x / 2 ^ (8 - q)))))
    go false e ih =
        let k : 8 ≤ q = ltb-false q 8 e in
        let m : min 8 q ≡ 8 = omega arith in
        let w : min 8 n ≡ 8 = omega arith in
        let l = bits_length 8 (x / 2 ^ (8 - 8)) in
        let v : q ≡ length (bits_of 8 (x / 2 ^ (8 - 8))) + (q - 8) = omega arith in
        ap (λ (i : ℕ). take q (bits_of i (x / 2 ^ (8 - i)) ++ unpack (n - 8) xs)) w
        ∙ ap (λ (i : ℕ). take i (bits_of 8 (x / 2 ^ (8 - 8)) ++ unpack (n - 8) xs)) v
        ∙ take-append-add (bits_of 8 (x / 2 ^ (8 - 8))) (unpack (n - 8) xs) (q - 8)
        ∙ ap (λ (ys : List ℕ). bits_of 8 (x / 2 ^ (8 - 8)) ++ ys) (ih (omega arith))
        ∙ ap (λ (i : ℕ). bits_of i (x / 2 ^ (8 - i)) ++ unpack (q - 8) xs) (sym m)

same_front : (cs xs ys : List ℕ) → same (cs ++ xs) (cs ++ ys) ≡ same xs ys
unfolding same_by
same_front [] xs ys = refl
same_front (c ∷ cs) xs ys = rw (eq-eqb c c refl, same_by) (same_front cs xs ys)

same_differ : (cs ds xs ys : List ℕ) → length cs ≡ length ds → (cs ≡ ds → ⊥) → same (cs ++ xs) (ds ++ ys) ≡ false
same_differ cs ds xs ys l h = go (same (cs ++ xs) (ds ++ ys)) refl
  where
    go : (b : Bool) → same (cs ++ xs) (ds ++ ys) ≡ b → same (cs ++ xs) (ds ++ ys) ≡ false
    go true e = absurd (h (sym (take_at cs xs (length cs) refl) ∙ ap (take (length cs)) (same_eq (cs ++ xs) (ds ++ ys) e) ∙ take_at ds ys (length cs) (sym l)))
    go false e = e

-- equal bits, equal numbers
bits_equal : (m x y : ℕ) → bits_of m x ≡ bits_of m y → x % 2 ^ m ≡ y % 2 ^ m
unfolding bits_of
bits_equal zero x y e = omega arith
bits_equal (suc m) x y e =
    let h : x / 2 ^ m % 2 ≡ y / 2 ^ m % 2 = head-eq_of_cons-eq e in
    let t : x % 2 ^ m ≡ y % 2 ^ m = bits_equal m x y (tail-eq_of_cons-eq e) in
    let s : suc m ≡ 1 + m = omega arith in
    rw (s, mod-pow-add x 1 m, mod-pow-add y 1 m, t) (ap (λ (i : ℕ). i * 2 ^ m + y % 2 ^ m) h)

bits_differ : (m x y : ℕ) → x < 2 ^ m → y < 2 ^ m → (x ≡ y → ⊥) → bits_of m x ≡ bits_of m y → ⊥
bits_differ m x y p q h e = h (sym (mod-eq_of_lt p) ∙ bits_equal m x y e ∙ mod-eq_of_lt q)

unpack_last : (n v : ℕ) (w : List ℕ) → n < 8 → unpack n (v ∷ w) ≡ bits_of n (v / 2 ^ (8 - n)) ++ []
unpack_last n v w h = unpack_top n v w h ∙ sym (append-nil (bits_of n (v / 2 ^ (8 - n))))

top_same : (n u v : ℕ) → n < 8 → u < 256 → v < 256 → eqb (u / 2 ^ (8 - n)) (v / 2 ^ (8 - n)) ≡ same (bits_of n (u / 2 ^ (8 - n)) ++ []) (bits_of n (v / 2 ^ (8 - n)) ++ [])
top_same n u v h s t = go (eqb (u / 2 ^ (8 - n)) (v / 2 ^ (8 - n))) refl
  where
    small : (w : ℕ) → w < 256 → w / 2 ^ (8 - n) < 2 ^ n
    small w l = let i : 8 ≡ n + (8 - n) = omega arith in let k : w < 2 ^ (n + (8 - n)) = rw (← i) (omega arith) in shr_lt n (8 - n) k

    go : (c : Bool) → eqb (u / 2 ^ (8 - n)) (v / 2 ^ (8 - n)) ≡ c → eqb (u / 2 ^ (8 - n)) (v / 2 ^ (8 - n)) ≡ same (bits_of n (u / 2 ^ (8 - n)) ++ []) (bits_of n (v / 2 ^ (8 - n)) ++ [])
    go true e = e ∙ sym (ap (λ (i : ℕ). same (bits_of n i ++ []) (bits_of n (v / 2 ^ (8 - n)) ++ [])) (eqb-true (u / 2 ^ (8 - n)) (v / 2 ^ (8 - n)) e)
        ∙ same_refl (bits_of n (v / 2 ^ (8 - n)) ++ []))
    go false e = e ∙ sym (same_differ (bits_of n (u / 2 ^ (8 - n))) (bits_of n (v / 2 ^ (8 - n))) [] [] (bits_length n (u / 2 ^ (8 - n)) ∙ sym (bits_length n (v / 2 ^ (8 - n))))
        (bits_differ n (u / 2 ^ (8 - n)) (v / 2 ^ (8 - n)) (small u s) (small v t) (eqb-false (u / 2 ^ (8 - n)) (v / 2 ^ (8 - n)) e)))

none_same : (n : ℕ) (xs ys : List ℕ) → n ≡ 0 → same (unpack n xs) (unpack n ys) ≡ true
unfolding same_by
none_same n xs ys e = rw (e, unpack_zero xs, unpack_zero ys)

-- the bits of as many whole octets and r bits more: they are the same exactly when the octets are, and the bits after them
octets_alike : (w r : ℕ) (a b : List ℕ) → w ≤ length a → w ≤ length b → take w a ≡ take w b
    → same (unpack (8 * w + r) a) (unpack (8 * w + r) b) ≡ same (unpack r (drop w a)) (unpack r (drop w b))
octets_alike zero r a b h k e = let z : 8 * 0 + r ≡ r = omega arith in rw z
octets_alike (suc w) r [] b h k e = let z : ⊥ = omega arith in absurd z
octets_alike (suc w) r (x ∷ a) [] h k e = let z : ⊥ = omega arith in absurd z
octets_alike (suc w) r (x ∷ a) (y ∷ b) h k e =
    let n = 8 * suc w + r in
    let m : n - 8 ≡ 8 * w + r = omega arith in
    rw (unpack_octet n x a (omega arith), unpack_octet n y b (omega arith), head-eq_of_cons-eq e, m)
    (same_front (bits_of 8 y) (unpack (8 * w + r) a) (unpack (8 * w + r) b) ∙ octets_alike w r a b (omega arith) (omega arith) (tail-eq_of_cons-eq e))

octets_equal : (w r : ℕ) (a b : List ℕ) → Small a → Small b → w ≤ length a → w ≤ length b → unpack (8 * w + r) a ≡ unpack (8 * w + r) b → take w a ≡ take w b
octets_equal zero r a b s t h k e = refl
octets_equal (suc w) r [] b s t h k e = let z : ⊥ = omega arith in absurd z
octets_equal (suc w) r (x ∷ a) [] s t h k e = let z : ⊥ = omega arith in absurd z
octets_equal (suc w) r (x ∷ a) (y ∷ b) s t h k e =
    let n = 8 * suc w + r in
    let m : n - 8 ≡ 8 * w + r = omega arith in
    let f : bits_of 8 x ++ unpack (8 * w + r) a ≡ bits_of 8 y ++ unpack (8 * w + r) b = rw (unpack_octet n x a (omega arith), unpack_octet n y b (omega arith), m) at e in
    let front : bits_of 8 x ≡ bits_of 8 y =
    sym (take_at (bits_of 8 x) (unpack (8 * w + r) a) 8 (bits_length 8 x)) ∙ ap (take 8) f ∙ take_at (bits_of 8 y) (unpack (8 * w + r) b) 8 (bits_length 8 y) in
    let rest : unpack (8 * w + r) a ≡ unpack (8 * w + r) b =
    sym (drop_at (bits_of 8 x) (unpack (8 * w + r) a) 8 (bits_length 8 x)) ∙ ap (drop 8) f ∙ drop_at (bits_of 8 y) (unpack (8 * w + r) b) 8 (bits_length 8 y) in
    let same_head : x ≡ y = omega (arith, bits_equal 8 x y front, s 0, t 0) in
    cc (same_head, octets_equal w r a b (λ i. s (suc i)) (λ i. t (suc i)) (omega arith) (omega arith) rest)

-- n bits, as the whole octets of them and the bits left
module _ (n : ℕ) (a b : List ℕ) (p : (n + 7) / 8 ≤ length a) (q : (n + 7) / 8 ≤ length b) where
  abbrev w : ℕ
  w = n / 8

  abbrev left : ℕ
  left = n % 8

  parts : 8 * w + left ≡ n
  parts = omega arith

  alike : take w a ≡ take w b → same (unpack left (drop w a)) (unpack left (drop w b)) ≡ same (unpack n a) (unpack n b)
  alike e = rw parts at (sym (octets_alike w left a b (omega (arith, p)) (omega (arith, q)) e))

  pub bits_off : Small a → Small b → (take w a ≡ take w b → ⊥) → false ≡ same (unpack n a) (unpack n b)
  bits_off s t h = go (same (unpack n a) (unpack n b)) refl
    where
      go : (c : Bool) → same (unpack n a) (unpack n b) ≡ c → false ≡ same (unpack n a) (unpack n b)
      go true e = absurd (h (octets_equal w left a b s t (omega (arith, p)) (omega (arith, q)) (rw parts (same_eq (unpack n a) (unpack n b) e))))
      go false e = sym e

  pub bits_even : take w a ≡ take w b → left ≡ 0 → true ≡ same (unpack n a) (unpack n b)
  bits_even e z = sym (none_same left (drop w a) (drop w b) z) ∙ alike e

  -- the octets that have the bits left
  pub left_within : (left ≡ 0 → ⊥) → (w < length a) × (w < length b)
  left_within h = (omega (arith, p), omega (arith, q))

  abbrev u : ℕ
  u = get_or a w 0

  abbrev v : ℕ
  v = get_or b w 0

  pub bits_left : take w a ≡ take w b → (left ≡ 0 → ⊥) → u < 256 → v < 256 → eqb (u / 2 ^ (8 - left)) (v / 2 ^ (8 - left)) ≡ same (unpack n a) (unpack n b)
  bits_left e g s t =
      let l = left_within g in
      let h : left < 8 = omega arith in
      let d : unpack left (drop w a) ≡ bits_of left (u / 2 ^ (8 - left)) ++ [] = ap (unpack left) (drop-cons a w 0 l.0) ∙ unpack_last left u (drop (suc w) a) h in
      let f : unpack left (drop w b) ≡ bits_of left (v / 2 ^ (8 - left)) ++ [] = ap (unpack left) (drop-cons b w 0 l.1) ∙ unpack_last left v (drop (suc w) b) h in
      top_same left u v h s t ∙ sym (ap₂ same d f) ∙ alike e

-- what `!=` says of octets
pub unlike : (xs ys : List ℕ) (r : Bool) → r ≡ not (bytes_eq xs ys) → r ≡ true → xs ≡ ys → ⊥
unlike xs ys r e h s = let d = (bytes_eq-Decides xs ys).1 s in cc

pub not_unlike : (xs ys : List ℕ) (r : Bool) → r ≡ not (bytes_eq xs ys) → r ≡ false → xs ≡ ys
not_unlike xs ys r e h = go (bytes_eq xs ys) refl
  where
    go : (b : Bool) → bytes_eq xs ys ≡ b → xs ≡ ys
    go true d = (bytes_eq-Decides xs ys).0 d
    go false d = let z : ◌≡◌ {A = Bool} true false = sym (e ∙ ap not d) ∙ h in cc
