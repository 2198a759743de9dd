-- Laws of bits from the middle of a label on.
use Prim.Native.Nat.{ℕ, zero, suc, ◌+◌, ◌-◌, ◌*◌, ◌/◌, ◌%◌, ◌^◌, ◌≤◌, ◌<◌, min}
use mathlib.Core.Path.{◌≡◌, ap, ◌∙◌, sym}
use mathlib.Core.List.{List, [], ◌∷◌, ◌++◌, append-nil, append_assoc}
use lib.ListN.{length, get_or, drop, length-drop}
use lib.Seq.{drop-nil, drop-append-add, drop_at, drop-cons}
use lib.Pow.{field, pow_pos, shr_lt}
use native.Mathlib.Nat.{mod-lt, zero-add}
use native.Mathlib.Omega.{arith}
use Rattle.bits.specs.Bits.{bits_of, unpack}
use Rattle.bits.specs.Packing.{Pushed}
use Rattle.bits.specs.declared.inside.Packer.{Packer}
use Rattle.bits.proofs.BitLaws.{bits_length, bits_split, unpack_zero, unpack_octet, unpack_length}
use Rattle.bits.proofs.PackLaws.{pushed_then}
use Rattle.bits.proofs.PackingLaws.{bits_mod}

-- whole octets are passed over
unpack_skip : (i s n : ℕ) (xs : List ℕ) → drop (8 * i + s) (unpack (8 * i + s + n) xs) ≡ drop s (unpack (s + n) (drop i xs))
unfolding unpack
unpack_skip zero s n xs =
    let a : 8 * 0 + s ≡ s = omega arith in
    rw a
unpack_skip (suc i) s n [] = drop-nil (8 * suc i + s) ∙ sym (drop-nil s)
unpack_skip (suc i) s n (x ∷ xs) =
    let b = bits_of 8 x in
    let l = bits_length 8 x in
    let k : 8 * suc i + s ≡ length b + (8 * i + s) = omega arith in
    let m : 8 * suc i + s + n - 8 ≡ 8 * i + s + n = omega arith in
    ap (drop (8 * suc i + s)) (unpack_octet (8 * suc i + s + n) x xs (omega arith))
    ∙ ap (λ (q : ℕ). drop (8 * suc i + s) (b ++ unpack q xs)) m
    ∙ ap (λ (q : ℕ). drop q (b ++ unpack (8 * i + s + n) xs)) k
    ∙ drop-append-add b (unpack (8 * i + s + n) xs) (8 * i + s)
    ∙ unpack_skip i s n xs

-- bits inside one octet
part_inside : (s n x : ℕ) (xs : List ℕ) → s + n ≤ 8 → drop s (unpack (s + n) (x ∷ xs)) ≡ bits_of n (x % 2 ^ (8 - s) / 2 ^ (8 - s - n))
unfolding unpack
part_inside s n x xs h =
    let m : min 8 (s + n) ≡ s + n = omega arith in
    let z : s + n - 8 ≡ 0 = omega arith in
    let k = 8 - s - n in
    let y = x / 2 ^ (8 - (s + n)) in
    let a : 8 - (s + n) ≡ k = omega arith in
    let b : 8 - s ≡ n + k = omega arith in
    let u : unpack (s + n) (x ∷ xs) ≡ bits_of (s + n) y ++ [] =
    ap (λ (i : ℕ). bits_of i (x / 2 ^ (8 - i)) ++ unpack (s + n - 8) xs) m ∙ ap (λ (i : ℕ). bits_of (s + n) y ++ unpack i xs) z ∙ ap (λ (ys : List ℕ). bits_of (s + n) y ++ ys) (unpack_zero xs) in
    let w : drop s (bits_of (s + n) y) ≡ bits_of n y = ap (drop s) (bits_split s n y) ∙ drop_at (bits_of s (y / 2 ^ n)) (bits_of n y) s (bits_length s (y / 2 ^ n)) in
    let g : x % 2 ^ (8 - s) / 2 ^ k ≡ x / 2 ^ k % 2 ^ n = ap (λ (i : ℕ). x % 2 ^ i / 2 ^ k) b ∙ field x n k in
    ap (drop s) (u ∙ append-nil (bits_of (s + n) y)) ∙ w ∙ ap (λ (i : ℕ). bits_of n (x / 2 ^ i)) a ∙ bits_mod n n (x / 2 ^ k) (omega arith) ∙ ap (bits_of n) (sym g)

-- the three ways to go on after `skip` bits
module _ (octets : List ℕ) (skip n : ℕ) where
  abbrev wanted : List ℕ
  wanted = drop skip (unpack (skip + n) octets)

  reach : wanted ≡ drop (skip % 8) (unpack (skip % 8 + n) (drop (skip / 8) octets))
  reach =
      let e : skip ≡ 8 * (skip / 8) + skip % 8 = omega arith in
      ap (λ (k : ℕ). drop k (unpack (k + n) octets)) e ∙ unpack_skip (skip / 8) (skip % 8) n octets

  skip_even : skip % 8 ≡ 0 → unpack n (drop (skip / 8) octets) ≡ wanted
  skip_even e = let z : 0 + n ≡ n = omega arith in sym (reach ∙ ap (λ (k : ℕ). drop k (unpack (k + n) (drop (skip / 8) octets))) e ∙ ap (λ (k : ℕ). unpack k (drop (skip / 8) octets)) z)

  skip_short : skip / 8 < length octets → skip % 8 + n ≤ 8 → bits_of n (get_or octets (skip / 8) 0 % 2 ^ (8 - skip % 8) / 2 ^ (8 - skip % 8 - n)) ≡ wanted
  skip_short h k =
      sym (reach ∙ ap (λ (ys : List ℕ). drop (skip % 8) (unpack (skip % 8 + n) ys)) (drop-cons octets (skip / 8) 0 h)
      ∙ part_inside (skip % 8) n (get_or octets (skip / 8) 0) (drop (suc (skip / 8)) octets) k)

  skip_long : skip / 8 < length octets → 8 < skip % 8 + n
      → bits_of (8 - skip % 8) (get_or octets (skip / 8) 0 % 2 ^ (8 - skip % 8)) ++ unpack (n - (8 - skip % 8)) (drop (skip / 8 + 1) octets) ≡ wanted
  skip_long h k =
      let s = skip % 8 in
      let i = skip / 8 in
      let v = get_or octets i 0 in
      let m = 8 - s in
      let w = drop (suc i) octets in
      let b : List ℕ = unpack (n - m) w in
      let e : 8 ≡ s + m = omega arith in
      let t : s + n - 8 ≡ n - m = omega arith in
      let g : i + 1 ≡ suc i = omega arith in
      let o : drop s (unpack (s + n) (v ∷ w)) ≡ bits_of m v ++ b =
      ap (drop s) (unpack_octet (s + n) v w (omega arith) ∙ ap (λ (q : ℕ). bits_of 8 v ++ unpack q w) t ∙ ap (λ (q : ℕ). bits_of q v ++ b) e
      ∙ ap (λ (ys : List ℕ). ys ++ b) (bits_split s m v) ∙ append_assoc (bits_of s (v / 2 ^ m)) (bits_of m v) b)
      ∙ drop_at (bits_of s (v / 2 ^ m)) (bits_of m v ++ b) s (bits_length s (v / 2 ^ m)) in
      let f : bits_of m (v % 2 ^ m) ≡ bits_of m v = sym (bits_mod m m v (omega arith)) in
      ap (λ (q : ℕ). bits_of m (v % 2 ^ m) ++ unpack (n - m) (drop q octets)) g ∙ ap (λ (ys : List ℕ). ys ++ b) f
      ∙ sym (reach ∙ ap (λ (ys : List ℕ). drop s (unpack (s + n) ys)) (drop-cons octets i 0 h) ∙ o)

  -- and what is packed by each of them; x is the rest of the octet that is cut
  module _ {old new : List ℕ} {p q : Packer} where
    pub even_pushed : skip % 8 ≡ 0 → Pushed old new p q (unpack n (drop (skip / 8) octets)) → Pushed old new p q wanted
    even_pushed e h = rw (← skip_even e) h

    pub short_pushed : (x : ℕ) → x ≡ get_or octets (skip / 8) 0 % 2 ^ (8 - skip % 8) → skip / 8 < length octets → skip % 8 + n ≤ 8
        → Pushed old new p q (bits_of n (x / 2 ^ (8 - skip % 8 - n))) → Pushed old new p q wanted
    short_pushed x e l k h = rw (← skip_short l k, ← e) h

    pub long_pushed : {mid : List ℕ} {r : Packer} (x : ℕ) → x ≡ get_or octets (skip / 8) 0 % 2 ^ (8 - skip % 8) → skip / 8 < length octets → 8 < skip % 8 + n
        → Pushed old mid p r (bits_of (8 - skip % 8) x) → Pushed mid new r q (unpack (n - (8 - skip % 8)) (drop (skip / 8 + 1) octets)) → Pushed old new p q wanted
    long_pushed {mid} {r} x e l k g h =
        rw (← skip_long l k, ← e) (pushed_then old mid new p r q (bits_of (8 - skip % 8) x) (unpack (n - (8 - skip % 8)) (drop (skip / 8 + 1) octets)) g h)

-- bits from the first on
pub skip_none : (old new : List ℕ) (p q : Packer) (n : ℕ) (xs : List ℕ) → Pushed old new p q (drop 0 (unpack (0 + n) xs)) → Pushed old new p q (unpack n xs)
skip_none old new p q n xs h = rw (zero-add n) at h

pub field_small : (v m n : ℕ) → n ≤ m → v % 2 ^ m / 2 ^ (m - n) < 2 ^ n
field_small v m n h =
    let e : m ≡ n + (m - n) = omega arith in
    let l : v % 2 ^ m < 2 ^ (n + (m - n)) = rw (← e) (mod-lt v (pow_pos m)) in
    shr_lt n (m - n) l

-- as many bits as are kept
pub kept_length : (name : List ℕ) (a skip n : ℕ) → a + (skip + n + 7) / 8 ≤ length name → length (drop skip (unpack (skip + n) (drop a name))) ≡ n
kept_length name a skip n h =
    let d = length-drop a name in
    let u = unpack_length (skip + n) (drop a name) (omega arith) in
    let l = length-drop skip (unpack (skip + n) (drop a name)) in
    omega arith
