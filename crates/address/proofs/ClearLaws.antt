-- Laws of clear bits.
use Prim.Native.Nat.{ℕ, zero, suc, ◌+◌, ◌-◌, ◌*◌, ◌/◌, ◌%◌, ◌^◌, ◌≤◌, ◌<◌, min}
use mathlib.Core.Path.{◌≡◌, refl, ap, ◌∙◌, sym}
use mathlib.Core.Bool.{Bool, true, false, ◌&&◌, and_assoc}
use mathlib.Core.List.{List, [], ◌∷◌, ◌++◌}
use lib.Dec.{eqb, ltb}
use lib.ListN.{length, get_or, take, drop}
use lib.Seq.{get_or-take, take-take}
use lib.Pow.{pow_pos, mod-pow-add, shr_mod}
use native.Mathlib.Omega.{arith}
use native.Mathlib.Nat.{mod-one, zero-mod, zero-div}
use borrow.Author.Tests.{eqb-true, eqb-false, eq-eqb, ne_eqb, ltb-true, ltb-false}
use Rattle.std.specs.List.{list_all}
use Rattle.octets.specs.Octets.{blank, same_by, Small}
use Rattle.octets.specs.Zeros.{is_blank}
use Rattle.bits.specs.Bits.{bits_of, unpack}
use Rattle.octets.proofs.ZeroLaws.{blank_eq, blank_cons}
use Rattle.bits.proofs.BitLaws.{unpack_zero}
use Rattle.address.specs.Address.{bits, bit_at, join_of, clear_to}
use Rattle.octets.proofs.SmallLaws.{get_or_blank}
use Rattle.octets.proofs.BoolLaws.{and_true}
use Rattle.bits.proofs.UnpackLaws.{unpack_all}
use Rattle.address.proofs.AddressLaws.{join_length, join_bit_high, bit_ext, join_small, join_bit_low}
use Rattle.octets.proofs.OctetLaws.{length_blank}

-- nothing but zeros, bit by bit
zero_at : (bs : List ℕ) → is_blank bs ≡ true → (i : ℕ) → get_or bs i 0 ≡ 0
zero_at bs h i = ap (λ (l : List ℕ). get_or l i 0) (blank_eq bs h) ∙ get_or_blank (length bs) i

zero_take : (n : ℕ) (bs : List ℕ) → ((i : ℕ) → i < n → get_or bs i 0 ≡ 0) → is_blank (take n bs) ≡ true
unfolding is_blank same_by blank
zero_take zero bs h = refl
zero_take (suc n) [] h = refl
zero_take (suc n) (b ∷ bs) h = rw (blank_cons b (take n bs), eq-eqb b 0 (h 0 (omega arith))) (zero_take n bs (λ i p. h (suc i) (omega arith)))

-- the first n bits of octets, and of an address
unpack_less : (m n : ℕ) (a : List ℕ) → m ≤ n → unpack m a ≡ take m (unpack n a)
unpack_less m n a h = unpack_all m a ∙ sym (ap (take m) (unpack_all n a) ∙ take-take m n (unpack (length a * 8) a) h)

unpack_address : (n : ℕ) (a : List ℕ) → length a ≡ 16 → unpack n a ≡ take n (bits a)
unfolding bits
unpack_address n a e = unpack_all n a ∙ ap (λ (k : ℕ). take n (unpack (k * 8) a)) e

pub clear_bits : (n : ℕ) (a : List ℕ) → n ≤ 128 → clear_to n a ≡ true → (i : ℕ) → i < n → bit_at a i ≡ 0
unfolding bit_at clear_to bits unpack
clear_bits n a h c i p = sym (get_or-take n (bits a) i 0 p) ∙ ap (λ (bs : List ℕ). get_or bs i 0) (sym (unpack_less n 128 a h)) ∙ zero_at (unpack n a) c i

pub clear_zero : (a : List ℕ) → clear_to 0 a ≡ true
unfolding clear_to is_blank same_by blank
clear_zero a = ap is_blank (unpack_zero a)

-- the bits above the place of a join are those of its first address
pub clear_join : (h l : List ℕ) (n at : ℕ) → length h ≡ 16 → length l ≡ 16 → clear_to n h ≡ true → n ≤ at → clear_to n (join_of h l at) ≡ true
unfolding bit_at clear_to
clear_join h l n at e f c p =
    ap is_blank (unpack_address n (join_of h l at) (join_length h l at e f))
    ∙ zero_take n (bits (join_of h l at)) (λ i q. join_bit_high h l at e f i (omega arith) ∙ sym (get_or-take n (bits h) i 0 q) ∙ ap (λ (bs : List ℕ). get_or bs i 0) (sym (unpack_address n h e)) ∙ zero_at (unpack n h) c i)

-- one octet: its bits are zero exactly when their number is
zero_octet : (m v : ℕ) (rest : List ℕ) → is_blank (bits_of m v ++ rest) ≡ (eqb (v % 2 ^ m) 0 && is_blank rest)
unfolding bits_of
zero_octet zero v rest = rw (mod-one v)
zero_octet (suc m) v rest = go (eqb (v / 2 ^ m % 2) 0) refl (zero_octet m v rest)
  where
    parts : v % 2 ^ suc m ≡ (v / 2 ^ m % 2) * 2 ^ m + v % 2 ^ m
    parts = let e : 1 + m ≡ suc m = omega arith in rw (e) at (mod-pow-add v 1 m)

    go : (t : Bool) → eqb (v / 2 ^ m % 2) 0 ≡ t → is_blank (bits_of m v ++ rest) ≡ (eqb (v % 2 ^ m) 0 && is_blank rest)
        → is_blank (v / 2 ^ m % 2 ∷ (bits_of m v ++ rest)) ≡ (eqb (v % 2 ^ suc m) 0 && is_blank rest)
    go true e ih =
        let q : v % 2 ^ suc m ≡ 0 * 2 ^ m + v % 2 ^ m = rw (eqb-true (v / 2 ^ m % 2) 0 e) at parts in
        let r : v % 2 ^ suc m ≡ v % 2 ^ m = omega arith in
        rw (blank_cons (v / 2 ^ m % 2) (bits_of m v ++ rest), e, r) ih
    go false e ih =
        let b : v / 2 ^ m % 2 ≡ 1 = omega (arith, eqb-false (v / 2 ^ m % 2) 0 e) in
        let q : v % 2 ^ suc m ≡ 1 * 2 ^ m + v % 2 ^ m = rw b at parts in
        rw (blank_cons (v / 2 ^ m % 2) (bits_of m v ++ rest), e, ne_eqb (v % 2 ^ suc m) 0 (λ z. omega (arith, pow_pos m)))

clear_octet : (n x : ℕ) (xs : List ℕ) → clear_to n (x ∷ xs) ≡ (eqb (x / 2 ^ (8 - min 8 n) % 2 ^ min 8 n) 0 && clear_to (n - 8) xs)
unfolding clear_to unpack bits_of
clear_octet n x xs = zero_octet (min 8 n) (x / 2 ^ (8 - min 8 n)) (unpack (n - 8) xs)

clear_nought : (n : ℕ) (xs : List ℕ) → clear_to n (0 ∷ xs) ≡ clear_to (n - 8) xs
clear_nought n xs = rw (clear_octet n 0 xs, zero-div (2 ^ (8 - min 8 n)), zero-mod (2 ^ min 8 n))

-- zeros are clear, and an address that is clear throughout is zeros
pub clear_blank : (n m : ℕ) → clear_to n (blank m) ≡ true
unfolding blank clear_to is_blank same_by unpack
clear_blank n zero = refl
clear_blank n (suc m) = clear_nought n (blank m) ∙ clear_blank (n - 8) m

-- whole octets first: all of them are zero, and what is left of the n bits is clear
pub clear_split : (n k : ℕ) (a : List ℕ) → Small a → k ≤ n / 8 → clear_to n a ≡ (list_all (λ x. eqb x 0) (take k a) && clear_to (n - k * 8) (drop k a))
unfolding clear_to is_blank same_by blank unpack
clear_split n zero a s h = let z : n - 0 ≡ n = omega arith in rw z
clear_split n (suc k) [] s h = refl
clear_split n (suc k) (x ∷ xs) s h =
    let m : min 8 n ≡ 8 = omega arith in
    let y : x / 1 % 256 ≡ x = omega (arith, s 0) in
    let j : n - 8 - k * 8 ≡ n - suc k * 8 = omega arith in
    clear_octet n x xs ∙ rw (m, y, clear_split (n - 8) k xs (λ i. s (suc i)) (omega arith), j) (sym (and_assoc (eqb x 0) _ _))

-- the octet that is left, with what is left of the n bits
pub clear_part : (n x : ℕ) (xs : List ℕ) → n < 8 → x < 256 → clear_to n (x ∷ xs) ≡ eqb (x / 2 ^ (8 - n)) 0
clear_part n x xs h s =
    let m : min 8 n ≡ n = omega arith in
    let z : n - 8 ≡ 0 = omega arith in
    let w : n + (8 - n) ≡ 8 = omega arith in
    let t : x < 2 ^ (n + (8 - n)) = rw w (omega arith) in
    clear_octet n x xs ∙ rw (m, z, clear_zero xs, shr_mod n (8 - n) t) (and_true _)

pub clear_none : (n : ℕ) → clear_to n [] ≡ true
unfolding clear_to is_blank same_by blank unpack
clear_none n = refl

-- an address whose first bits are zero is the join of zeros and of itself
module _ (l : ℕ) (a : List ℕ) (low : l ≤ 128) (long : length a ≡ 16) (small : Small a) where
  pub join_clear : clear_to l a ≡ true → join_of (blank 16) a l ≡ a
  join_clear c =
      bit_ext (join_of (blank 16) a l) a (join_length (blank 16) a l (length_blank 16) long) long (join_small (blank 16) a l (length_blank 16) long) small (λ i p. go i p (ltb i l) refl)
    where
      go : (i : ℕ) → i < 128 → (t : Bool) → ltb i l ≡ t → bit_at (join_of (blank 16) a l) i ≡ bit_at a i
      go i p true e =
          join_bit_high (blank 16) a l (length_blank 16) long i (ltb-true i l e) ∙ clear_bits 128 (blank 16) (omega arith) (clear_blank 128 16) i p
          ∙ sym (clear_bits l a low c i (ltb-true i l e))
      go i p false e = join_bit_low (blank 16) a l (length_blank 16) long i (ltb-false i l e)
