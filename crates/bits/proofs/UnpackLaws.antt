-- Laws of unpacking octet by octet, and of what packing gives.
use Prim.Native.Nat.{ℕ, suc, ◌+◌, ◌-◌, ◌*◌, ◌/◌, ◌^◌, ◌≤◌, ◌<◌, min}
use mathlib.Core.Path.{◌≡◌, refl, ap, ◌∙◌, sym}
use mathlib.Core.Bool.{Bool, true, false}
use mathlib.Core.List.{List, [], ◌∷◌, ◌++◌, append-nil, append_assoc}
use lib.Dec.{eqb, ltb}
use lib.ListN.{length, take, drop}
use lib.Seq.{take-nil, take_at, drop_at, take-append-add, drop-append-add}
use lib.Pow.{shl_lt}
use native.Mathlib.Omega.{arith}
use native.Mathlib.Nat.{pow-suc}
use borrow.Author.Tests.{ltb-true, ltb-false, eqb-true, eqb-false}
use native.Mathlib.Numerals.{add-one}
use Rattle.octets.specs.Octets.{Small}
use Rattle.bits.specs.Bits.{bits_of, unpack, pack_from, pack}
use Rattle.bits.specs.Packing.{Bits}
use Rattle.bits.proofs.BitLaws.{bits_length, bits_split, unpack_zero, unpack_octet}
use Rattle.octets.proofs.SmallLaws.{small_cons}

-- fewer bits than an octet has
pub unpack_top : (n x : ℕ) (xs : List ℕ) → n < 8 → unpack n (x ∷ xs) ≡ bits_of n (x / 2 ^ (8 - n))
unfolding unpack
unpack_top n x xs h =
    let m : min 8 n ≡ n = omega arith in
    let z : n - 8 ≡ 0 = omega arith in
    rw (m, z, unpack_zero xs) (append-nil (bits_of n (x / 2 ^ (8 - n))))

-- the first n bits of an octet, and the rest
module _ (n x : ℕ) (rest : List ℕ) (h : n ≤ 8) where
  octet_split : bits_of 8 x ++ rest ≡ bits_of n (x / 2 ^ (8 - n)) ++ (bits_of (8 - n) x ++ rest)
  octet_split =
      let e : 8 ≡ n + (8 - n) = omega arith in
      ap (λ (m : ℕ). bits_of m x ++ rest) e ∙ rw (bits_split n (8 - n) x) (append_assoc (bits_of n (x / 2 ^ (8 - n))) (bits_of (8 - n) x) rest)

  pub octet_take : take n (bits_of 8 x ++ rest) ≡ bits_of n (x / 2 ^ (8 - n))
  octet_take = rw octet_split (take_at (bits_of n (x / 2 ^ (8 - n))) (bits_of (8 - n) x ++ rest) n (bits_length n (x / 2 ^ (8 - n))))

  pub octet_drop : drop n (bits_of 8 x ++ rest) ≡ bits_of (8 - n) x ++ rest
  octet_drop = rw octet_split (drop_at (bits_of n (x / 2 ^ (8 - n))) (bits_of (8 - n) x ++ rest) n (bits_length n (x / 2 ^ (8 - n))))

pub past_octet : (n x : ℕ) (rest : List ℕ) → take (8 + n) (bits_of 8 x ++ rest) ≡ bits_of 8 x ++ take n rest
unfolding bits_of
past_octet n x rest = take-append-add (bits_of 8 x) rest n

pub beyond_octet : (n x : ℕ) (rest : List ℕ) → drop (8 + n) (bits_of 8 x ++ rest) ≡ drop n rest
unfolding bits_of
beyond_octet n x rest = drop-append-add (bits_of 8 x) rest n

-- the first n bits are the first n of all of them
pub unpack_all : (n : ℕ) (xs : List ℕ) → unpack n xs ≡ take n (unpack (length xs * 8) xs)
unfolding unpack
unpack_all n [] = sym (take-nil n)
unpack_all n (x ∷ xs) = go (ltb n 8) refl (λ m. unpack_all m xs)
  where
    all : unpack (suc (length xs) * 8) (x ∷ xs) ≡ bits_of 8 x ++ unpack (length xs * 8) xs
    all =
        let e : suc (length xs) * 8 ≡ 8 + length xs * 8 = omega arith in
        let e' : 8 + length xs * 8 - 8 ≡ length xs * 8 = omega arith in
        ap (λ (m : ℕ). unpack m (x ∷ xs)) e ∙ unpack_octet (8 + length xs * 8) x xs (omega arith) ∙ ap (λ (m : ℕ). bits_of 8 x ++ unpack m xs) e'

    go : (t : Bool) → ltb n 8 ≡ t → ((m : ℕ) → unpack m xs ≡ take m (unpack (length xs * 8) xs)) → unpack n (x ∷ xs) ≡ take n (unpack (suc (length xs) * 8) (x ∷ xs))
    go true e ih =
        let k : n < 8 = ltb-true n 8 e in
        unpack_top n x xs k ∙ sym (ap (take n) all ∙ octet_take n x (unpack (length xs * 8) xs) (omega arith))
    go false e ih =
        let k : 8 ≤ n = ltb-false n 8 e in
        let f : n ≡ 8 + (n - 8) = omega arith in
        unpack_octet n x xs k ∙ ap (λ (ys : List ℕ). bits_of 8 x ++ ys) (ih (n - 8))
        ∙ sym (ap (take n) all ∙ ap (λ (m : ℕ). take m (bits_of 8 x ++ unpack (length xs * 8) xs)) f ∙ past_octet (n - 8) x (unpack (length xs * 8) xs))

-- packed bits are octets
pack_from_small : (h v : ℕ) (bs : List ℕ) → Bits bs → h < 8 → v < 2 ^ h → Small (pack_from h v bs)
unfolding pack_from
pack_from_small h v [] b k l = go (eqb h 0) refl
  where
    go : (t : Bool) → eqb h 0 ≡ t → Small (pack_from h v [])
    go true e = rw (pack_from, e) (λ i. omega arith)
    go false e =
        let w : h + (8 - h) ≡ 8 = omega arith in
        let q : v * 2 ^ (8 - h) < 2 ^ 8 = rw w at (shl_lt h (8 - h) l) in
        rw (pack_from, e) (small_cons (v * 2 ^ (8 - h)) [] q (λ i. omega arith))
pack_from_small h v (x ∷ bs) b k l = go (eqb h 7) refl (pack_from_small 0 0 bs (λ i. b (suc i)) (omega arith) (omega arith)) (λ p q. pack_from_small (h + 1) (v * 2 + x) bs (λ i. b (suc i)) p q)
  where
    go : (t : Bool) → eqb h 7 ≡ t → Small (pack_from 0 0 bs) → (h + 1 < 8 → v * 2 + x < 2 ^ (h + 1) → Small (pack_from (h + 1) (v * 2 + x) bs)) → Small (pack_from h v (x ∷ bs))
    go true e s f =
        let z = eqb-true h 7 e in
        let q : v < 2 ^ 7 = rw z at l in
        rw (pack_from, e) (small_cons (v * 2 + x) (pack_from 0 0 bs) (omega (arith, b 0)) s)
    go false e s f =
        let z : h ≡ 7 → ⊥ = eqb-false h 7 e in
        rw (pack_from, e) (f (omega (arith, z)) (rw (add-one h, pow-suc 2 h) (omega (arith, b 0))))

pub pack_small : (bs : List ℕ) → Bits bs → Small (pack bs)
unfolding pack
pack_small bs b = pack_from_small 0 0 bs b (omega arith) (omega arith)
