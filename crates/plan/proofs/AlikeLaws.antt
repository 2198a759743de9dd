-- Laws of slots that are alike: eight octets at a time tell their first 32, and they hold the same name.
use Prim.Native.Nat.{ℕ, ◌+◌, ◌/◌, ◌%◌, ◌≤◌, ◌<◌}
use mathlib.Core.Path.{◌≡◌, refl, ap, ◌∙◌, sym}
use mathlib.Core.Bool.{Bool, true, false}
use mathlib.Core.List.{List, [], ◌∷◌}
use lib.Dec.{ltb}
use lib.ListN.{length, get_or, take}
use lib.Seq.{take-take, take-suc, get_or-take}
use native.Mathlib.Numerals.{add-one}
use native.Mathlib.Omega.{arith}
use borrow.Author.Tests.{ltb-true}
use Rattle.octets.specs.Octets.{same, Small}
use Rattle.octets.proofs.SameLaws.{same_eq, same_refl}
use Rattle.names.specs.Standard.{key_of, same_name}
use Rattle.names.proofs.StandardLaws.{same_same_name}
use Rattle.plan.specs.Layout.{slot_size, name_in}
use Rattle.plan.specs.Marks.{word_at, pair_at, alike_of}

-- ---- numbers of four and of eight octets
module _ (s : List ℕ) (m : Small s) (i : ℕ) where
  -- the octets of a word
  word_first : get_or s i 0 ≡ word_at s i % 256
  unfolding word_at
  word_first = omega (arith, m i)

  word_second : get_or s (i + 1) 0 ≡ word_at s i / 256 % 256
  unfolding word_at
  word_second = omega (arith, m i, m (i + 1))

  word_third : get_or s (i + 2) 0 ≡ word_at s i / 65536 % 256
  unfolding word_at
  word_third = omega (arith, m i, m (i + 1), m (i + 2))

  word_fourth : get_or s (i + 3) 0 ≡ word_at s i / 16777216
  unfolding word_at
  word_fourth = omega (arith, m i, m (i + 1), m (i + 2))

  word_small : word_at s i < 4294967296
  unfolding word_at
  word_small = omega (arith, m i, m (i + 1), m (i + 2), m (i + 3))

  -- the words of a pair
  pair_low : word_at s i ≡ pair_at s i % 4294967296
  unfolding pair_at
  pair_low = omega (arith, word_small)

  pair_high : word_at s (i + 4) ≡ pair_at s i / 4294967296
  unfolding pair_at
  pair_high = omega (arith, word_small)

-- ---- fronts of two lists that grow
module _ (a b : List ℕ) where
  front_one : (k k' : ℕ) → k' ≡ k + 1 → k' ≤ length a → k' ≤ length b → take k a ≡ take k b → get_or a k 0 ≡ get_or b k 0 → take k' a ≡ take k' b
  front_one k k' z p q h e = rw (z, add-one k, take-suc a k 0 (omega arith), take-suc b k 0 (omega arith), h, e)

  module _ (m : Small a) (n : Small b) where
    front_word : (k k' : ℕ) → k' ≡ k + 4 → k' ≤ length a → k' ≤ length b → take k a ≡ take k b → word_at a k ≡ word_at b k → take k' a ≡ take k' b
    front_word k k' z p q h e =
        let h1 = front_one k (k + 1) refl (omega arith) (omega arith) h (word_first a m k ∙ ap (λ (w : ℕ). w % 256) e ∙ sym (word_first b n k)) in
        let h2 = front_one (k + 1) (k + 2) (omega arith) (omega arith) (omega arith) h1 (word_second a m k ∙ ap (λ (w : ℕ). w / 256 % 256) e ∙ sym (word_second b n k)) in
        let h3 = front_one (k + 2) (k + 3) (omega arith) (omega arith) (omega arith) h2 (word_third a m k ∙ ap (λ (w : ℕ). w / 65536 % 256) e ∙ sym (word_third b n k)) in
        front_one (k + 3) k' (omega arith) (omega arith) (omega arith) h3 (word_fourth a m k ∙ ap (λ (w : ℕ). w / 16777216) e ∙ sym (word_fourth b n k))

    front_pair : (k : ℕ) → k + 8 ≤ length a → k + 8 ≤ length b → take k a ≡ take k b → pair_at a k ≡ pair_at b k → take (k + 8) a ≡ take (k + 8) b
    front_pair k p q h e =
        let h4 = front_word k (k + 4) refl (omega arith) (omega arith) h (pair_low a m k ∙ ap (λ (w : ℕ). w % 4294967296) e ∙ sym (pair_low b n k)) in
        front_word (k + 4) (k + 8) (omega arith) (omega arith) (omega arith) h4 (pair_high a m k ∙ ap (λ (w : ℕ). w / 4294967296) e ∙ sym (pair_high b n k))

-- the octets of a pair in the first 32
pair_front : (s : List ℕ) (i : ℕ) → i + 8 ≤ 32 → pair_at (take 32 s) i ≡ pair_at s i
unfolding pair_at word_at
pair_front s i h =
    let f : (k : ℕ) → k < 32 → get_or (take 32 s) k 0 ≡ get_or s k 0 = λ k l. get_or-take 32 s k 0 l in
    rw (f i (omega arith), f (i + 1) (omega arith), f (i + 2) (omega arith), f (i + 3) (omega arith), f (i + 4) (omega arith), f (i + 4 + 1) (omega arith), f (i + 4 + 2) (omega arith), f (i + 4 + 3) (omega arith))

-- a name that ends in the first 32 octets is that of those
name_front : (s : List ℕ) → get_or s 0 0 < 32 → name_in s ≡ name_in (take 32 s)
unfolding name_in
name_front [] h = refl
name_front (x ∷ s) h = sym (take-take x 31 s (omega arith))

-- ---- two slots
module _ (a b : List ℕ) where
  -- eight octets that differ
  pub alike_off : (i x y : ℕ) → i + 8 ≤ 32 → x ≡ pair_at a i → y ≡ pair_at b i → (x ≡ y → ⊥) → alike_of a b ≡ false
  unfolding alike_of
  alike_off i x y h p q u = go (same (take 32 a) (take 32 b)) refl
    where
      go : (t : Bool) → same (take 32 a) (take 32 b) ≡ t → alike_of a b ≡ false
      go true e = absurd (u (p ∙ sym (pair_front a i h) ∙ ap (λ (s : List ℕ). pair_at s i) (same_eq (take 32 a) (take 32 b) e) ∙ pair_front b i h ∙ sym q))
      go false e = rw e

  -- the first 32 octets agree: the length tells
  pub alike_on : length a ≡ slot_size → length b ≡ slot_size → Small a → Small b
      → pair_at a 0 ≡ pair_at b 0 → pair_at a 8 ≡ pair_at b 8 → pair_at a 16 ≡ pair_at b 16 → pair_at a 24 ≡ pair_at b 24 → alike_of a b ≡ ltb (get_or a 0 0) 32
  unfolding alike_of
  alike_on p q m n e0 e1 e2 e3 =
      let f = front_pair a b m n in
      let h = f 24 (omega arith) (omega arith) (f 16 (omega arith) (omega arith) (f 8 (omega arith) (omega arith) (f 0 (omega arith) (omega arith) refl e0) e1) e2) e3 in
      rw (h, same_refl (take 32 b))

  -- slots that are alike hold the same name
  alike_name : alike_of a b ≡ true → name_in a ≡ name_in b
  unfolding alike_of
  alike_name h = go (same (take 32 a) (take 32 b)) refl
    where
      go : (t : Bool) → same (take 32 a) (take 32 b) ≡ t → name_in a ≡ name_in b
      go true e =
          let k : ltb (get_or a 0 0) 32 ≡ true = rw e at h in
          let f = same_eq (take 32 a) (take 32 b) e in
          let l : get_or a 0 0 < 32 = ltb-true (get_or a 0 0) 32 k in
          let z : get_or a 0 0 ≡ get_or b 0 0 = sym (get_or-take 32 a 0 0 (omega arith)) ∙ ap (λ (s : List ℕ). get_or s 0 0) f ∙ get_or-take 32 b 0 0 (omega arith) in
          name_front a l ∙ ap name_in f ∙ sym (name_front b (omega arith))
      go false e = let k : false ≡ true = rw e at h in let z : ◌≡◌ {A = ℕ} 0 1 = cc in let y : ⊥ = omega arith in absurd y

  -- Theorem: slots that are alike hold the same name
  pub alike_same : alike_of a b ≡ true → same_name (name_in a) (name_in b) ≡ true
  alike_same h = same_same_name (name_in a) (name_in b) (ap key_of (alike_name h))
