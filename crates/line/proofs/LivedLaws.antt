-- The TTL and the type of a line, after an owner that ends at a place.
use Prim.Native.Nat.{ℕ, ◌+◌}
use mathlib.Core.Path.{◌≡◌, refl, ap, sym, ◌∙◌}
use mathlib.Core.Bool.{Bool, true, false, not, ◌&&◌}
use mathlib.Core.List.{List, [], ◌∷◌}
use mathlib.Core.Logic.{◌⊎◌, inl, inr}
use Rattle.std.specs.Prelude.{Ok}
use lib.ListN.{length}
use native.Mathlib.Omega.{arith}
use Rattle.octets.specs.Octets.{same}
use Rattle.octets.proofs.SameLaws.{same_eq}
use Rattle.chains.specs.Graph.{max_ttl}
use lib.Dec.{ltb, eqb}
use Rattle.octets.specs.Answers.{earns}
use Rattle.text.specs.Decimal.{digit_count, decimal_of, is_decimal}
use Rattle.text.proofs.Computing.{text_compute}
use Rattle.line.specs.Writing.{a6_word}
use Rattle.line.specs.Reading.{decimal_number, type_number}
use Rattle.line.specs.Walk.{word_at, word_end, passed, next, ttl_word, type_place, lived_number, worse}
use Rattle.line.specs.Walked.{value_by, WordAt}
use Rattle.line.specs.declared.reading.Word.{Word}
use Rattle.line.proofs.ValueLaws.{value_done}
use Rattle.line.proofs.OrderLaws.{decimal_known, type_known}
use Rattle.line.proofs.WorseLaws.{worse_20, 20_worse, worse_none}
use Rattle.line.proofs.WalkedLaws.{word_length}

-- a decimal earns 0, 20 or 21, and a type 0 or 20
pub decimal_ranges : (bound : ℕ) (w : List ℕ) → (decimal_number bound w ≡ 0) ⊎ ((decimal_number bound w ≡ 20) ⊎ (decimal_number bound w ≡ 21))
unfolding decimal_number
decimal_ranges bound w = go (not (is_decimal w && eqb (digit_count w) (length w))) (ltb bound (decimal_of w))
  where
    go : (a b : Bool) → (earns a 20 (earns b 21 0) ≡ 0) ⊎ ((earns a 20 (earns b 21 0) ≡ 20) ⊎ (earns a 20 (earns b 21 0) ≡ 21))
    go true b = inr (inl refl)
    go false true = inr (inr refl)
    go false false = inl refl

type_forms : (w : List ℕ) → (type_number w ≡ 0) ⊎ (type_number w ≡ 20)
unfolding type_number
type_forms w = go (not (same w a6_word))
  where
    go : (a : Bool) → (earns a 20 0 ≡ 0) ⊎ (earns a 20 0 ≡ 20)
    go true = inr refl
    go false = inl refl

elim_worse : (a b : ℕ) → (a ≡ 0) ⊎ ((a ≡ 20) ⊎ (a ≡ 21)) → (b ≡ 0) ⊎ (b ≡ 20) → (worse a b ≡ 20 → ⊥) → (worse a b ≡ 0 → ⊥) → worse a b ≡ 21
unfolding worse
elim_worse a b h k p q = go h k
  where
    go : (a ≡ 0) ⊎ ((a ≡ 20) ⊎ (a ≡ 21)) → (b ≡ 0) ⊎ (b ≡ 20) → worse a b ≡ 21
    go (inl x) (inl y) = absurd (q (rw (x, y)))
    go (inl x) (inr y) = absurd (p (rw (x, y)))
    go (inr (inl x)) (inl y) = absurd (p (rw (x, y)))
    go (inr (inl x)) (inr y) = absurd (p (rw (x, y)))
    go (inr (inr x)) (inl y) = rw (x, y)
    go (inr (inr x)) (inr y) = absurd (p (rw (x, y)))

three_hundred : decimal_number max_ttl (51 ∷ 48 ∷ 48 ∷ []) ≡ 0
unfolding text_compute decimal_number
three_hundred = refl

-- the word A6 ends two places on
pub type_end : (s : List ℕ) (at : ℕ) → same (word_at s at) a6_word ≡ true → word_end s at ≡ at + 2
unfolding word_end
type_end s at h = let w : length (word_at s at) ≡ 2 = ap length (same_eq (word_at s at) a6_word h) in let n = word_length s at in omega arith

type_is : (w : List ℕ) → same w a6_word ≡ true → type_number w ≡ 0
unfolding type_number
type_is w h = rw h

type_not : (w : List ℕ) → same w a6_word ≡ false → type_number w ≡ 20
unfolding type_number
type_not w h = rw h

-- what comes after a word
pub passed_end : (s : List ℕ) (at p : ℕ) → p ≡ word_end s at → passed s p ≡ next s at
unfolding next
passed_end s at p h = ap (passed s) h

module _ (s : List ℕ) (e : ℕ) where
  -- a line that leaves the TTL out
  pub lived_typed : (w : Word ℕ) → same (word_at s (passed s e)) a6_word ≡ true → w.value ≡ Ok 300 → w.next ≡ passed s e + 2
      → WordAt (lived_number s e) (decimal_of (ttl_word s e)) (word_end s (type_place s e)) (Ok w)
  unfolding ttl_word type_place text_compute
  lived_typed w h t p =
      let n : lived_number s e ≡ 0 = rw (ttl_word, type_place, h, three_hundred, type_is (word_at s (passed s e)) h) (worse_none 0 (inl refl)) in
      let v : decimal_of (ttl_word s e) ≡ 300 = rw (ttl_word, h) in
      (λ z. omega arith, t ∙ value_done 0 300 refl ∙ (λ i. value_by (sym n i) (sym v i)), p ∙ sym (rw (type_place, h) (type_end s (passed s e) h)))

  -- a TTL that is none, and a type that is none
  pub lived_unformed : same (word_at s (passed s e)) a6_word ≡ false → decimal_number max_ttl (word_at s (passed s e)) ≡ 20 → lived_number s e ≡ 20
  unfolding ttl_word
  lived_unformed h d = rw (ttl_word, h, d) (worse_20 (type_number (word_at s (type_place s e))) (type_known (word_at s (type_place s e))))

  pub lived_untyped : same (word_at s (passed s e)) a6_word ≡ false → same (word_at s (next s (passed s e))) a6_word ≡ false → lived_number s e ≡ 20
  unfolding type_place
  lived_untyped h d = rw (type_place, h, type_not (word_at s (next s (passed s e))) d) (20_worse (decimal_number max_ttl (ttl_word s e)) (decimal_known max_ttl (ttl_word s e)))

  -- both there
  pub lived_both : (w : Word ℕ) → same (word_at s (passed s e)) a6_word ≡ false → same (word_at s (next s (passed s e))) a6_word ≡ true
      → (decimal_number max_ttl (word_at s (passed s e)) ≡ 20 → ⊥) → w.value ≡ value_by (decimal_number max_ttl (word_at s (passed s e))) (decimal_of (word_at s (passed s e))) → w.next ≡ next s (passed s e) + 2
      → WordAt (lived_number s e) (decimal_of (ttl_word s e)) (word_end s (type_place s e)) (Ok w)
  unfolding ttl_word type_place
  lived_both w h g f t p =
      let n : lived_number s e ≡ decimal_number max_ttl (word_at s (passed s e)) =
      rw (ttl_word, type_place, h, type_is (word_at s (next s (passed s e))) g) (worse_none (decimal_number max_ttl (word_at s (passed s e))) (decimal_known max_ttl (word_at s (passed s e)))) in
      let v : decimal_of (ttl_word s e) ≡ decimal_of (word_at s (passed s e)) = rw (ttl_word, h) in
      (λ z. f (sym n ∙ z), t ∙ (λ i. value_by (sym n i) (sym v i)), p ∙ sym (rw (type_place, h) (type_end s (next s (passed s e)) g)))

  -- what they earn where they have their form: 0, or 21 for a TTL over its bound
  pub lived_ranged : (lived_number s e ≡ 20 → ⊥) → (lived_number s e ≡ 0 → ⊥) → lived_number s e ≡ 21
  lived_ranged h k = elim_worse (decimal_number max_ttl (ttl_word s e)) (type_number (word_at s (type_place s e))) (decimal_ranges max_ttl (ttl_word s e)) (type_forms (word_at s (type_place s e))) h k
