-- How many octets at the start of text pass a test, and from a place on.
use Prim.Native.Nat.{ℕ, zero, suc, ◌+◌, ◌≤◌, ◌<◌}
use mathlib.Core.Path.{◌≡◌, refl, ap, sym, ◌∙◌}
use mathlib.Core.Bool.{Bool, true, false}
use mathlib.Core.List.{List, [], ◌∷◌}
use lib.ListN.{length, get_or, take, drop}
use native.Mathlib.Omega.{arith}
use native.Mathlib.Nat.{zero-add}
use Rattle.text.specs.Digits.{leading}
use Rattle.text.proofs.PlaceLaws.{past, from_place}

pub leading_more : (t : ℕ → Bool) (x : ℕ) (xs : List ℕ) → t x ≡ true → leading t (x ∷ xs) ≡ suc (leading t xs)
unfolding leading
leading_more t x xs h = rw (leading, h)

pub leading_stop : (t : ℕ → Bool) (x : ℕ) (xs : List ℕ) → t x ≡ false → leading t (x ∷ xs) ≡ 0
unfolding leading
leading_stop t x xs h = rw (leading, h)

pub leading_none : (t : ℕ → Bool) → leading t [] ≡ 0
unfolding leading
leading_none t = refl

pub leading_few : (t : ℕ → Bool) (xs : List ℕ) → leading t xs ≤ length xs
unfolding leading
leading_few t [] = omega arith
leading_few t (x ∷ xs) = go (t x) refl (leading_few t xs)
  where
    go : (b : Bool) → t x ≡ b → leading t xs ≤ length xs → leading t (x ∷ xs) ≤ length (x ∷ xs)
    go true e k = let z = leading_more t x xs e in omega arith
    go false e k = let z = leading_stop t x xs e in omega arith

-- from a place on: one octet more, an octet that fails, the end
pub lead_turn : (t : ℕ → Bool) (s : List ℕ) (i : ℕ) → i < length s → t (get_or s i 0) ≡ true → leading t (drop i s) ≡ suc (leading t (drop (i + 1) s))
lead_turn t s i h e = ap (leading t) (from_place s i h) ∙ leading_more t (get_or s i 0) (drop (i + 1) s) e

pub lead_stop : (t : ℕ → Bool) (s : List ℕ) (i : ℕ) → i < length s → t (get_or s i 0) ≡ false → leading t (drop i s) ≡ 0
lead_stop t s i h e = ap (leading t) (from_place s i h) ∙ leading_stop t (get_or s i 0) (drop (i + 1) s) e

pub lead_end : (t : ℕ → Bool) (s : List ℕ) (i : ℕ) → length s ≤ i → leading t (drop i s) ≡ 0
lead_end t s i h = ap (leading t) (past s i h) ∙ leading_none t

-- what passes a test that implies another one is passed over by both
pub lead_split : (t u : ℕ → Bool) → ((x : ℕ) → t x ≡ true → u x ≡ true) → (xs : List ℕ) → leading u xs ≡ leading t xs + leading u (drop (leading t xs) xs)
lead_split t u w [] = leading_none u ∙ sym (leading_none u) ∙ sym (zero-add (leading u [])) ∙ ap (λ (n : ℕ). n + leading u (drop n [])) (sym (leading_none t))
lead_split t u w (x ∷ xs) = go (t x) refl (lead_split t u w xs)
  where
    go : (b : Bool) → t x ≡ b → leading u xs ≡ leading t xs + leading u (drop (leading t xs) xs) → leading u (x ∷ xs) ≡ leading t (x ∷ xs) + leading u (drop (leading t (x ∷ xs)) (x ∷ xs))
    go true e k =
        let a = leading_more t x xs e in
        let b = leading_more u x xs (w x e) in
        let d : leading u (drop (leading t (x ∷ xs)) (x ∷ xs)) ≡ leading u (drop (leading t xs) xs) = ap (λ (n : ℕ). leading u (drop n (x ∷ xs))) a in
        omega arith
    go false e k = sym (zero-add (leading u (x ∷ xs))) ∙ ap (λ (n : ℕ). n + leading u (drop n (x ∷ xs))) (sym (leading_stop t x xs e))

-- a front of text that has all that passes
pub lead_take : (t : ℕ → Bool) (n : ℕ) (xs : List ℕ) → leading t xs ≤ n → leading t (take n xs) ≡ leading t xs
lead_take t zero xs h = let z : leading t xs ≡ 0 = omega arith in leading_none t ∙ sym z
lead_take t (suc n) [] h = refl
lead_take t (suc n) (x ∷ xs) h = go (t x) refl (lead_take t n xs)
  where
    go : (b : Bool) → t x ≡ b → (leading t xs ≤ n → leading t (take n xs) ≡ leading t xs) → leading t (x ∷ take n xs) ≡ leading t (x ∷ xs)
    go true e k = let z = leading_more t x xs e in rw (z, leading_more t x (take n xs) e) (ap suc (k (omega arith)))
    go false e k = rw (leading_stop t x xs e, leading_stop t x (take n xs) e)

-- each of them passes
pub leading_passes : (t : ℕ → Bool) (xs : List ℕ) (i : ℕ) → i < leading t xs → t (get_or xs i 0) ≡ true
unfolding leading
leading_passes t [] i h = let z : ⊥ = omega arith in absurd z
leading_passes t (c ∷ cs) zero h = go (t c) refl
  where
    go : (b : Bool) → t c ≡ b → t c ≡ true
    go true e = e
    go false e = let l = leading_stop t c cs e in let z : ⊥ = omega arith in absurd z
leading_passes t (c ∷ cs) (suc i) h = go (t c) refl (λ k. leading_passes t cs i k)
  where
    go : (b : Bool) → t c ≡ b → (i < leading t cs → t (get_or cs i 0) ≡ true) → t (get_or cs i 0) ≡ true
    go true e ih = let l = leading_more t c cs e in ih (omega arith)
    go false e ih = let l = leading_stop t c cs e in let z : ⊥ = omega arith in absurd z

pub leading_first : (t : ℕ → Bool) (c : ℕ) (cs : List ℕ) → 0 < leading t (c ∷ cs) → t c ≡ true
leading_first t c cs h = leading_passes t (c ∷ cs) 0 h

pub leading_rest : (t : ℕ → Bool) (c : ℕ) (cs : List ℕ) → leading t (c ∷ cs) ≡ suc (length cs) → leading t cs ≡ length cs
leading_rest t c cs h = let e = leading_more t c cs (leading_first t c cs (omega arith)) in omega arith
