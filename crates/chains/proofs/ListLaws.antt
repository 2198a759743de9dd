-- Laws of tests, of membership, of lists without repeats and of lists in sequence.
use Prim.Native.Nat.{ℕ, zero, suc, ◌≤◌, ◌<◌}
use mathlib.Core.Path.{◌≡◌, refl, sym, ap, subst, ◌∙◌}
use mathlib.Core.Logic.{◌⊎◌, inl, inr, ⊎_elim}
use mathlib.Core.Bool.{Bool, true, false, ◌&&◌}
use mathlib.Core.List.{List, [], ◌∷◌, ◌++◌, map, head-eq_of_cons-eq, tail-eq_of_cons-eq}
use native.Mathlib.Decide.{ℕ_discrete}
use native.Mathlib.Omega.{arith}
use lib.ListN.{length, get_or, length-append, get_or-append}
use lib.Seq.{get_or_at}
use Rattle.chains.specs.Lists.{In, Distinct, pick, up_to}

-- ---- tests
pub true_both : (s t : Bool) → s ≡ true → t ≡ true → s && t ≡ true
true_both s t p q = rw p q

pub both_true : (s t : Bool) → s && t ≡ true → (s ≡ true) × (t ≡ true)
both_true true t h = (refl, h)
both_true false t h = absurd (let z : ◌≡◌ {A = ℕ} 0 1 = cc in omega arith)

module _ {A : Type 0} where
  pub pick_true : (t : Bool) (a b : A) → t ≡ true → pick t a b ≡ a
  pick_true t a b e = rw e

  pub pick_false : (t : Bool) (a b : A) → t ≡ false → pick t a b ≡ b
  pick_false t a b e = rw e

-- ---- membership
module _ {A : Type 0} (a : A) where
  pub in_append : (xs ys : List A) → In a (xs ++ ys) → In a xs ⊎ In a ys
  in_append [] ys h = inr h
  in_append (x ∷ xs) ys (inl e) = inl (inl e)
  in_append (x ∷ xs) ys (inr h) = ⊎_elim (λ k. inl (inr k)) inr (in_append xs ys h)

  pub in_left : (xs ys : List A) → In a xs → In a (xs ++ ys)
  in_left [] ys x' = elim x' [ ]
  in_left (x ∷ xs) ys (inl e) = inl e
  in_left (x ∷ xs) ys (inr h) = inr (in_left xs ys h)

  pub in_right : (xs ys : List A) → In a ys → In a (xs ++ ys)
  in_right [] ys h = h
  in_right (x ∷ xs) ys h = inr (in_right xs ys h)

  pub in_pick : (t : Bool) (xs : List A) → In a (pick t xs []) → (t ≡ true) × In a xs
  in_pick false xs h = elim h [ ]
  in_pick true xs h = (refl, h)

  pub in_up_to : (n : ℕ) (f : ℕ → List A) → In a (up_to n f) → (i : ℕ) × (i < n) × In a (f i)
  unfolding up_to
  in_up_to zero f h = elim h [ ]
  in_up_to (suc n) f h =
      ⊎_elim (λ k. let r = in_up_to n f k in (r.0, omega (arith, r.1), r.2)) (λ k. (n, omega arith, k)) (in_append (up_to n f) (f n) h)

  pub up_to_in : (n : ℕ) (f : ℕ → List A) (i : ℕ) → i < n → In a (f i) → In a (up_to n f)
  unfolding up_to
  up_to_in zero f i h k = absurd (omega arith)
  up_to_in (suc n) f i h k = go (ℕ_discrete i n) (λ l. up_to_in n f i l k)
    where
      go : Dec (i ≡ n) → (i < n → In a (up_to n f)) → In a (up_to n f ++ f n)
      go (yes e) r = in_right (up_to n f) (f n) (subst (λ (j : ℕ). In a (f j)) e k)
      go (no m) r = in_left (up_to n f) (f n) (r (omega (arith, m)))

-- whether a number is in a list
pub find : (i : ℕ) (p : List ℕ) → Dec (In i p)
find i [] = no (λ h. h)
find i (j ∷ p) = go (ℕ_discrete i j) (find i p)
  where
    go : Dec (i ≡ j) → Dec (In i p) → Dec (In i (j ∷ p))
    go (yes e) d = yes (inl e)
    go (no n) (yes m) = yes (inr m)
    go (no n) (no m) = no (⊎_elim n m)

-- ---- the same number before each of some lists
pub in_map : (i : ℕ) (q : List ℕ) (ps : List (List ℕ)) → In q (map (λ p. i ∷ p) ps) → (p : List ℕ) × (q ≡ i ∷ p) × In p ps
in_map i q [] x' = elim x' [ ]
in_map i q (p ∷ ps) (inl e) = (p, e, inl refl)
in_map i q (p ∷ ps) (inr h) = let r = in_map i q ps h in (r.0, r.1, inr r.2)

pub map_in : (i : ℕ) (p : List ℕ) (ps : List (List ℕ)) → In p ps → In (i ∷ p) (map (λ p. i ∷ p) ps)
map_in i p [] x' = elim x' [ ]
map_in i p (q ∷ ps) (inl e) = inl (ap (λ (l : List ℕ). i ∷ l) e)
map_in i p (q ∷ ps) (inr h) = inr (map_in i p ps h)

-- ---- no repeats
module _ {A : Type 0} where
  pub distinct_pick : (t : Bool) (xs : List A) → Distinct xs → Distinct (pick t xs [])
  distinct_pick true xs d = d
  distinct_pick false xs d = tt

  pub distinct_append : (xs ys : List A) → Distinct xs → Distinct ys → ((a : A) → In a xs → In a ys → ⊥) → Distinct (xs ++ ys)
  distinct_append [] ys d e n = e
  distinct_append (x ∷ xs) ys d e n =
      (λ m. ⊎_elim d.0 (n x (inl refl)) (in_append x xs ys m), distinct_append xs ys d.1 e (λ a k. n a (inr k)))

pub distinct_map : (i : ℕ) (ps : List (List ℕ)) → Distinct ps → Distinct (map (λ p. i ∷ p) ps)
distinct_map i [] d = tt
distinct_map i (p ∷ ps) d =
    (λ m. let r = in_map i (i ∷ p) ps m in d.0 (subst (λ (q : List ℕ). In q ps) (sym (tail-eq_of_cons-eq r.1)) r.2), distinct_map i ps d.1)

-- lists that begin with their number
pub distinct_up_to : (n : ℕ) (f : ℕ → List (List ℕ)) → ((i : ℕ) → Distinct (f i)) → ((i : ℕ) (p : List ℕ) → In p (f i) → (q : List ℕ) × (p ≡ i ∷ q)) → Distinct (up_to n f)
unfolding up_to
distinct_up_to zero f d h = tt
distinct_up_to (suc n) f d h =
    distinct_append (up_to n f) (f n) (distinct_up_to n f d h) (d n)
    (λ p k m.
    let r = in_up_to p n f k in
    let e : r.0 ≡ n = head-eq_of_cons-eq (sym (h r.0 p r.2).1 ∙ (h n p m).1) in
    omega (arith, r.1, e))

-- ---- how long: a list without repeats is no longer than one that has all of it
module _ {A : Type 0} where
  -- a list with one of its elements taken out
  record Without (a : A) (l : List A) : Type 0 where
    rest : List A
    shorter : length l ≡ suc (length rest)
    others : (b : A) → In b l → (b ≡ a → ⊥) → In b rest

  without : (a : A) (l : List A) → In a l → Without a l
  without a [] x' = elim x' [ ]
  without a (x ∷ l) (inl e) = record { rest = l; shorter = refl; others = λ b m n. ⊎_elim (λ q. absurd (n (q ∙ sym e))) (λ k. k) m }
  without a (x ∷ l) (inr m) =
      let w = without a l m in
      record { rest = x ∷ w.rest; shorter = ap suc w.shorter; others = λ b k n. ⊎_elim inl (λ r. inr (w.others b r n)) k }

  no_longer : (xs ys : List A) → Distinct xs → ((a : A) → In a xs → In a ys) → length xs ≤ length ys
  no_longer [] ys d h = omega arith
  no_longer (x ∷ xs) ys d h =
      let w = without x ys (h x (inl refl)) in
      let r = no_longer xs w.rest d.1 (λ a m. w.others a (h a (inr m)) (λ e. d.0 (subst (λ (b : A). In b xs) e m))) in
      omega (arith, w.shorter, r)

  -- two lists without repeats that have the same elements are equally long
  pub same_length : (xs ys : List A) → Distinct xs → Distinct ys → ((a : A) → In a xs → In a ys) → ((a : A) → In a ys → In a xs) → length xs ≡ length ys
  same_length xs ys d e h k = let m = no_longer xs ys d h in let n = no_longer ys xs e k in omega arith

-- ---- one after the other
module _ {A : Type 0} where
  pub up_to_same : (n : ℕ) (f f' : ℕ → List A) → ((i : ℕ) → i < n → f i ≡ f' i) → up_to n f ≡ up_to n f'
  unfolding up_to
  up_to_same zero f f' h = refl
  up_to_same (suc n) f f' h =
      let p = up_to_same n f f' (λ i l. h i (omega arith)) in
      let q = h n (omega arith) in
      λ t. p t ++ q t

  pub up_to_alike : (m n : ℕ) (f f' : ℕ → List A) → m ≡ n → ((i : ℕ) → i < m → f i ≡ f' i) → up_to m f ≡ up_to n f'
  up_to_alike m n f f' e h = up_to_same m f f' h ∙ ap (λ (k : ℕ). up_to k f') e

-- one number each
module _ (f : ℕ → ℕ) where
  pub length_up_to : (n : ℕ) → length (up_to n (λ k. f k ∷ [])) ≡ n
  unfolding up_to
  length_up_to zero = refl
  length_up_to (suc n) = omega (arith, length-append (up_to n (λ k. f k ∷ [])) (f n ∷ []), length_up_to n)

  pub get_or_up_to : (n i : ℕ) → i < n → get_or (up_to n (λ k. f k ∷ [])) i 0 ≡ f i
  unfolding up_to
  get_or_up_to zero i h = absurd (omega arith)
  get_or_up_to (suc n) i h = go (ℕ_discrete i n) (λ l. get_or_up_to n i l)
    where
      us : List ℕ
      us = up_to n (λ k. f k ∷ [])

      go : Dec (i ≡ n) → (i < n → get_or us i 0 ≡ f i) → get_or (us ++ (f n ∷ [])) i 0 ≡ f i
      go (yes e) r = rw e (get_or_at us (f n) [] 0 n (length_up_to n))
      go (no m) r = let l : i < n = omega (arith, m) in get_or-append us (f n ∷ []) 0 i (omega (arith, length_up_to n)) ∙ r l

-- the element at a position
pub in_at : (l : List (List ℕ)) (j : ℕ) → j < length l → In (get_or l j []) l
in_at [] j h = let z : ⊥ = omega arith in absurd z
in_at (r ∷ l) zero h = inl refl
in_at (r ∷ l) (suc j) h = inr (in_at l j (omega arith))
