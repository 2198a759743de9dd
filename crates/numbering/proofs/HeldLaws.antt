-- Laws of names that are held by their places, and of the last number with a value.
use Prim.Native.Nat.{ℕ, zero, suc, ◌+◌, ◌*◌, ◌/◌, ◌%◌, ◌≤◌, ◌<◌}
use mathlib.Core.Path.{◌≡◌, refl, ap, sym, ◌∙◌}
use mathlib.Core.Bool.{true, false}
use mathlib.Core.List.{List, [], ◌∷◌, ◌++◌}
use native.Mathlib.Decide.{ℕ_discrete, dec_lt}
use native.Mathlib.Omega.{arith}
use native.Mathlib.Numerals.{add-one}
use lib.Dec.{eqb}
use lib.ListN.{length, get_or, set, length-append, get_or-append}
use lib.Seq.{get_or-append_seam, get_or-set_same, get_or-set_other}
use borrow.Author.Tests.{eq-eqb, ne_eqb}
use Rattle.plan.specs.Layout.{owner_slot, target_slot, record_at}
use Rattle.numbering.specs.Buckets.{slot_at, name_at, held, last_in}

-- ---- the slot at a place
module _ (t : List ℕ) (p : ℕ) where
  pub slot_even : p % 2 ≡ 0 → slot_at t p ≡ owner_slot (record_at t (p / 2))
  unfolding slot_at
  slot_even h = rw (slot_at, eq-eqb (p % 2) 0 h)

  pub slot_odd : (p % 2 ≡ 0 → ⊥) → slot_at t p ≡ target_slot (record_at t (p / 2))
  unfolding slot_at
  slot_odd h = rw (slot_at, ne_eqb (p % 2) 0 h)

pub slot_owner : (t : List ℕ) (i : ℕ) → slot_at t (2 * i) ≡ owner_slot (record_at t i)
slot_owner t i = let e : 2 * i / 2 ≡ i = omega arith in slot_even t (2 * i) (omega arith) ∙ rw e

pub slot_target : (t : List ℕ) (i : ℕ) → slot_at t (2 * i + 1) ≡ target_slot (record_at t i)
slot_target t i = let e : (2 * i + 1) / 2 ≡ i = omega arith in slot_odd t (2 * i + 1) (λ h. omega arith) ∙ rw e

-- ---- names that are held
module _ (t : List ℕ) where
  pub held_length : (places : List ℕ) (n : ℕ) → length (held t places n) ≡ n
  unfolding held
  held_length places zero = refl
  held_length places (suc n) = let h = held_length places n in length-append (held t places n) (name_at t (get_or places n 0) ∷ []) ∙ omega arith

  pub held_at : (places : List ℕ) (n k : ℕ) → k < n → get_or (held t places n) k [] ≡ name_at t (get_or places k 0)
  unfolding held
  held_at places zero k h = let z : ⊥ = omega arith in absurd z
  held_at places (suc n) k h = go (dec_lt k n) (λ l. held_at places n k l)
    where
      go : Dec (k < n) → (k < n → get_or (held t places n) k [] ≡ name_at t (get_or places k 0))
          → get_or (held t places n ++ (name_at t (get_or places n 0) ∷ [])) k [] ≡ name_at t (get_or places k 0)
      go (yes l) ih =
          let m = held_length places n in
          get_or-append (held t places n) (name_at t (get_or places n 0) ∷ []) [] k (omega arith) ∙ ih l
      go (no l) ih =
          let m = held_length places n in
          let e : k ≡ length (held t places n) = omega arith in
          let f : n ≡ k = omega arith in
          rw (e, get_or-append_seam (held t places n) (name_at t (get_or places n 0)) [] [], ← e, f)

  -- the same places, the same names
  pub held_same : (ps qs : List ℕ) (n : ℕ) → ((k : ℕ) → k < n → get_or ps k 0 ≡ get_or qs k 0) → held t ps n ≡ held t qs n
  unfolding held
  held_same ps qs zero h = refl
  held_same ps qs (suc n) h =
      let e = held_same ps qs n (λ k l. h k (omega arith)) in
      let p = h n (omega arith) in
      λ i. e i ++ (name_at t (p i) ∷ [])

  pub held_none : (places : List ℕ) → held t places 0 ≡ []
  unfolding held
  held_none places = refl

  -- one more place
  pub held_more : (places : List ℕ) (n p : ℕ) → n < length places → held t (set places n p) (n + 1) ≡ held t places n ++ (name_at t p ∷ [])
  unfolding held
  held_more places n p h =
      let e = held_same (set places n p) places n (λ k l. get_or-set_other places n k p 0 (λ z. omega arith)) in
      let q = get_or-set_same places n p 0 h in
      rw add-one (λ i. e i ++ (name_at t (q i) ∷ []))

-- ---- the last number that f takes to b
module _ (f : ℕ → ℕ) (b n : ℕ) where
  pub last_here : f n ≡ b → last_in f b (n + 1) ≡ n + 1
  unfolding last_in
  last_here h = rw (add-one, last_in, eq-eqb (f n) b h)

  pub last_past : (f n ≡ b → ⊥) → last_in f b (n + 1) ≡ last_in f b n
  unfolding last_in
  last_past h = rw (add-one, last_in, ne_eqb (f n) b h)

pub last_none : (f : ℕ → ℕ) (b : ℕ) → last_in f b 0 ≡ 0
unfolding last_in
last_none f b = refl

pub last_same : (f g : ℕ → ℕ) (b n : ℕ) → ((k : ℕ) → k < n → f k ≡ g k) → last_in f b n ≡ last_in g b n
unfolding last_in
last_same f g b zero h = refl
last_same f g b (suc n) h =
    let e = h n (omega arith) in
    let r = last_same f g b n (λ k l. h k (omega arith)) in
    λ i. elim (eqb (e i) b) [ true ↦ suc n | false ↦ r i ]

-- what it says: nothing from there on, below n, has the value, and the number before it has
pub record Last (f : ℕ → ℕ) (b n m : ℕ) : Type 0 where
  pub most : m ≤ n
  pub here : (k : ℕ) → k + 1 ≡ m → f k ≡ b
  pub after : (k : ℕ) → m ≤ k → k < n → f k ≡ b → ⊥

pub last_is : (f : ℕ → ℕ) (b n : ℕ) → Last f b n (last_in f b n)
unfolding last_in
last_is f b zero = record { most = omega arith; here = λ k e. absurd (omega arith); after = λ k l m e. omega arith }
last_is f b (suc n) = go (ℕ_discrete (f n) b) (last_is f b n)
  where
    go : Dec (f n ≡ b) → Last f b n (last_in f b n) → Last f b (suc n) (last_in f b (suc n))
    go (yes e) ih = rw (last_in, eq-eqb (f n) b e) record {
      most = omega arith;
      here = λ k q. let r : k ≡ n = omega arith in rw r e;
      after = λ k l m q. omega arith;
    }
    go (no e) ih = rw (last_in, ne_eqb (f n) b e) record {
      most = let m = ih.most in omega arith;
      here = ih.here;
      after = λ k l m q. at_n k l m q (dec_lt k n);
    }
      where
        at_n : (k : ℕ) → last_in f b n ≤ k → k < suc n → f k ≡ b → Dec (k < n) → ⊥
        at_n k l m q (yes p) = ih.after k l p q
        at_n k l m q (no p) = let r : k ≡ n = omega arith in e (ap f (sym r) ∙ q)
