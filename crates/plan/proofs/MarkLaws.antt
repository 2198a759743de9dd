-- Laws of marks: slots of the same name have the same mark.
use Prim.Native.Nat.{ℕ, zero, suc, ◌+◌, ◌*◌, ◌/◌, ◌%◌, ◌^◌, ◌≤◌, ◌<◌}
use mathlib.Core.Path.{◌≡◌, refl, ap, ◌∙◌, sym}
use mathlib.Core.Bool.{Bool, true, false}
use mathlib.Core.List.{List, [], ◌∷◌, map}
use mathlib.Core.Logic.{⊎_elim}
use lib.Dec.{ltb}
use lib.ListN.{length, get_or, get_or-map}
use native.Mathlib.Omega.{arith}
use native.Mathlib.Nat.{zero-add, mul-le-mul}
use native.Mathlib.Numerals.{add-one}
use borrow.Author.Tests.{lt-ltb, le-ltb, ltb-true, ltb-false, eqb-false}
use Rattle.std.specs.Prelude.{◌==◌, ◌||◌}
use Rattle.std.specs.List.{fold}
use Rattle.octets.proofs.BoolLaws.{clash}
use Rattle.names.specs.Standard.{lower, same_name}
use Rattle.names.proofs.LowerLaws.{lower_ways}
use Rattle.names.proofs.KeyLaws.{same_lowered}
use Rattle.plan.specs.Layout.{name_in, slot_of, owner_slot, is_dname, record_at, owner_at}
use Rattle.plan.specs.First.{some}
use Rattle.plan.specs.Check.{twin, repeats}
use Rattle.plan.specs.Good.{Holds}
use Rattle.plan.specs.Marks.{caseless, term_at, sum_to, sum_of, mark_of, mark_at, Ready}
use Rattle.plan.proofs.SlotLaws.{lowered_length, lowered_slot}
use Rattle.plan.proofs.FirstLaws.{none_first, none_some}
use Rattle.plan.proofs.OrderLaws.{sound_good}

-- a word and its factor fit
pub term_fits : (w k : ℕ) → w < 4294967296 → k < 64 → w * (52361 + k * 7919) < 2 ^ 52
term_fits w k h l =
    let m = mul-le-mul {n₁ = w} {m₁ = 52361 + k * 7919} {n₂ = 4294967295} {m₂ = 551258} (omega arith) (omega arith) in
    omega arith

-- the sums
module _ (s : List ℕ) where
  pub sum_more : (k : ℕ) → sum_to s (k + 1) ≡ sum_to s k + term_at s k
  unfolding sum_to
  sum_more k = rw (add-one k)

  pub sum_eight : {t0 t1 t2 t3 t4 t5 t6 t7 : ℕ} → t0 ≡ term_at s 0 → t1 ≡ term_at s 1 → t2 ≡ term_at s 2 → t3 ≡ term_at s 3 → t4 ≡ term_at s 4 → t5 ≡ term_at s 5
      → t6 ≡ term_at s 6 → t7 ≡ term_at s 7 → t0 + t1 + t2 + t3 + t4 + t5 + t6 + t7 ≡ sum_to s 8
  unfolding sum_to
  sum_eight e0 e1 e2 e3 e4 e5 e6 e7 = rw (e0, e1, e2, e3, e4, e5, e6, e7, zero-add (term_at s 0))

  pub sum_short : get_or s 0 0 < 32 → sum_of s ≡ sum_to s 8
  unfolding sum_of
  sum_short h = rw (sum_of, lt-ltb (get_or s 0 0) 32 h)

  pub sum_long : 32 ≤ get_or s 0 0 → sum_of s ≡ sum_to s 64
  unfolding sum_of
  sum_long h = rw (sum_of, le-ltb (get_or s 0 0) 32 h)

-- slots with the same first octet, and all octets the same but for case, have the same mark
module _ (s s' : List ℕ) (e : get_or s 0 0 ≡ get_or s' 0 0) (h : (i : ℕ) → caseless (get_or s i 0) ≡ caseless (get_or s' i 0)) where
  case_term : (k : ℕ) → term_at s k ≡ term_at s' k
  unfolding term_at
  case_term k = let i = k * 4 in rw (h i, h (i + 1), h (i + 2), h (i + 3))

  case_sum : (k : ℕ) → sum_to s k ≡ sum_to s' k
  unfolding sum_to
  case_sum zero = refl
  case_sum (suc k) = rw (case_sum k, case_term k)

  case_mark : mark_of s ≡ mark_of s'
  unfolding mark_of
  case_mark = ap (λ (n : ℕ). (n / 4096 + n / 16777216 * 3 + n) % 65536) (go (ltb (get_or s 0 0) 32) refl)
    where
      go : (t : Bool) → ltb (get_or s 0 0) 32 ≡ t → sum_of s ≡ sum_of s'
      go true d = let l = ltb-true (get_or s 0 0) 32 d in sum_short s l ∙ case_sum 8 ∙ sym (sum_short s' (omega arith))
      go false d = let l = ltb-false (get_or s 0 0) 32 d in sum_long s l ∙ case_sum 64 ∙ sym (sum_long s' (omega arith))

-- a letter is the same in either case, but for the bit that tells the case
lower_case : (x : ℕ) → caseless (lower x) ≡ caseless x
unfolding caseless
lower_case x = ⊎_elim (λ e. ap caseless e) (λ e. ap caseless e.2 ∙ omega (arith, e.0, e.1)) (lower_ways x)

-- octets that are the same in lower case are the same but for case
lowered_case : (xs ys : List ℕ) → map lower xs ≡ map lower ys → (i : ℕ) → caseless (get_or xs i 0) ≡ caseless (get_or ys i 0)
lowered_case xs ys h i =
    let e : lower (get_or xs i 0) ≡ lower (get_or ys i 0) = sym (get_or-map lower xs i 0) ∙ ap (λ (l : List ℕ). get_or l i (lower 0)) h ∙ get_or-map lower ys i 0 in
    sym (lower_case (get_or xs i 0)) ∙ ap caseless e ∙ lower_case (get_or ys i 0)

slot_mark : (m n : List ℕ) → map lower m ≡ map lower n → mark_of (slot_of m) ≡ mark_of (slot_of n)
unfolding slot_of
slot_mark m n h = case_mark (slot_of m) (slot_of n) (lowered_length m n h) (lowered_case (slot_of m) (slot_of n) (lowered_slot m n h))

-- Theorem: slots of the same name have the same mark; the one law that ties marks to the equality of names
pub same_mark : (s s' : List ℕ) → Holds s → Holds s' → same_name (name_in s) (name_in s') ≡ true → mark_of s ≡ mark_of s'
same_mark s s' p q h =
    ap mark_of p.whole ∙ slot_mark (name_in s) (name_in s') (same_lowered (name_in s) (name_in s') p.name q.name h) ∙ sym (ap mark_of q.whole)

-- a mark that is not met among others is none of them
abbrev met_in : ℕ → Bool → List ℕ → Bool
met_in m = fold (λ met mark. met || (mark == m))

met_stays : (m : ℕ) (marks : List ℕ) → met_in m true marks ≡ true
met_stays m [] = refl
met_stays m (x ∷ xs) = met_stays m xs

pub met_not : (m : ℕ) (marks : List ℕ) → met_in m false marks ≡ false → (i : ℕ) → i < length marks → get_or marks i 0 ≡ m → ⊥
met_not m [] h i p e = omega arith
met_not m (x ∷ xs) h i p e = go (x == m) refl (met_not m xs) i p e
  where
    go : (t : Bool) → (x == m) ≡ t → (met_in m false xs ≡ false → (l : ℕ) → l < length xs → get_or xs l 0 ≡ m → ⊥) → (k : ℕ) → k < suc (length xs) → get_or (x ∷ xs) k 0 ≡ m → ⊥
    go true d ih k p e = clash refl (sym (met_stays m xs) ∙ sym (ap (λ (b : Bool). met_in m b xs) d) ∙ h)
    go false d ih zero p e = eqb-false x m d e
    go false d ih (suc k) p e = ih (sym (ap (λ (b : Bool). met_in m b xs) d) ∙ h) k (omega arith) e

-- the mark of a record
module _ (t : List ℕ) (i : ℕ) where
  pub mark_dname : is_dname (record_at t i) ≡ true → mark_at t i ≡ mark_of (owner_slot (record_at t i))
  unfolding mark_at
  mark_dname h = rw (mark_at, h)

  pub mark_other : is_dname (record_at t i) ≡ false → mark_at t i ≡ 0
  unfolding mark_at
  mark_other h = rw (mark_at, h)

-- DNAMEs with one owner
module _ (t : List ℕ) (j i : ℕ) where
  pub twin_other : is_dname (record_at t i) ≡ false → twin t j i ≡ false
  unfolding twin
  twin_other h = rw h

  pub twin_dname : is_dname (record_at t i) ≡ true → twin t j i ≡ same_name (owner_at t i) (owner_at t j)
  unfolding twin
  twin_dname h = rw h

  twin_unlike : Holds (owner_slot (record_at t i)) → Holds (owner_slot (record_at t j)) → is_dname (record_at t j) ≡ true → (mark_at t i ≡ mark_at t j → ⊥) → twin t j i ≡ false
  twin_unlike p q d u = go (is_dname (record_at t i)) (same_name (owner_at t i) (owner_at t j)) refl refl
    where
      go : (v w : Bool) → is_dname (record_at t i) ≡ v → same_name (owner_at t i) (owner_at t j) ≡ w → twin t j i ≡ false
      go false w e f = twin_other e
      go true false e f = twin_dname e ∙ f
      go true true e f = absurd (u (mark_dname t i e ∙ same_mark (owner_slot (record_at t i)) (owner_slot (record_at t j)) p q f ∙ sym (mark_dname t j d)))

module _ (t : List ℕ) (j : ℕ) where
  pub repeats_other : is_dname (record_at t j) ≡ false → repeats t j ≡ false
  unfolding repeats
  repeats_other h = rw h

  pub repeats_dname : is_dname (record_at t j) ≡ true → repeats t j ≡ some (twin t j) j
  unfolding repeats
  repeats_dname h = rw h

-- where no record is at fault, a record whose mark none before it has is no twin of them
module _ (t marks : List ℕ) (j m : ℕ) (w : Ready t marks j m) (d : is_dname (record_at t j) ≡ true) where
  pub twin_not : (i : ℕ) → i < j → (get_or marks i 0 ≡ m → ⊥) → twin t j i ≡ false
  twin_not i p u =
      twin_unlike t j i (sound_good t w.sound i (omega (arith, w.here))).owner (sound_good t w.sound j w.here).owner d
      (λ e. u (w.before i p ∙ e ∙ sym w.own))

  pub no_twin : met_in m false marks ≡ false → some (twin t j) j ≡ false
  no_twin a = none_some (twin t j) j (none_first (twin t j) j (λ i p. twin_not i p (met_not m marks a i (omega (arith, w.size)))))
