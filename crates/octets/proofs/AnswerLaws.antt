-- Laws of what the number decides: the tests in their order, the answer, and every lent output.
use Prim.Native.Nat.{ℕ, zero, suc, ◌-◌, ◌≤◌}
use mathlib.Core.Path.{◌≡◌, refl, sym, ◌∙◌}
use mathlib.Core.Bool.{Bool, true, false}
use mathlib.Core.List.{List, ◌++◌}
use lib.ListN.{length, length-append}
use native.Mathlib.Omega.{arith}
use Rattle.octets.specs.Octets.{blank}
use Rattle.octets.specs.Answers.{earns, or_else, answering, refusal, answer_by, out_by}
use Rattle.octets.proofs.OctetLaws.{length_blank}

-- where a list of tests earns 0, its first test fails, and the later ones earn 0
pub earns_zero : (b : Bool) (n later : ℕ) → earns b (suc n) later ≡ 0 → (b ≡ false) × (later ≡ 0)
earns_zero true n later e = let z : ⊥ = omega arith in absurd z
earns_zero false n later e = (refl, e)

-- the same for a number that was earned before
pub else_zero : (k later : ℕ) → or_else k later ≡ 0 → (k ≡ 0) × (later ≡ 0)
else_zero zero later e = (refl, e)
else_zero (suc k) later e = let z : ⊥ = omega arith in absurd z

pub else_kept : (k later : ℕ) → (k ≡ 0 → ⊥) → or_else k later ≡ k
else_kept zero later h = absurd (h refl)
else_kept (suc k) later h = refl

pub else_later : (k later : ℕ) → k ≡ 0 → or_else k later ≡ later
else_later k later e = rw e

pub else_else : (k j later : ℕ) → or_else (or_else k j) later ≡ or_else k (or_else j later)
else_else zero j later = refl
else_else (suc k) j later = refl

-- a number that neither the test nor what is later earns is not earned
pub earns_not : (m : ℕ) (b : Bool) (n later : ℕ) → (n ≡ m → ⊥) → (later ≡ m → ⊥) → earns b n later ≡ m → ⊥
earns_not m true n later h k = h
earns_not m false n later h k = k

pub else_not : (m k later : ℕ) → (k ≡ m → ⊥) → (later ≡ m → ⊥) → or_else k later ≡ m → ⊥
else_not m zero later h g = g
else_not m (suc k) later h g = h

-- a number that is not 0 and that nothing later earns comes from what was earned before, and goes through
pub else_from : (m k later : ℕ) → (m ≡ 0 → ⊥) → (later ≡ m → ⊥) → or_else k later ≡ m → k ≡ m
else_from m zero later h g e = absurd (g e)
else_from m (suc k) later h g e = e

pub else_to : (m k later : ℕ) → (m ≡ 0 → ⊥) → k ≡ m → or_else k later ≡ m
else_to m zero later h e = absurd (h (sym e))
else_to m (suc k) later h e = e

-- a number that is written as such is not 0
pub not_nought : (k : ℕ) → suc k ≡ 0 → ⊥
not_nought k h = omega arith

-- a number k that is not 0 refuses: no figures, nothing but zeros
module _ (k number : ℕ) (e : k ≡ number) (h : k ≡ 0 → ⊥) where
  pub refused_answer : (count work : ℕ) → refusal k ≡ answer_by number count work
  unfolding answer_by
  refused_answer count work = rw (← e) (go k h)
    where
      go : (k : ℕ) → (k ≡ 0 → ⊥) → refusal k ≡ answer_by k count work
      go zero h = absurd (h refl)
      go (suc k) h = refl

  pub refused_out : (result : List ℕ) (room : ℕ) → blank room ≡ out_by number result room
  unfolding out_by
  refused_out result room = rw (← e) (go k h)
    where
      go : (k : ℕ) → (k ≡ 0 → ⊥) → blank room ≡ out_by k result room
      go zero h = absurd (h refl)
      go (suc k) h = refl

-- 0 is done
module _ (number : ℕ) (e : number ≡ 0) where
  pub done_answer : (count work : ℕ) → answering count work ≡ answer_by number count work
  unfolding answer_by
  done_answer count work = rw e

  pub done_out : (result : List ℕ) (room : ℕ) → result ++ blank (room - length result) ≡ out_by number result room
  unfolding out_by
  done_out result room = rw e

-- the answer has the number
pub by_number : (k count work : ℕ) → (answer_by k count work).number ≡ k
unfolding answer_by
by_number zero count work = refl
by_number (suc k) count work = refl

-- and an output has as many places as were lent, where the result has room
pub by_length : (k : ℕ) (result : List ℕ) (room : ℕ) → (k ≡ 0 → length result ≤ room) → length (out_by k result room) ≡ room
unfolding out_by
by_length zero result room h = length-append result (blank (room - length result)) ∙ omega (arith, length_blank (room - length result), h refl)
by_length (suc k) result room h = length_blank room
