-- The first of 20, 21 and 22 among numbers, two at a time.
use Prim.Native.Nat.{ℕ, zero, suc, min}
use mathlib.Core.Path.{◌≡◌, refl, ap, sym, ◌∙◌, subst}
use mathlib.Core.Bool.{Bool, true, false, ◌||◌}
use mathlib.Core.List.{List, [], ◌∷◌, ◌++◌}
use mathlib.Core.Logic.{◌⊎◌, inl, inr, ⊎_elim}
use lib.Dec.{eqb}
use native.Mathlib.Omega.{arith}
use borrow.Author.Tests.{eqb-true, eqb-false}
use Rattle.octets.specs.Octets.{among}
use Rattle.octets.specs.Answers.{earns}
use Rattle.line.specs.Reading.{worst}
use Rattle.line.specs.Walk.{worse}
use Rattle.line.proofs.OrderLaws.{Known, worst_known}
use Rattle.line.proofs.WalkedLaws.{worse_left, worse_right, worse_both}

pub worse_20 : (n : ℕ) → Known n → worse 20 n ≡ 20
unfolding worse
worse_20 n = ⊎_elim (λ e. ap (worse 20) e) (⊎_elim (λ e. ap (worse 20) e) (⊎_elim (λ e. ap (worse 20) e) (λ e. ap (worse 20) e)))

pub 20_worse : (n : ℕ) → Known n → worse n 20 ≡ 20
unfolding worse
20_worse n = ⊎_elim (λ e. ap (λ (m : ℕ). worse m 20) e) (⊎_elim (λ e. ap (λ (m : ℕ). worse m 20) e) (⊎_elim (λ e. ap (λ (m : ℕ). worse m 20) e) (λ e. ap (λ (m : ℕ). worse m 20) e)))

pub worse_none : (n : ℕ) → Known n → worse n 0 ≡ n
unfolding worse
worse_none n = ⊎_elim (λ e. ap (λ (m : ℕ). worse m 0) e ∙ sym e) (⊎_elim (λ e. ap (λ (m : ℕ). worse m 0) e ∙ sym e) (⊎_elim (λ e. ap (λ (m : ℕ). worse m 0) e ∙ sym e) (λ e. ap (λ (m : ℕ). worse m 0) e ∙ sym e)))

pub worst_one : (n : ℕ) → Known n → worst (n ∷ []) ≡ n
unfolding worst among
worst_one n = ⊎_elim (λ e. ap (λ (m : ℕ). worst (m ∷ [])) e ∙ sym e) (⊎_elim (λ e. ap (λ (m : ℕ). worst (m ∷ [])) e ∙ sym e) (⊎_elim (λ e. ap (λ (m : ℕ). worst (m ∷ [])) e ∙ sym e) (λ e. ap (λ (m : ℕ). worst (m ∷ [])) e ∙ sym e)))

among_append : (m : ℕ) (xs ys : List ℕ) → among m (xs ++ ys) ≡ (among m xs || among m ys)
unfolding among
among_append m [] ys = refl
among_append m (x ∷ xs) ys = go (eqb x m) (among_append m xs ys)
  where
    go : (b : Bool) → among m (xs ++ ys) ≡ (among m xs || among m ys) → (b || among m (xs ++ ys)) ≡ ((b || among m xs) || among m ys)
    go true k = refl
    go false k = k

judged : Bool → Bool → Bool → ℕ
judged a b c = earns a 20 (earns b 21 (earns c 22 0))

two_judged : (a b c d e f : Bool) → judged (a || d) (b || e) (c || f) ≡ worse (judged a b c) (judged d e f)
unfolding judged worse
two_judged true b c true e f = refl
two_judged true b c false true f = refl
two_judged true b c false false true = refl
two_judged true b c false false false = refl
two_judged false true c true e f = refl
two_judged false true c false true f = refl
two_judged false true c false false true = refl
two_judged false true c false false false = refl
two_judged false false true true e f = refl
two_judged false false true false true f = refl
two_judged false false true false false true = refl
two_judged false false true false false false = refl
two_judged false false false true e f = refl
two_judged false false false false true f = refl
two_judged false false false false false true = refl
two_judged false false false false false false = refl

pub worst_append : (xs ys : List ℕ) → worst (xs ++ ys) ≡ worse (worst xs) (worst ys)
unfolding worst judged
worst_append xs ys =
    (λ i. judged (among_append 20 xs ys i) (among_append 21 xs ys i) (among_append 22 xs ys i))
    ∙ two_judged (among 20 xs) (among 21 xs) (among 22 xs) (among 20 ys) (among 21 ys) (among 22 ys)

-- of known numbers it is a known one
pub worse_known : (a b : ℕ) → Known a → Known b → Known (worse a b)
worse_known a b h k = subst Known (worst_append (a ∷ []) (b ∷ []) ∙ (λ i. worse (worst_one a h i) (worst_one b k i))) (worst_known (a ∷ b ∷ []))

lesser_none : (m n : ℕ) → (m ≡ 0 → ⊥) → (n ≡ 0 → ⊥) → min m n ≡ 0 → ⊥
lesser_none zero n p q e = p refl
lesser_none (suc m) zero p q e = q refl
lesser_none (suc m) (suc n) p q e = omega arith

-- it is 0 where both are
pub worse_zero : (a b : ℕ) → worse a b ≡ 0 → (a ≡ 0) × (b ≡ 0)
worse_zero a b h = go (eqb a 0) refl (eqb b 0) refl
  where
    go : (x : Bool) → eqb a 0 ≡ x → (y : Bool) → eqb b 0 ≡ y → (a ≡ 0) × (b ≡ 0)
    go true e y f = let p = eqb-true a 0 e in (p, sym (worse_left a b p) ∙ h)
    go false e true f = let q = eqb-false a 0 e in absurd (q (sym (worse_right a b q (eqb-true b 0 f)) ∙ h))
    go false e false f =
        let p = eqb-false a 0 e in
        let q = eqb-false b 0 f in
        let m : min a b ≡ 0 = sym (worse_both a b p q) ∙ h in
        let z : ⊥ = lesser_none a b p q m in
        absurd z

-- the numbers of words that have their form
abbrev pub Formed : ℕ → Type 0
Formed n = (n ≡ 0) ⊎ ((n ≡ 21) ⊎ (n ≡ 22))

pub formed : (n : ℕ) → Known n → (n ≡ 20 → ⊥) → Formed n
formed n k h = ⊎_elim (λ z. inl z) (⊎_elim (λ z. absurd (h z)) (λ z. inr z)) k

-- 21 hides 22
pub worse_21 : (n : ℕ) → Formed n → worse 21 n ≡ 21
unfolding worse
worse_21 n = ⊎_elim (λ e. ap (worse 21) e) (⊎_elim (λ e. ap (worse 21) e) (λ e. ap (worse 21) e))

pub 21_worse : (n : ℕ) → Formed n → worse n 21 ≡ 21
unfolding worse
21_worse n = ⊎_elim (λ e. ap (λ (m : ℕ). worse m 21) e) (⊎_elim (λ e. ap (λ (m : ℕ). worse m 21) e) (λ e. ap (λ (m : ℕ). worse m 21) e))

pub formed_worse : (a b : ℕ) → Formed a → Formed b → Formed (worse a b)
unfolding worse
formed_worse a b h k = go h k
  where
    go : Formed a → Formed b → Formed (worse a b)
    go (inl x) k = rw x k
    go (inr (inl x)) k = inr (inl (ap (λ (m : ℕ). worse m b) x ∙ worse_21 b k))
    go (inr (inr x)) (inl y) = rw (x, y) (inr (inr refl))
    go (inr (inr x)) (inr (inl y)) = rw (x, y) (inr (inl refl))
    go (inr (inr x)) (inr (inr y)) = rw (x, y) (inr (inr refl))

-- a number that is not 0 hides 22
pub worse_kept : (a b : ℕ) → Formed a → Formed b → (a ≡ 0 → ⊥) → (b ≡ 21 → ⊥) → worse a b ≡ a
unfolding worse
worse_kept a b h k n m = go h k
  where
    go : Formed a → Formed b → worse a b ≡ a
    go (inl x) k = absurd (n x)
    go (inr (inl x)) k = rw x (worse_21 b k)
    go (inr (inr x)) (inl y) = rw (x, y)
    go (inr (inr x)) (inr (inl y)) = absurd (m y)
    go (inr (inr x)) (inr (inr y)) = rw (x, y)
