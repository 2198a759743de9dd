-- The walk, one law for each way on.
use Prim.Native.Nat.{ℕ, zero, suc, ◌+◌}
use mathlib.Core.Path.{◌≡◌, refl, ap, ◌∙◌, sym}
use mathlib.Core.Bool.{Bool, true, false}
use mathlib.Core.List.{List}
use Rattle.names.specs.Standard.{Unit}
use Rattle.rewriting.specs.Rewrite.{rewrite_of, too_large}
use Rattle.reverse.specs.Walk.{Rule, Due, none, due, due_of, refused, ended, onward, walk_of}
use Rattle.reverse.specs.Answers.{end_number}

pub walk_ended : (limit done : ℕ) (rules : List Rule) (name : List Unit) → due_of rules name ≡ none → walk_of limit done rules name ≡ ended name done
unfolding walk_of
walk_ended zero done rules name e = rw (walk_of, e)
walk_ended (suc limit) done rules name e = rw (walk_of, e)

pub walk_out : (done k : ℕ) (rules : List Rule) (name t : List Unit) → due_of rules name ≡ due k t → walk_of 0 done rules name ≡ refused 6
unfolding walk_of
walk_out done k rules name t e = rw (walk_of, e)

pub walk_large : (limit done k : ℕ) (rules : List Rule) (name t : List Unit) → due_of rules name ≡ due k t → too_large (rewrite_of k name t) ≡ true → walk_of (suc limit) done rules name ≡ refused 8
unfolding walk_of onward
walk_large limit done k rules name t e h = rw (walk_of, e) (rw (onward, h))

pub walk_on : (limit done k : ℕ) (rules : List Rule) (name t : List Unit) → due_of rules name ≡ due k t → too_large (rewrite_of k name t) ≡ false
    → walk_of (suc limit) done rules name ≡ walk_of limit (done + 1) rules (rewrite_of k name t)
unfolding walk_of onward
walk_on limit done k rules name t e h = rw (walk_of, e) (rw (onward, h))

-- a walk has no number but 0, 6 and 8
pub walk_not : (m : ℕ) → (0 ≡ m → ⊥) → (6 ≡ m → ⊥) → (8 ≡ m → ⊥) → (limit done : ℕ) (rules : List Rule) (name : List Unit) → end_number (walk_of limit done rules name) ≡ m → ⊥
walk_not m a b c zero done rules name e = go (due_of rules name) refl
  where
    go : (d : Due) → due_of rules name ≡ d → ⊥
    go none f = a (sym (ap end_number (walk_ended 0 done rules name f)) ∙ e)
    go (due k t) f = b (sym (ap end_number (walk_out done k rules name t f)) ∙ e)
walk_not m a b c (suc limit) done rules name e = go (due_of rules name) refl (λ k t. walk_not m a b c limit (done + 1) rules (rewrite_of k name t))
  where
    on : (k : ℕ) (t : List Unit) → due_of rules name ≡ due k t → (end_number (walk_of limit (done + 1) rules (rewrite_of k name t)) ≡ m → ⊥) → (l : Bool) → too_large (rewrite_of k name t) ≡ l → ⊥
    on k t f ih true l = c (sym (ap end_number (walk_large limit done k rules name t f l)) ∙ e)
    on k t f ih false l = ih (sym (ap end_number (walk_on limit done k rules name t f l)) ∙ e)

    go : (d : Due) → due_of rules name ≡ d → ((k : ℕ) (t : List Unit) → end_number (walk_of limit (done + 1) rules (rewrite_of k name t)) ≡ m → ⊥) → ⊥
    go none f ih = a (sym (ap end_number (walk_ended (suc limit) done rules name f)) ∙ e)
    go (due k t) f ih = on k t f (ih k t) (too_large (rewrite_of k name t)) refl
