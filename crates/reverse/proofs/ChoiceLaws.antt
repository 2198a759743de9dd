-- The rule that is due, found record by record.
use Prim.Native.Nat.{ℕ, zero, suc, ◌+◌, ◌≤◌, ◌<◌}
use mathlib.Core.Path.{◌≡◌, refl, ap, ◌∙◌, sym}
use mathlib.Core.Bool.{Bool, true, false}
use mathlib.Core.List.{List, [], ◌∷◌, ◌++◌}
use Rattle.std.specs.Prelude.{Option, Some, None, IfSome, cond}
use lib.Dec.{leb}
use native.Mathlib.Omega.{arith}
use native.Mathlib.Numerals.{add-one}
use borrow.Author.Tests.{lt-ltb, le-ltb, leb-true, leb-false}
use Rattle.names.specs.Standard.{Unit, units_of}
use Rattle.plan.specs.Layout.{is_dname, count_of, record_at, owner_at, target_at}
use Rattle.rewriting.specs.Rewrite.{below_of}
use Rattle.rewriting.specs.Splice.{over_zero}
use Rattle.rewriting.proofs.ApplyLaws.{below_most}
use Rattle.reverse.specs.Walk.{Rule, Due, none, due, better, due_from, due_of}
use Rattle.rewriting.specs.Spots.{units_at}
use Rattle.chains.specs.Lists.{up_to}
use Rattle.reverse.specs.Answers.{rule_of}
use Rattle.reverse.specs.Choice.{rules_to, due_for, better_of, Listed, Chosen}
use Rattle.reverse.specs.declared.Best.{Best}
use Rattle.reverse.proofs.TableLaws.{rules_dname, rules_other}

due_snoc : (first : Due) (rules : List Rule) (r : Rule) (name : List Unit) → due_from first (rules ++ (r ∷ [])) name ≡ better (due_from first rules name) (below_of r.owner name) r.target
unfolding due_from
due_snoc first [] r name = refl
due_snoc first (s ∷ rules) r name = due_snoc (better first (below_of s.owner name) s.target) rules r name

-- the choice of the definition
better_first : (k : ℕ) (target : List Unit) → 0 < k → better none k target ≡ due k target
unfolding better
better_first zero target h = let z : ⊥ = omega arith in absurd z
better_first (suc k) target h = refl

better_kept : (j k : ℕ) (first target : List Unit) → j ≤ k → better (due j first) k target ≡ due j first
unfolding better
better_kept j zero first target h = refl
better_kept j (suc k) first target h = rw (better, le-ltb (suc k) j h)

better_next : (j k : ℕ) (first target : List Unit) → k < j → 0 < k → better (due j first) k target ≡ due k target
unfolding better
better_next j zero first target h g = let z : ⊥ = omega arith in absurd z
better_next j (suc k) first target h g = rw (better, lt-ltb (suc k) j h)

-- the better of two is the choice of the definition, and one of the two
module _ (t name : List ℕ) (next : Best) (n : Listed t name next) where
  better_due : (best : Option Best) → due_for t (Some (better_of best next)) ≡ better (due_for t best) next.below (units_of (target_at t next.index))
  better_due None = sym (better_first next.below (units_of (target_at t next.index)) n.some)
  better_due (Some first) = go (leb first.below next.below) refl
    where
      go : (b : Bool) → leb first.below next.below ≡ b
          → due_for t (Some (cond b first next)) ≡ better (due first.below (units_of (target_at t first.index))) next.below (units_of (target_at t next.index))
      go true e = sym (better_kept first.below next.below (units_of (target_at t first.index)) (units_of (target_at t next.index)) (leb-true first.below next.below e))
      go false e = sym (better_next first.below next.below (units_of (target_at t first.index)) (units_of (target_at t next.index)) (leb-false first.below next.below e) n.some)

  better_listed : (best : Option Best) → IfSome best (Listed t name) → Listed t name (better_of best next)
  better_listed None h = n
  better_listed (Some first) h = go (leb first.below next.below)
    where
      go : (b : Bool) → Listed t name (cond b first next)
      go true = h
      go false = n

-- the loop
pub chosen_start : (t name : List ℕ) → Chosen t name 0 None
unfolding due_of due_from up_to
chosen_start t name = record { due = refl; listed = tt }

module _ (t name : List ℕ) (i : ℕ) (best : Option Best) (c : Chosen t name i best) where
  pub chosen_other : is_dname (record_at t i) ≡ false → Chosen t name (i + 1) best
  chosen_other d = record { due = c.due ∙ ap (λ (rules : List Rule). due_of rules (units_at name 0)) (sym (rules_other t i d) ∙ ap (rules_to t) (sym (add-one i))); listed = c.listed }

  module _ (h : i < count_of t) (d : is_dname (record_at t i) ≡ true) where
    abbrev us : List Unit
    us = units_at name 0

    abbrev under : ℕ
    under = below_of (units_of (owner_at t i)) us

    on : better (due_for t best) under (units_of (target_at t i)) ≡ due_of (rules_to t (i + 1)) us
    unfolding due_of rule_of
    on =
        ap (λ (x : Due). better x under (units_of (target_at t i))) c.due ∙ sym (due_snoc none (rules_to t i) (rule_of (record_at t i)) us)
        ∙ ap (λ (rules : List Rule). due_from none rules us) (sym (rules_dname t i d) ∙ ap (rules_to t) (sym (add-one i)))

    pub chosen_none : None ≡ over_zero under → Chosen t name (i + 1) best
    unfolding over_zero better
    chosen_none e = go under refl
      where
        go : (k : ℕ) → under ≡ k → Chosen t name (i + 1) best
        go zero z = record { due = sym (ap (λ (j : ℕ). better (due_for t best) j (units_of (target_at t i))) z) ∙ on; listed = c.listed }
        go (suc k) z = let y : None ≡ Some (suc k) = e ∙ ap over_zero z in cc

    pub chosen_some : (k : ℕ) → Some k ≡ over_zero under → Chosen t name (i + 1) (Some (better_of best (record { below = k; index = i })))
    unfolding over_zero
    chosen_some k e = go under refl
      where
        go : (j : ℕ) → under ≡ j → Chosen t name (i + 1) (Some (better_of best (record { below = k; index = i })))
        go zero z = let y : Some k ≡ None = e ∙ ap over_zero z in cc
        go (suc j) z =
            let y : Some k ≡ Some (suc j) = e ∙ ap over_zero z in
            let m : k ≡ suc j = cc in
            let b = below_most (units_of (owner_at t i)) us in
            let n : Listed t name (record { below = k; index = i }) = record { some = omega arith; there = h; dname = d; within = omega arith } in
            record {
              due = better_due t name (record { below = k; index = i }) n best ∙ ap (λ (v : ℕ). better (due_for t best) v (units_of (target_at t i))) (m ∙ sym z) ∙ on;
              listed = better_listed t name (record { below = k; index = i }) n best c.listed;
            }
