-- 5 at its place: the number that comes back where the figures are not as many as an export wants.
use Prim.Native.Nat.{ℕ, zero, suc, ◌/◌, ◌≤◌, ◌<◌}
use mathlib.Core.Path.{◌≡◌, refl, ap, ◌∙◌, sym}
use mathlib.Core.Bool.{Bool, true, false, not}
use mathlib.Core.List.{List}
use lib.Dec.{eqb, ltb}
use lib.ListN.{length}
use native.Mathlib.Omega.{arith}
use borrow.Author.Tests.{ne_eqb}
use Rattle.octets.specs.Octets.{among}
use Rattle.octets.specs.Answers.{earns, or_else}
use Rattle.octets.proofs.AnswerLaws.{earns_not, else_else}
use Rattle.labels.specs.Scan.{well_formed}
use Rattle.names.specs.Answers.{standard_number}
use Rattle.chains.specs.Listing.{work_of}
use Rattle.chains.specs.Addresses.{addresses_of}
use Rattle.plan.specs.Layout.{address_size, name_room}
use Rattle.plan.specs.Check.{check_of, entry_number}
use Rattle.plan.specs.Graph.{graph_of}
use Rattle.plan.proofs.OrderLaws.{check_most}
use Rattle.plan.proofs.EntryLaws.{entry_most}
use Rattle.search.specs.Answers as search
use Rattle.forward.specs.Lookup.{misfit, lookup_number}
use Rattle.reverse.specs.Walk.{start_of, walk_of}
use Rattle.reverse.specs.Answers.{rules_of, early_number, end_of, end_number}
use Rattle.reverse.proofs.WalkLaws.{walk_not}
use Rattle.reverse.proofs.ReplyLaws.{end_number_lem}
use Rattle.collapse.specs.Fold.{fold_of, reviving}
use Rattle.collapse.specs.Collapse as collapse
use Rattle.a6plan.specs.Exports.{Figured, of_name, of_part, of_line, of_check, of_table, exported_number}
use Rattle.a6plan.proofs.ExportLaws.{exported_early, exported_late}

-- where an operation's number is what is judged before 5, or else what is judged after it: the one stands, and 5 comes in place of the other
module _ (w : Figured) (n : ℕ) (h : n ≡ w.wanted → ⊥) where
  exported_fifth : (e later : ℕ) → ((e ≡ 0 → ⊥) → among e w.earlier ≡ true) → among later w.earlier ≡ false → exported_number w n (or_else e later) ≡ or_else e 5
  exported_fifth zero later a b = exported_late w n later h b
  exported_fifth (suc e) later a b = exported_early w n (suc e) h (a (λ z. omega arith))

-- what is judged before 5: 1, 2 and 3 of the table by the check, and by the others 4 as well
early_check : (e : ℕ) → e ≤ 3 → (e ≡ 0 → ⊥) → among e of_check.earlier ≡ true
unfolding among
early_check zero l h = absurd (h refl)
early_check (suc zero) l h = refl
early_check (suc (suc zero)) l h = refl
early_check (suc (suc (suc zero))) l h = refl
early_check (suc (suc (suc (suc e)))) l h = let z : ⊥ = omega arith in absurd z

early_table : (e : ℕ) → e ≤ 4 → (e ≡ 0 → ⊥) → among e of_table.earlier ≡ true
unfolding among
early_table zero l h = absurd (h refl)
early_table (suc zero) l h = refl
early_table (suc (suc zero)) l h = refl
early_table (suc (suc (suc zero))) l h = refl
early_table (suc (suc (suc (suc zero)))) l h = refl
early_table (suc (suc (suc (suc (suc e))))) l h = let z : ⊥ = omega arith in absurd z

-- and what is not: no number from 1 to 4
late_table : (k : ℕ) → ((m : ℕ) → 0 < m → m ≤ 4 → k ≡ m → ⊥) → among k of_table.earlier ≡ false
unfolding among
late_table k h = rw (
  ne_eqb 1 k (λ e. h 1 (omega arith) (omega arith) (sym e)),
  ne_eqb 2 k (λ e. h 2 (omega arith) (omega arith) (sym e)),
  ne_eqb 3 k (λ e. h 3 (omega arith) (omega arith) (sym e)),
  ne_eqb 4 k (λ e. h 4 (omega arith) (omega arith) (sym e)),
)

-- the tests after a table and a name
after_name : (p q : ℕ) (b c d : Bool) → 4 < p → 4 < q → (m : ℕ) → 0 < m → m ≤ 4 → earns b 5 (earns c p (earns d q 0)) ≡ m → ⊥
after_name p q b c d g h m l k =
    earns_not m b 5 (earns c p (earns d q 0)) (λ e. omega arith) (earns_not m c p (earns d q 0) (λ e. omega arith) (earns_not m d q 0 (λ e. omega arith) (λ e. omega arith)))

-- Theorem: with figures that are not two `a6plan_check` gives the table's number, or else 5
pub fifth_check : (t : List ℕ) (n : ℕ) → (n ≡ 2 → ⊥) → exported_number of_check n (check_of t) ≡ or_else (check_of t) 5
unfolding among
fifth_check t n h = go (check_of t) (check_most t)
  where
    go : (k : ℕ) → k ≤ 3 → exported_number of_check n k ≡ or_else k 5
    go zero l = exported_late of_check n 0 h refl
    go (suc k) l = exported_early of_check n (suc k) h (early_check (suc k) l (λ z. omega arith))

-- Theorem: with figures that are not four `a6plan_lookup` gives what the table and the name earn, or else 5
pub fifth_lookup : (t name : List ℕ) (limit size room n : ℕ) → (n ≡ 4 → ⊥) → exported_number of_table n (lookup_number t name limit size room) ≡ or_else (entry_number t name) 5
unfolding lookup_number search.number_of
fifth_lookup t name limit size room n h =
    let g = graph_of t in
    exported_fifth of_table n h (entry_number t name) _ (early_table (entry_number t name) (entry_most t name))
    (late_table _ (after_name 6 7 (misfit size room) (ltb limit (work_of g name)) (ltb (size / 16) (length (addresses_of g name))) (omega arith) (omega arith)))

-- Theorem: and so does `a6plan_collapse`
pub fifth_collapse : (t x : List ℕ) (size n : ℕ) → (n ≡ 4 → ⊥) → exported_number of_table n (collapse.number_of t x size) ≡ or_else (entry_number t x) 5
unfolding collapse.number_of
fifth_collapse t x size n h =
    exported_fifth of_table n h (entry_number t x) _ (early_table (entry_number t x) (entry_most t x))
    (late_table _ (after_name 9 7 (collapse.misshapen size) (reviving x t) (collapse.passes size (fold_of x t)) (omega arith) (omega arith)))

-- what `a6plan_reverse` judges before 5 and after it
module _ (t address : List ℕ) (limit room n : ℕ) (h : n ≡ 4 → ⊥) where
  abbrev address_number : ℕ
  address_number = earns (not (eqb (length address) address_size)) 4 0

  abbrev walked : ℕ
  walked = end_number (walk_of limit 0 (rules_of t) (start_of address))

  abbrev after : ℕ
  after = or_else (earns (not (eqb room name_room)) 5 0) walked

  -- Theorem: with figures that are not four `a6plan_reverse` gives what the table earns, or else 4 for the address, or else 5
  pub fifth_reverse : exported_number of_table n (end_number (end_of t address limit room)) ≡ or_else (or_else (check_of t) address_number) 5
  unfolding early_number
  fifth_reverse = ap (exported_number of_table n) split ∙ exported_fifth of_table n h (or_else (check_of t) address_number) after (early_table _ (most (check_of t) (not (eqb (length address) address_size)) (check_most t))) (late_table after (later (not (eqb room name_room))))
    where
      most : (k : ℕ) (b : Bool) → k ≤ 3 → or_else k (earns b 4 0) ≤ 4
      most zero true l = omega arith
      most zero false l = omega arith
      most (suc k) b l = omega arith

      later : (b : Bool) → (m : ℕ) → 0 < m → m ≤ 4 → or_else (earns b 5 0) walked ≡ m → ⊥
      later true m l k e = omega arith
      later false m l k e = walk_not m (λ z. omega arith) (λ z. omega arith) (λ z. omega arith) limit 0 (rules_of t) (start_of address) e

      tests : (a b : Bool) → or_else (earns a 4 (earns b 5 0)) walked ≡ or_else (earns a 4 0) (or_else (earns b 5 0) walked)
      tests true b = refl
      tests false b = refl

      judged : or_else (early_number t address room) walked ≡ or_else (check_of t) (or_else (earns (not (eqb (length address) address_size)) 4 (earns (not (eqb room name_room)) 5 0)) walked)
      judged = else_else (check_of t) (earns (not (eqb (length address) address_size)) 4 (earns (not (eqb room name_room)) 5 0)) walked

      split : end_number (end_of t address limit room) ≡ or_else (or_else (check_of t) address_number) after
      split =
          end_number_lem t address limit room ∙ judged ∙ ap (or_else (check_of t)) (tests (not (eqb (length address) address_size)) (not (eqb room name_room))) ∙ sym (else_else (check_of t) address_number after)

-- Theorem: with figures that are not two `a6plan_standard` gives 4 for a malformed name, or else 5
pub fifth_standard : (name : List ℕ) (room n : ℕ) → (n ≡ 2 → ⊥) → exported_number of_name n (standard_number name room) ≡ earns (not (well_formed name)) 4 5
unfolding among standard_number
fifth_standard name room n h = go (well_formed name) (eqb room 255)
  where
    go : (a b : Bool) → exported_number of_name n (earns (not a) 4 (earns (not b) 5 0)) ≡ earns (not a) 4 5
    go false b = exported_early of_name n 4 h refl
    go true true = exported_late of_name n 0 h refl
    go true false = exported_late of_name n 5 h refl

-- Theorem: and `a6plan_owner` gives 5
pub fifth_owner : (n : ℕ) → (n ≡ 2 → ⊥) → exported_number of_part n 0 ≡ 5
unfolding among
fifth_owner n h = exported_late of_part n 0 h refl

-- Theorem: and so do `a6plan_write_line` and `a6plan_read_line`, before everything else
pub fifth_line : (n k : ℕ) → (n ≡ 2 → ⊥) → exported_number of_line n k ≡ 5
unfolding among
fifth_line n k h = exported_late of_line n k h refl
