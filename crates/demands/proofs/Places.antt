-- Each operation on a table judges the table first, and earns neither 2 nor 3 by anything else, so that the fault that it hands on may be relied on.
use Prim.Native.Nat.{ℕ, zero, suc, ◌/◌, ◌<◌}
use mathlib.Core.Path.{◌≡◌, refl, ◌∙◌, sym}
use mathlib.Core.Bool.{Bool, not}
use mathlib.Core.List.{List}
use lib.Dec.{ltb, eqb}
use lib.ListN.{length}
use native.Mathlib.Omega.{arith}
use Rattle.octets.specs.Answers.{earns, or_else}
use Rattle.octets.proofs.AnswerLaws.{else_else, earns_not, else_not}
use Rattle.labels.specs.Scan.{well_formed}
use Rattle.chains.specs.Listing.{work_of}
use Rattle.chains.specs.Addresses.{addresses_of}
use Rattle.plan.specs.Layout.{address_size, name_room}
use Rattle.plan.specs.Graph.{graph_of}
use Rattle.plan.specs.Check.{check_of, entry_number}
use Rattle.plan.specs.Faults.{fault_in, Placed}
use Rattle.plan.proofs.PlaceLaws.{placed}
use Rattle.search.specs.Answers as search
use Rattle.forward.specs.Lookup.{misfit, lookup_number}
use Rattle.reverse.specs.Walk.{start_of, walk_of}
use Rattle.reverse.specs.Answers.{rules_of, early_number, end_of, end_number}
use Rattle.reverse.proofs.WalkLaws.{walk_not}
use Rattle.reverse.proofs.ReplyLaws.{end_number_lem}
use Rattle.collapse.specs.Fold.{fold_of, reviving}
use Rattle.collapse.specs.Collapse.{misshapen, passes, number_of}

-- of a number that is the table's, or else another, which is neither 2 nor 3
as_placed : (t : List ℕ) (k later : ℕ) → k ≡ or_else (check_of t) later → (later ≡ 2 → ⊥) → (later ≡ 3 → ⊥) → Placed t k (fault_in t)
as_placed t k later e a b = rw e (placed t later a b)

else_none : (k : ℕ) → or_else k 0 ≡ k
else_none zero = refl
else_none (suc k) = refl

-- by the number of the check the fault of the table may be relied on
pub check_placed : (t : List ℕ) → Placed t (check_of t) (fault_in t)
check_placed t = as_placed t (check_of t) 0 (sym (else_none (check_of t))) (λ h. omega arith) (λ h. omega arith)

-- an operation on a table and a name: 4 and 5 come after the table, and p and q after them
module _ (t name : List ℕ) (p q : ℕ) (b c d : Bool) where
  abbrev numbered : ℕ
  numbered = or_else (entry_number t name) (earns b 5 (earns c p (earns d q 0)))

  not_later : (m : ℕ) → (0 ≡ m → ⊥) → (4 ≡ m → ⊥) → (5 ≡ m → ⊥) → (p ≡ m → ⊥) → (q ≡ m → ⊥) → or_else (earns (not (well_formed name)) 4 0) (earns b 5 (earns c p (earns d q 0))) ≡ m → ⊥
  not_later m n0 n4 n5 np nq =
      else_not m (earns (not (well_formed name)) 4 0) _ (earns_not m (not (well_formed name)) 4 0 n4 n0) (earns_not m b 5 _ n5 (earns_not m c p _ np (earns_not m d q 0 nq n0)))

  named_placed : 4 < p → 4 < q → Placed t numbered (fault_in t)
  unfolding entry_number
  named_placed g h =
      as_placed t numbered _ (else_else (check_of t) (earns (not (well_formed name)) 4 0) (earns b 5 (earns c p (earns d q 0))))
      (not_later 2 (λ e. omega arith) (λ e. omega arith) (λ e. omega arith) (λ e. omega arith) (λ e. omega arith))
      (not_later 3 (λ e. omega arith) (λ e. omega arith) (λ e. omega arith) (λ e. omega arith) (λ e. omega arith))

-- and by that of a lookup, which may earn 4 to 7 after the table
pub lookup_placed : (t name : List ℕ) (limit size room : ℕ) → Placed t (lookup_number t name limit size room) (fault_in t)
unfolding lookup_number search.number_of
lookup_placed t name limit size room =
    let g = graph_of t in
    named_placed t name 6 7 (misfit size room) (ltb limit (work_of g name)) (ltb (size / 16) (length (addresses_of g name))) (omega arith) (omega arith)

-- and by that of a collapse, which may earn 4, 5, 9 and 7
pub collapse_placed : (t x : List ℕ) (size : ℕ) → Placed t (number_of t x size) (fault_in t)
unfolding number_of
collapse_placed t x size = named_placed t x 9 7 (misshapen size) (reviving x t) (passes size (fold_of x t)) (omega arith) (omega arith)

-- an address and an output are judged after the table, and the walk ends with 0, 6 or 8
module _ (t address : List ℕ) (limit room : ℕ) where
  abbrev input : ℕ
  input = earns (not (eqb (length address) address_size)) 4 (earns (not (eqb room name_room)) 5 0)

  abbrev walk : ℕ
  walk = end_number (walk_of limit 0 (rules_of t) (start_of address))

  no_later : (m : ℕ) → (0 ≡ m → ⊥) → (4 ≡ m → ⊥) → (5 ≡ m → ⊥) → (6 ≡ m → ⊥) → (8 ≡ m → ⊥) → or_else input walk ≡ m → ⊥
  no_later m n0 n4 n5 n6 n8 =
      else_not m input walk (earns_not m (not (eqb (length address) address_size)) 4 _ n4 (earns_not m (not (eqb room name_room)) 5 0 n5 n0)) (walk_not m n0 n6 n8 limit 0 (rules_of t) (start_of address))

  -- and by that of a reverse lookup, which may earn 4, 5, 6 and 8
  pub reverse_placed : Placed t (end_number (end_of t address limit room)) (fault_in t)
  unfolding early_number
  reverse_placed =
      as_placed t (end_number (end_of t address limit room)) (or_else input walk) (end_number_lem t address limit room ∙ else_else (check_of t) input walk)
      (no_later 2 (λ h. omega arith) (λ h. omega arith) (λ h. omega arith) (λ h. omega arith) (λ h. omega arith))
      (no_later 3 (λ h. omega arith) (λ h. omega arith) (λ h. omega arith) (λ h. omega arith) (λ h. omega arith))
