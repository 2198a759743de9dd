-- A table in order: its names are in standard form, and its rules have owners of their own.
use Prim.Native.Nat.{ℕ, zero, suc, ◌<◌}
use mathlib.Core.Path.{◌≡◌, refl, ap, ◌∙◌, sym}
use mathlib.Core.Bool.{Bool, true, false}
use mathlib.Core.List.{List, [], ◌∷◌, ◌++◌, append-nil}
use mathlib.Core.Logic.{◌⊎◌, inl, inr, ⊎_elim}
use lib.Dec.{eqb}
use native.Mathlib.Omega.{arith}
use borrow.Author.Tests.{ne_eqb, eqb-true, eqb-false}
use Rattle.octets.specs.Octets.{Small}
use Rattle.names.specs.Standard.{units_of, keys, in_standard_form}
use Rattle.names.proofs.KeyLaws.{keys_same}
use Rattle.names.proofs.StandardLaws.{same_same_name}
use Rattle.plan.specs.Layout.{type_of, owner_slot, target_slot, is_dname, a6, dname, count_of, record_at, owner_at, target_at, is_type}
use Rattle.plan.specs.Records.{type_at}
use Rattle.plan.specs.Check.{targetless, InOrder}
use Rattle.plan.proofs.LayoutLaws.{record_small}
use Rattle.plan.proofs.RecordLaws.{owner_small, target_small}
use Rattle.plan.proofs.SlotLaws.{name_small}
use Rattle.plan.proofs.OrderLaws.{order_good, order_differ}
use Rattle.reverse.specs.Walk.{Rule}
use Rattle.chains.specs.Lists.{In, up_to}
use Rattle.reverse.specs.Answers.{rule_of, rules_of}
use Rattle.reverse.specs.Choice.{rules_to}
use Rattle.reverse.proofs.RelationLaws.{OneTarget}
use Rattle.rewriting.specs.Spots.{Standing}
use Rattle.rewriting.proofs.LinkLaws.{form_standing}

-- the names of a record
module _ (t : List ℕ) (o : InOrder t) (i : ℕ) (h : i < count_of t) where
  pub owner_form : in_standard_form (owner_at t i) ≡ true
  owner_form = (order_good t o i h).owner.name

  pub target_form : is_dname (record_at t i) ≡ true → in_standard_form (target_at t i) ≡ true
  unfolding targetless is_type
  target_form d =
      let e = eqb-true (type_of (record_at t i)) dname d in
      let less : targetless (record_at t i) ≡ false = rw (ne_eqb (type_of (record_at t i)) a6 (λ f. omega arith)) in
      ((order_good t o i h).target less).name

  module _ (s : Small t) where
    pub owner_standing : Standing (owner_at t i)
    unfolding owner_slot
    owner_standing = form_standing (owner_at t i) (name_small (owner_slot (record_at t i)) (owner_small (record_at t i) (record_small t i s))) owner_form

    pub target_standing : is_dname (record_at t i) ≡ true → Standing (target_at t i)
    unfolding target_slot
    target_standing d = form_standing (target_at t i) (name_small (target_slot (record_at t i)) (target_small (record_at t i) (record_small t i s))) (target_form d)

-- the rules, record by record
pub rules_dname : (t : List ℕ) (i : ℕ) → is_dname (record_at t i) ≡ true → rules_to t (suc i) ≡ rules_to t i ++ (rule_of (record_at t i) ∷ [])
unfolding up_to
rules_dname t i d = rw d

pub rules_other : (t : List ℕ) (i : ℕ) → is_dname (record_at t i) ≡ false → rules_to t (suc i) ≡ rules_to t i
unfolding up_to
rules_other t i d = rw d (append-nil (rules_to t i))

in_append : (r : Rule) (rs qs : List Rule) → In r (rs ++ qs) → In r rs ⊎ In r qs
in_append r [] qs i = inr i
in_append r (s ∷ rs) qs (inl e) = inl (inl e)
in_append r (s ∷ rs) qs (inr i) = ⊎_elim (λ j. inl (inr j)) (λ j. inr j) (in_append r rs qs i)

-- a rule of the table is that of a DNAME record
pub record Source (t : List ℕ) (n : ℕ) (r : Rule) : Type 0 where
  pub index : ℕ
  pub below : index < n
  pub dname : is_dname (record_at t index) ≡ true
  pub is : r ≡ rule_of (record_at t index)

pub rule_source : (t : List ℕ) (n : ℕ) (r : Rule) → In r (rules_to t n) → Source t n r
unfolding up_to
rule_source t zero r i = absurd i
rule_source t (suc n) r i = go (is_dname (record_at t n)) refl (λ j. rule_source t n r j)
  where
    on : Source t n r → Source t (suc n) r
    on s = let b = s.below in record { index = s.index; below = omega arith; dname = s.dname; is = s.is }

    go : (b : Bool) → is_dname (record_at t n) ≡ b → (In r (rules_to t n) → Source t n r) → Source t (suc n) r
    go true e ih = ⊎_elim (λ j. on (ih j)) last (in_append r (rules_to t n) (rule_of (record_at t n) ∷ []) (rw (rules_dname t n e) at i))
      where
        last : In r (rule_of (record_at t n) ∷ []) → Source t (suc n) r
        last (inl q) = record { index = n; below = omega arith; dname = e; is = q }
        last (inr q) = absurd q
    go false e ih = on (ih (rw (rules_other t n e) at i))

-- DNAMEs with one owner are one record
module _ (t : List ℕ) (o : InOrder t) where
  one_index : (i j : ℕ) → i < count_of t → j < count_of t → is_dname (record_at t i) ≡ true → is_dname (record_at t j) ≡ true → keys (units_of (owner_at t i)) ≡ keys (units_of (owner_at t j)) → i ≡ j
  unfolding is_type
  one_index i j p q d e u = go (eqb i j) refl
    where
      go : (b : Bool) → eqb i j ≡ b → i ≡ j
      go true h = eqb-true i j h
      go false h =
          let f = order_differ t o i j p q (eqb-false i j h) (eqb-true (type_at t i) dname d) (eqb-true (type_at t j) dname e) in
          let s = same_same_name (owner_at t i) (owner_at t j) (keys_same (owner_at t i) (owner_at t j) u) in
          let z : true ≡ false = sym s ∙ f in
          let y : ◌≡◌ {A = ℕ} 0 1 = cc in
          let x : ⊥ = omega arith in
          absurd x

  pub rules_one : OneTarget (rules_of t)
  unfolding rules_of rule_of
  rules_one r s i j e =
      let f = rule_source t (count_of t) r i in
      let g = rule_source t (count_of t) s j in
      let u : keys (units_of (owner_at t f.index)) ≡ keys (units_of (owner_at t g.index)) = sym (ap (λ (q : Rule). keys q.owner) f.is) ∙ e ∙ ap (λ (q : Rule). keys q.owner) g.is in
      let n = one_index f.index g.index f.below g.below f.dname g.dname u in
      f.is ∙ ap (λ (k : ℕ). rule_of (record_at t k)) n ∙ sym g.is
