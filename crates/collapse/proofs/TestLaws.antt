-- The tests of records decide the statements about them.
use Prim.Native.Nat.{ℕ, ◌<◌}
use mathlib.Core.Path.{◌≡◌}
use mathlib.Core.Bool.{Bool, true, ◌&&◌}
use mathlib.Core.List.{List}
use borrow.Author.Tests.{lt-ltb, ltb-true, le-leb, leb-true}
use Rattle.names.specs.Standard.{Same, same_name}
use Rattle.names.proofs.StandardLaws.{same_name_same, same_same_name}
use Rattle.chains.proofs.ListLaws.{both_true}
use Rattle.plan.specs.First.{some}
use Rattle.plan.specs.Layout.{a6, type_of, prefix_of, owner_of, target_of, count_of, record_at}
use Rattle.plan.proofs.FirstLaws.{some_has, has_some}
use Rattle.plan.proofs.FaultLaws.{type_is, is_type_lem}
use Rattle.collapse.specs.Fold.{leads, unfinished, continues, refers, ignores, reviving}
use Rattle.collapse.specs.Rule.{Unfinished, Continues, Refers, Reviving}

-- ---- truth values
-- three tests in a row
pub three : (a b c : Bool) → a && b && c ≡ true → (a ≡ true) × (b ≡ true) × (c ≡ true)
three a b c h =
    let p = both_true (a && b) c h in
    let q = both_true a b p.0 in
    (q.0, q.1, p.1)

three_true : (a b c : Bool) → a ≡ true → b ≡ true → c ≡ true → a && b && c ≡ true
three_true a b c p q r = rw (p, q) r

-- ---- records
-- a record that has a target, and a name of it that is x
module _ (r n x : List ℕ) where
  named_is : leads r && same_name n x ≡ true → (type_of r ≡ a6) × (0 < prefix_of r) × Same n x
  named_is h =
      let p = three _ _ _ h in
      (is_type_lem r p.0, ltb-true 0 (prefix_of r) p.1, same_name_same n x p.2)

  is_named : (type_of r ≡ a6) × (0 < prefix_of r) × Same n x → leads r && same_name n x ≡ true
  is_named u = three_true _ _ _ (type_is r u.0) (lt-ltb 0 (prefix_of r) u.1) (same_same_name n x u.2)

module _ (x r : List ℕ) where
  pub unfinished_is : unfinished x r ≡ true → Unfinished x r
  unfolding unfinished
  unfinished_is = named_is r (owner_of r) x

  pub refers_is : refers x r ≡ true → Refers x r
  unfolding refers
  refers_is = named_is r (target_of r) x

  pub is_unfinished : Unfinished x r → unfinished x r ≡ true
  unfolding unfinished
  is_unfinished = is_named r (owner_of r) x

  pub is_refers : Refers x r → refers x r ≡ true
  unfolding refers
  is_refers = is_named r (target_of r) x

pub continues_is : (r q : List ℕ) → continues r q ≡ true → Continues r q
unfolding continues
continues_is r q h =
    let p = three _ _ _ h in
    (is_type_lem q p.0, leb-true _ _ p.1, same_name_same (owner_of q) (target_of r) p.2)

pub is_continues : (r q : List ℕ) → Continues r q → continues r q ≡ true
unfolding continues
is_continues r q u =
    three_true _ _ _ (type_is q u.0) (le-leb _ _ u.1) (same_same_name (owner_of q) (target_of r) u.2)

-- ---- test 9
pub reviving_is : (x t : List ℕ) → reviving x t ≡ true → Reviving x t
unfolding reviving ignores
reviving_is x t h =
    let p = some_has (λ p. some (ignores x t p) (count_of t)) (count_of t) h in
    let r = some_has (ignores x t p.0) (count_of t) p.2 in
    let k = three _ _ _ r.2 in
    record {
      referrer = p.0;
      there = p.1;
      refers = refers_is x (record_at t p.0) k.0;
      own = r.0;
      here = r.1;
      unfinished = unfinished_is x (record_at t r.0) k.1;
      shorter = ltb-true _ _ k.2;
    }

pub is_reviving : (x t : List ℕ) → Reviving x t → reviving x t ≡ true
unfolding reviving ignores
is_reviving x t v =
    has_some (λ p. some (ignores x t p) (count_of t)) (count_of t) v.referrer v.there
    (has_some (ignores x t v.referrer) (count_of t) v.own v.here
    (three_true _ _ _ (is_refers x (record_at t v.referrer) v.refers) (is_unfinished x (record_at t v.own) v.unfinished) (lt-ltb _ _ v.shorter)))
