-- A collapse keeps every name's addresses where it is not reviving: the rule's table is a folding of the graph, and no referrer ignores what it folds.
use Prim.Native.Nat.{ℕ, ◌≤◌, ◌<◌}
use mathlib.Core.Path.{◌≡◌, refl, sym, ap, ap₂, ◌∙◌}
use mathlib.Core.Logic.{inl, inr, ⊎_elim, ◌↔◌}
use mathlib.Core.Bool.{Bool, true, false, ◌&&◌}
use mathlib.Core.List.{List, []}
use native.Mathlib.Omega.{arith}
use lib.Dec.{leb}
use lib.ListN.{length, get_or}
use borrow.Author.Tests.{leb-true, leb-false}
use Rattle.octets.specs.Octets.{flat}
use Rattle.names.specs.Standard.{Same, same_name}
use Rattle.names.proofs.StandardLaws.{same_name_same, same_same_name}
use Rattle.chains.specs.Graph.{Graph}
use Rattle.chains.specs.Chain.{Follows, Spells}
use Rattle.chains.specs.Folding as folding
use Rattle.chains.proofs.ListLaws.{true_both, both_true}
use Rattle.chains.proofs.FoldingLaws.{fold_keeps}
use Rattle.plan.specs.Layout.{prefix_of, address_of, name_in, owner_of, target_of, is_a6, count_of, record_at, prefix_at, owner_at, target_at}
use Rattle.plan.proofs.LayoutLaws.{record_length, count_octets, record_octets}
use Rattle.plan.specs.Check.{InOrder}
use Rattle.plan.proofs.RecordLaws.{address_length}
use Rattle.plan.proofs.OrderLaws.{order_good}
use Rattle.plan.specs.Graph.{owns_a6, graph_of}
use Rattle.collapse.specs.Fold.{joined_of, fold_of}
use Rattle.collapse.specs.Rule.{Unfinished, Continues, Reviving}
use Rattle.plan.proofs.FaultLaws.{type_is, is_type_lem}
use Rattle.collapse.proofs.RecordLaws.{kind_joined, owner_joined, prefix_joined, target_joined, bits_joined}
use Rattle.collapse.proofs.FoldLaws.{Source, Copy, fold_source, fold_keeps_other, fold_makes, fold_whole}

-- the A6 records that a name owns
module _ (t : List ℕ) (i : ℕ) (x : List ℕ) where
  owns_is : owns_a6 t i x ≡ true → (is_a6 (record_at t i) ≡ true) × Same (owner_at t i) x
  unfolding owns_a6
  owns_is h = let p = both_true (is_a6 (record_at t i)) (same_name (owner_at t i) x) h in (p.0, same_name_same (owner_at t i) x p.1)

  is_owns : is_a6 (record_at t i) ≡ true → Same (owner_at t i) x → owns_a6 t i x ≡ true
  unfolding owns_a6
  is_owns h s = true_both (is_a6 (record_at t i)) (same_name (owner_at t i) x) h (same_same_name (owner_at t i) x s)

module _ (x t : List ℕ) where
  abbrev g : Graph (List ℕ)
  g = graph_of t

  -- the records that the graph folds are those of the rule
  unfinished_in : (r : ℕ) → r < count_of t → Unfinished x (record_at t r) → folding.Unfinished g x r
  unfinished_in r h u = ((h, is_owns t r x (type_is (record_at t r) u.0) u.2), u.1)

  in_unfinished : (r : ℕ) → folding.Unfinished g x r → Unfinished x (record_at t r)
  in_unfinished r u = let p = owns_is t r x u.0.1 in (is_type_lem (record_at t r) p.0, u.1, p.1)

  follows_in : (r q : ℕ) → 0 < prefix_at t r → q < count_of t → Continues (record_at t r) (record_at t q) → Follows g r q
  follows_in r q h k c = (h, (k, is_owns t q (target_at t r) (type_is (record_at t q) c.0) c.2), c.1)

  in_follows : (r q : ℕ) → Follows g r q → Continues (record_at t r) (record_at t q)
  in_follows r q f = let p = owns_is t q (target_at t r) f.1.1 in (is_type_lem (record_at t q) p.0, f.2, p.1)

  -- the table after
  abbrev u : List ℕ
  u = flat (fold_of x t)

  abbrev h : Graph (List ℕ)
  h = graph_of u

  size : count_of u ≡ length (fold_of x t)
  size = count_octets (fold_of x t) (fold_whole x t)

  at : (j : ℕ) → j < length (fold_of x t) → record_at u j ≡ get_or (fold_of x t) j []
  at j l = record_octets (fold_of x t) (fold_whole x t) j l

  copied : (i j : ℕ) → record_at u j ≡ record_at t i → folding.Copied g h i j
  unfolding owns_a6
  copied i j e = record {
    owners = λ n. ap (λ (w : List ℕ). is_a6 w && same_name (owner_of w) n) e;
    length = ap prefix_of e;
    target = ap target_of e;
    bits = ap address_of e;
  }

  joined : (r q j : ℕ) → r < count_of t → q < count_of t → is_a6 (record_at t r) ≡ true → record_at u j ≡ joined_of (record_at t r) (record_at t q) → folding.Joined g h r q j
  unfolding owns_a6
  joined r q j lr lq s e =
      let near = record_at t r in
      let far = record_at t q in
      let wr = record_length t r lr in
      let wq = record_length t q lq in
      record {
        owners = λ n. ap (λ (w : List ℕ). is_a6 w && same_name (owner_of w) n) e ∙ ap₂ (λ (b : Bool) (o : List ℕ). b && same_name (name_in o) n) (type_is (joined_of near far) (kind_joined near far wr wq) ∙ sym s) (owner_joined near far wr wq);
        length = ap prefix_of e ∙ prefix_joined near far wr wq;
        target = ap target_of e ∙ ap name_in (target_joined near far wr wq);
        bits = ap address_of e ∙ bits_joined near far wr wq;
      }

  -- the table after is the folding of x in the graph before
  fold : folding.Folded g x h
  fold = record {
    kept = λ i l o. let k = fold_keeps_other x t i l (λ v. o (unfinished_in i l v)) in (k.0, omega (arith, size, k.1), copied i k.0 (at k.0 k.1 ∙ k.2));
    made = λ r q v f.
        let k = fold_makes x t r q v.0.0 (in_unfinished r v) f.1.0 (in_follows r q f) in
        (k.0, omega (arith, size, k.1), joined r q k.0 v.0.0 f.1.0 (owns_is t r x v.0.1).0 (at k.0 k.1 ∙ k.2));
    origin = λ j l.
        let m : j < length (fold_of x t) = omega (arith, size) in
        ⊎_elim
        (λ (c : Copy x t (get_or (fold_of x t) j [])). inl (c.i, c.there, (λ v. c.other (in_unfinished c.i v)), copied c.i j (at j m ∙ c.same)))
        (λ (d : Source x t (get_or (fold_of x t) j [])). inr (
          d.r,
          d.q,
          unfinished_in d.r d.there d.unfinished,
          follows_in d.r d.q d.unfinished.1 d.here d.continues,
          joined d.r d.q j d.there d.here (type_is (record_at t d.r) d.unfinished.0) (at j m ∙ d.same),
        ))
        (fold_source x t j m);
  }

  -- where test 9 finds nothing, no referrer is shorter than an unfinished record of x
  quiet : (Reviving x t → ⊥) → ((i : ℕ) → i < count_of t → 0 < prefix_at t i → is_a6 (record_at t i) ≡ true) → folding.Quiet g x
  quiet none six p r l z v o = go (leb (prefix_at t r) (prefix_at t p)) refl
    where
      go : (b : Bool) → leb (prefix_at t r) (prefix_at t p) ≡ b → prefix_at t r ≤ prefix_at t p
      go true e = leb-true (prefix_at t r) (prefix_at t p) e
      go false e =
          let own = in_unfinished r v in
          absurd (none (record {
            referrer = p;
            there = l;
            refers = (is_type_lem (record_at t p) (six p l z), z, sym (owns_is t r (target_at t p) o).1 ∙ own.2);
            own = r;
            here = v.0.0;
            unfinished = own;
            shorter = leb-false (prefix_at t r) (prefix_at t p) e;
          }))

  -- every name has after the rule the addresses that it had before
  pub fold_spells : InOrder t → (Reviving x t → ⊥) → (n a : List ℕ) → Spells (graph_of t) n a ↔ Spells (graph_of (flat (fold_of x t))) n a
  fold_spells o none = fold_keeps g x h (λ i l. address_length (record_at t i) (record_length t i l)) fold (quiet none six)
    where
      -- only A6 records have a prefix length over 0
      six : (i : ℕ) → i < count_of t → 0 < prefix_at t i → is_a6 (record_at t i) ≡ true
      six i l z =
          let k = order_good t o i l in
          ⊎_elim (type_is (record_at t i)) (λ d. let y : ⊥ = omega (arith, (k.bare d).0) in absurd y) k.kind
