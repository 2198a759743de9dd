-- Demand 3 holds: a call keeps the table in order and every name's addresses, and so does a list of calls.
use Prim.Native.Nat.{ℕ, zero, suc, ◌-◌, ◌*◌, ◌/◌, ◌%◌, ◌≤◌}
use mathlib.Core.Path.{◌≡◌, refl, sym, subst, ◌∙◌}
use mathlib.Core.Logic.{◌⊎◌, inl, inr, ⊎_elim, ◌↔◌}
use mathlib.Core.Bool.{Bool, true, false}
use mathlib.Core.List.{List, [], ◌∷◌}
use native.Mathlib.Omega.{arith}
use lib.Dec.{ltb, eqb}
use lib.ListN.{length}
use lib.Seq.{take_at}
use borrow.Author.Tests.{ltb-true, ltb-false, eqb-true, eqb-false}
use Rattle.octets.proofs.BoolLaws.{clash, refuted}
use Rattle.octets.specs.Octets.{blank, flat}
use Rattle.octets.specs.declared.Answer.{Answer}
use Rattle.labels.specs.Scan.{well_formed}
use Rattle.chains.specs.Chain.{Spells}
use Rattle.plan.specs.Layout.{record_size, max_records}
use Rattle.plan.specs.Check.{InOrder}
use Rattle.octets.proofs.AnswerLaws.{by_number}
use Rattle.plan.proofs.EntryLaws.{entry_name, entry_done}
use Rattle.plan.proofs.LayoutLaws.{octets_length}
use Rattle.plan.specs.Graph.{graph_of}
use Rattle.collapse.specs.Fold.{fold_of, reviving}
use Rattle.collapse.specs.Rule.{Reviving}
use Rattle.collapse.specs.Collapse.{passes, number_of, collapse_of}
use Rattle.collapse.specs.Demand3.{Call, gives, after, in_hand, ruled, Passes, Answered, Demand3}
use Rattle.collapse.proofs.TestLaws.{reviving_is, is_reviving}
use Rattle.collapse.proofs.FoldLaws.{fold_whole, fold_rule}
use Rattle.collapse.proofs.OrderedLaws.{fold_ordered}
use Rattle.collapse.proofs.Kept.{fold_spells}
use Rattle.collapse.proofs.CollapseLaws.{passes_room, passes_many, passes_not, number_entry, number_output, number_reviving, number_room, number_done, accepted_answer, accepted_out}

-- ---- the records of the rule pass the room or 1,024
module _ (size : ℕ) (rs : List (List ℕ)) where
  is_passing : Passes size rs → passes size rs ≡ true
  is_passing p = ⊎_elim (passes_room size rs) (passes_many size rs) p

  not_passing : passes size rs ≡ false → (length rs ≤ size / record_size) × (length rs ≤ max_records)
  not_passing e = (
    ltb-false (size / record_size) (length rs) (refuted (ltb (size / record_size) (length rs)) (λ h. clash (passes_room size rs (ltb-true (size / record_size) (length rs) h)) e)),
    ltb-false max_records (length rs) (refuted (ltb max_records (length rs)) (λ h. clash (passes_many size rs (ltb-true max_records (length rs) h)) e)),
  )

  passing_is : passes size rs ≡ true → Passes size rs
  passing_is e = go (ltb (size / record_size) (length rs)) refl
    where
      go : (b : Bool) → ltb (size / record_size) (length rs) ≡ b → Passes size rs
      go true h = inl (ltb-true (size / record_size) (length rs) h)
      go false h = other (ltb max_records (length rs)) refl
        where
          other : (c : Bool) → ltb max_records (length rs) ≡ c → Passes size rs
          other true k = inr (ltb-true max_records (length rs) k)
          other false k = absurd (clash e (passes_not size rs (ltb-false (size / record_size) (length rs) h) (ltb-false max_records (length rs) k)))

-- ---- the table in hand after a call
after_refusal : (t : List ℕ) (o : Answer × List ℕ) (k : ℕ) → o.0.number ≡ suc k → after t o ≡ t
unfolding after
after_refusal t o k e = rw e

after_done : (t x : List ℕ) (size : ℕ) → number_of t x size ≡ 0 → after t (collapse_of t x size) ≡ flat (fold_of x t)
unfolding after collapse_of
after_done t x size e =
    rw (accepted_answer t x size e, accepted_out t x size e)
    (take_at (flat (fold_of x t)) (blank (size - length (fold_of x t) * record_size)) (length (fold_of x t) * record_size) (octets_length (fold_of x t) (fold_whole x t)))

module _ (t : List ℕ) (o : InOrder t) (c : Call) where
  abbrev x : List ℕ
  x = c.name

  abbrev n : ℕ
  n = number_of t x c.size

  given : (gives t c).0.number ≡ n
  unfolding gives collapse_of
  given = by_number n _ _

  misnamed : well_formed x ≡ false → n ≡ 4
  misnamed w =
      let e = entry_name t x o w in
      number_entry t x c.size (λ z. omega (arith, e, z)) ∙ e

  -- ---- each call is answered as the demand says
  module _ (w : well_formed x ≡ true) (e : c.size % record_size ≡ 0) where
    -- 7 or 0, where 9 is not due
    rest : reviving x t ≡ false → ((n ≡ 7) × (passes c.size (ruled t c) ≡ true)) ⊎ ((n ≡ 0) × (passes c.size (ruled t c) ≡ false))
    rest v = go (passes c.size (ruled t c)) refl
      where
        go : (b : Bool) → passes c.size (ruled t c) ≡ b → ((n ≡ 7) × (passes c.size (ruled t c) ≡ true)) ⊎ ((n ≡ 0) × (passes c.size (ruled t c) ≡ false))
        go true p = inl (number_room t x c.size (entry_done t x o w) e v p, p)
        go false p = inr (number_done t x c.size (entry_done t x o w) e v p, p)

    nine : (n ≡ 9) ↔ Reviving x t
    nine = (λ k. go k (reviving x t) refl, λ r. number_reviving t x c.size (entry_done t x o w) e (is_reviving x t r))
      where
        go : n ≡ 9 → (b : Bool) → reviving x t ≡ b → Reviving x t
        go k true v = reviving_is x t v
        go k false v = let z : ⊥ = ⊎_elim (λ p. omega (arith, p.0)) (λ p. omega (arith, p.0)) (rest v) in absurd z

    silent : (Reviving x t → ⊥) → reviving x t ≡ false
    silent q = refuted (reviving x t) (λ v. q (reviving_is x t v))

    seven : (Reviving x t → ⊥) → (n ≡ 7) ↔ Passes c.size (ruled t c)
    seven q = (
      λ k. ⊎_elim (λ p. passing_is c.size (ruled t c) p.1) (λ p. let z : ⊥ = omega (arith, p.0) in absurd z) (rest (silent q)),
      λ p. number_room t x c.size (entry_done t x o w) e (silent q) (is_passing c.size (ruled t c) p),
    )

    zero_due : (Reviving x t → ⊥) → (Passes c.size (ruled t c) → ⊥) → n ≡ 0
    zero_due q p = number_done t x c.size (entry_done t x o w) e (silent q) (refuted (passes c.size (ruled t c)) (λ h. p (passing_is c.size (ruled t c) h)))

  answered : Answered t c
  unfolding gives collapse_of
  answered = record {
    rule = fold_rule x t o;
    misnamed = λ w. given ∙ misnamed w;
    misshapen = λ w e. given ∙ number_output t x c.size (entry_done t x o w) e;
    revives = λ w e. (λ k. (nine w e).0 (sym given ∙ k), λ r. given ∙ (nine w e).1 r);
    passes = λ w e q. (λ k. (seven w e q).0 (sym given ∙ k), λ p. given ∙ (seven w e q).1 p);
    accepted = λ w e q p.
        let z = zero_due w e q p in
        let a = accepted_answer t x c.size z in
        let b = accepted_out t x c.size z in
        (λ i. (a i, b i), after_done t x c.size z);
  }

  -- ---- 0 is answered only where nothing refuses
  record Clean : Type 0 where
    quiet : Reviving x t → ⊥
    few : length (ruled t c) ≤ max_records

  clean : n ≡ 0 → Clean
  clean z = by_name (well_formed x) refl (eqb (c.size % record_size) 0) refl (reviving x t) refl
    where
      by_name : (a : Bool) → well_formed x ≡ a → (b : Bool) → eqb (c.size % record_size) 0 ≡ b → (d : Bool) → reviving x t ≡ d → Clean
      by_name false w b e d v = let y : ⊥ = omega (arith, misnamed w) in absurd y
      by_name true w false e d v = let y : ⊥ = omega (arith, number_output t x c.size (entry_done t x o w) (eqb-false (c.size % record_size) 0 e)) in absurd y
      by_name true w true e true v = let y : ⊥ = omega (arith, number_reviving t x c.size (entry_done t x o w) (eqb-true (c.size % record_size) 0 e) v) in absurd y
      by_name true w true e false v = record {
        quiet = λ r. clash (is_reviving x t r) v;
        few = ⊎_elim (λ p. let y : ⊥ = omega (arith, p.0) in absurd y) (λ p. (not_passing c.size (ruled t c) p.1).1) (rest w (eqb-true (c.size % record_size) 0 e) v);
      }

  -- ---- the table after a call is in order, and every name has its addresses
  record Step : Type 0 where
    ordered : InOrder (after t (gives t c))
    spelt : (m a : List ℕ) → Spells (graph_of (after t (gives t c))) m a ↔ Spells (graph_of t) m a

  step : Step
  unfolding gives
  step = go n refl
    where
      go : (k : ℕ) → n ≡ k → Step
      go (suc k) e =
          let s : after t (gives t c) ≡ t = after_refusal t (gives t c) k (given ∙ e) in
          record { ordered = subst InOrder (sym s) o; spelt = λ m a. subst (λ (u : List ℕ). Spells (graph_of u) m a ↔ Spells (graph_of t) m a) (sym s) (λ p. p, λ p. p) }
      go zero e =
          let s : after t (gives t c) ≡ flat (ruled t c) = after_done t x c.size e in
          let d = clean e in
          record {
            ordered = subst InOrder (sym s) (fold_ordered x t o d.few);
            spelt = λ m a. let k = fold_spells x t o d.quiet m a in subst (λ (u : List ℕ). Spells (graph_of u) m a ↔ Spells (graph_of t) m a) (sym s) (k.1, k.0);
          }

-- ---- a list of calls
ordered : (t : List ℕ) → InOrder t → (calls : List Call) → InOrder (in_hand t calls)
unfolding in_hand
ordered t o [] = o
ordered t o (c ∷ calls) = ordered (after t (gives t c)) (step t o c).ordered calls

spelt : (t : List ℕ) → InOrder t → (calls : List Call) (m a : List ℕ) → Spells (graph_of (in_hand t calls)) m a ↔ Spells (graph_of t) m a
unfolding in_hand
spelt t o [] m a = (λ p. p, λ p. p)
spelt t o (c ∷ calls) m a =
    let s = step t o c in
    let r = spelt (after t (gives t c)) s.ordered calls m a in
    (λ p. (s.spelt m a).0 (r.0 p), λ p. r.1 ((s.spelt m a).1 p))

-- Theorem: any list of collapses keeps every name's addresses, and each call is refused or gives the rule's table
pub demand3 : Demand3
demand3 t o calls = record {
  each = λ earlier later c e. (ordered t o earlier, answered (in_hand t earlier) (ordered t o earlier) c);
  ordered = ordered t o calls;
  spelt = spelt t o calls;
}
