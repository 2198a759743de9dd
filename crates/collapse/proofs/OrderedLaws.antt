-- The rule keeps a table in order: made records keep the layout, and each DNAME is copied once, in order.
use Prim.Native.Nat.{ℕ, zero, suc, ◌+◌, ◌-◌, ◌≤◌, ◌<◌}
use mathlib.Core.Path.{◌≡◌, refl, sym, ap, ap₂, subst, ◌∙◌}
use mathlib.Core.Logic.{⊎_elim}
use mathlib.Core.Bool.{Bool, true, false}
use mathlib.Core.List.{List, [], ◌∷◌, ◌++◌}
use native.Mathlib.Omega.{arith}
use lib.Dec.{ltb}
use lib.ListN.{length, get_or, length-append, get_or-append}
use lib.Seq.{get_or-append-add}
use borrow.Author.Tests.{ltb-true, ltb-false}
use Rattle.octets.specs.Octets.{flat}
use Rattle.names.specs.Standard.{same_name}
use Rattle.chains.specs.Lists.{In, up_to}
use Rattle.chains.proofs.ListLaws.{in_up_to, in_at}
use Rattle.plan.specs.Layout.{max_records, dname, type_of, count_of, record_at, owner_of}
use Rattle.plan.specs.Check.{InOrder}
use Rattle.plan.specs.Good.{Good}
use Rattle.plan.proofs.LayoutLaws.{record_length}
use Rattle.plan.proofs.OrderLaws.{order_good, order_apart, order_made}
use Rattle.collapse.specs.Fold.{unfinished, place_of, fold_of}
use Rattle.collapse.proofs.TestLaws.{unfinished_is}
use Rattle.collapse.proofs.RecordLaws.{joined_good, kind_joined}
use Rattle.collapse.proofs.FoldLaws.{Source, Copy, made_source, place_on, place_off, fold_source, fold_whole}

-- ---- the DNAMEs of the rule's records stand as they stood
module _ (x t : List ℕ) where
  -- a DNAME stands alone at its place
  place_single : (i : ℕ) → i < count_of t → (s : List ℕ) → In s (place_of x t i) → type_of s ≡ dname → place_of x t i ≡ record_at t i ∷ []
  place_single i h s m d = go (unfinished x (record_at t i)) refl
    where
      go : (b : Bool) → unfinished x (record_at t i) ≡ b → place_of x t i ≡ record_at t i ∷ []
      go true e =
          let k = made_source x t s i h (unfinished_is x (record_at t i) e) (rw (place_on x t i e) at m) in
          let j = kind_joined (record_at t k.r) (record_at t k.q) (record_length t k.r k.there) (record_length t k.q k.here) in
          let z : ⊥ = omega (arith, d, ap type_of k.same, j) in
          absurd z
      go false e = place_off x t i e

  dname_one : (n : ℕ) → n ≤ count_of t → (a : ℕ) → a < length (up_to n (place_of x t)) → type_of (get_or (up_to n (place_of x t)) a []) ≡ dname
      → (i : ℕ) × (i < n) × (get_or (up_to n (place_of x t)) a [] ≡ record_at t i)
  dname_one n h a l d =
      let s = get_or (up_to n (place_of x t)) a [] in
      let k = in_up_to s n (place_of x t) (in_at (up_to n (place_of x t)) a l) in
      let m : In s (record_at t k.0 ∷ []) = subst (λ (ws : List (List ℕ)). In s ws) (place_single k.0 (omega (arith, k.1)) s k.2 d) k.2 in
      (k.0, k.1, ⊎_elim (λ e. e) (λ z. absurd z) m)

  -- two of them come from two places in the same order
  dname_two : (n : ℕ) → n ≤ count_of t → (a b : ℕ) → a < b → b < length (up_to n (place_of x t))
      → type_of (get_or (up_to n (place_of x t)) a []) ≡ dname → type_of (get_or (up_to n (place_of x t)) b []) ≡ dname
      → (i : ℕ) × (j : ℕ) × (i < j) × (j < n) × (get_or (up_to n (place_of x t)) a [] ≡ record_at t i) × (get_or (up_to n (place_of x t)) b [] ≡ record_at t j)
  unfolding up_to
  dname_two zero h a b l k da db = let z : ⊥ = omega arith in absurd z
  dname_two (suc n) h a b l k da db = go (ltb b (length L)) refl (λ v da' db'. dname_two n (omega arith) a b l v da' db')
    where
      L : List (List ℕ)
      L = up_to n (place_of x t)

      at : ℕ → List ℕ
      at i = get_or (L ++ place_of x t n) i []

      within : (i : ℕ) → i < length L → at i ≡ get_or L i []
      within i v = get_or-append L (place_of x t n) [] i v

      go : (c : Bool) → ltb b (length L) ≡ c
          → (b < length L → type_of (get_or L a []) ≡ dname → type_of (get_or L b []) ≡ dname
          → (i : ℕ) × (j : ℕ) × (i < j) × (j < n) × (get_or L a [] ≡ record_at t i) × (get_or L b [] ≡ record_at t j))
          → (i : ℕ) × (j : ℕ) × (i < j) × (j < suc n) × (at a ≡ record_at t i) × (at b ≡ record_at t j)
      go true e ih =
          let v = ltb-true b (length L) e in
          let ea = within a (omega arith) in
          let eb = within b v in
          let r = ih v (ap type_of (sym ea) ∙ da) (ap type_of (sym eb) ∙ db) in
          (r.0, r.1, r.2, omega (arith, r.3), ea ∙ r.4, eb ∙ r.5)
      go false e ih =
          let v = ltb-false b (length L) e in
          let w : b ≡ length L + (b - length L) = omega arith in
          let eb : at b ≡ get_or (place_of x t n) (b - length L) [] = ap at w ∙ get_or-append-add L (place_of x t n) (b - length L) [] in
          let p : b - length L < length (place_of x t n) = omega (arith, length-append L (place_of x t n)) in
          let m = place_single n (omega arith) (get_or (place_of x t n) (b - length L) []) (in_at (place_of x t n) (b - length L) p) (ap type_of (sym eb) ∙ db) in
          let y : b - length L ≡ 0 = omega (arith, ap length m) in
          let ea = within a (omega arith) in
          let r = dname_one n (omega arith) a (omega arith) (ap type_of (sym ea) ∙ da) in
          (r.0, n, r.1, omega arith, ea ∙ r.2, eb ∙ ap₂ (λ (l : List (List ℕ)) (i : ℕ). get_or l i []) m y)

-- the rule's records are a table in order, if they are not too many
pub fold_ordered : (x t : List ℕ) → InOrder t → length (fold_of x t) ≤ max_records → InOrder (flat (fold_of x t))
unfolding fold_of
fold_ordered x t o few = order_made rs (fold_whole x t) few good apart
  where
    rs : List (List ℕ)
    rs = fold_of x t

    good : (j : ℕ) → j < length rs → Good (get_or rs j [])
    good j h = ⊎_elim
        (λ (k : Copy x t (get_or rs j [])). rw k.same (order_good t o k.i k.there))
        (λ (d : Source x t (get_or rs j [])).
        rw d.same
        (joined_good (record_at t d.r) (record_at t d.q) (record_length t d.r d.there) (record_length t d.q d.here)
        (order_good t o d.r d.there) (order_good t o d.q d.here) d.continues.0 d.continues.1))
        (fold_source x t j h)

    apart : (i j : ℕ) → i < j → j < length rs → type_of (get_or rs i []) ≡ dname → type_of (get_or rs j []) ≡ dname → same_name (owner_of (get_or rs i [])) (owner_of (get_or rs j [])) ≡ false
    apart i j l h di dj =
        let r = dname_two x t (count_of t) (omega arith) i j l h di dj in
        ap₂ (λ (v w : List ℕ). same_name (owner_of v) (owner_of w)) r.4 r.5 ∙ order_apart t o r.0 r.1 r.2 r.3 (ap type_of (sym r.4) ∙ di) (ap type_of (sym r.5) ∙ dj)
