-- What the rule's records are and where they come from; they are those that the rule describes.
use Prim.Native.Nat.{ℕ, zero, suc, ◌^◌, ◌≤◌, ◌<◌}
use mathlib.Core.Path.{◌≡◌, refl, sym, ap, ◌∙◌}
use mathlib.Core.Logic.{◌⊎◌, inl, inr, ⊎_elim}
use mathlib.Core.Bool.{Bool, true, false}
use mathlib.Core.List.{List, [], ◌∷◌, ◌++◌, append-nil}
use native.Mathlib.Omega.{arith}
use lib.ListN.{length, get_or}
use Rattle.octets.specs.Octets.{Small}
use Rattle.octets.proofs.BoolLaws.{clash}
use Rattle.octets.proofs.NumberLaws.{value_within}
use Rattle.chains.specs.Lists.{In, up_to}
use Rattle.chains.proofs.ListLaws.{in_at, in_up_to, up_to_in, in_pick}
use Rattle.plan.specs.Layout.{record_size, ttl_size, ttl_place, ttl_of, count_of, record_at}
use Rattle.plan.specs.Check.{InOrder}
use Rattle.plan.proofs.LayoutLaws.{Whole, record_length, record_small}
use Rattle.plan.proofs.OrderLaws.{order_good}
use Rattle.collapse.specs.Fold.{unfinished, continues, joined_of, made_of, place_of, fold_of}
use Rattle.collapse.specs.Rule.{Unfinished, Continues, Made, taken, passed, Ruled, replaced, copied}
use Rattle.collapse.specs.Rule as rule
use Rattle.collapse.proofs.TestLaws.{unfinished_is, is_unfinished, continues_is, is_continues}
use Rattle.collapse.proofs.RecordLaws.{joined_length_lem, joins}

-- ---- one record
module _ (t r : List ℕ) (j : ℕ) where
  pub made_on : continues r (record_at t j) ≡ true → made_of t r j ≡ joined_of r (record_at t j) ∷ []
  unfolding made_of
  made_on e = rw e

  pub made_off : continues r (record_at t j) ≡ false → made_of t r j ≡ []
  unfolding made_of
  made_off e = rw e

module _ (x t : List ℕ) (i : ℕ) where
  pub place_on : unfinished x (record_at t i) ≡ true → place_of x t i ≡ up_to (count_of t) (made_of t (record_at t i))
  unfolding place_of
  place_on e = rw e

  pub place_off : unfinished x (record_at t i) ≡ false → place_of x t i ≡ record_at t i ∷ []
  unfolding place_of
  place_off e = rw e

-- ---- elements by their positions
at_in : (r : List ℕ) (l : List (List ℕ)) → In r l → (j : ℕ) × (j < length l) × (get_or l j [] ≡ r)
at_in r [] x' = elim x' [ ]
at_in r (s ∷ l) (inl e) = (0, omega arith, sym e)
at_in r (s ∷ l) (inr m) = let p = at_in r l m in (suc p.0, omega (arith, p.1), p.2)

module _ (x t : List ℕ) where
  -- s is what the unfinished record r of x and q make
  pub record Source (s : List ℕ) : Type 0 where
    pub r : ℕ
    pub q : ℕ
    pub there : r < count_of t
    pub here : q < count_of t
    pub unfinished : Unfinished x (record_at t r)
    pub continues : Continues (record_at t r) (record_at t q)
    pub same : s ≡ joined_of (record_at t r) (record_at t q)

  -- s is the record i, which is not an unfinished one of x
  pub record Copy (s : List ℕ) : Type 0 where
    pub i : ℕ
    pub there : i < count_of t
    pub other : Unfinished x (record_at t i) → ⊥
    pub same : s ≡ record_at t i

  -- ---- where a record of the rule comes from
  pub made_source : (s : List ℕ) (i : ℕ) → i < count_of t → Unfinished x (record_at t i) → In s (up_to (count_of t) (made_of t (record_at t i))) → Source s
  unfolding made_of
  made_source s i h u m =
      let k = in_up_to s (count_of t) (made_of t (record_at t i)) m in
      let c = in_pick s (continues (record_at t i) (record_at t k.0)) (joined_of (record_at t i) (record_at t k.0) ∷ []) k.2 in
      record { r = i; q = k.0; there = h; here = k.1; unfinished = u; continues = continues_is (record_at t i) (record_at t k.0) c.0; same = ⊎_elim (λ e. e) (λ z. absurd z) c.1 }

  place_source : (s : List ℕ) (i : ℕ) → i < count_of t → In s (place_of x t i) → Copy s ⊎ Source s
  place_source s i h m = go (unfinished x (record_at t i)) refl
    where
      go : (b : Bool) → unfinished x (record_at t i) ≡ b → Copy s ⊎ Source s
      go true e = inr (made_source s i h (unfinished_is x (record_at t i) e) (rw (place_on x t i e) at m))
      go false e =
          let k : In s (record_at t i ∷ []) = rw (place_off x t i e) at m in
          inl (record { i = i; there = h; other = λ u. clash (is_unfinished x (record_at t i) u) e; same = ⊎_elim (λ p. p) (λ z. absurd z) k })

  pub fold_from : (s : List ℕ) → In s (fold_of x t) → Copy s ⊎ Source s
  unfolding fold_of
  fold_from s m = let k = in_up_to s (count_of t) (place_of x t) m in place_source s k.0 k.1 k.2

  pub fold_source : (j : ℕ) → j < length (fold_of x t) → Copy (get_or (fold_of x t) j []) ⊎ Source (get_or (fold_of x t) j [])
  fold_source j h = fold_from (get_or (fold_of x t) j []) (in_at (fold_of x t) j h)

  -- ---- and that each has its place
  pub fold_keeps_other : (i : ℕ) → i < count_of t → (Unfinished x (record_at t i) → ⊥) → (j : ℕ) × (j < length (fold_of x t)) × (get_or (fold_of x t) j [] ≡ record_at t i)
  unfolding fold_of
  fold_keeps_other i h u = at_in (record_at t i) (fold_of x t) (up_to_in (record_at t i) (count_of t) (place_of x t) i h (go (unfinished x (record_at t i)) refl))
    where
      go : (b : Bool) → unfinished x (record_at t i) ≡ b → In (record_at t i) (place_of x t i)
      go true e = absurd (u (unfinished_is x (record_at t i) e))
      go false e = rw (place_off x t i e) (inl refl)

  pub fold_makes : (r q : ℕ) → r < count_of t → Unfinished x (record_at t r) → q < count_of t → Continues (record_at t r) (record_at t q)
      → (j : ℕ) × (j < length (fold_of x t)) × (get_or (fold_of x t) j [] ≡ joined_of (record_at t r) (record_at t q))
  unfolding fold_of
  fold_makes r q h u k c =
      let s = joined_of (record_at t r) (record_at t q) in
      let m = up_to_in s (count_of t) (made_of t (record_at t r)) q k (rw (made_on t (record_at t r) q (is_continues (record_at t r) (record_at t q) c)) (inl refl)) in
      at_in s (fold_of x t) (up_to_in s (count_of t) (place_of x t) r h (rw (place_on x t r (is_unfinished x (record_at t r) u)) m))

  -- ---- whole records
  pub fold_whole : Whole (fold_of x t)
  fold_whole j h = ⊎_elim
      (λ (c : Copy (get_or (fold_of x t) j [])). ap length c.same ∙ record_length t c.i c.there)
      (λ (d : Source (get_or (fold_of x t) j [])). ap length d.same ∙ joined_length_lem (record_at t d.r) (record_at t d.q) (record_length t d.r d.there) (record_length t d.q d.here))
      (fold_source j h)

  -- ---- the rule, record by record
  made_rule : (r : List ℕ) → length r ≡ record_size → ttl_of r < 2 ^ 32 → (n : ℕ) → n ≤ count_of t → Made t r n (up_to n (made_of t r))
  unfolding up_to
  made_rule r w v zero h = rule.Made.start
  made_rule r w v (suc n) h = go (continues r (record_at t n)) refl (made_rule r w v n (omega arith))
    where
      go : (b : Bool) → continues r (record_at t n) ≡ b → Made t r n (up_to n (made_of t r)) → Made t r (suc n) (up_to n (made_of t r) ++ made_of t r n)
      go true e d = rw (made_on t r n e) (taken (continues_is r (record_at t n) e) (joins r (record_at t n) w (record_length t n (omega arith)) (omega (arith, v))) d)
      go false e d = rw (made_off t r n e, append-nil (up_to n (made_of t r))) (passed (λ c. clash (is_continues r (record_at t n) c) e) d)

  rule_to : ((i : ℕ) → i < count_of t → ttl_of (record_at t i) < 2 ^ 32) → (n : ℕ) → n ≤ count_of t → Ruled x t n (up_to n (place_of x t))
  unfolding up_to
  rule_to v zero h = rule.Ruled.start
  rule_to v (suc n) h = go (unfinished x (record_at t n)) refl (rule_to v n (omega arith))
    where
      go : (b : Bool) → unfinished x (record_at t n) ≡ b → Ruled x t n (up_to n (place_of x t)) → Ruled x t (suc n) (up_to n (place_of x t) ++ place_of x t n)
      go true e d =
          rw (place_on x t n e) (replaced (unfinished_is x (record_at t n) e) (made_rule (record_at t n) (record_length t n (omega arith)) (v n (omega arith)) (count_of t) (omega arith)) d)
      go false e d = rw (place_off x t n e) (copied (λ u. clash (is_unfinished x (record_at t n) u) e) d)

  -- for a table whose TTLs fit four octets: one of octets, or one in order
  fold_fits : ((i : ℕ) → i < count_of t → ttl_of (record_at t i) < 2 ^ 32) → Ruled x t (count_of t) (fold_of x t)
  unfolding fold_of
  fold_fits v = rule_to v (count_of t) (omega arith)

  pub fold_octets : Small t → Ruled x t (count_of t) (fold_of x t)
  unfolding ttl_of
  fold_octets s = fold_fits (λ i h. value_within ttl_size (record_at t i) ttl_place (omega (arith, record_length t i h)) (record_small t i s))

  pub fold_rule : InOrder t → Ruled x t (count_of t) (fold_of x t)
  fold_rule o = fold_fits (λ i h. omega (arith, (order_good t o i h).lived))
