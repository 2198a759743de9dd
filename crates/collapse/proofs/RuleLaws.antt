-- The rule that is computed (specs/Fold.antt) and the rule as statements (specs/Rule.antt) are one rule, for records of octets: to believe either is enough.
use Prim.Native.Nat.{ℕ, ◌<◌}
use mathlib.Core.Path.{◌≡◌, refl, sym, ap, ◌∙◌}
use mathlib.Core.Logic.{◌↔◌, inl, ⊎_elim}
use mathlib.Core.List.{List, [], ◌∷◌, ◌++◌, append-nil}
use native.Mathlib.Omega.{arith}
use lib.ListN.{length}
use Rattle.octets.specs.Octets.{Small}
use Rattle.octets.specs.Numbers.{octets_of}
use Rattle.octets.proofs.BoolLaws.{refuted}
use Rattle.octets.proofs.NumberLaws.{octets_small}
use Rattle.octets.proofs.SmallLaws.{small_cons, small_append}
use Rattle.address.proofs.AddressLaws.{join_small}
use Rattle.chains.specs.Lists.{In, up_to}
use Rattle.chains.proofs.ListLaws.{in_left, in_right}
use Rattle.plan.specs.Layout.{record_size, ttl_size, a6, prefix_of, address_of, owner_slot, target_slot, ttl_of, record_of, count_of, record_at}
use Rattle.plan.proofs.LayoutLaws.{record_length, record_small}
use Rattle.plan.proofs.RecordLaws.{address_length, owner_small, target_small, record_again}
use Rattle.collapse.specs.Fold.{unfinished, continues, joined_of, made_of, place_of, fold_of}
use Rattle.collapse.specs.Rule.{Joins, Made, taken, passed, Ruled, replaced, copied}
use Rattle.collapse.specs.Rule as rule
use Rattle.collapse.proofs.TestLaws.{unfinished_is, is_unfinished, continues_is, is_continues}
use Rattle.collapse.proofs.RecordLaws.{bits, least, joined_is}
use Rattle.collapse.proofs.FoldLaws.{made_on, made_off, place_on, place_off, Copy, Source, fold_from, fold_octets}

-- each record of the list consists of octets
abbrev pub AllSmall : List (List ℕ) → Type 0
AllSmall l = (r : List ℕ) → In r l → Small r

-- ---- one record
-- the fields of `Joins` are all of a record, so a record of octets with these fields is the one that is computed
pub joins_computed : (r q s : List ℕ) → Small s → Joins r q s → s ≡ joined_of r q
joins_computed r q s o j =
    record_again s j.whole o j.nought
    ∙ ap (λ (k : ℕ). record_of k (prefix_of s) (address_of s) (owner_slot s) (target_slot s) (ttl_of s)) j.kind
    ∙ joined_is r q (address_of s) (owner_slot s) (target_slot s) (prefix_of s) (ttl_of s) j.prefix j.bits j.owner j.target j.ttl

-- ---- the records of one place
module _ (t r : List ℕ) where
  pub made_computed : {n : ℕ} {m : List (List ℕ)} → Made t r n m → AllSmall m → m ≡ up_to n (made_of t r)
  unfolding up_to
  made_computed rule.Made.start o = refl
  made_computed (taken {j = j} {l = l} {s = s} c k d) o =
      let e = made_computed d (λ v i. o v (in_left v l (s ∷ []) i)) in
      let f = joins_computed r (record_at t j) s (o s (in_right s l (s ∷ []) (inl refl))) k in
      rw (made_on t r j (is_continues r (record_at t j) c)) (λ i. e i ++ f i ∷ [])
  made_computed (passed {j = j} c d) o =
      let f = refuted (continues r (record_at t j)) (λ h. c (continues_is r (record_at t j) h)) in
      rw (made_off t r j f, append-nil (up_to j (made_of t r))) (made_computed d o)

-- ---- the records of the table
module _ (x t : List ℕ) where
  ruled_computed : {n : ℕ} {l : List (List ℕ)} → Ruled x t n l → AllSmall l → l ≡ up_to n (place_of x t)
  unfolding up_to
  ruled_computed rule.Ruled.start o = refl
  ruled_computed (replaced {i = i} {l = l} {m = m} u d p) o =
      let e = ruled_computed p (λ v k. o v (in_left v l m k)) in
      let f = made_computed t (record_at t i) d (λ v k. o v (in_right v l m k)) in
      rw (place_on x t i (is_unfinished x (record_at t i) u)) (λ k. e k ++ f k)
  ruled_computed (copied {i = i} {l = l} u p) o =
      let e = ruled_computed p (λ v k. o v (in_left v l (record_at t i ∷ []) k)) in
      let f = refuted (unfinished x (record_at t i)) (λ h. u (unfinished_is x (record_at t i) h)) in
      rw (place_off x t i f) (λ k. e k ++ record_at t i ∷ [])

  -- Theorem: the rule as a statement allows one list of records of octets, whatever the table is: whoever believes Rule need not read Fold
  pub ruled_only : {n : ℕ} {l m : List (List ℕ)} → Ruled x t n l → Ruled x t n m → AllSmall l → AllSmall m → l ≡ m
  ruled_only p q o o' = ruled_computed p o ∙ sym (ruled_computed q o')

  -- That list is the one that is computed: whoever believes Fold need not read Rule.
  pub ruled_fold : (l : List (List ℕ)) → AllSmall l → Ruled x t (count_of t) l → l ≡ fold_of x t
  unfolding fold_of
  ruled_fold l o p = ruled_computed p o

-- ---- the list that is computed
fields_small : (prefix : ℕ) (address owner target : List ℕ) (ttl : ℕ) → prefix < 256 → Small address → Small owner → Small target → Small (record_of a6 prefix address owner target ttl)
unfolding record_of
fields_small prefix address owner target ttl p a o t =
    let l = octets_of ttl_size ttl in
    let f = small_append (address ++ owner ++ target) l (small_append (address ++ owner) target (small_append address owner a o) t) (octets_small ttl_size ttl) in
    let h = small_cons prefix (0 ∷ (address ++ owner ++ target ++ l)) p (small_cons 0 (address ++ owner ++ target ++ l) (omega arith) f) in
    small_cons 0 (38 ∷ prefix ∷ 0 ∷ (address ++ owner ++ target ++ l)) (omega arith) (small_cons 38 (prefix ∷ 0 ∷ (address ++ owner ++ target ++ l)) (omega arith) h)

joined_small : (r q : List ℕ) → length r ≡ record_size → length q ≡ record_size → Small r → Small q → Small (joined_of r q)
unfolding joined_of prefix_of
joined_small r q wr wq sr sq =
    fields_small (prefix_of q) (bits r q) (owner_slot r) (target_slot q) (least r q) (sq 2)
    (join_small (address_of q) (address_of r) (prefix_of r) (address_length q wq) (address_length r wr)) (owner_small r sr) (target_small q sq)

-- it consists of octets where the table does
pub fold_small : (x t : List ℕ) → Small t → AllSmall (fold_of x t)
fold_small x t s v m = ⊎_elim
    (λ (c : Copy x t v). rw c.same (record_small t c.i s))
    (λ (d : Source x t v).
    rw d.same
    (joined_small (record_at t d.r) (record_at t d.q) (record_length t d.r d.there) (record_length t d.q d.here) (record_small t d.r s) (record_small t d.q s)))
    (fold_from x t v m)

-- Theorem: of a table of octets, which is what a slice shows, a list is the one that is computed exactly when it consists of octets and is as the
-- rule says; so `fold_of` may be read for `Ruled`, and `Ruled` for `fold_of`
pub ruled_is_fold : (x t : List ℕ) → Small t → (l : List (List ℕ)) → (AllSmall l × Ruled x t (count_of t) l) ↔ (l ≡ fold_of x t)
ruled_is_fold x t s l = (λ p. ruled_fold x t l p.0 p.1, λ e. rw e (fold_small x t s, fold_octets x t s))
