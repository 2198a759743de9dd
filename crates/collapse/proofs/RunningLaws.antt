-- Laws of the running pieces: the tests in the order of the code, test 9 by two numbers, and records stored one after the other.
use Rattle.std.specs.Prelude.{Option, Some, None}
use Prim.Native.Nat.{ℕ, zero, suc, ◌+◌, ◌-◌, ◌*◌, ◌/◌, ◌≤◌, ◌<◌, min, max}
use mathlib.Core.Path.{◌≡◌, refl, sym, ap, ◌∙◌}
use mathlib.Core.Bool.{Bool, true, false, ◌&&◌}
use mathlib.Core.List.{List, [], ◌∷◌, ◌++◌, append_assoc, append-nil}
use native.Mathlib.Omega.{arith}
use native.Mathlib.Numerals.{add-one}
use native.Mathlib.Nat.{add-zero, suc-mul}
use lib.Dec.{ltb, eqb}
use lib.ListN.{length, take, drop, length-append, length-drop, drop_of_length-le}
use lib.Seq.{paste, take_at, drop-drop, drop-append-add, take_all, length-take-le}
use borrow.Author.Tests.{lt-ltb, le-ltb, ltb-true, ltb-false, eqb-true, eqb-false}
use Rattle.octets.proofs.BoolLaws.{clash, refuted}
use Rattle.octets.specs.Octets.{blank, flat}
use Rattle.names.specs.Standard.{Same, same_name}
use Rattle.chains.specs.Lists.{pick, up_to}
use Rattle.chains.proofs.ListLaws.{pick_true, pick_false, both_true, up_to_same}
use Rattle.plan.specs.First.{some}
use Rattle.plan.specs.Layout.{record_size, prefix_of, is_a6, owner_of, target_of, count_of, record_at, prefix_at}
use Rattle.plan.proofs.LayoutLaws.{Whole, octets_length}
use Rattle.collapse.specs.Fold.{leads, unfinished, continues, refers, ignores, reviving, joined_of, made_of, place_of, fold_of}
use Rattle.collapse.specs.Running.{lesser_of, greater_of, least_of, most_of, span_of, lies_below, crossed, made_by, stored_one, stored}
use Rattle.collapse.proofs.TestLaws.{reviving_is, is_reviving, unfinished_is, is_unfinished, refers_is, is_refers}
use Rattle.collapse.proofs.FoldLaws.{made_on, made_off}

-- ---- the tests of records
-- a record that has a target has a prefix length over 0
pub leads_some : (r : List ℕ) → leads r ≡ true → prefix_of r ≡ 0 → ⊥
leads_some r h z = omega (arith, ltb-true 0 (prefix_of r) (both_true (is_a6 r) (ltb 0 (prefix_of r)) h).1)

module _ (x r : List ℕ) where
  pub unfinished_leads : unfinished x r ≡ (leads r && same_name (owner_of r) x)
  unfolding unfinished
  unfinished_leads = refl

  pub refers_leads : refers x r ≡ (leads r && same_name (target_of r) x)
  unfolding refers
  refers_leads = refl

-- ---- the least and the greatest value of those that pass a test
lesser_own : (o : Option ℕ) (x : ℕ) → lesser_of o x ≤ x
lesser_own None x = omega arith
lesser_own (Some b) x = omega arith

greater_own : (o : Option ℕ) (x : ℕ) → x ≤ greater_of o x
greater_own None x = omega arith
greater_own (Some b) x = omega arith

module _ (f : ℕ → Bool) (v : ℕ → ℕ) where
  least_le : (n i : ℕ) → i < n → f i ≡ true → (j : ℕ) × (least_of f v n ≡ Some j) × (j ≤ v i)
  unfolding least_of
  least_le zero i h e = let z : ⊥ = omega arith in absurd z
  least_le (suc n) i h e = go (f n) refl (eqb i n) refl (λ k. least_le n i k e)
    where
      go : (b : Bool) → f n ≡ b → (d : Bool) → eqb i n ≡ d → (i < n → (j : ℕ) × (least_of f v n ≡ Some j) × (j ≤ v i))
          → (j : ℕ) × (pick b (Some (lesser_of (least_of f v n) (v n))) (least_of f v n) ≡ Some j) × (j ≤ v i)
      go true p true q ih = (lesser_of (least_of f v n) (v n), refl, omega (arith, lesser_own (least_of f v n) (v n), ap v (eqb-true i n q)))
      go true p false q ih =
          let d = eqb-false i n q in
          let k = ih (omega (arith, d)) in
          (lesser_of (Some k.0) (v n), ap (λ (o : Option ℕ). Some (lesser_of o (v n))) k.1, omega (arith, k.2))
      go false p true q ih = absurd (clash (ap f (sym (eqb-true i n q)) ∙ e) p)
      go false p false q ih = let d = eqb-false i n q in ih (omega (arith, d))

  most_ge : (n i : ℕ) → i < n → f i ≡ true → (j : ℕ) × (most_of f v n ≡ Some j) × (v i ≤ j)
  unfolding most_of
  most_ge zero i h e = let z : ⊥ = omega arith in absurd z
  most_ge (suc n) i h e = go (f n) refl (eqb i n) refl (λ k. most_ge n i k e)
    where
      go : (b : Bool) → f n ≡ b → (d : Bool) → eqb i n ≡ d → (i < n → (j : ℕ) × (most_of f v n ≡ Some j) × (v i ≤ j))
          → (j : ℕ) × (pick b (Some (greater_of (most_of f v n) (v n))) (most_of f v n) ≡ Some j) × (v i ≤ j)
      go true p true q ih = (greater_of (most_of f v n) (v n), refl, omega (arith, greater_own (most_of f v n) (v n), ap v (eqb-true i n q)))
      go true p false q ih =
          let d = eqb-false i n q in
          let k = ih (omega (arith, d)) in
          (greater_of (Some k.0) (v n), ap (λ (o : Option ℕ). Some (greater_of o (v n))) k.1, omega (arith, k.2))
      go false p true q ih = absurd (clash (ap f (sym (eqb-true i n q)) ∙ e) p)
      go false p false q ih = let d = eqb-false i n q in ih (omega (arith, d))

  -- one that passes has the value
  Has : ℕ → ℕ → Type 0
  Has n k = (i : ℕ) × (i < n) × (f i ≡ true) × (v i ≡ k)

  least_is : (n k : ℕ) → least_of f v n ≡ Some k → Has n k
  unfolding least_of Has
  least_is zero k e = cc
  least_is (suc n) k e = go (f n) refl (least_of f v n) refl e (least_is n)
    where
      go : (b : Bool) → f n ≡ b → (o : Option ℕ) → least_of f v n ≡ o → pick b (Some (lesser_of o (v n))) o ≡ Some k → ((j : ℕ) → least_of f v n ≡ Some j → Has n j) → Has (suc n) k
      go true p None q e ih = let z : v n ≡ k = cc in (n, omega arith, p, z)
      go true p (Some j) q e ih = less (ltb j (v n)) refl
        where
          z : min j (v n) ≡ k
          z = cc

          less : (d : Bool) → ltb j (v n) ≡ d → Has (suc n) k
          less true w = let l = ltb-true j (v n) w in let r = ih j q in (r.0, omega (arith, r.1), r.2, omega (arith, r.3, z))
          less false w = let l = ltb-false j (v n) w in (n, omega arith, p, omega (arith, z))
      go false p o q e ih = let r = ih k (q ∙ e) in (r.0, omega (arith, r.1), r.2, r.3)

  most_is : (n k : ℕ) → most_of f v n ≡ Some k → Has n k
  unfolding most_of Has
  most_is zero k e = cc
  most_is (suc n) k e = go (f n) refl (most_of f v n) refl e (most_is n)
    where
      go : (b : Bool) → f n ≡ b → (o : Option ℕ) → most_of f v n ≡ o → pick b (Some (greater_of o (v n))) o ≡ Some k → ((j : ℕ) → most_of f v n ≡ Some j → Has n j) → Has (suc n) k
      go true p None q e ih = let z : v n ≡ k = cc in (n, omega arith, p, z)
      go true p (Some j) q e ih = less (ltb (v n) j) refl
        where
          z : max j (v n) ≡ k
          z = cc

          less : (d : Bool) → ltb (v n) j ≡ d → Has (suc n) k
          less true w = let l = ltb-true (v n) j w in let r = ih j q in (r.0, omega (arith, r.1), r.2, omega (arith, r.3, z))
          less false w = let l = ltb-false (v n) j w in (n, omega arith, p, omega (arith, z))
      go false p o q e ih = let r = ih k (q ∙ e) in (r.0, omega (arith, r.1), r.2, r.3)

-- ---- the loop that finds both: one record more
module _ (x t : List ℕ) (i : ℕ) where
  pub shortest_on : refers x (record_at t i) ≡ true → Some (lesser_of (span_of x t i).shortest (prefix_at t i)) ≡ (span_of x t (i + 1)).shortest
  unfolding span_of least_of
  shortest_on e = rw (add-one i, least_of, e)

  pub shortest_off : refers x (record_at t i) ≡ false → (span_of x t i).shortest ≡ (span_of x t (i + 1)).shortest
  unfolding span_of least_of
  shortest_off e = rw (add-one i, least_of, e)

  pub longest_on : unfinished x (record_at t i) ≡ true → Some (greater_of (span_of x t i).longest (prefix_at t i)) ≡ (span_of x t (i + 1)).longest
  unfolding span_of most_of
  longest_on e = rw (add-one i, most_of, e)

  pub longest_off : unfinished x (record_at t i) ≡ false → (span_of x t i).longest ≡ (span_of x t (i + 1)).longest
  unfolding span_of most_of
  longest_off e = rw (add-one i, most_of, e)

-- ---- test 9: the shortest referrer against the longest unfinished record
module _ (x t : List ℕ) where
  abbrev R : ℕ → Bool
  R i = refers x (record_at t i)

  abbrev U : ℕ → Bool
  U i = unfinished x (record_at t i)

  pub revives_by : crossed (span_of x t (count_of t)) ≡ true → reviving x t ≡ true
  unfolding span_of Has
  revives_by h = go (least_of R (prefix_at t) (count_of t)) refl (most_of U (prefix_at t) (count_of t)) refl h
    where
      go : (s : Option ℕ) → least_of R (prefix_at t) (count_of t) ≡ s → (l : Option ℕ) → most_of U (prefix_at t) (count_of t) ≡ l → lies_below s l ≡ true → reviving x t ≡ true
      go None p l q e = absurd (clash e refl)
      go (Some a) p None q e = absurd (clash e refl)
      go (Some a) p (Some b) q e =
          let r = least_is R (prefix_at t) (count_of t) a p in
          let u = most_is U (prefix_at t) (count_of t) b q in
          is_reviving x t (record {
            referrer = r.0;
            there = r.1;
            refers = refers_is x (record_at t r.0) r.2;
            own = u.0;
            here = u.1;
            unfinished = unfinished_is x (record_at t u.0) u.2;
            shorter = omega (arith, ltb-true a b e, r.3, u.3);
          })

  pub quiet_by : crossed (span_of x t (count_of t)) ≡ false → reviving x t ≡ false
  unfolding span_of
  quiet_by h = refuted (reviving x t) (λ e.
      let v = reviving_is x t e in
      let a = least_le R (prefix_at t) (count_of t) v.referrer v.there (is_refers x (record_at t v.referrer) v.refers) in
      let b = most_ge U (prefix_at t) (count_of t) v.own v.here (is_unfinished x (record_at t v.own) v.unfinished) in
      let k : lies_below (Some a.0) (Some b.0) ≡ false = rw (a.1, b.1) at h in
      omega (arith, ltb-false a.0 b.0 k, a.2, b.2, v.shorter))

-- ---- records stored one after the other
module _ (out : List ℕ) (n : ℕ) (r : List ℕ) where
  pub stored_in : n < length out / record_size → stored_one out n r ≡ paste out (n * record_size) r record_size
  unfolding stored_one
  stored_in h = pick_true (ltb n (length out / record_size)) (paste out (n * record_size) r record_size) out (lt-ltb n (length out / record_size) h)

  -- the same as it is written: the octets of that place
  pub stored_at : (src : List ℕ) (k : ℕ) → n < length out / record_size → src ≡ r → length r ≡ record_size → k ≡ record_size
      → take (n * record_size) out ++ (src ++ drop k (drop (n * record_size) out)) ≡ stored_one out n r
  stored_at src k h e l i =
      let m : n * record_size + record_size ≤ length out = omega arith in
      rw (e, i) (sym (stored_in h ∙ ap (λ (ys : List ℕ). take (n * record_size) out ++ ys ++ drop (n * record_size + record_size) out) (take_all record_size r (omega arith))
      ∙ append_assoc (take (n * record_size) out) r (drop (n * record_size + record_size) out) ∙ ap (λ (ys : List ℕ). take (n * record_size) out ++ (r ++ ys)) (sym (drop-drop record_size (n * record_size) out))))

  pub stored_out : length out / record_size ≤ n → stored_one out n r ≡ out
  unfolding stored_one
  stored_out h = pick_false (ltb n (length out / record_size)) (paste out (n * record_size) r record_size) out (le-ltb n (length out / record_size) h)

pub stored_append : (out : List ℕ) (n : ℕ) (l m : List (List ℕ)) → stored out n (l ++ m) ≡ stored (stored out n l) (n + length l) m
unfolding stored
stored_append out n [] m = rw (add-zero n)
stored_append out n (r ∷ l) m = let e : suc n + length l ≡ n + suc (length l) = omega arith in rw (← e) (stored_append (stored_one out n r) (suc n) l m)

pub stored_one_lem : (out : List ℕ) (n : ℕ) (r : List ℕ) → stored out n (r ∷ []) ≡ stored_one out n r
unfolding stored
stored_one_lem out n r = refl

pub stored_none : (out : List ℕ) (n : ℕ) → stored out n [] ≡ out
unfolding stored
stored_none out n = refl

-- a turn of a loop that stores lists one after the other
module _ (f : ℕ → List (List ℕ)) where
  pub count_start : (n : ℕ) → n ≡ n + length (up_to 0 f)
  unfolding up_to
  count_start n = omega arith

  pub stored_start : (out : List ℕ) (n : ℕ) → out ≡ stored out n (up_to 0 f)
  unfolding up_to stored
  stored_start out n = refl

  pub count_turn : (n m j : ℕ) → m ≡ n + length (up_to j f) → m + length (f j) ≡ n + length (up_to (j + 1) f)
  unfolding up_to
  count_turn n m j e = rw (add-one j) (omega (arith, length-append (up_to j f) (f j)))

  pub stored_turn : (out₀ out : List ℕ) (n m j : ℕ) → out ≡ stored out₀ n (up_to j f) → m ≡ n + length (up_to j f) → stored out m (f j) ≡ stored out₀ n (up_to (j + 1) f)
  unfolding up_to
  stored_turn out₀ out n m j p e = rw (add-one j, stored_append out₀ n (up_to j f) (f j), p, e)

  -- so many lists of so many records at most
  pub few_turns : (k n : ℕ) → ((i : ℕ) → i < n → length (f i) ≤ k) → length (up_to n f) ≤ n * k
  unfolding up_to
  few_turns k zero h = omega arith
  few_turns k (suc n) h =
      let a = few_turns k n (λ i l. h i (omega arith)) in
      let b = h n (omega arith) in
      let d : suc n * k ≡ n * k + k = suc-mul n k in
      omega (arith, length-append (up_to n f) (f n))

-- what r and one other make
pub by_on : (r q : List ℕ) → continues r q ≡ true → made_by r q ≡ joined_of r q ∷ []
unfolding made_by
by_on r q e = rw e

pub by_off : (r q : List ℕ) → continues r q ≡ false → made_by r q ≡ []
unfolding made_by
by_off r q e = rw e

pub made_is : (t r : List ℕ) (j : ℕ) → made_by r (record_at t j) ≡ made_of t r j
unfolding made_by made_of
made_is t r j = refl

pub made_few : (t r : List ℕ) (j : ℕ) → length (made_of t r j) ≤ 1
made_few t r j = go (continues r (record_at t j)) refl
  where
    go : (b : Bool) → continues r (record_at t j) ≡ b → length (made_of t r j) ≤ 1
    go true e = rw (made_on t r j e) (omega arith)
    go false e = rw (made_off t r j e) (omega arith)

pub fold_all : (x t : List ℕ) → fold_of x t ≡ up_to (count_of t) (place_of x t)
unfolding fold_of
fold_all x t = refl

up_to_grows : (f : ℕ → List (List ℕ)) (i n : ℕ) → i ≤ n → length (up_to i f) ≤ length (up_to n f)
unfolding up_to
up_to_grows f i zero h = let e : i ≡ 0 = omega arith in rw e (omega arith)
up_to_grows f i (suc n) h = go (ltb n i) refl (up_to_grows f i n)
  where
    go : (b : Bool) → ltb n i ≡ b → (i ≤ n → length (up_to i f) ≤ length (up_to n f)) → length (up_to i f) ≤ length (up_to n f ++ f n)
    go true e ih = let d : i ≡ suc n = omega (arith, ltb-true n i e) in rw d (omega arith)
    go false e ih = omega (arith, length-append (up_to n f) (f n), ih (ltb-false n i e))

-- all of them were put, or the limit was passed on the way
pub put_whole : (x t : List ℕ) (old new : List ℕ) (i n : ℕ) → i ≡ count_of t → n ≡ 0 + length (up_to i (place_of x t)) → new ≡ stored old 0 (up_to i (place_of x t))
    → (n ≡ length (fold_of x t)) × (new ≡ stored old 0 (fold_of x t))
put_whole x t old new i n d e f = (rw (fold_all x t, ← d) (omega arith), rw (fold_all x t, ← d) f)

pub put_over : (x t : List ℕ) (most i n : ℕ) → i ≤ count_of t → most < n → n ≡ 0 + length (up_to i (place_of x t)) → most < length (fold_of x t)
put_over x t most i n d h e = rw (fold_all x t) (omega (arith, up_to_grows (place_of x t) i (count_of t) d))

-- ---- an output with room for all of them
stored_one_in : (front rest : List ℕ) (n : ℕ) (r : List ℕ) → length front ≡ n * record_size → length r ≡ record_size → record_size ≤ length rest
    → stored_one (front ++ rest) n r ≡ (front ++ r) ++ drop record_size rest
stored_one_in front rest n r a b c =
    let l = length-append front rest in
    let d : drop (n * record_size + record_size) (front ++ rest) ≡ drop record_size rest =
    sym (ap (λ (k : ℕ). drop (k + record_size) (front ++ rest)) a) ∙ drop-append-add front rest record_size in
    stored_in (front ++ rest) n r (omega arith) ∙ rw (take_at front rest (n * record_size) a, take_all record_size r (omega arith), d)

stored_from : (rs : List (List ℕ)) → Whole rs → (front rest : List ℕ) (n : ℕ) → length front ≡ n * record_size → length rs * record_size ≤ length rest
    → stored (front ++ rest) n rs ≡ front ++ (flat rs ++ drop (length rs * record_size) rest)
unfolding stored flat
stored_from [] w front rest n a b = refl
stored_from (r ∷ rs) w front rest n a b =
    let k = w 0 (omega arith) in
    let e : record_size + length rs * record_size ≡ suc (length rs) * record_size = omega arith in
    ap (λ (o : List ℕ). stored o (suc n) rs) (stored_one_in front rest n r a k (omega arith))
    ∙ stored_from rs (λ i h. w (suc i) (omega arith)) (front ++ r) (drop record_size rest) (suc n) (omega (arith, length-append front r)) (omega (arith, length-drop record_size rest))
    ∙ append_assoc front r (flat rs ++ drop (length rs * record_size) (drop record_size rest))
    ∙ ap (λ (o : List ℕ). front ++ o)
    (sym (append_assoc r (flat rs) (drop (length rs * record_size) (drop record_size rest)))
    ∙ ap (λ (o : List ℕ). (r ++ flat rs) ++ o) (drop-drop (length rs * record_size) record_size rest ∙ ap (λ (i : ℕ). drop i rest) e))

pub stored_all : (out : List ℕ) (rs : List (List ℕ)) → Whole rs → length rs ≤ length out / record_size → stored out 0 rs ≡ flat rs ++ drop (length rs * record_size) out
stored_all out rs w h = stored_from rs w [] out 0 (omega arith) (omega arith)

-- all of them, and zeros after them
pub stored_cleared : (out new part : List ℕ) (rs : List (List ℕ)) (n : ℕ) → Whole rs → n ≡ length rs → length rs ≤ length out / record_size → new ≡ stored out 0 rs → length new ≡ length out
    → part ≡ blank (length (take (length new - n * record_size) (drop (n * record_size) new)))
    → take (n * record_size) new ++ (part ++ drop (length new - n * record_size) (drop (n * record_size) new)) ≡ flat rs ++ blank (length out - length rs * record_size)
stored_cleared out new part rs n w e h f l p =
    let k : take (length rs * record_size) new ≡ flat rs =
    ap (take (length rs * record_size)) (f ∙ stored_all out rs w h) ∙ take_at (flat rs) (drop (length rs * record_size) out) (length rs * record_size) (octets_length rs w) in
    let g : drop (length new - n * record_size) (drop (n * record_size) new) ≡ [] = drop_of_length-le (drop (n * record_size) new) {i = length new - n * record_size} (omega (arith, length-drop (n * record_size) new)) in
    let d : length (take (length new - n * record_size) (drop (n * record_size) new)) ≡ length out - length rs * record_size =
    length-take-le (length new - n * record_size) (drop (n * record_size) new) (omega (arith, length-drop (n * record_size) new)) ∙ omega arith in
    rw (g, append-nil part, p, d, e, k)

-- ---- two spellings of one name
module _ (x y : List ℕ) (e : Same x y) where
  unfinished_same : (r : List ℕ) → unfinished x r ≡ unfinished y r
  unfolding unfinished same_name
  unfinished_same r = rw e

  refers_same : (r : List ℕ) → refers x r ≡ refers y r
  unfolding refers same_name
  refers_same r = rw e

  pub fold_same : (t : List ℕ) → fold_of x t ≡ fold_of y t
  unfolding fold_of place_of
  fold_same t = up_to_same (count_of t) (place_of x t) (place_of y t)
      (λ i h. ap (λ (b : Bool). pick b (up_to (count_of t) (made_of t (record_at t i))) (record_at t i ∷ [])) (unfinished_same (record_at t i)))

  ignores_same : (t : List ℕ) (p r : ℕ) → ignores x t p r ≡ ignores y t p r
  unfolding ignores
  ignores_same t p r = rw (refers_same (record_at t p), unfinished_same (record_at t r))

  pub reviving_same : (t : List ℕ) → reviving x t ≡ reviving y t
  unfolding reviving
  reviving_same t = λ i. some (λ p. some (λ r. ignores_same t p r i) (count_of t)) (count_of t)
