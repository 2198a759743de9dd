-- The walk along a bucket: what was made and stored on the way.
use Rattle.std.specs.Prelude.{Option, Some, None, IfSome}
use Prim.Native.Nat.{ℕ, ◌+◌, ◌≤◌, ◌<◌, min}
use mathlib.Core.Path.{◌≡◌, ap, ◌∙◌, sym}
use mathlib.Core.List.{List}
use native.Mathlib.Omega.{arith}
use lib.ListN.{length}
use Rattle.chains.specs.Lists.{up_to}
use Rattle.plan.specs.Layout.{max_records, owner_slot, target_slot, count_of, record_at}
use Rattle.collapse.specs.Fold.{made_of}
use Rattle.collapse.specs.Running.{bucket_of, stored}
use Rattle.collapse.proofs.LinkLaws.{reach, Walked}
use Rattle.collapse.proofs.RunningLaws.{few_turns, made_few, count_start, stored_start, count_turn, stored_turn}

-- from record n of an output on, what r makes with the records before the next one is stored; record m is to follow
pub record Walking (t r old out : List ℕ) (n m : ℕ) (next : Option ℕ) : Type 0 where
  pub found : IfSome next (λ (j : ℕ). (j < count_of t) × (bucket_of (owner_slot (record_at t j)) ≡ bucket_of (target_slot r)))
  pub count : m ≡ n + length (up_to (min (reach next) (count_of t)) (made_of t r))
  pub written : out ≡ stored old n (up_to (min (reach next) (count_of t)) (made_of t r))

module _ (t r old : List ℕ) (n : ℕ) where
  pub walking_start : (next : Option ℕ) → Walked t r 0 next → Walking t r old old n n next
  walking_start next w = record {
    found = w.found;
    count = count_start (made_of t r) n ∙ sym (ap (λ (l : List (List ℕ)). n + length l) w.same);
    written = stored_start (made_of t r) old n ∙ sym (ap (stored old n) w.same);
  }

  -- as many records as the table has, at most
  pub walking_few : {out : List ℕ} {m : ℕ} {next : Option ℕ} → Walking t r old out n m next → m ≤ n + count_of t
  walking_few {next = next} w =
      let f = few_turns (made_of t r) 1 (min (reach next) (count_of t)) (λ k h. made_few t r k) in
      omega (arith, w.count)

  pub walking_on : {out : List ℕ} {m : ℕ} (j : ℕ) → Walking t r old out n m (Some j) → (new : List ℕ) (m' : ℕ) (next : Option ℕ) → Walked t r (j + 1) next
      → m' ≡ m + length (made_of t r j) → new ≡ stored out m (made_of t r j) → Walking t r old new n m' next
  walking_on {out} {m} j w new m' next k p q =
      let f = made_of t r in
      let e : min j (count_of t) ≡ j = omega (arith, w.found.0) in
      let c : m ≡ n + length (up_to j f) = w.count ∙ ap (λ (v : ℕ). n + length (up_to v f)) e in
      let u : out ≡ stored old n (up_to j f) = w.written ∙ ap (λ (v : ℕ). stored old n (up_to v f)) e in
      record {
        found = k.found;
        count = p ∙ count_turn f n m j c ∙ sym (ap (λ (l : List (List ℕ)). n + length l) k.same);
        written = q ∙ stored_turn f old out n m j u c ∙ sym (ap (stored old n) k.same);
      }

  pub walking_end : {out : List ℕ} {m : ℕ} → Walking t r old out n m None → count_of t ≤ max_records
      → (m ≡ n + length (up_to (count_of t) (made_of t r))) × (out ≡ stored old n (up_to (count_of t) (made_of t r)))
  walking_end w h = let e : min max_records (count_of t) ≡ count_of t = omega arith in (rw (← e) w.count, rw (← e) w.written)
