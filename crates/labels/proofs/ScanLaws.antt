-- Laws of the scan: one for each thing that a turn can meet.
use Prim.Native.Nat.{ℕ, zero, suc, ◌+◌, ◌-◌, ◌≤◌, ◌<◌}
use mathlib.Core.Path.{◌≡◌, refl, ap, ◌∙◌, sym}
use mathlib.Core.Bool.{Bool, true, false, ◌&&◌}
use mathlib.Core.List.{List, [], ◌∷◌}
use lib.Dec.{ltb, eqb}
use lib.ListN.{length, get_or, take, drop, length-drop}
use lib.Seq.{drop-drop}
use native.Mathlib.Omega.{arith}
use borrow.Author.Tests.{lt-ltb, eq-eqb, ne_eqb, eqb-true, eqb-false}
use Rattle.bits.specs.Bits.{octets_for, unpack}
use Rattle.octets.proofs.BoolLaws.{and_true, and_false, or_true, or_false}
use Rattle.labels.specs.Labels.{ordinary, bits, first_of, count_of, size_of, run_of, label_of, fault_of}
use Rattle.labels.specs.Scan.{Reading, refused, done, with, scan_from}
use Rattle.std.specs.Prelude.{Ok, Err}
use Rattle.labels.specs.declared.Step.{Step}
use Rattle.octets.specs.Refusals.{told}
use Rattle.octets.specs.declared.Refusal.{Refusal}
use Rattle.octets.specs.declared.Refusal.TheVariants.{Short}
use Rattle.labels.specs.Answers.{found, scanned}
use Rattle.labels.specs.Steps.{step_of, finish, still_apart}
use Rattle.labels.proofs.LabelLaws.{count_least, run_bits_lem, size_ordinary, step_refused, step_taken, fault_sound, first_at}

pub scan_skip : (used run k : ℕ) (xs : List ℕ) → scan_from used run k xs ≡ scan_from used run 0 (drop k xs)
unfolding scan_from
scan_skip used run zero xs = refl
scan_skip used run (suc k) [] = refl
scan_skip used run (suc k) (x ∷ xs) = scan_skip used run k xs

pub scan_missing : (used run : ℕ) (xs : List ℕ) → length xs ≡ 0 → scan_from used run 0 xs ≡ refused 11
unfolding scan_from
scan_missing used run [] e = refl
scan_missing used run (x ∷ xs) e = let z : ⊥ = omega arith in absurd z

pub scan_fault : (used run : ℕ) (xs : List ℕ) (n : ℕ) → 0 < length xs → fault_of used run xs ≡ suc n → scan_from used run 0 xs ≡ refused (suc n)
unfolding scan_from
scan_fault used run [] n h e = let z : ⊥ = omega arith in absurd z
scan_fault used run (x ∷ xs) n h e = rw (scan_from, e)

pub scan_end : (used run : ℕ) (xs : List ℕ) → 0 < length xs → fault_of used run xs ≡ 0 → first_of xs ≡ 0 → scan_from used run 0 xs ≡ done [] (used + 1)
unfolding scan_from
scan_end used run [] h e f = let z : ⊥ = omega arith in absurd z
scan_end used run (x ∷ xs) h e f = rw (scan_from, e, eq-eqb x 0 f)

pub size_least : (xs : List ℕ) → 0 < size_of xs
unfolding size_of
size_least xs = go (eqb (first_of xs) 65)
  where
    go : (b : Bool) → 0 < elim b [ true ↦ 2 + octets_for (count_of xs) | false ↦ 1 + first_of xs ]
    go true = omega arith
    go false = omega arith

-- what follows a label, counted after its first octet
pub size_drop : (x : ℕ) (xs : List ℕ) → drop (size_of (x ∷ xs) - 1) xs ≡ drop (size_of (x ∷ xs)) (x ∷ xs)
size_drop x xs = go (size_of (x ∷ xs)) (size_least (x ∷ xs))
  where
    go : (k : ℕ) → 0 < k → drop (k - 1) xs ≡ drop k (x ∷ xs)
    go zero p = let z : ⊥ = omega arith in absurd z
    go (suc k) p = let q : suc k - 1 ≡ k = omega arith in rw q

pub scan_more : (used run : ℕ) (xs : List ℕ) → 0 < length xs → fault_of used run xs ≡ 0 → (first_of xs ≡ 0 → ⊥)
    → scan_from used run 0 xs ≡ with (label_of xs) (scan_from (used + size_of xs) (run_of run xs) 0 (drop (size_of xs) xs))
unfolding scan_from
scan_more used run [] h e f = let z : ⊥ = omega arith in absurd z
scan_more used run (x ∷ xs) h e f =
    rw (scan_from, e, ne_eqb x 0 f)
    (ap (with (label_of (x ∷ xs))) (scan_skip _ _ (size_of (x ∷ xs) - 1) xs ∙ ap (scan_from (used + size_of (x ∷ xs)) (run_of run (x ∷ xs)) 0) (size_drop x xs)))

-- a scan begins with no label before it
pub finish_all : (r : Reading) → finish true false r ≡ scanned r
unfolding finish scanned
finish_all (refused n) = refl
finish_all (done ls used) = refl

-- the flag's three ways
module _ (ok : Bool) (run next : ℕ) where
  apart_first : run ≡ 0 → still_apart ok run next ≡ ok
  unfolding still_apart
  apart_first h = rw (still_apart, h) (and_true ok)

  pub apart_other : next ≡ 0 → still_apart ok run next ≡ ok
  unfolding still_apart
  apart_other h = rw (still_apart, h, or_true (eqb run 0)) (and_true ok)

  pub apart_run : (next ≡ 0 → ⊥) → still_apart ok run next ≡ (ok && eqb run 0)
  unfolding still_apart
  apart_run k = rw (still_apart, ne_eqb next 0 k, or_false (eqb run 0))

  apart_broken : (run ≡ 0 → ⊥) → (next ≡ 0 → ⊥) → still_apart ok run next ≡ false
  unfolding still_apart
  apart_broken h k = rw (still_apart, ne_eqb run 0 h, ne_eqb next 0 k) (and_false ok)

-- the answer's flag follows the runs
pub finish_bits : (ok : Bool) (run next : ℕ) (b : List ℕ) (r : Reading) → 0 < next
    → finish ok (ltb 0 run) (with (bits b) r) ≡ finish (still_apart ok run next) (ltb 0 next) r
unfolding finish with
finish_bits ok run next b (refused n) h = refl
finish_bits ok zero next b (done ls used) h = rw (lt-ltb 0 next h, apart_first ok 0 next refl)
finish_bits ok (suc run) next b (done ls used) h =
    rw (lt-ltb 0 (suc run) (omega arith), apart_broken ok (suc run) next (λ e. omega arith) (λ e. omega arith), and_false ok)

pub finish_ordinary : (ok : Bool) (run : ℕ) (l : List ℕ) (r : Reading)
    → finish ok (ltb 0 run) (with (ordinary l) r) ≡ finish (still_apart ok run 0) false r
unfolding finish with
finish_ordinary ok run l (refused n) = refl
finish_ordinary ok run l (done ls used) = rw (apart_other ok run 0 refl)

pub label_bits : (xs : List ℕ) → first_of xs ≡ 65 → label_of xs ≡ bits (unpack (count_of xs) (drop 2 xs))
unfolding label_of
label_bits xs h = rw (label_of, eq-eqb (first_of xs) 65 h)

pub label_ordinary : (xs : List ℕ) → (first_of xs ≡ 65 → ⊥) → label_of xs ≡ ordinary (take (first_of xs) (drop 1 xs))
unfolding label_of
label_ordinary xs h = rw (label_of, ne_eqb (first_of xs) 65 h)

pub run_not : (run : ℕ) (xs : List ℕ) → (first_of xs ≡ 65 → ⊥) → run_of run xs ≡ 0
unfolding run_of
run_not run xs h = rw (run_of, ne_eqb (first_of xs) 65 h)

pub finish_more : (ok : Bool) (run : ℕ) (xs : List ℕ) (r : Reading)
    → finish ok (ltb 0 run) (with (label_of xs) r) ≡ finish (still_apart ok run (run_of run xs)) (ltb 0 (run_of run xs)) r
finish_more ok run xs r = go (eqb (first_of xs) 65) refl
  where
    go : (t : Bool) → eqb (first_of xs) 65 ≡ t
        → finish ok (ltb 0 run) (with (label_of xs) r) ≡ finish (still_apart ok run (run_of run xs)) (ltb 0 (run_of run xs)) r
    go true e =
        let f : first_of xs ≡ 65 = eqb-true (first_of xs) 65 e in
        rw (label_bits xs f, run_bits_lem run xs f)
        (finish_bits ok run (run + count_of xs) (unpack (count_of xs) (drop 2 xs)) r (omega (arith, count_least xs)))
    go false e =
        let f : first_of xs ≡ 65 → ⊥ = eqb-false (first_of xs) 65 e in
        rw (label_ordinary xs f, run_not run xs f) (finish_ordinary ok run (take (first_of xs) (drop 1 xs)) r)

-- what a turn of the scan makes of what is left
module _ (used run : ℕ) (ok : Bool) (xs : List ℕ) where
  pub turn_missing : length xs ≡ 0 → finish ok (ltb 0 run) (scan_from used run 0 xs) ≡ Err Short
  unfolding finish told
  turn_missing h = rw (scan_missing used run xs h)

  pub turn_refused : (e : Refusal) → 0 < length xs → Err e ≡ step_of used run xs → finish ok (ltb 0 run) (scan_from used run 0 xs) ≡ Err e
  unfolding finish
  turn_refused e h k = let r = step_refused used run xs e k in rw (scan_fault used run xs r.0 h r.1, r.2)

  pub turn_end : 0 < length xs → fault_of used run xs ≡ 0 → first_of xs ≡ 0 → finish ok (ltb 0 run) (scan_from used run 0 xs) ≡ found (used + size_of xs) ok
  unfolding finish
  turn_end h e f =
      let q : size_of xs ≡ 1 = size_ordinary xs (omega arith) ∙ ap (λ (n : ℕ). 1 + n) f in
      rw (scan_end used run xs h e f, q, and_true ok)

  pub turn_more : 0 < length xs → fault_of used run xs ≡ 0 → (first_of xs ≡ 0 → ⊥)
      → finish ok (ltb 0 run) (scan_from used run 0 xs)
      ≡ finish (still_apart ok run (run_of run xs)) (ltb 0 (run_of run xs)) (scan_from (used + size_of xs) (run_of run xs) 0 (drop (size_of xs) xs))
  turn_more h e f = rw (scan_more used run xs h e f) (finish_more ok run xs (scan_from (used + size_of xs) (run_of run xs) 0 (drop (size_of xs) xs)))

-- a turn whose label is taken, in the figures of the code
module _ (s : List ℕ) (at run : ℕ) (some : at < length s) (t : Step) (e : Ok t ≡ step_of at run (drop at s)) where
  taken : (fault_of at run (drop at s) ≡ 0) × (t.end ≡ at + size_of (drop at s)) × (t.run ≡ run_of run (drop at s))
  taken = step_taken at run (drop at s) t e

  there : 0 < length (drop at s)
  there = let l = length-drop at s in omega arith

  pub turn_within : (at < t.end) × (t.end ≤ length s) × (t.end ≤ 255) × (t.run ≤ 256)
  turn_within =
      let l = length-drop at s in
      let o = fault_sound at run (drop at s) taken.0 in
      let q = size_least (drop at s) in
      (omega (arith, taken.1), omega (arith, taken.1, o.fits), omega (arith, taken.1, o.total), omega (arith, taken.2, o.short))

  pub turn_ended : (ok : Bool) → get_or s at 0 ≡ 0 → found t.end ok ≡ finish ok (ltb 0 run) (scan_from at run 0 (drop at s))
  turn_ended ok z = rw taken.1 (sym (turn_end at run ok (drop at s) there taken.0 (first_at s at ∙ z)))

  pub turn_on : (ok v : Bool) → v ≡ still_apart ok run t.run → (get_or s at 0 ≡ 0 → ⊥)
      → finish v (ltb 0 t.run) (scan_from t.end t.run 0 (drop t.end s)) ≡ finish ok (ltb 0 run) (scan_from at run 0 (drop at s))
  turn_on ok v w f = rw (w, taken.1, taken.2, ← drop-drop (size_of (drop at s)) at s) (sym (turn_more at run ok (drop at s) there taken.0 (λ z. f (sym (first_at s at) ∙ z))))
