-- Lists of one width, one after the other: how long that is, and what stands where.
use Prim.Native.Nat.{ℕ, zero, suc, ◌+◌, ◌*◌, ◌≤◌, ◌<◌}
use mathlib.Core.Path.{◌≡◌, refl, sym, ap, subst, ◌∙◌}
use mathlib.Core.List.{List, [], ◌∷◌, ◌++◌, append_assoc}
use native.Mathlib.Nat.{zero-mul, suc-mul}
use native.Mathlib.Omega.{arith}
use lib.ListN.{length, get_or, take, drop, length-append}
use lib.Seq.{drop-cons, take_at, take-append-add, drop-append-add}
use Rattle.octets.specs.Octets.{flat}
use Rattle.octets.specs.Each.{Each}

pub flat_append : (xs ys : List (List ℕ)) → flat (xs ++ ys) ≡ flat xs ++ flat ys
unfolding flat
flat_append [] ys = refl
flat_append (a ∷ xs) ys = ap (λ (l : List ℕ). a ++ l) (flat_append xs ys) ∙ sym (append_assoc a (flat xs) (flat ys))

module _ (w : ℕ) where
  pub each_at : (l : List (List ℕ)) → ((i : ℕ) → i < length l → length (get_or l i []) ≡ w) → Each w l
  each_at [] h = tt
  each_at (a ∷ l) h = (h 0 (omega arith), each_at l (λ i k. h (suc i) (omega arith)))

  pub each_drop : (k : ℕ) (l : List (List ℕ)) → Each w l → Each w (drop k l)
  each_drop zero l e = e
  each_drop (suc k) [] e = tt
  each_drop (suc k) (a ∷ l) e = each_drop k l e.1

  -- Theorem: lists of w octets, one after the other, have w octets for each list
  pub flat_length : (l : List (List ℕ)) → Each w l → length (flat l) ≡ length l * w
  unfolding flat
  flat_length [] e = sym (zero-mul w)
  flat_length (a ∷ l) e = omega (arith, length-append a (flat l), flat_length l e.1, e.0, suc-mul (length l) w)

  -- whatever comes after them
  module _ (z : List ℕ) where
    pub flat_take : (k : ℕ) (l : List (List ℕ)) → Each w l → k ≤ length l → take (k * w) (flat l ++ z) ≡ flat (take k l)
    unfolding flat
    flat_take zero l e h = rw (zero-mul w)
    flat_take (suc k) [] e h = absurd (omega arith)
    flat_take (suc k) (a ∷ l) e h =
        let s : suc k * w ≡ length a + k * w = omega (arith, e.0, suc-mul k w) in
        rw (s, append_assoc a (flat l) z) (take-append-add a (flat l ++ z) (k * w) ∙ ap (λ (m : List ℕ). a ++ m) (flat_take k l e.1 (omega arith)))

    pub flat_drop : (k : ℕ) (l : List (List ℕ)) → Each w l → k ≤ length l → drop (k * w) (flat l ++ z) ≡ flat (drop k l) ++ z
    unfolding flat
    flat_drop zero l e h = rw (zero-mul w)
    flat_drop (suc k) [] e h = absurd (omega arith)
    flat_drop (suc k) (a ∷ l) e h =
        let s : suc k * w ≡ length a + k * w = omega (arith, e.0, suc-mul k w) in
        rw (s, append_assoc a (flat l) z) (drop-append-add a (flat l ++ z) (k * w) ∙ flat_drop k l e.1 (omega arith))

    -- Theorem: each list stands at its multiple of w
    pub flat_at : (k : ℕ) (l : List (List ℕ)) → Each w l → k < length l → take w (drop (k * w) (flat l ++ z)) ≡ get_or l k []
    unfolding flat
    flat_at k l e h =
        let d = drop-cons l k [] h in
        let n : length (get_or l k []) ≡ w = (subst (Each w) d (each_drop k l e)).0 in
        ap (take w) (flat_drop k l e (omega arith) ∙ ap (λ (m : List (List ℕ)). flat m ++ z) d ∙ append_assoc (get_or l k []) (flat (drop (suc k) l)) z)
        ∙ take_at (get_or l k []) (flat (drop (suc k) l) ++ z) w n
