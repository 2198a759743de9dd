-- Laws of numbers in a list of names: a name that is met keeps its number.
use Prim.Native.Nat.{ℕ, suc, ◌+◌, ◌≤◌, ◌<◌}
use mathlib.Core.Path.{◌≡◌, refl, ap, sym, ◌∙◌}
use mathlib.Core.Bool.{Bool, true, false}
use mathlib.Core.List.{List, [], ◌∷◌, ◌++◌}
use native.Mathlib.Decide.{dec_lt}
use native.Mathlib.Omega.{arith}
use lib.ListN.{length, get_or, length-append}
use borrow.Author.Tests.{lt-ltb, le-ltb}
use Rattle.octets.proofs.BoolLaws.{clash}
use Rattle.names.specs.Standard.{same_name}
use Rattle.names.proofs.StandardLaws.{same_name_same, same_same_name}
use Rattle.names.proofs.RoundLaws.{same_reflexive, same_symmetric, same_transitive}
use Rattle.numbering.specs.Numbers.{number_in, meeting}

-- ---- the test for the same name
pub same_back : (x y : List ℕ) → same_name x y ≡ true → same_name y x ≡ true
same_back x y h = same_same_name y x (same_symmetric x y (same_name_same x y h))

pub same_over : (x y z : List ℕ) → same_name x y ≡ true → same_name y z ≡ true → same_name x z ≡ true
same_over x y z p q = same_same_name x z (same_transitive x y z (same_name_same x y p) (same_name_same y z q))

-- ---- numbers
module _ (y : List ℕ) (ys : List (List ℕ)) (x : List ℕ) where
  pub number_here : same_name y x ≡ true → number_in (y ∷ ys) x ≡ 0
  unfolding number_in
  number_here h = rw (number_in, h)

  pub number_past : same_name y x ≡ false → number_in (y ∷ ys) x ≡ suc (number_in ys x)
  unfolding number_in
  number_past h = rw (number_in, h)

pub number_most : (ns : List (List ℕ)) (x : List ℕ) → number_in ns x ≤ length ns
unfolding number_in
number_most [] x = omega arith
number_most (y ∷ ys) x = go (same_name y x) refl (number_most ys x)
  where
    go : (t : Bool) → same_name y x ≡ t → number_in ys x ≤ length ys → number_in (y ∷ ys) x ≤ suc (length ys)
    go true e h = rw (number_here y ys x e) (omega arith)
    go false e h = rw (number_past y ys x e) (omega arith)

-- the names that are the same have one number
pub number_same : (ns : List (List ℕ)) (x z : List ℕ) → same_name x z ≡ true → number_in ns x ≡ number_in ns z
unfolding number_in
number_same [] x z h = refl
number_same (y ∷ ys) x z h = go (same_name y x) (same_name y z) refl refl (number_same ys x z h)
  where
    go : (s t : Bool) → same_name y x ≡ s → same_name y z ≡ t → number_in ys x ≡ number_in ys z → number_in (y ∷ ys) x ≡ number_in (y ∷ ys) z
    go true true p q ih = number_here y ys x p ∙ sym (number_here y ys z q)
    go true false p q ih = absurd (clash (same_over y x z p h) q)
    go false true p q ih = absurd (clash (same_over y z x q (same_back x z h)) p)
    go false false p q ih = number_past y ys x p ∙ ap suc ih ∙ sym (number_past y ys z q)

-- the name with the number of x is the same as x
pub number_at : (ns : List (List ℕ)) (x : List ℕ) → number_in ns x < length ns → same_name (get_or ns (number_in ns x) []) x ≡ true
unfolding number_in
number_at [] x h = let z : ⊥ = omega arith in absurd z
number_at (y ∷ ys) x h = go (same_name y x) refl (number_at ys x)
  where
    go : (t : Bool) → same_name y x ≡ t → (number_in ys x < length ys → same_name (get_or ys (number_in ys x) []) x ≡ true)
        → same_name (get_or (y ∷ ys) (number_in (y ∷ ys) x) []) x ≡ true
    go true e ih = rw (number_here y ys x e) e
    go false e ih = let p = number_past y ys x e in rw p (ih (omega arith))

-- where two names have one number in the list, they are the same
pub number_apart : (ns : List (List ℕ)) (x z : List ℕ) → number_in ns x < length ns → number_in ns x ≡ number_in ns z → same_name x z ≡ true
number_apart ns x z h e =
    let p = number_at ns x h in
    let q : same_name (get_or ns (number_in ns z) []) z ≡ true = number_at ns z (rw (← e) h) in
    let r : same_name (get_or ns (number_in ns x) []) z ≡ true = rw e q in
    same_over x (get_or ns (number_in ns x) []) z (same_back (get_or ns (number_in ns x) []) x p) r

-- a name that none of the list is has no number in it
pub number_none : (ns : List (List ℕ)) (x : List ℕ) → ((k : ℕ) → k < length ns → same_name (get_or ns k []) x ≡ false) → number_in ns x ≡ length ns
unfolding number_in
number_none [] x h = refl
number_none (y ∷ ys) x h = number_past y ys x (h 0 (omega arith)) ∙ ap suc (number_none ys x (λ k l. h (suc k) (omega arith)))

-- ---- a longer list
pub number_append : (ns ms : List (List ℕ)) (x : List ℕ) → number_in ns x < length ns → number_in (ns ++ ms) x ≡ number_in ns x
unfolding number_in
number_append [] ms x h = let z : ⊥ = omega arith in absurd z
number_append (y ∷ ys) ms x h = go (same_name y x) refl (number_append ys ms x)
  where
    go : (t : Bool) → same_name y x ≡ t → (number_in ys x < length ys → number_in (ys ++ ms) x ≡ number_in ys x) → number_in (y ∷ (ys ++ ms)) x ≡ number_in (y ∷ ys) x
    go true e ih = number_here y (ys ++ ms) x e ∙ sym (number_here y ys x e)
    go false e ih = let p = number_past y ys x e in number_past y (ys ++ ms) x e ∙ ap suc (ih (omega arith)) ∙ sym p

pub number_new : (ns : List (List ℕ)) (x : List ℕ) → number_in ns x ≡ length ns → number_in (ns ++ (x ∷ [])) x ≡ length ns
unfolding number_in
number_new [] x h = number_here x [] x (same_same_name x x (same_reflexive x))
number_new (y ∷ ys) x h = go (same_name y x) refl (number_new ys x)
  where
    go : (t : Bool) → same_name y x ≡ t → (number_in ys x ≡ length ys → number_in (ys ++ (x ∷ [])) x ≡ length ys) → number_in (y ∷ (ys ++ (x ∷ []))) x ≡ suc (length ys)
    go true e ih = let p = number_here y ys x e in let z : ⊥ = omega arith in absurd z
    go false e ih = let p = number_past y ys x e in number_past y (ys ++ (x ∷ [])) x e ∙ ap suc (ih (omega arith))

-- ---- a name is met
module _ (ns : List (List ℕ)) (x : List ℕ) where
  pub meeting_known : number_in ns x < length ns → meeting ns x ≡ ns
  unfolding meeting
  meeting_known h = rw (meeting, lt-ltb (number_in ns x) (length ns) h)

  pub meeting_new : number_in ns x ≡ length ns → meeting ns x ≡ ns ++ (x ∷ [])
  unfolding meeting
  meeting_new h = rw (meeting, le-ltb (number_in ns x) (length ns) (omega arith))

  new_length : length (ns ++ (x ∷ [])) ≡ length ns + 1
  new_length = length-append ns (x ∷ [])

  -- by whether it is in the list
  either : {C : Type 0} → (number_in ns x < length ns → C) → (number_in ns x ≡ length ns → C) → C
  either {C} f g = go (dec_lt (number_in ns x) (length ns))
    where
      go : Dec (number_in ns x < length ns) → C
      go (yes l) = f l
      go (no l) = g (let m = number_most ns x in omega arith)

  -- its number stays, and it is in the list
  pub meeting_number : number_in (meeting ns x) x ≡ number_in ns x
  meeting_number = either (λ l. rw (meeting_known l)) (λ e. rw (meeting_new e) (number_new ns x e ∙ sym e))

  pub meeting_in : number_in ns x < length (meeting ns x)
  meeting_in = either (λ l. rw (meeting_known l) l) (λ e. rw (meeting_new e) (let l = new_length in omega arith))

  pub meeting_most : length (meeting ns x) ≤ length ns + 1
  meeting_most = either (λ l. rw (meeting_known l) (omega arith)) (λ e. rw (meeting_new e) (let l = new_length in omega arith))

-- every name of the one list has its number in the other too
pub record Grows (ns ms : List (List ℕ)) : Type 0 where
  pub longer : length ns ≤ length ms
  pub keeps : (y : List ℕ) → number_in ns y < length ns → number_in ms y ≡ number_in ns y

pub grows_none : (ns : List (List ℕ)) → Grows ns ns
grows_none ns = record { longer = omega arith; keeps = λ y l. refl }

pub grows_over : (ls ms ns : List (List ℕ)) → Grows ls ms → Grows ms ns → Grows ls ns
grows_over ls ms ns g h = record {
  longer = let a = g.longer in let b = h.longer in omega arith;
  keeps = λ y l. let e = g.keeps y l in let m = g.longer in h.keeps y (omega arith) ∙ e;
}

pub grows_meeting : (ns : List (List ℕ)) (x : List ℕ) → Grows ns (meeting ns x)
grows_meeting ns x =
    either ns x (λ l. rw (meeting_known ns x l) (grows_none ns))
    (λ e. rw (meeting_new ns x e) record { longer = let l = new_length ns x in omega arith; keeps = λ y l. number_append ns (x ∷ []) y l })
