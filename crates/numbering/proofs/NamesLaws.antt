-- Laws of the names of a table: what is met has its number for good.
use Prim.Native.Nat.{ℕ, zero, suc, ◌+◌, ◌-◌, ◌*◌, ◌≤◌, ◌<◌}
use mathlib.Core.Path.{◌≡◌, refl, ap, sym, ◌∙◌}
use mathlib.Core.Bool.{Bool, true, false}
use mathlib.Core.List.{List, []}
use native.Mathlib.Decide.{dec_lt}
use native.Mathlib.Omega.{arith}
use native.Mathlib.Nat.{add-zero}
use native.Mathlib.Numerals.{add-one}
use lib.ListN.{length, get_or, set, length-set}
use lib.Seq.{get_or-set_same, get_or-set_other}
use Rattle.octets.specs.Octets.{Small}
use Rattle.labels.specs.Scan.{well_formed}
use Rattle.names.specs.Standard.{standard_of}
use Rattle.names.proofs.StandardLaws.{same_same_name}
use Rattle.names.proofs.RoundLaws.{standard_units, units_same}
use Rattle.plan.specs.Layout.{count_of, record_at, owner_at, target_at}
use Rattle.plan.specs.Check.{targetless}
use Rattle.numbering.specs.Numbers.{number_in, meeting, meeting_target, names_to, names_of, own_number, no_target, target_in, target_number, filled}
use Rattle.numbering.proofs.NumberLaws.{
  number_same,
  meeting_number,
  meeting_in,
  meeting_most,
  Grows,
  grows_none,
  grows_over,
  grows_meeting,
}

-- ---- the target of a record
module _ (ns : List (List ℕ)) (t : List ℕ) (i : ℕ) where
  pub target_none : targetless (record_at t i) ≡ true → (meeting_target t i ns ≡ ns) × (target_in ns t i ≡ no_target)
  unfolding meeting_target target_in
  target_none h = (rw (meeting_target, h), rw (target_in, h))

  pub target_some : targetless (record_at t i) ≡ false → (meeting_target t i ns ≡ meeting ns (target_at t i)) × (target_in ns t i ≡ number_in ns (target_at t i))
  unfolding meeting_target target_in
  target_some h = (rw (meeting_target, h), rw (target_in, h))

  grows_target : Grows ns (meeting_target t i ns)
  grows_target = go (targetless (record_at t i)) refl
    where
      go : (b : Bool) → targetless (record_at t i) ≡ b → Grows ns (meeting_target t i ns)
      go true h = rw (target_none h).0 (grows_none ns)
      go false h = rw (target_some h).0 (grows_meeting ns (target_at t i))

  target_most : length (meeting_target t i ns) ≤ length ns + 1
  target_most = go (targetless (record_at t i)) refl
    where
      go : (b : Bool) → targetless (record_at t i) ≡ b → length (meeting_target t i ns) ≤ length ns + 1
      go true h = rw (target_none h).0 (omega arith)
      go false h = rw (target_some h).0 (meeting_most ns (target_at t i))

-- ---- the list as it grows
module _ (t : List ℕ) where
  pub names_none : names_to t 0 ≡ []
  unfolding names_to
  names_none = refl

  pub names_more : (i : ℕ) → names_to t (i + 1) ≡ meeting_target t i (meeting (names_to t i) (owner_at t i))
  unfolding names_to
  names_more i = rw add-one

  pub names_all : (i : ℕ) → i ≡ count_of t → names_to t i ≡ names_of t
  unfolding names_of
  names_all i e = ap (names_to t) e

  -- each record adds two names at most
  names_most : (i : ℕ) → length (names_to t i) ≤ 2 * i
  unfolding names_to
  names_most zero = omega arith
  names_most (suc i) =
      let a = names_most i in
      let b = meeting_most (names_to t i) (owner_at t i) in
      let c = target_most (meeting (names_to t i) (owner_at t i)) t i in
      omega arith

  pub names_few : length (names_of t) ≤ 2 * count_of t
  unfolding names_of
  names_few = names_most (count_of t)

  grows_more : (i : ℕ) → Grows (meeting (names_to t i) (owner_at t i)) (names_to t (i + 1))
  grows_more i = rw (names_more i) (grows_target (meeting (names_to t i) (owner_at t i)) t i)

  grows_to : (i d : ℕ) → Grows (names_to t i) (names_to t (i + d))
  grows_to i zero = rw add-zero (grows_none (names_to t i))
  grows_to i (suc d) =
      let e : i + suc d ≡ (i + d) + 1 = omega arith in
      let a = grows_meeting (names_to t (i + d)) (owner_at t (i + d)) in
      rw e (grows_over (names_to t i) (names_to t (i + d)) (names_to t (i + d + 1)) (grows_to i d)
      (grows_over (names_to t (i + d)) (meeting (names_to t (i + d)) (owner_at t (i + d))) (names_to t (i + d + 1)) a (grows_more (i + d))))

  -- all that is met by record i is in the list of the table, under its number
  module _ (i : ℕ) (h : i < count_of t) where
    grows_all : Grows (names_to t (i + 1)) (names_of t)
    unfolding names_of
    grows_all = let e : count_of t ≡ i + 1 + (count_of t - (i + 1)) = omega arith in rw e (grows_to (i + 1) (count_of t - (i + 1)))

    owner_grows : Grows (meeting (names_to t i) (owner_at t i)) (names_of t)
    owner_grows = grows_over (meeting (names_to t i) (owner_at t i)) (names_to t (i + 1)) (names_of t) (grows_more i) grows_all

    -- the number that the owner has when it is met
    pub own_met : number_in (names_to t i) (owner_at t i) ≡ own_number t i
    unfolding own_number
    own_met =
        let p = meeting_number (names_to t i) (owner_at t i) in
        let q = meeting_in (names_to t i) (owner_at t i) in
        sym p ∙ sym (owner_grows.keeps (owner_at t i) (omega arith))

    -- and after its record
    pub own_stays : (j : ℕ) → j ≡ i + 1 → (number_in (names_to t j) (owner_at t i) ≡ own_number t i) × (number_in (names_to t j) (owner_at t i) < length (names_to t j))
    own_stays j z =
        let p = meeting_number (names_to t i) (owner_at t i) in
        let q = meeting_in (names_to t i) (owner_at t i) in
        let e = (grows_more i).keeps (owner_at t i) (omega arith) in
        let l = (grows_more i).longer in
        rw z (e ∙ p ∙ own_met, omega arith)

    pub own_listed : own_number t i < length (names_of t)
    own_listed = let p = own_met in let q = meeting_in (names_to t i) (owner_at t i) in let r = owner_grows.longer in omega arith

    -- and the target
    abbrev met : List (List ℕ)
    met = meeting (names_to t i) (owner_at t i)

    target_grows : targetless (record_at t i) ≡ false → Grows (meeting met (target_at t i)) (names_of t)
    target_grows e = rw (← (names_more i ∙ (target_some met t i e).0)) grows_all

    pub target_met : target_in met t i ≡ target_number t i
    unfolding target_number
    target_met = go (targetless (record_at t i)) refl
      where
        go : (b : Bool) → targetless (record_at t i) ≡ b → target_in met t i ≡ target_in (names_of t) t i
        go true e = (target_none met t i e).1 ∙ sym (target_none (names_of t) t i e).1
        go false e =
            let p = meeting_number met (target_at t i) in
            let q = meeting_in met (target_at t i) in
            (target_some met t i e).1 ∙ sym p ∙ sym ((target_grows e).keeps (target_at t i) (omega arith)) ∙ sym (target_some (names_of t) t i e).1

    pub target_listed : targetless (record_at t i) ≡ false → target_number t i < length (names_of t)
    target_listed e =
        let p = target_met in
        let q = (target_some met t i e).1 in
        let r = meeting_in met (target_at t i) in
        let l = (target_grows e).longer in
        omega arith

-- a name and its standard form have one number
pub number_standard : (ns : List (List ℕ)) (x : List ℕ) → Small x → well_formed x ≡ true → number_in ns (standard_of x) ≡ number_in ns x
number_standard ns x s w = number_same ns (standard_of x) x (same_same_name (standard_of x) x (units_same (standard_of x) x (standard_units x s w)))

-- ---- places that are filled
module _ (f : ℕ → ℕ) (l : List ℕ) where
  pub filled_none : filled f 0 l ≡ l
  unfolding filled
  filled_none = refl

  pub filled_more : (n : ℕ) → filled f (n + 1) l ≡ set (filled f n l) n (f n)
  unfolding filled
  filled_more n = rw add-one

  pub filled_length : (n : ℕ) → length (filled f n l) ≡ length l
  unfolding filled
  filled_length zero = refl
  filled_length (suc n) = length-set (filled f n l) n (f n) ∙ filled_length n

  pub filled_at : (n i : ℕ) → i < n → n ≤ length l → get_or (filled f n l) i 0 ≡ f i
  unfolding filled
  filled_at zero i h k = let z : ⊥ = omega arith in absurd z
  filled_at (suc n) i h k = go (dec_lt i n) (λ p. filled_at n i p (omega arith))
    where
      go : Dec (i < n) → (i < n → get_or (filled f n l) i 0 ≡ f i) → get_or (set (filled f n l) n (f n)) i 0 ≡ f i
      go (yes p) ih = get_or-set_other (filled f n l) n i (f n) 0 (λ e. omega arith) ∙ ih p
      go (no p) ih =
          let e : i ≡ n = omega arith in
          let m = filled_length n in
          rw e (get_or-set_same (filled f n l) n (f n) 0 (omega arith))

  pub filled_after : (n i : ℕ) → n ≤ i → get_or (filled f n l) i 0 ≡ get_or l i 0
  unfolding filled
  filled_after zero i h = refl
  filled_after (suc n) i h = get_or-set_other (filled f n l) n i (f n) 0 (λ e. omega arith) ∙ filled_after n i (omega arith)
