-- The text that is written of an address keeps the rules of RFC 5952.
use Prim.Native.Nat.{ℕ, zero, suc, ◌+◌, ◌≤◌, ◌<◌}
use mathlib.Core.Path.{◌≡◌, refl, ap, sym, ◌∙◌}
use mathlib.Core.Bool.{Bool, true, false}
use mathlib.Core.List.{List, [], ◌∷◌, ◌++◌, map, append-nil}
use lib.Dec.{ltb, eqb}
use lib.ListN.{length, get_or, take, drop, length-map, length-take}
use native.Mathlib.Omega.{arith}
use borrow.Author.Tests.{ltb-true, ltb-false, eqb-true, eqb-false}
use Rattle.octets.specs.Octets.{blank, Small}
use Rattle.octets.specs.Each.{Under}
use Rattle.octets.proofs.OctetLaws.{under_take, under_drop}
use Rattle.text.specs.Digits.{digits_of, number_from, digit_octet, digit_in, number_text}
use Rattle.text.specs.Groups.{groups_of, zeros_at, longest, place_of, before_run, after_run}
use Rattle.text.specs.AddressText.{more_text, groups_text, short_text, write_address}
use Rattle.text.specs.Rfc5952.{Every, IsGroup, group_of, parted, shortened, ZerosAt, Rfc5952}
use Rattle.text.proofs.DigitLaws.{number_digits, digits_under, digits_few, digits_some, digits_lead, digit_octet_lem, in_figure, octet_figure, octet_letter}
use Rattle.text.proofs.NumberTextLaws.{text_one}
use Rattle.text.proofs.GroupLaws.{zeros_more, longest_most, place_first, run_split, groups_under}
use Rattle.text.proofs.RoundTrip.{text_full, text_short}

pub every_append : {A : Type 0} (P : A → Type 0) (xs ys : List A) → Every P xs → Every P ys → Every P (xs ++ ys)
every_append P [] ys h k = k
every_append P (x ∷ xs) ys h k = (h.0, every_append P xs ys h.1 k)

-- what holds of figures and of small letters holds of the octet of a digit
octet_by : (P : ℕ → Type 0) → ((d : ℕ) → d < 10 → P (48 + d)) → ((d : ℕ) → 10 ≤ d → d < 16 → P (87 + d)) → (d : ℕ) → d < 16 → P (digit_octet d)
octet_by P f l d h = go (ltb d 10) refl
  where
    go : (t : Bool) → ltb d 10 ≡ t → P (digit_octet d)
    go true e = let k = ltb-true d 10 e in rw (octet_figure d k) (f d k)
    go false e = let k = ltb-false d 10 e in rw (octet_letter d k) (l d k h)

every_digits : (P : ℕ → Type 0) → ((d : ℕ) → d < 16 → P (digit_octet d)) → (ds : List ℕ) → Under 16 ds → Every P (map digit_octet ds)
every_digits P f [] u = record {}
every_digits P f (d ∷ ds) u = (f d (u 0), every_digits P f ds (λ i. u (suc i)))

-- what holds of the octets of digits and of a colon holds of each octet of an address that is written
module _ (P : ℕ → Type 0) (colon : P 58) (digit : (d : ℕ) → d < 16 → P (digit_octet d)) where
  every_text : (g : ℕ) → Every P (number_text 16 g)
  unfolding number_text
  every_text g = every_digits P digit (digits_of 16 g) (digits_under 16 g (omega arith))

  every_more : (gs : List ℕ) → Every P (more_text gs)
  unfolding more_text
  every_more [] = record {}
  every_more (g ∷ gs) = (colon, every_append P (number_text 16 g) (more_text gs) (every_text g) (every_more gs))

  every_groups : (gs : List ℕ) → Every P (groups_text gs)
  unfolding groups_text
  every_groups [] = record {}
  every_groups (g ∷ gs) = every_append P (number_text 16 g) (more_text gs) (every_text g) (every_more gs)

  every_short : (gs : List ℕ) → Every P (short_text gs)
  every_short gs = go (ltb (longest gs) 2) refl
    where
      go : (t : Bool) → ltb (longest gs) 2 ≡ t → Every P (short_text gs)
      go true e = rw (text_full gs (ltb-true (longest gs) 2 e)) (every_groups gs)
      go false e =
          rw (text_short gs (ltb-false (longest gs) 2 e))
          (every_append P (groups_text (before_run gs)) (58 ∷ 58 ∷ groups_text (after_run gs)) (every_groups (before_run gs)) (colon, (colon, every_groups (after_run gs))))

-- a group that is written: its digits read are those of the group
digits_again : (ds : List ℕ) → Under 16 ds → map digit_in (map digit_octet ds) ≡ ds
digits_again [] u = refl
digits_again (d ∷ ds) u = λ i. digit_octet_lem d (u 0) i ∷ digits_again ds (λ j. u (suc j)) i

group_again : (g : ℕ) → group_of (number_text 16 g) ≡ g
unfolding group_of number_text
group_again g = ap (number_from 16 0) (digits_again (digits_of 16 g) (digits_under 16 g (omega arith))) ∙ number_digits 16 g (omega arith)

groups_again : (gs : List ℕ) → map group_of (map (number_text 16) gs) ≡ gs
groups_again [] = refl
groups_again (g ∷ gs) = λ i. group_again g i ∷ groups_again gs i

-- and it has no leading zero
lead_digits : (ds : List ℕ) → Under 16 ds → 0 < get_or ds 0 0 → get_or (map digit_octet ds) 0 0 ≡ 48 → ⊥
lead_digits [] u h e = omega arith
lead_digits (d ∷ ds) u h e = let z : d ≡ 0 = sym (digit_octet_lem d (u 0)) ∙ ap digit_in e ∙ in_figure 48 (omega arith) (omega arith) in omega arith

group_written : (g : ℕ) → g < 65536 → IsGroup (number_text 16 g)
unfolding number_text
group_written g h =
    record {
      some = rw (length-map (digits_of 16 g) digit_octet) (digits_some 16 g);
      few = rw (length-map (digits_of 16 g) digit_octet) (digits_few 16 g 3 (omega arith) h);
      digit = every_digits (λ c. digit_in c < 16) (λ d l. rw (digit_octet_lem d l) l) (digits_of 16 g) (digits_under 16 g (omega arith));
      lead = lead (eqb g 0) refl;
    }
  where
    lead : (t : Bool) → eqb g 0 ≡ t → get_or (number_text 16 g) 0 0 ≡ 48 → length (number_text 16 g) ≡ 1
    lead true e f = text_one 16 g (let z = eqb-true g 0 e in omega arith)
    lead false e f = let z = eqb-false g 0 e in absurd (lead_digits (digits_of 16 g) (digits_under 16 g (omega arith)) (digits_lead 16 g (omega arith) (omega arith)) f)

groups_written : (gs : List ℕ) → Under 65536 gs → Every IsGroup (map (number_text 16) gs)
groups_written [] u = record {}
groups_written (g ∷ gs) u = (group_written g (u 0), groups_written gs (λ i. u (suc i)))

-- groups parted by colons, in the words of the rules
pub parted_text : (gs : List ℕ) → groups_text gs ≡ parted (map (number_text 16) gs)
unfolding groups_text more_text parted
parted_text [] = refl
parted_text (g ∷ []) = append-nil (number_text 16 g)
parted_text (g ∷ h ∷ gs) = ap (λ (l : List ℕ). number_text 16 g ++ (58 ∷ l)) (parted_text (h ∷ gs))

-- zero groups that stand somewhere are no more than those counted there
pub zeros_counted : (n : ℕ) (gs : List ℕ) → take n gs ≡ blank n → n ≤ zeros_at gs
unfolding blank
zeros_counted zero gs e = omega arith
zeros_counted (suc n) [] e = let l = ap length e in omega arith
zeros_counted (suc n) (g ∷ gs) e =
    let z = zeros_more g gs (ap (λ (l : List ℕ). get_or l 0 0) e) in
    omega (arith, z, zeros_counted n gs (ap (drop 1) e))

-- eight groups, shortened where a run is long enough
module _ (a : List ℕ) (h : length a ≡ 16) (s : Small a) where
  run_counted : (i n : ℕ) → ZerosAt (groups_of a) i n → n ≤ zeros_at (drop i (groups_of a))
  run_counted i n z = zeros_counted n (drop i (groups_of a)) z

  under : Under 65536 (groups_of a)
  under = groups_under 8 a h s

  lower : Every (λ c. 65 ≤ c → c ≤ 90 → ⊥) (write_address a)
  unfolding write_address
  lower = every_short (λ c. 65 ≤ c → c ≤ 90 → ⊥) (λ p q. omega arith) (octet_by (λ c. 65 ≤ c → c ≤ 90 → ⊥) (λ d l p q. omega arith) (λ d m l p q. omega arith)) (groups_of a)

  undotted : Every (λ c. c ≡ 46 → ⊥) (write_address a)
  unfolding write_address
  undotted = every_short (λ c. c ≡ 46 → ⊥) (λ p. omega arith) (octet_by (λ c. c ≡ 46 → ⊥) (λ d l p. omega arith) (λ d m l p. omega arith)) (groups_of a)

  full_form : longest (groups_of a) < 2 → write_address a ≡ shortened (map (number_text 16) (groups_of a)) 0 []
  unfolding write_address shortened
  full_form l = text_full (groups_of a) l ∙ parted_text (groups_of a) ∙ ap parted (sym (append-nil (map (number_text 16) (groups_of a))))

  full_groups : map group_of (map (number_text 16) (groups_of a)) ++ (blank 0 ++ []) ≡ groups_of a
  unfolding blank
  full_groups = append-nil (map group_of (map (number_text 16) (groups_of a))) ∙ groups_again (groups_of a)

  full : longest (groups_of a) < 2 → Rfc5952 a (write_address a)
  full l = record {
    before = map (number_text 16) (groups_of a);
    count = 0;
    after = [];
    form = full_form l;
    groups = full_groups;
    leading = (groups_written (groups_of a) under, record {});
    longest = λ i n m z. omega (arith, run_counted i n z, longest_most (groups_of a) i);
    several = λ e. omega arith;
    leftmost = λ i n m z e. omega arith;
    lower = lower;
    undotted = undotted;
  }

  short_form : (k : ℕ) → longest (groups_of a) ≡ suc k → 2 ≤ suc k → write_address a ≡ shortened (map (number_text 16) (before_run (groups_of a))) (suc k) (map (number_text 16) (after_run (groups_of a)))
  unfolding write_address shortened
  short_form k e l =
      text_short (groups_of a) (omega arith)
      ∙ (λ i. parted_text (before_run (groups_of a)) i ++ (58 ∷ 58 ∷ parted_text (after_run (groups_of a)) i))

  before_under : Under 65536 (before_run (groups_of a))
  unfolding before_run
  before_under = under_take 65536 (place_of (longest (groups_of a)) (groups_of a)) (groups_of a) under

  after_under : Under 65536 (after_run (groups_of a))
  unfolding after_run
  after_under = under_drop 65536 (place_of (longest (groups_of a)) (groups_of a) + longest (groups_of a)) (groups_of a) under

  before_few : length (map (number_text 16) (before_run (groups_of a))) ≤ place_of (longest (groups_of a)) (groups_of a)
  unfolding before_run
  before_few =
      let m = length-map (before_run (groups_of a)) (number_text 16) in
      let t = length-take (place_of (longest (groups_of a)) (groups_of a)) (groups_of a) in
      omega arith

  leftmost : (i n : ℕ) → ZerosAt (groups_of a) i n → n ≡ longest (groups_of a) → length (map (number_text 16) (before_run (groups_of a))) ≤ i
  leftmost i n z e = go (ltb i (place_of (longest (groups_of a)) (groups_of a))) refl
    where
      go : (t : Bool) → ltb i (place_of (longest (groups_of a)) (groups_of a)) ≡ t → length (map (number_text 16) (before_run (groups_of a))) ≤ i
      go true f =
          let p = place_first (groups_of a) i (ltb-true i (place_of (longest (groups_of a)) (groups_of a)) f) in
          let c = run_counted i n z in
          let y : ⊥ = omega arith in absurd y
      go false f = let p = ltb-false i (place_of (longest (groups_of a)) (groups_of a)) f in let b = before_few in omega arith

  short_groups : (k : ℕ) → longest (groups_of a) ≡ k → map group_of (map (number_text 16) (before_run (groups_of a))) ++ (blank k ++ map group_of (map (number_text 16) (after_run (groups_of a)))) ≡ groups_of a
  short_groups k e =
      (λ i. groups_again (before_run (groups_of a)) i ++ (blank (sym e i) ++ groups_again (after_run (groups_of a)) i)) ∙ run_split (groups_of a)

  short : (k : ℕ) → longest (groups_of a) ≡ suc k → 2 ≤ suc k → Rfc5952 a (write_address a)
  short k e l = record {
    before = map (number_text 16) (before_run (groups_of a));
    count = suc k;
    after = map (number_text 16) (after_run (groups_of a));
    form = short_form k e l;
    groups = short_groups (suc k) e;
    leading = (groups_written (before_run (groups_of a)) before_under, groups_written (after_run (groups_of a)) after_under);
    longest = λ i n m z. omega (arith, run_counted i n z, longest_most (groups_of a) i);
    several = λ f. omega arith;
    leftmost = λ i n m z f. leftmost i n z (f ∙ sym e);
    lower = lower;
    undotted = undotted;
  }

  -- T-06: the text that is written of an address is one that RFC 5952 allows, for every address
  pub written_5952 : Rfc5952 a (write_address a)
  written_5952 = by (longest (groups_of a)) refl
    where
      by : (n : ℕ) → longest (groups_of a) ≡ n → Rfc5952 a (write_address a)
      by zero e = full (omega arith)
      by (suc k) e = go (eqb k 0) refl
        where
          go : (t : Bool) → eqb k 0 ≡ t → Rfc5952 a (write_address a)
          go true f = let z = eqb-true k 0 f in full (omega arith)
          go false f = let z = eqb-false k 0 f in short k e (omega arith)
