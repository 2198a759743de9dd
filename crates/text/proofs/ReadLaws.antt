-- Laws of reading an address octet by octet.
use Prim.Native.Nat.{ℕ, suc, ◌+◌, ◌-◌, ◌*◌, ◌≤◌, ◌<◌}
use mathlib.Core.Path.{◌≡◌, refl, ap, sym, ◌∙◌}
use mathlib.Core.Bool.{Bool, true, false, ◌&&◌}
use mathlib.Core.List.{List, [], ◌∷◌}
use Rattle.std.specs.Prelude.{Some, None}
use lib.Dec.{ltb, leb, eqb}
use lib.ListN.{length, get_or, drop, set, length-set, get_or-eq_default}
use lib.Seq.{get_or-drop}
use native.Mathlib.Omega.{arith}
use Rattle.text.proofs.PlaceLaws.{past, from_place}
use native.Mathlib.Nat.{add-zero}
use borrow.Author.Tests.{lt-ltb, le-ltb, ltb-true, ltb-false, lt-leb, leb-true, eq-eqb, ne_eqb, eqb-true, eqb-false}
use Rattle.octets.specs.Each.{Under}
use Rattle.octets.proofs.BoolLaws.{and_false}
use Rattle.text.specs.declared.reading.Tally.{Tally}
use Rattle.text.specs.Digits.{between, digit_in}
use Rattle.text.specs.Written.{written}
use Rattle.text.specs.AddressText.{groups_from, side_groups, two_colons, gap_of, may_stand}
use Rattle.text.specs.Sides.{step_of}
use Rattle.text.proofs.DecimalLaws.{both}
use Rattle.text.proofs.AddressTextLaws.{side_all}
use Rattle.text.proofs.WrittenLaws.{written_one, written_more}

-- an octet that lies outside
not_below : (low high c : ℕ) → c < low → between low high c ≡ false
not_below low high c h = rw (lt-leb low c h)

not_above : (low high c : ℕ) → high < c → between low high c ≡ false
not_above low high c h = rw (lt-leb c high h) (and_false (leb low c))

in_none : (c : ℕ) → between 48 57 c ≡ false → between 97 102 c ≡ false → between 65 70 c ≡ false → digit_in c ≡ 16
unfolding digit_in
in_none c e f g = rw (e, digit_in, f, g)

-- an octet before the digits, and one after them
pub digit_first : (c : ℕ) → c < 48 → digit_in c ≡ 16
digit_first c h = in_none c (not_below 48 57 c h) (not_below 97 102 c (omega arith)) (not_below 65 70 c (omega arith))

pub digit_last : (c : ℕ) → 103 ≤ c → digit_in c ≡ 16
digit_last c l = in_none c (not_above 48 57 c (omega arith)) (not_above 97 102 c (omega arith)) (not_above 65 70 c (omega arith))

-- what an octet writes, by its kind: a figure, a small letter, a capital, or nothing
pub digit_by : (P : Type 0) (c : ℕ) → (48 ≤ c → c ≤ 57 → digit_in c ≡ c - 48 → P) → (97 ≤ c → c ≤ 102 → digit_in c ≡ c - 87 → P) → (65 ≤ c → c ≤ 70 → digit_in c ≡ c - 55 → P)
    → (digit_in c ≡ 16 → P) → P
unfolding digit_in
digit_by P c figure small capital none = go (between 48 57 c) (between 97 102 c) (between 65 70 c) refl refl refl
  where
    within : (low high : ℕ) → between low high c ≡ true → (low ≤ c) × (c ≤ high)
    within low high e = let k = both (leb low c) (leb c high) e in (leb-true low c k.0, leb-true c high k.1)

    go : (a b d : Bool) → between 48 57 c ≡ a → between 97 102 c ≡ b → between 65 70 c ≡ d → P
    go true b d e f g = let w = within 48 57 e in figure w.0 w.1 (rw (e, digit_in))
    go false true d e f g = let w = within 97 102 f in small w.0 w.1 (rw (e, digit_in, f))
    go false false true e f g = let w = within 65 70 g in capital w.0 w.1 (rw (e, digit_in, f, g))
    go false false false e f g = none (in_none c e f g)

-- no octet writes more than 16
pub digit_most : (c : ℕ) → digit_in c ≤ 16
digit_most c = digit_by (digit_in c ≤ 16) c (λ l h e. omega arith) (λ l h e. omega arith) (λ l h e. omega arith) (λ e. omega arith)

-- octets of an address
pub stand_colon : (c : ℕ) → c ≡ 58 → may_stand c ≡ true
unfolding may_stand
stand_colon c e = rw (eq-eqb c 58 e)

pub stand_digit : (c : ℕ) → (c ≡ 58 → ⊥) → may_stand c ≡ ltb (digit_in c) 16
unfolding may_stand
stand_digit c e = rw (ne_eqb c 58 e)

-- two colons at a place
two_at : (s : List ℕ) (i : ℕ) → two_colons (drop i s) ≡ (eqb (get_or s i 0) 58 && eqb (get_or s (i + 1) 0) 58)
unfolding two_colons
two_at s i = rw (get_or-drop i s 0 0, get_or-drop i s 1 0, add-zero i)

pub two_end : (s : List ℕ) (i : ℕ) → length s ≤ i + 1 → two_colons (drop i s) ≡ false
two_end s i h =
    let b : get_or s (i + 1) 0 ≡ 0 = get_or-eq_default s 0 h in
    two_at s i ∙ rw b (and_false (eqb (get_or s i 0) 58))

-- two octets as one number are two colons where the number is
pub two_both : (s : List ℕ) (i : ℕ) → get_or s i 0 < 256 → get_or s (i + 1) 0 < 256 → eqb (get_or s i 0 * 256 + get_or s (i + 1) 0) 14906 ≡ two_colons (drop i s)
two_both s i h l = go (eqb (get_or s i 0) 58) (eqb (get_or s (i + 1) 0) 58) refl refl
  where
    go : (a b : Bool) → eqb (get_or s i 0) 58 ≡ a → eqb (get_or s (i + 1) 0) 58 ≡ b → eqb (get_or s i 0 * 256 + get_or s (i + 1) 0) 14906 ≡ two_colons (drop i s)
    go true true e f =
        let p = eqb-true (get_or s i 0) 58 e in
        let q = eqb-true (get_or s (i + 1) 0) 58 f in
        eq-eqb (get_or s i 0 * 256 + get_or s (i + 1) 0) 14906 (omega arith) ∙ sym (two_at s i ∙ rw (e, f))
    go true false e f =
        let p = eqb-true (get_or s i 0) 58 e in
        let q = eqb-false (get_or s (i + 1) 0) 58 f in
        ne_eqb (get_or s i 0 * 256 + get_or s (i + 1) 0) 14906 (omega arith) ∙ sym (two_at s i ∙ rw (e, f))
    go false b e f =
        let p = eqb-false (get_or s i 0) 58 e in
        ne_eqb (get_or s i 0 * 256 + get_or s (i + 1) 0) 14906 (omega arith) ∙ sym (two_at s i ∙ rw e)

-- two octets read as one number tell it
pub two_word : (s : List ℕ) (i j n : ℕ) → i + 1 ≡ j → get_or s i 0 < 256 → get_or s j 0 < 256 → n ≡ get_or s i 0 * 256 + get_or s j 0 → eqb n 14906 ≡ two_colons (drop i s)
two_word s i j n e a b w =
    let f : n ≡ get_or s i 0 * 256 + get_or s (i + 1) 0 = w ∙ ap (λ (k : ℕ). get_or s i 0 * 256 + get_or s k 0) (sym e) in
    let g : get_or s (i + 1) 0 < 256 = rw (sym e) at b in
    ap (λ (m : ℕ). eqb m 14906) f ∙ two_both s i a g

pub gap_turn : (s : List ℕ) (i : ℕ) → i < length s → two_colons (drop i s) ≡ false → gap_of (drop i s) ≡ suc (gap_of (drop (i + 1) s))
unfolding gap_of
gap_turn s i h e = let f : two_colons (get_or s i 0 ∷ drop (i + 1) s) ≡ false = ap two_colons (sym (from_place s i h)) ∙ e in ap gap_of (from_place s i h) ∙ rw (f, gap_of)

pub gap_stop : (s : List ℕ) (i : ℕ) → i < length s → two_colons (drop i s) ≡ true → gap_of (drop i s) ≡ 0
unfolding gap_of
gap_stop s i h e = let f : two_colons (get_or s i 0 ∷ drop (i + 1) s) ≡ true = ap two_colons (sym (from_place s i h)) ∙ e in ap gap_of (from_place s i h) ∙ rw (f, gap_of)

pub gap_end : (s : List ℕ) (i : ℕ) → length s ≤ i → gap_of (drop i s) ≡ 0
unfolding gap_of
gap_end s i h = rw (past s i h)

-- where no place before the last one has two colons, none has
pub gap_all : (s : List ℕ) (end : ℕ) → length s ≤ end → (1 ≤ length s → end ≤ length s) → end - 1 + gap_of (drop (end - 1) s) ≡ gap_of s → length s ≤ gap_of s
gap_all s end h k e = go (ltb 0 (length s)) refl
  where
    go : (t : Bool) → ltb 0 (length s) ≡ t → length s ≤ gap_of s
    go true l =
        let p = ltb-true 0 (length s) l in
        let f = k p in
        let t = gap_turn s (end - 1) (omega arith) (two_end s (end - 1) (omega arith)) in
        omega arith
    go false l = let p = ltb-false 0 (length s) l in omega arith

-- one octet more of text that is groups
module _ (t : Tally) (c : ℕ) where
  pub step_empty : c ≡ 58 → t.digits ≡ 0 → step_of t c ≡ None
  unfolding step_of
  step_empty e f = rw (eq-eqb c 58 e, step_of, eq-eqb t.digits 0 f)

  pub step_colon : c ≡ 58 → (t.digits ≡ 0 → ⊥) → step_of t c ≡ Some (record { digits = 0; groups = t.groups + 1 })
  unfolding step_of
  step_colon e f = rw (eq-eqb c 58 e, step_of, ne_eqb t.digits 0 f)

  pub step_other : (c ≡ 58 → ⊥) → 16 ≤ digit_in c → step_of t c ≡ None
  unfolding step_of
  step_other e f = rw (ne_eqb c 58 e, step_of, le-ltb (digit_in c) 16 f)

  pub step_long : (c ≡ 58 → ⊥) → 4 ≤ t.digits → step_of t c ≡ None
  unfolding step_of
  step_long e f = rw (ne_eqb c 58 e, step_of, le-ltb t.digits 4 f, and_false (ltb (digit_in c) 16))

  pub step_digit : (c ≡ 58 → ⊥) → digit_in c < 16 → t.digits < 4 → step_of t c ≡ Some (record { digits = t.digits + 1; groups = t.groups })
  unfolding step_of
  step_digit e f g = rw (ne_eqb c 58 e, step_of, lt-ltb (digit_in c) 16 f, lt-ltb t.digits 4 g)

-- groups from a place on
pub from_colon : (s : List ℕ) (i v : ℕ) → i < length s → get_or s i 0 ≡ 58 → groups_from v (drop i s) ≡ v ∷ groups_from 0 (drop (i + 1) s)
unfolding groups_from
from_colon s i v h e = ap (groups_from v) (from_place s i h) ∙ rw (eq-eqb (get_or s i 0) 58 e, groups_from)

pub from_other : (s : List ℕ) (i v : ℕ) → i < length s → (get_or s i 0 ≡ 58 → ⊥) → groups_from v (drop i s) ≡ groups_from (v * 16 + digit_in (get_or s i 0)) (drop (i + 1) s)
unfolding groups_from
from_other s i v h e = ap (groups_from v) (from_place s i h) ∙ rw (ne_eqb (get_or s i 0) 58 e, groups_from)

pub from_end : (s : List ℕ) (i v : ℕ) → length s ≤ i → groups_from v (drop i s) ≡ v ∷ []
unfolding groups_from
from_end s i v h = ap (groups_from v) (past s i h)

-- the first group is at least what has been read of it
pub from_head : (v : ℕ) (xs : List ℕ) → v ≤ get_or (groups_from v xs) 0 0
unfolding groups_from
from_head v [] = omega arith
from_head v (c ∷ cs) = go (eqb c 58) refl (from_head (v * 16 + digit_in c) cs)
  where
    go : (t : Bool) → eqb c 58 ≡ t → v * 16 + digit_in c ≤ get_or (groups_from (v * 16 + digit_in c) cs) 0 0 → v ≤ get_or (groups_from v (c ∷ cs)) 0 0
    go true e k = rw (e, groups_from) (omega arith)
    go false e k = rw (e, groups_from) (omega arith)

pub side_empty : (xs : List ℕ) → length xs ≡ 0 → side_groups xs ≡ []
unfolding side_groups
side_empty [] h = refl
side_empty (c ∷ cs) h = let z : ⊥ = omega arith in absurd z

-- there is a group
pub from_some : (v : ℕ) (xs : List ℕ) → 0 < length (groups_from v xs)
unfolding groups_from
from_some v [] = omega arith
from_some v (c ∷ cs) = go (eqb c 58) refl (from_some (v * 16 + digit_in c) cs)
  where
    go : (t : Bool) → eqb c 58 ≡ t → 0 < length (groups_from (v * 16 + digit_in c) cs) → 0 < length (groups_from v (c ∷ cs))
    go true e k = rw (e, groups_from) (omega arith)
    go false e k = rw (e, groups_from) k

-- groups being put into a list of numbers from place `at` on: v of the group at hand has been read, and the text is passed up to i
pub record Putting (text old : List ℕ) (at : ℕ) (out : List ℕ) (next v i : ℕ) : Type 0 where
  pub under : Under 65536 (groups_from v (drop i text))
  pub size : length out ≡ length old
  pub room : next + length (groups_from v (drop i text)) ≤ length out
  pub put : written out next (groups_from v (drop i text)) ≡ written old at (side_groups text)

pub putting_start : (text old : List ℕ) (at : ℕ) → 0 < length text → Under 65536 (side_groups text) → at + length (side_groups text) ≤ length old → Putting text old at old at 0 0
putting_start text old at h u r =
    let e = side_all text h in
    record { under = rw e at u; size = refl; room = rw e at r; put = ap (written old at) (sym e) }

module _ {text old : List ℕ} {at : ℕ} {out : List ℕ} {next v i : ℕ} (p : Putting text old at out next v i) where
  pub putting_colon : i < length text → get_or text i 0 ≡ 58 → Putting text old at (set out next v) (next + 1) 0 (i + 1)
  putting_colon h e =
      let f = from_colon text i v h e in
      let l = length-set out next v in
      let n = ap length f in
      let o : next + length (v ∷ []) ≤ length out = omega (arith, p.room) in
      record {
        under = λ k. (rw f at (p.under (suc k)));
        size = l ∙ p.size;
        room = omega (arith, p.room);
        put = ap (λ (d : List ℕ). written d (next + 1) (groups_from 0 (drop (i + 1) text))) (written_one out next v (omega (arith, p.room)))
            ∙ written_more out next (v ∷ []) (groups_from 0 (drop (i + 1) text)) o ∙ ap (written out next) (sym f) ∙ p.put;
      }

  pub putting_digit : i < length text → (get_or text i 0 ≡ 58 → ⊥) → (v * 16 + digit_in (get_or text i 0) < 65536) × Putting text old at out next (v * 16 + digit_in (get_or text i 0)) (i + 1)
  putting_digit h e =
      let f = from_other text i v h e in
      let w = v * 16 + digit_in (get_or text i 0) in
      let u : get_or (groups_from (v * 16 + digit_in (get_or text i 0)) (drop (i + 1) text)) 0 0 < 65536 = rw f at (p.under 0) in (
        omega (arith, from_head w (drop (i + 1) text), u),
        record { under = λ k. (rw f at (p.under k)); size = p.size; room = rw f at p.room; put = ap (written out next) (sym f) ∙ p.put },
      )

  pub putting_end : length text ≤ i → (next < length out) × (set out next v ≡ written old at (side_groups text))
  putting_end h =
      let f = from_end text i v h in
      let n = ap length f in
      let o : next < length out = omega (arith, p.room) in
      (o, written_one out next v o ∙ ap (written out next) (sym f) ∙ p.put)
