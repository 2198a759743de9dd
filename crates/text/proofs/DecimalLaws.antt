-- Decimals: reading what was written gives the number, and a decimal that is read is the writing of its number.
use Prim.Native.Nat.{ℕ, suc, ◌+◌, ◌-◌, ◌*◌, ◌^◌, ◌≤◌, ◌<◌, min}
use mathlib.Core.Path.{◌≡◌, refl, ap, sym, ◌∙◌}
use mathlib.Core.Bool.{Bool, true, false, not, ◌&&◌, ◌||◌}
use mathlib.Core.List.{List, [], ◌∷◌, ◌++◌, map}
use lib.Dec.{ltb, leb, eqb}
use lib.ListN.{length, get_or, take, drop, length-map}
use lib.Seq.{get_or-drop, drop-append_seam}
use native.Mathlib.Omega.{arith}
use Rattle.text.proofs.PlaceLaws.{past, from_place}
use native.Mathlib.Nat.{add-zero}
use borrow.Author.Tests.{lt-ltb, ltb-true, ltb-false, leb-true, le-leb, eq-eqb, ne_eqb, eqb-true, eqb-false}
use Rattle.octets.specs.Each.{Under}
use Rattle.octets.proofs.OctetLaws.{under_cons}
use Rattle.octets.proofs.BoolLaws.{or_true}
use Rattle.text.specs.declared.numbers.Decimal.{Decimal}
use Rattle.text.specs.Digits.{between, digits_of, number_from, digit_octet, number_text, leading}
use Rattle.text.specs.Decimal.{write_decimal, digit_count, decimal_from, decimal_of, is_decimal, decimal_at}
use Rattle.text.proofs.DigitLaws.{number_digits, digits_under, digits_some, digits_few, digits_number, digits_lead, digits_of_last, octet_figure}

-- tests joined
pub both : (a b : Bool) → (a && b) ≡ true → (a ≡ true) × (b ≡ true)
both true true e = (refl, refl)
both true false e = (refl, e)
both false b e = let z : ◌≡◌ {A = ℕ} 0 1 = cc in let y : ⊥ = omega arith in absurd y

pub between_is : (low high c : ℕ) → between low high c ≡ true → (low ≤ c) × (c ≤ high)
between_is low high c e = let b = both (leb low c) (leb c high) e in (leb-true low c b.0, leb-true c high b.1)

pub is_between : (low high c : ℕ) → low ≤ c → c ≤ high → between low high c ≡ true
is_between low high c l h = rw (le-leb low c l, le-leb c high h)

-- the steps over one octet
pub count_figure : (c : ℕ) (cs : List ℕ) → between 48 57 c ≡ true → digit_count (c ∷ cs) ≡ suc (digit_count cs)
unfolding leading
count_figure c cs e = rw (e, leading)

pub count_other : (c : ℕ) (cs : List ℕ) → between 48 57 c ≡ false → digit_count (c ∷ cs) ≡ 0
unfolding leading
count_other c cs e = rw (e, leading)

pub value_figure : (v c : ℕ) (cs : List ℕ) → between 48 57 c ≡ true → decimal_from v (c ∷ cs) ≡ decimal_from (v * 10 + (c - 48)) cs
unfolding decimal_from
value_figure v c cs e = rw (e, decimal_from)

pub value_other : (v c : ℕ) (cs : List ℕ) → between 48 57 c ≡ false → decimal_from v (c ∷ cs) ≡ v
unfolding decimal_from
value_other v c cs e = rw (e, decimal_from)

-- where no digit stands
pub value_none : (v : ℕ) (xs : List ℕ) → digit_count xs ≡ 0 → decimal_from v xs ≡ v
unfolding decimal_from
value_none v [] h = refl
value_none v (c ∷ cs) h = go (between 48 57 c) refl
  where
    go : (t : Bool) → between 48 57 c ≡ t → decimal_from v (c ∷ cs) ≡ v
    go true e = let n = count_figure c cs e in let z : ⊥ = omega arith in absurd z
    go false e = value_other v c cs e

-- the octet of a digit is a figure
octet_between : (d : ℕ) → d < 10 → between 48 57 (digit_octet d) ≡ true
octet_between d h = rw (octet_figure d h) (is_between 48 57 (48 + d) (omega arith) (omega arith))

octet_value : (d : ℕ) → d < 10 → digit_octet d - 48 ≡ d
octet_value d h = rw (octet_figure d h) (omega arith)

-- digits written, before something that is no digit
pub count_digits : (ds rest : List ℕ) → Under 10 ds → digit_count rest ≡ 0 → digit_count (map digit_octet ds ++ rest) ≡ length ds
count_digits [] rest u h = h
count_digits (d ∷ ds) rest u h = count_figure (digit_octet d) (map digit_octet ds ++ rest) (octet_between d (u 0)) ∙ ap suc (count_digits ds rest (λ i. u (suc i)) h)

pub value_digits : (v : ℕ) (ds rest : List ℕ) → Under 10 ds → digit_count rest ≡ 0 → decimal_from v (map digit_octet ds ++ rest) ≡ number_from 10 v ds
unfolding number_from
value_digits v [] rest u h = value_none v rest h
value_digits v (d ∷ ds) rest u h =
    value_figure v (digit_octet d) (map digit_octet ds ++ rest) (octet_between d (u 0))
    ∙ ap (λ (k : ℕ). decimal_from (v * 10 + k) (map digit_octet ds ++ rest)) (octet_value d (u 0))
    ∙ value_digits (v * 10 + d) ds rest (λ i. u (suc i)) h

-- a first digit that is not zero is not the octet of zero
lead_octet : (ds rest : List ℕ) → Under 10 ds → 0 < get_or ds 0 0 → eqb (get_or (map digit_octet ds ++ rest) 0 0) 48 ≡ false
lead_octet [] rest u h = let z : ⊥ = omega arith in absurd z
lead_octet (d ∷ ds) rest u h = let e = octet_figure d (u 0) in ne_eqb (digit_octet d) 48 (omega arith)

-- what a reader finds: text that begins with a decimal of n octets and of this value
abbrev pub Begins : List ℕ → ℕ → ℕ → Type 0
Begins xs n v = (is_decimal xs ≡ true) × (digit_count xs ≡ n) × (decimal_of xs ≡ v)

-- reading what was written gives the number
pub decimal_read : (n : ℕ) (rest : List ℕ) → digit_count rest ≡ 0 → Begins (write_decimal n ++ rest) (length (write_decimal n)) n
unfolding number_text decimal_of is_decimal
decimal_read n rest h = (
  form (eqb n 0) refl,
  counted ∙ sym (length-map (digits_of 10 n) digit_octet),
  value_digits 0 (digits_of 10 n) rest u h ∙ number_digits 10 n (omega arith),
)
  where
    u : Under 10 (digits_of 10 n)
    u = digits_under 10 n (omega arith)

    counted : digit_count (map digit_octet (digits_of 10 n) ++ rest) ≡ length (digits_of 10 n)
    counted = count_digits (digits_of 10 n) rest u h

    form : (t : Bool) → eqb n 0 ≡ t
        → (ltb 0 (digit_count (map digit_octet (digits_of 10 n) ++ rest)) && (not (eqb (get_or (map digit_octet (digits_of 10 n) ++ rest) 0 0) 48) || eqb (digit_count (map digit_octet (digits_of 10 n) ++ rest)) 1)) ≡ true
    form true e =
        let z : n ≡ 0 = eqb-true n 0 e in
        let o : length (digits_of 10 n) ≡ 1 = ap length (digits_of_last 10 n (omega arith)) in
        rw (counted, o) (or_true (not (eqb (get_or (map digit_octet (digits_of 10 n) ++ rest) 0 0) 48)))
    form false e =
        let z = eqb-false n 0 e in
        let s = digits_some 10 n in
        rw (counted, lt-ltb 0 (length (digits_of 10 n)) s, lead_octet (digits_of 10 n) rest u (digits_lead 10 n (omega arith) (omega arith)))

-- a number below a power of ten has no more octets than the power
pub decimal_few : (n k : ℕ) → n < 10 ^ suc k → length (write_decimal n) ≤ suc k
unfolding number_text
decimal_few n k h = let l = length-map (digits_of 10 n) digit_octet in let f = digits_few 10 n k (omega arith) h in omega arith

-- the digits that text begins with
unfoldable pub figures_in : List ℕ → List ℕ
unfolding leading
figures_in xs = map (λ c. c - 48) (take (digit_count xs) xs)

figures_more : (c : ℕ) (cs : List ℕ) → between 48 57 c ≡ true → figures_in (c ∷ cs) ≡ (c - 48) ∷ figures_in cs
unfolding figures_in
figures_more c cs e = rw (count_figure c cs e)

figures_none : (xs : List ℕ) → digit_count xs ≡ 0 → figures_in xs ≡ []
unfolding figures_in
figures_none xs e = rw e

under_figures : (xs : List ℕ) → Under 10 (figures_in xs)
under_figures [] = λ i. unfold figures_in in omega arith
under_figures (c ∷ cs) = go (between 48 57 c) refl (under_figures cs)
  where
    go : (t : Bool) → between 48 57 c ≡ t → Under 10 (figures_in cs) → Under 10 (figures_in (c ∷ cs))
    go true e k = let b = between_is 48 57 c e in rw (figures_more c cs e) (under_cons 10 (c - 48) (figures_in cs) (omega arith) k)
    go false e k = rw (figures_none (c ∷ cs) (count_other c cs e)) (λ i. omega arith)

value_figures : (v : ℕ) (xs : List ℕ) → decimal_from v xs ≡ number_from 10 v (figures_in xs)
unfolding number_from
value_figures v [] = unfold decimal_from figures_in in refl
value_figures v (c ∷ cs) = go (between 48 57 c) refl (λ w. value_figures w cs)
  where
    go : (t : Bool) → between 48 57 c ≡ t → ((w : ℕ) → decimal_from w cs ≡ number_from 10 w (figures_in cs)) → decimal_from v (c ∷ cs) ≡ number_from 10 v (figures_in (c ∷ cs))
    go true e k = rw (figures_more c cs e) (value_figure v c cs e ∙ k (v * 10 + (c - 48)))
    go false e k = rw (figures_none (c ∷ cs) (count_other c cs e)) (value_other v c cs e)

text_figures : (xs : List ℕ) → map digit_octet (figures_in xs) ≡ take (digit_count xs) xs
text_figures [] = unfold figures_in digit_count in refl
text_figures (c ∷ cs) = go (between 48 57 c) refl (text_figures cs)
  where
    go : (t : Bool) → between 48 57 c ≡ t → map digit_octet (figures_in cs) ≡ take (digit_count cs) cs → map digit_octet (figures_in (c ∷ cs)) ≡ take (digit_count (c ∷ cs)) (c ∷ cs)
    go true e k =
        let b = between_is 48 57 c e in
        let o : digit_octet (c - 48) ≡ c = octet_figure (c - 48) (omega arith) ∙ omega arith in
        rw (figures_more c cs e, count_figure c cs e, o, k)
    go false e k = rw (figures_none (c ∷ cs) (count_other c cs e), count_other c cs e)

write_digits : (n : ℕ) (ds : List ℕ) → digits_of 10 n ≡ ds → write_decimal n ≡ map digit_octet ds
unfolding number_text
write_digits n ds e = rw e

value_of : (xs : List ℕ) → decimal_of xs ≡ number_from 10 0 (figures_in xs)
unfolding decimal_of
value_of xs = value_figures 0 xs

-- a decimal that is read is the writing of its number
pub decimal_written : (xs : List ℕ) → is_decimal xs ≡ true → take (digit_count xs) xs ≡ write_decimal (decimal_of xs)
unfolding is_decimal
decimal_written [] e = unfold leading in let z : ◌≡◌ {A = ℕ} 0 1 = cc in let y : ⊥ = omega arith in absurd y
decimal_written (c ∷ cs) e = go (between 48 57 c) refl
  where
    parts : (ltb 0 (digit_count (c ∷ cs)) ≡ true) × ((not (eqb c 48) || eqb (digit_count (c ∷ cs)) 1) ≡ true)
    parts = both (ltb 0 (digit_count (c ∷ cs))) (not (eqb c 48) || eqb (digit_count (c ∷ cs)) 1) e

    alone : between 48 57 c ≡ true → c - 48 ≡ 0 → figures_in cs ≡ []
    alone f z =
        let b = between_is 48 57 c f in
        let k : c ≡ 48 = omega arith in
        let o : eqb (digit_count (c ∷ cs)) 1 ≡ true = rw (eq-eqb c 48 k) at parts.1 in
        let n = eqb-true (digit_count (c ∷ cs)) 1 o in
        let m = count_figure c cs f in
        figures_none cs (omega arith)

    go : (t : Bool) → between 48 57 c ≡ t → take (digit_count (c ∷ cs)) (c ∷ cs) ≡ write_decimal (decimal_of (c ∷ cs))
    go true f =
        let u : Under 10 ((c - 48) ∷ figures_in cs) = rw (figures_more c cs f) at (under_figures (c ∷ cs)) in
        let d = digits_number 10 (c - 48) (figures_in cs) (omega arith) u (alone f) in
        let v : decimal_of (c ∷ cs) ≡ number_from 10 0 ((c - 48) ∷ figures_in cs) = rw (figures_more c cs f) at (value_of (c ∷ cs)) in
        let w : write_decimal (decimal_of (c ∷ cs)) ≡ map digit_octet ((c - 48) ∷ figures_in cs) = write_digits (decimal_of (c ∷ cs)) ((c - 48) ∷ figures_in cs) (ap (digits_of 10) v ∙ d) in
        sym (text_figures (c ∷ cs)) ∙ rw (figures_more c cs f, w)
    go false f = let n = count_other c cs f in let p = ltb-true 0 (digit_count (c ∷ cs)) parts.0 in let z : ⊥ = omega arith in absurd z

-- a number that is cut off at a bound stays cut off as digits follow
cut_from : (cap v w : ℕ) (xs : List ℕ) → min cap v ≡ min cap w → min cap (decimal_from v xs) ≡ min cap (decimal_from w xs)
cut_from cap v w [] e = unfold decimal_from in e
cut_from cap v w (c ∷ cs) e = go (between 48 57 c) refl (cut_from cap (v * 10 + (c - 48)) (w * 10 + (c - 48)) cs (omega arith))
  where
    go : (t : Bool) → between 48 57 c ≡ t → min cap (decimal_from (v * 10 + (c - 48)) cs) ≡ min cap (decimal_from (w * 10 + (c - 48)) cs) → min cap (decimal_from v (c ∷ cs)) ≡ min cap (decimal_from w (c ∷ cs))
    go true f k = rw (value_figure v c cs f, value_figure w c cs f) k
    go false f k = rw (value_other v c cs f, value_other w c cs f) e

-- the reader at place i, with the value cut off so far: what is left gives what was to be found
pub record Passed (s : List ℕ) (from cap i v : ℕ) : Type 0 where
  pub counted : i + digit_count (drop i s) ≡ from + digit_count (drop from s)
  pub valued : min cap (decimal_from v (drop i s)) ≡ min cap (decimal_of (drop from s))
  pub low : v ≤ cap

pub passed_none : (s : List ℕ) (from cap : ℕ) → Passed s from cap from 0
unfolding decimal_of
passed_none s from cap = record { counted = refl; valued = refl; low = omega arith }

pub passed_turn : (s : List ℕ) (from cap i v : ℕ) → Passed s from cap i v → i < length s → between 48 57 (get_or s i 0) ≡ true → Passed s from cap (i + 1) (min (v * 10 + (get_or s i 0 - 48)) cap)
passed_turn s from cap i v p h b =
    let c = get_or s i 0 in
    let e = from_place s i h in
    let n = ap digit_count e ∙ count_figure c (drop (i + 1) s) b in
    let w : decimal_from v (drop i s) ≡ decimal_from (v * 10 + (c - 48)) (drop (i + 1) s) = ap (decimal_from v) e ∙ value_figure v c (drop (i + 1) s) b in
    let m : min cap (min (v * 10 + (c - 48)) cap) ≡ min cap (v * 10 + (c - 48)) = omega arith in
    record {
      counted = omega (arith, p.counted);
      valued = cut_from cap (min (v * 10 + (c - 48)) cap) (v * 10 + (c - 48)) (drop (i + 1) s) m ∙ ap (min cap) (sym w) ∙ p.valued;
      low = omega arith;
    }

-- where no digit follows, all is found
abbrev pub Stopped : List ℕ → ℕ → ℕ → ℕ → ℕ → Type 0
Stopped s from cap i v = (i ≡ from + digit_count (drop from s)) × (v ≡ min cap (decimal_of (drop from s)))

pub passed_stop : (s : List ℕ) (from cap i v : ℕ) → Passed s from cap i v → digit_count (drop i s) ≡ 0 → Stopped s from cap i v
passed_stop s from cap i v p h =
    let n = value_none v (drop i s) h in
    let k : min cap (decimal_from v (drop i s)) ≡ min cap v = ap (min cap) n in
    (omega (arith, p.counted), omega (arith, p.valued, p.low))

pub stop_other : (s : List ℕ) (i : ℕ) → i < length s → between 48 57 (get_or s i 0) ≡ false → digit_count (drop i s) ≡ 0
stop_other s i h d = ap digit_count (from_place s i h) ∙ count_other (get_or s i 0) (drop (i + 1) s) d

pub stop_end : (s : List ℕ) (i : ℕ) → length s ≤ i → digit_count (drop i s) ≡ 0
unfolding leading
stop_end s i h = rw (past s i h)

-- the form of a decimal by its count and its first octet
pub form_none : (xs : List ℕ) → digit_count xs ≡ 0 → is_decimal xs ≡ false
unfolding is_decimal
form_none xs h = rw h

pub form_zero : (xs : List ℕ) → 0 < digit_count xs → get_or xs 0 0 ≡ 48 → is_decimal xs ≡ eqb (digit_count xs) 1
unfolding is_decimal
form_zero xs h e = rw (lt-ltb 0 (digit_count xs) h, eq-eqb (get_or xs 0 0) 48 e)

pub form_some : (xs : List ℕ) → 0 < digit_count xs → (get_or xs 0 0 ≡ 48 → ⊥) → is_decimal xs ≡ true
unfolding is_decimal
form_some xs h e = rw (lt-ltb 0 (digit_count xs) h, ne_eqb (get_or xs 0 0) 48 e)

-- where a digit stands, the text has not ended
pub inside : (s : List ℕ) (i : ℕ) → 0 < digit_count (drop i s) → i < length s
inside s i h = go (ltb i (length s)) refl
  where
    go : (t : Bool) → ltb i (length s) ≡ t → i < length s
    go true e = ltb-true i (length s) e
    go false e = let n = stop_end s i (ltb-false i (length s) e) in let z : ⊥ = omega arith in absurd z

first_at : (s : List ℕ) (i : ℕ) → get_or (drop i s) 0 0 ≡ get_or s i 0
first_at s i = get_or-drop i s 0 0 ∙ ap (λ (k : ℕ). get_or s k 0) (add-zero i)

pub formed_none : (s : List ℕ) (from to : ℕ) → to ≡ from + digit_count (drop from s) → to ≡ from → is_decimal (drop from s) ≡ false
formed_none s from to e h = form_none (drop from s) (omega arith)

pub formed_zero : (s : List ℕ) (from to : ℕ) → to ≡ from + digit_count (drop from s) → (to ≡ from → ⊥) → get_or s from 0 ≡ 48 → is_decimal (drop from s) ≡ eqb to (from + 1)
formed_zero s from to e h f = form_zero (drop from s) (omega arith) (first_at s from ∙ f) ∙ go (eqb (digit_count (drop from s)) 1) refl
  where
    go : (t : Bool) → eqb (digit_count (drop from s)) 1 ≡ t → eqb (digit_count (drop from s)) 1 ≡ eqb to (from + 1)
    go true k = let n = eqb-true (digit_count (drop from s)) 1 k in k ∙ sym (eq-eqb to (from + 1) (omega arith))
    go false k = let n = eqb-false (digit_count (drop from s)) 1 k in k ∙ sym (ne_eqb to (from + 1) (omega arith))

pub formed_some : (s : List ℕ) (from to : ℕ) → to ≡ from + digit_count (drop from s) → (to ≡ from → ⊥) → (get_or s from 0 ≡ 48 → ⊥) → is_decimal (drop from s) ≡ true
formed_some s from to e h f = form_some (drop from s) (omega arith) (λ k. f (sym (first_at s from) ∙ k))

-- what the reader answers, by its parts
pub decimal_found : (s : List ℕ) (from bound : ℕ) (formed : Bool) (v i : ℕ) → formed ≡ is_decimal (drop from s) → v ≡ min (bound + 1) (decimal_of (drop from s)) → i ≡ from + digit_count (drop from s)
    → ◌≡◌ {A = Decimal} (record { formed = formed; value = v; next = i }) (decimal_at s from bound)
unfolding decimal_at
decimal_found s from bound formed v i e f g = λ j. record { formed = e j; value = f j; next = g j }

-- a decimal that was written into a line, before something that is no digit, is found there when read
pub decimal_stands : (before : List ℕ) (n bound : ℕ) (rest : List ℕ) → digit_count rest ≡ 0
    → ◌≡◌ {A = Decimal} (decimal_at (before ++ (write_decimal n ++ rest)) (length before) bound) (record { formed = true; value = min (bound + 1) n; next = length before + length (write_decimal n) })
decimal_stands before n bound rest h =
    let s = before ++ (write_decimal n ++ rest) in
    let d : drop (length before) s ≡ write_decimal n ++ rest = drop-append_seam before (write_decimal n ++ rest) in
    let r = decimal_read n rest h in
    sym (decimal_found s (length before) bound true (min (bound + 1) n) (length before + length (write_decimal n)) (sym (ap is_decimal d ∙ r.0)) (ap (min (bound + 1)) (sym (ap decimal_of d ∙ r.2))) (ap (λ (k : ℕ). length before + k) (sym (ap digit_count d ∙ r.1))))
