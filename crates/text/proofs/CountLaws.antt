-- Laws of counting groups, and of groups as octets.
use Prim.Native.Nat.{ℕ, suc, ◌+◌, ◌*◌, ◌/◌, ◌%◌, ◌≤◌, ◌<◌}
use mathlib.Core.Path.{◌≡◌, refl, ap, sym, subst, ◌∙◌}
use mathlib.Core.Bool.{Bool, true, false}
use mathlib.Core.List.{List, [], ◌∷◌, ◌++◌, append_assoc}
use Rattle.std.specs.Prelude.{Some, None}
use lib.Dec.{ltb, eqb}
use lib.ListN.{length, get_or, take, drop, set, length-set}
use lib.Seq.{take_all}
use Rattle.std.specs.Int.{w16, to_be_bytes}
use Rattle.std.proofs.Math.Seq.{take-suc, take-suc-set}
use native.Mathlib.Omega.{arith}
use Rattle.text.proofs.PlaceLaws.{past, from_place}
use native.Mathlib.Numerals.{add-one}
use borrow.Author.Tests.{le-ltb, ltb-true, ltb-false, eq-eqb, ne_eqb, eqb-true, eqb-false}
use Rattle.octets.proofs.BoolLaws.{and_false}
use Rattle.text.specs.declared.reading.Tally.{Tally}
use Rattle.text.specs.Digits.{digit_in}
use Rattle.text.specs.Groups.{octets_of}
use Rattle.text.specs.AddressText.{are_groups, groups_from, is_side, side_groups}
use Rattle.text.specs.Sides.{step_of, count_of}
use Rattle.text.proofs.AddressTextLaws.{are_digit, are_colon, side_is, side_all}
use Rattle.text.proofs.ReadLaws.{step_empty, step_colon, step_other, step_long, step_digit, from_colon, from_other, from_end}

-- the number of groups does not hang on what has been read of the first
from_length : (v w : ℕ) (xs : List ℕ) → length (groups_from v xs) ≡ length (groups_from w xs)
unfolding groups_from
from_length v w [] = refl
from_length v w (c ∷ cs) = go (eqb c 58) refl (from_length (v * 16 + digit_in c) (w * 16 + digit_in c) cs)
  where
    go : (t : Bool) → eqb c 58 ≡ t → length (groups_from (v * 16 + digit_in c) cs) ≡ length (groups_from (w * 16 + digit_in c) cs) → length (groups_from v (c ∷ cs)) ≡ length (groups_from w (c ∷ cs))
    go true e k = rw (e, groups_from)
    go false e k = rw (e, groups_from) k

-- octets that may not stand where they do
are_empty : (c : ℕ) (cs : List ℕ) → c ≡ 58 → are_groups 0 (c ∷ cs) ≡ false
unfolding are_groups
are_empty c cs e = rw (eq-eqb c 58 e, are_groups)

are_other : (n c : ℕ) (cs : List ℕ) → (c ≡ 58 → ⊥) → 16 ≤ digit_in c → are_groups n (c ∷ cs) ≡ false
unfolding are_groups
are_other n c cs e h = rw (ne_eqb c 58 e, are_groups, le-ltb (digit_in c) 16 h)

are_long : (n c : ℕ) (cs : List ℕ) → (c ≡ 58 → ⊥) → 4 ≤ n → are_groups n (c ∷ cs) ≡ false
unfolding are_groups
are_long n c cs e h = rw (ne_eqb c 58 e, are_groups, le-ltb n 4 h, and_false (ltb (digit_in c) 16))

-- groups counted up to place i
pub record Counting (text : List ℕ) (t : Tally) (i : ℕ) : Type 0 where
  pub few : t.digits ≤ 4
  pub low : t.groups ≤ i
  pub same : are_groups t.digits (drop i text) ≡ are_groups 0 text
  pub counted : t.groups + length (groups_from 0 (drop i text)) ≡ length (groups_from 0 text)

pub counting_start : (text : List ℕ) → Counting text (record { digits = 0; groups = 0 }) 0
counting_start text = record { few = omega arith; low = omega arith; same = refl; counted = omega arith }

-- one octet more: it goes on, or the text is no groups
abbrev pub Stepped : List ℕ → Tally → ℕ → Type 0
Stepped text t i = ((r : Tally) → step_of t (get_or text i 0) ≡ Some r → Counting text r (i + 1)) × (step_of t (get_or text i 0) ≡ None → are_groups 0 text ≡ false)

counting_fails : (text : List ℕ) (t : Tally) (i : ℕ) → step_of t (get_or text i 0) ≡ None → are_groups 0 text ≡ false → Stepped text t i
counting_fails text t i e f = (λ r h. let z : ⊥ = cc in absurd z, λ h. f)

counting_goes : (text : List ℕ) (t r : Tally) (i : ℕ) → step_of t (get_or text i 0) ≡ Some r → Counting text r (i + 1) → Stepped text t i
counting_goes text t r i e k =
    (λ q h. (let s : r ≡ q = cc in subst (λ (x : Tally). Counting text x (i + 1)) s k), λ h. let z : ⊥ = cc in absurd z)

pub counting_turn : (text : List ℕ) (t : Tally) (i : ℕ) → Counting text t i → i < length text → Stepped text t i
counting_turn text t i k h = go (eqb (get_or text i 0) 58) refl
  where
    rest : List ℕ
    rest = drop (i + 1) text

    here : are_groups t.digits (get_or text i 0 ∷ drop (i + 1) text) ≡ are_groups 0 text
    here = ap (are_groups t.digits) (sym (from_place text i h)) ∙ k.same

    colon : get_or text i 0 ≡ 58 → (b : Bool) → eqb t.digits 0 ≡ b → Stepped text t i
    colon e true f =
        let z = eqb-true t.digits 0 f in
        counting_fails text t i (step_empty t (get_or text i 0) e z) (sym here ∙ ap (λ (n : ℕ). are_groups n (get_or text i 0 ∷ drop (i + 1) text)) z ∙ are_empty (get_or text i 0) (drop (i + 1) text) e)
    colon e false f =
        let z = eqb-false t.digits 0 f in
        let n = ap length (from_colon text i 0 h e) in
        counting_goes text t (record { digits = 0; groups = t.groups + 1 }) i (step_colon t (get_or text i 0) e z)
        (record {
          few = omega arith;
          low = omega (arith, k.low);
          same = sym (are_colon t.digits (drop (i + 1) text) (omega arith)) ∙ ap (λ (c : ℕ). are_groups t.digits (c ∷ drop (i + 1) text)) (sym e) ∙ here;
          counted = omega (arith, k.counted);
        })

    other : (get_or text i 0 ≡ 58 → ⊥) → (a b : Bool) → ltb (digit_in (get_or text i 0)) 16 ≡ a → ltb t.digits 4 ≡ b → Stepped text t i
    other e false b f g =
        let o = ltb-false (digit_in (get_or text i 0)) 16 f in
        counting_fails text t i (step_other t (get_or text i 0) e o) (sym here ∙ are_other t.digits (get_or text i 0) (drop (i + 1) text) e o)
    other e true false f g =
        let o = ltb-false t.digits 4 g in
        counting_fails text t i (step_long t (get_or text i 0) e o) (sym here ∙ are_long t.digits (get_or text i 0) (drop (i + 1) text) e o)
    other e true true f g =
        let o = ltb-true (digit_in (get_or text i 0)) 16 f in
        let q = ltb-true t.digits 4 g in
        let n = ap length (from_other text i 0 h e) ∙ from_length (0 * 16 + digit_in (get_or text i 0)) 0 (drop (i + 1) text) in
        counting_goes text t (record { digits = t.digits + 1; groups = t.groups }) i (step_digit t (get_or text i 0) e o q)
        (record {
          few = omega arith;
          low = omega (arith, k.low);
          same = ap (λ (n : ℕ). are_groups n (drop (i + 1) text)) (add-one t.digits) ∙ sym (are_digit t.digits (get_or text i 0) (drop (i + 1) text) (ne_eqb (get_or text i 0) 58 e) o q) ∙ here;
          counted = omega (arith, k.counted);
        })

    go : (b : Bool) → eqb (get_or text i 0) 58 ≡ b → Stepped text t i
    go true e = colon (eqb-true (get_or text i 0) 58 e) (eqb t.digits 0) refl
    go false e = other (eqb-false (get_or text i 0) 58 e) (ltb (digit_in (get_or text i 0)) 16) (ltb t.digits 4) refl refl

pub counting_end : (text : List ℕ) (t : Tally) (i : ℕ) → Counting text t i → length text ≤ i → (are_groups 0 text ≡ ltb 0 t.digits) × (t.groups + 1 ≡ length (groups_from 0 text))
unfolding are_groups
counting_end text t i k h =
    let n = ap length (from_end text i 0 h) in
    (sym k.same ∙ ap (are_groups t.digits) (past text i h), omega (arith, k.counted))

-- what the count is
pub count_none : (text : List ℕ) → length text ≡ 0 → Some 0 ≡ count_of text
unfolding count_of is_side side_groups
count_none [] h = refl
count_none (c ∷ cs) h = let z : ⊥ = omega arith in absurd z

pub count_bad : (text : List ℕ) → 0 < length text → are_groups 0 text ≡ false → None ≡ count_of text
unfolding count_of
count_bad text h e = let s = side_is text h ∙ e in sym (rw (s, count_of))

pub count_good : (text : List ℕ) (n : ℕ) → 0 < length text → are_groups 0 text ≡ true → n ≡ length (groups_from 0 text) → Some n ≡ count_of text
unfolding count_of
count_good text n h e f =
    let s = side_is text h ∙ e in
    let g : n ≡ length (side_groups text) = f ∙ ap length (sym (side_all text h)) in
    sym (rw (s, count_of, g))

-- groups as octets, one group more
octets_append : (gs : List ℕ) (g : ℕ) → octets_of (gs ++ (g ∷ [])) ≡ octets_of gs ++ (g / 256 ∷ g % 256 ∷ [])
unfolding octets_of
octets_append [] g = refl
octets_append (x ∷ gs) g = rw (octets_append gs g)

pub octets_start : (o g : List ℕ) → take 0 o ≡ octets_of (take 0 g)
unfolding octets_of
octets_start o g = refl

pub octets_turn : (g o two : List ℕ) (i : ℕ) → i < length g → get_or g i 0 < 65536 → 2 * i + 2 ≤ length o → two ≡ to_be_bytes w16 (get_or g i 0) → take (2 * i) o ≡ octets_of (take i g)
    → take (2 * (i + 1)) (set (set o (2 * i) (get_or two 0 0)) (2 * i + 1) (get_or two 1 0)) ≡ octets_of (take (i + 1) g)
octets_turn g o two i h l r t e =
    let n = get_or g i 0 in
    let x : get_or two 0 0 ≡ get_or g i 0 / 256 = ap (λ (w : List ℕ). get_or w 0 0) t ∙ omega arith in
    let y : get_or two 1 0 ≡ get_or g i 0 % 256 = ap (λ (w : List ℕ). get_or w 1 0) t ∙ omega arith in
    let k : 2 * (i + 1) ≡ suc (2 * i + 1) = omega arith in
    let m : 2 * i + 1 ≡ suc (2 * i) = omega arith in
    let j : i + 1 ≡ suc i = omega arith in
    let s = length-set o (2 * i) (n / 256) in
    let a : take (suc (2 * i + 1)) (set (set o (2 * i) (n / 256)) (2 * i + 1) (n % 256)) ≡ take (2 * i + 1) (set o (2 * i) (n / 256)) ++ (n % 256 ∷ []) = take-suc-set _ (2 * i + 1) (n % 256) (omega arith) in
    let b : take (suc (2 * i)) (set o (2 * i) (n / 256)) ≡ take (2 * i) o ++ (n / 256 ∷ []) = take-suc-set o (2 * i) (n / 256) (omega arith) in
    let c : take (suc i) g ≡ take i g ++ (n ∷ []) = take-suc g i 0 h in
    rw (x, y, k, a) (rw (ap (λ (z : ℕ). take z (set o (2 * i) (n / 256))) m, b, e, j, c) (append_assoc (octets_of (take i g)) (n / 256 ∷ []) (n % 256 ∷ []) ∙ sym (octets_append (take i g) n)))

pub octets_end : (g o : List ℕ) (i : ℕ) → length g ≤ i → length o ≤ 2 * i → take (2 * i) o ≡ octets_of (take i g) → o ≡ octets_of g
octets_end g o i h k e = sym (take_all (2 * i) o k) ∙ e ∙ ap octets_of (take_all i g h)
