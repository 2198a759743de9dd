-- Laws of reading an address as a whole.
use Prim.Native.Nat.{ℕ, zero, suc, ◌+◌, ◌-◌, ◌*◌, ◌^◌, ◌≤◌, ◌<◌}
use mathlib.Core.Path.{◌≡◌, refl, ap, sym, ◌∙◌}
use mathlib.Core.Bool.{Bool, true, false, ◌&&◌}
use mathlib.Core.List.{List, [], ◌∷◌, ◌++◌, append-nil, append_assoc}
use Rattle.std.specs.Prelude.{Option, Some, None}
use lib.Dec.{ltb, eqb}
use lib.ListN.{length, get_or, take, drop, length-drop}
use lib.Seq.{take-append-add, drop-append-add, take-nil}
use native.Mathlib.Omega.{arith}
use native.Mathlib.Nat.{pow-le-pow_right, pow-suc, zero-add}
use borrow.Author.Tests.{lt-ltb, le-ltb, ltb-true, eqb-true}
use Rattle.octets.specs.Octets.{blank}
use Rattle.octets.specs.Each.{Under}
use Rattle.octets.proofs.BoolLaws.{and_false}
use Rattle.octets.proofs.OctetLaws.{under_cons, drop_blank}
use Rattle.text.specs.Digits.{digit_in}
use Rattle.text.specs.Groups.{octets_of}
use Rattle.text.specs.Written.{written}
use Rattle.text.specs.AddressText.{are_groups, groups_from, is_side, side_groups, two_colons, gap_of, has_gap, before_gap, after_gap, named, is_address, address_groups, read_address, may_stand, address_count}
use Rattle.text.specs.Reading.{whole_of, address_part, address_at}
use Rattle.text.specs.Sides.{count_of, are_sides, sides_of, gap_found}
use Rattle.text.proofs.Computing.{text_compute}
use Rattle.text.proofs.CountLaws.{count_good}
use Rattle.text.proofs.DecimalLaws.{both}
use Rattle.text.proofs.AddressTextLaws.{side_is, side_all}
use Rattle.text.proofs.LeadingLaws.{leading_few}
use Rattle.text.proofs.PlaceLaws.{past}
use Rattle.text.proofs.RunLaws.{rest_whole}
use Rattle.text.proofs.RoundTrip.{is_plain_lem, is_short, plain_groups, short_groups}

pub whole_good : (text gs : List ℕ) → is_address text ≡ true → gs ≡ address_groups text → Some (octets_of gs) ≡ whole_of text
unfolding whole_of read_address
whole_good text gs e f = sym (rw (e, whole_of, f))

pub whole_bad : (text : List ℕ) → is_address text ≡ false → None ≡ whole_of text
unfolding whole_of
whole_bad text e = sym (rw (e, whole_of))

-- what a count says
pub count_some : (text : List ℕ) (n : ℕ) → count_of text ≡ Some n → (is_side text ≡ true) × (n ≡ length (side_groups text))
unfolding count_of
count_some text n h = go (is_side text) refl
  where
    go : (t : Bool) → is_side text ≡ t → (is_side text ≡ true) × (n ≡ length (side_groups text))
    go true e = let k : count_of text ≡ Some (length (side_groups text)) = rw (e, count_of) in (e, cc)
    go false e = let k : count_of text ≡ None = rw (e, count_of) in let z : ⊥ = cc in absurd z

pub count_nothing : (text : List ℕ) → count_of text ≡ None → is_side text ≡ false
unfolding count_of
count_nothing text h = go (is_side text) refl
  where
    go : (t : Bool) → is_side text ≡ t → is_side text ≡ false
    go true e = let k : count_of text ≡ Some (length (side_groups text)) = rw (e, count_of) in let z : ⊥ = cc in absurd z
    go false e = e

-- groups of at most four digits are below 65,536
under_from : (n v : ℕ) (xs : List ℕ) → n ≤ 4 → v < 16 ^ n → are_groups n xs ≡ true → Under 65536 (groups_from v xs)
unfolding groups_from are_groups
under_from n v [] h l e = let p : 16 ^ n ≤ 16 ^ 4 = pow-le-pow_right (omega arith) h in under_cons 65536 v [] (omega arith) (λ i. omega arith)
under_from n v (c ∷ cs) h l e = go (eqb c 58) refl (under_from 0 0 cs) (under_from (suc n) (v * 16 + digit_in c) cs)
  where
    go : (t : Bool) → eqb c 58 ≡ t → (0 ≤ 4 → 0 < 16 ^ 0 → are_groups 0 cs ≡ true → Under 65536 (groups_from 0 cs))
        → (suc n ≤ 4 → v * 16 + digit_in c < 16 ^ suc n → are_groups (suc n) cs ≡ true → Under 65536 (groups_from (v * 16 + digit_in c) cs)) → Under 65536 (groups_from v (c ∷ cs))
    go true f k m =
        let p : 16 ^ n ≤ 16 ^ 4 = pow-le-pow_right (omega arith) h in
        let b = both (ltb 0 n) (are_groups 0 cs) (rw (f, are_groups) at e) in
        rw (f, groups_from) (under_cons 65536 v (groups_from 0 cs) (omega arith) (k (omega arith) (omega arith) b.1))
    go false f k m =
        let b = both (ltb (digit_in c) 16 && ltb n 4) (are_groups (suc n) cs) (rw (f, are_groups) at e) in
        let d = both (ltb (digit_in c) 16) (ltb n 4) b.0 in
        let x = ltb-true (digit_in c) 16 d.0 in
        let y = ltb-true n 4 d.1 in
        let s : 16 ^ suc n ≡ 16 ^ n * 16 = pow-suc 16 n in
        rw (f, groups_from) (m (omega arith) (omega arith) b.1)

pub side_under : (xs : List ℕ) → is_side xs ≡ true → Under 65536 (side_groups xs)
unfolding is_side side_groups
side_under [] e = λ i. omega arith
side_under (c ∷ cs) e = under_from 0 0 (c ∷ cs) (omega arith) (omega arith) e

-- eight numbers put over eight zeros
pub written_whole : (xs : List ℕ) → length xs ≡ 8 → written (blank 8) 0 xs ≡ xs
unfolding written
written_whole xs h =
    let e : 0 + length xs ≡ 8 = omega arith in
    ap (λ (k : ℕ). xs ++ drop k (blank 8)) e ∙ ap (λ (l : List ℕ). xs ++ l) (drop_blank 8 8) ∙ unfold blank in append-nil xs

-- an address in full
pub record Full (text : List ℕ) : Type 0 where
  pub good : is_address text ≡ true
  pub side : is_side text ≡ true
  pub eight : length (side_groups text) ≡ 8
  pub groups : address_groups text ≡ side_groups text

long_enough : (text : List ℕ) → 0 < length (side_groups text) → 0 < length text
unfolding side_groups
long_enough [] h = h
long_enough (c ∷ cs) h = omega arith

pub full_good : (text : List ℕ) → has_gap text ≡ false → count_of text ≡ Some 8 → Full text
full_good text g h =
    let k = count_some text 8 h in
    let n : length (side_groups text) ≡ 8 = sym k.1 in
    let s = long_enough text (omega arith) in
    let a : are_groups 0 text ≡ true = sym (side_is text s) ∙ k.0 in
    let f = side_all text s in
    let m : length (groups_from 0 text) ≡ 8 = ap length (sym f) ∙ n in
    record { good = is_plain_lem text g ∙ rw (a, m); side = k.0; eight = n; groups = plain_groups text g ∙ sym f }

pub full_bad : (text : List ℕ) → has_gap text ≡ false → (count_of text ≡ Some 8 → ⊥) → is_address text ≡ false
full_bad [] g h = is_plain_lem [] g ∙ unfold are_groups in refl
full_bad (c ∷ cs) g h = go (are_groups 0 (c ∷ cs)) (eqb (length (groups_from 0 (c ∷ cs))) 8) refl refl
  where
    go : (t u : Bool) → are_groups 0 (c ∷ cs) ≡ t → eqb (length (groups_from 0 (c ∷ cs))) 8 ≡ u → is_address (c ∷ cs) ≡ false
    go true true e f =
        let n = eqb-true (length (groups_from 0 (c ∷ cs))) 8 f in
        let k : Some 8 ≡ count_of (c ∷ cs) = count_good (c ∷ cs) 8 (omega arith) e (sym n) in
        absurd (h (sym k))
    go true false e f = is_plain_lem (c ∷ cs) g ∙ rw (e, f)
    go false u e f = is_plain_lem (c ∷ cs) g ∙ rw e

-- two sides
pub sides_bad : (a b : List ℕ) → are_sides a b ≡ false → None ≡ sides_of a b
unfolding sides_of
sides_bad a b e = sym (rw (e, sides_of))

pub front_bad : (a b : List ℕ) → is_side a ≡ false → are_sides a b ≡ false
unfolding are_sides
front_bad a b e = rw e

pub back_bad : (a b : List ℕ) → is_side b ≡ false → are_sides a b ≡ false
unfolding are_sides
back_bad a b e = rw (e, and_false (is_side a))

pub sides_many : (a b : List ℕ) → 8 ≤ length (side_groups a) + length (side_groups b) → are_sides a b ≡ false
unfolding are_sides
sides_many a b h = rw (le-ltb (length (side_groups a) + length (side_groups b)) 8 h) (and_false (is_side a && is_side b))

blank_none : blank 0 ≡ []
unfolding blank
blank_none = refl

take_blank : (k m : ℕ) → k ≤ m → take k (blank m) ≡ blank k
unfolding blank
take_blank zero m h = refl
take_blank (suc k) zero h = let z : ⊥ = omega arith in absurd z
take_blank (suc k) (suc m) h = ap (λ (l : List ℕ). 0 ∷ l) (take_blank k m (omega arith))

-- the groups of both sides put over eight zeros
pub written_sides : (a b : List ℕ) → length a + length b ≤ 8 → written (written (blank 8) 0 a) (8 - length b) b ≡ a ++ (blank (8 - (length a + length b)) ++ b)
unfolding written
written_sides a b h =
    ap (λ (l : List ℕ). written l (8 - length b) b) first ∙ second
  where
    first : written (blank 8) 0 a ≡ a ++ blank (8 - length a)
    first = ap (λ (k : ℕ). a ++ drop k (blank 8)) (zero-add (length a)) ∙ ap (λ (l : List ℕ). a ++ l) (drop_blank (length a) 8)

    second : written (a ++ blank (8 - length a)) (8 - length b) b ≡ a ++ (blank (8 - (length a + length b)) ++ b)
    second =
        let n : 8 - length b ≡ length a + (8 - (length a + length b)) = omega arith in
        let t : take (8 - length b) (a ++ blank (8 - length a)) ≡ a ++ blank (8 - (length a + length b)) =
        ap (λ (k : ℕ). take k (a ++ blank (8 - length a))) n ∙ take-append-add a (blank (8 - length a)) (8 - (length a + length b)) ∙ ap (λ (l : List ℕ). a ++ l) (take_blank (8 - (length a + length b)) (8 - length a) (omega arith)) in
        let m : 8 - length b + length b ≡ length a + (8 - length a) = omega arith in
        let z : 8 - length a - (8 - length a) ≡ 0 = omega arith in
        let d : drop (8 - length b + length b) (a ++ blank (8 - length a)) ≡ [] =
        ap (λ (k : ℕ). drop k (a ++ blank (8 - length a))) m ∙ drop-append-add a (blank (8 - length a)) (8 - length a) ∙ drop_blank (8 - length a) (8 - length a) ∙ ap blank z ∙ blank_none in
        ap (λ (l : List ℕ). l ++ (b ++ drop (8 - length b + length b) (a ++ blank (8 - length a)))) t
        ∙ ap (λ (l : List ℕ). (a ++ blank (8 - (length a + length b))) ++ (b ++ l)) d
        ∙ ap (λ (l : List ℕ). (a ++ blank (8 - (length a + length b))) ++ l) (append-nil b)
        ∙ append_assoc a (blank (8 - (length a + length b))) b

pub sides_good : (a b gs : List ℕ) → is_side a ≡ true → is_side b ≡ true → length (side_groups a) + length (side_groups b) < 8
    → gs ≡ written (written (blank 8) 0 (side_groups a)) (8 - length (side_groups b)) (side_groups b) → Some (octets_of gs) ≡ sides_of a b
sides_good a b gs e f h g =
    let s : are_sides a b ≡ true = unfold are_sides in rw (e, f) (lt-ltb (length (side_groups a) + length (side_groups b)) 8 h) in
    let w = g ∙ written_sides (side_groups a) (side_groups b) (omega arith) in
    good s w
  where
    good : are_sides a b ≡ true → gs ≡ side_groups a ++ (blank (8 - (length (side_groups a) + length (side_groups b))) ++ side_groups b) → Some (octets_of gs) ≡ sides_of a b
    good s w = unfold sides_of in sym (rw (s, sides_of, w))

pub whole_sides : (text : List ℕ) → has_gap text ≡ true → sides_of (before_gap text) (after_gap text) ≡ whole_of text
unfolding are_sides named
whole_sides text g = go (are_sides (before_gap text) (after_gap text)) refl
  where
    go : (t : Bool) → are_sides (before_gap text) (after_gap text) ≡ t → sides_of (before_gap text) (after_gap text) ≡ whole_of text
    go true e = unfold sides_of in rw (e, sides_of) (whole_good text (side_groups (before_gap text) ++ (blank (8 - named text) ++ side_groups (after_gap text))) (is_short text g ∙ e) (sym (short_groups text g)))
    go false e = sym (sides_bad (before_gap text) (after_gap text) e) ∙ whole_bad text (is_short text g ∙ e)

-- two colons stand within the text
pub gap_room : (text : List ℕ) → gap_of text < length text → gap_of text + 2 ≤ length text
unfolding gap_of two_colons
gap_room [] h = let z : ⊥ = omega arith in absurd z
gap_room (c ∷ cs) h = go (two_colons (c ∷ cs)) refl (gap_room cs)
  where
    some : (cs : List ℕ) → eqb (get_or cs 0 0) 58 ≡ true → 0 < length cs
    some [] e = let z = eqb-true 0 58 e in omega arith
    some (x ∷ cs) e = omega arith

    go : (t : Bool) → two_colons (c ∷ cs) ≡ t → (gap_of cs < length cs → gap_of cs + 2 ≤ length cs) → gap_of (c ∷ cs) + 2 ≤ length (c ∷ cs)
    go true e k =
        let b = both (eqb c 58) (eqb (get_or cs 0 0) 58) e in
        let s = some cs b.1 in
        let z : gap_of (c ∷ cs) ≡ 0 = rw (e, gap_of) in
        omega arith
    go false e k =
        let z : gap_of (c ∷ cs) ≡ suc (gap_of cs) = rw (e, gap_of) in
        let r = k (omega arith) in
        omega arith

-- what the search for two colons finds
pub gap_some : (text : List ℕ) (at : ℕ) → gap_found text ≡ Some at → (at ≡ gap_of text) × (at < length text)
unfolding gap_found has_gap
gap_some text at h = go (ltb (gap_of text) (length text)) refl
  where
    go : (t : Bool) → ltb (gap_of text) (length text) ≡ t → (at ≡ gap_of text) × (at < length text)
    go true e =
        let k : gap_found text ≡ Some (gap_of text) = rw (e, gap_found, has_gap) in
        let l = ltb-true (gap_of text) (length text) e in
        let f : at ≡ gap_of text = cc in
        (f, omega arith)
    go false e = let k : gap_found text ≡ None = rw (e, gap_found, has_gap) in let z : ⊥ = cc in absurd z

pub gap_nothing : (text : List ℕ) → gap_found text ≡ None → has_gap text ≡ false
unfolding gap_found
gap_nothing text h = go (has_gap text) refl
  where
    go : (t : Bool) → has_gap text ≡ t → has_gap text ≡ false
    go true e = let k : gap_found text ≡ Some (gap_of text) = rw (e, gap_found) in let z : ⊥ = cc in absurd z
    go false e = e

pub found_gap : (text : List ℕ) (at : ℕ) → at ≡ gap_of text → at < length text → Some at ≡ gap_found text
unfolding gap_found has_gap
found_gap text at e h = let l = lt-ltb (gap_of text) (length text) (omega arith) in sym (rw (l, gap_found, has_gap, e))

pub found_no_gap : (text : List ℕ) → length text ≤ gap_of text → None ≡ gap_found text
unfolding gap_found has_gap
found_no_gap text h = let l = le-ltb (gap_of text) (length text) h in sym (rw (l, gap_found, has_gap))

-- text cut at its two colons, and text without them
pub whole_parts : (text : List ℕ) (at : ℕ) → at ≡ gap_of text → at < length text → sides_of (take at text) (take (length text - (at + 2)) (drop (at + 2) text)) ≡ whole_of text
unfolding before_gap after_gap has_gap
whole_parts text at e h =
    ap (λ (l : List ℕ). sides_of (take at text) l) (rest_whole text (at + 2))
    ∙ ap (λ (k : ℕ). sides_of (take k text) (drop (k + 2) text)) e
    ∙ whole_sides text (lt-ltb (gap_of text) (length text) (omega arith))

-- the octets of an address lie within the text
pub end_within : (s : List ℕ) (from next : ℕ) → next ≡ from + address_count (drop from s) → from ≤ length s → next ≤ length s
end_within s from next e h = let f = leading_few may_stand (drop from s) in let l = length-drop from s in omega arith

-- what is found at a place
pub found_some : (s : List ℕ) (from next : ℕ) (w : Option (List ℕ)) → next ≡ from + address_count (drop from s) → w ≡ whole_of (take (next - from) (drop from s))
    → record { address = w; next = next } ≡ address_at s from
unfolding address_at address_part
found_some s from next w e f =
    let k : next - from ≡ address_count (drop from s) = omega arith in
    let g : w ≡ whole_of (take (address_count (drop from s)) (drop from s)) = f ∙ ap (λ (n : ℕ). whole_of (take n (drop from s))) k in
    λ i. record { address = g i; next = e i }

none : None ≡ whole_of []
none = whole_bad [] (unfold text_compute in refl)

pub found_none : (s : List ℕ) (from next : ℕ) → next ≡ from + address_count (drop from s) → length s < from → record { address = None; next = next } ≡ address_at s from
found_none s from next e h =
    let d : drop from s ≡ [] = past s from (omega arith) in
    let p : take (next - from) (drop from s) ≡ [] = ap (take (next - from)) d ∙ take-nil (next - from) in
    found_some s from next None e (none ∙ ap whole_of (sym p))
