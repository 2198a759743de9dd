-- Laws of addresses in text: groups written are read again.
use Prim.Native.Nat.{ℕ, suc, ◌+◌, ◌*◌, ◌≤◌, ◌<◌}
use mathlib.Core.Path.{◌≡◌, refl, ap, sym, ◌∙◌}
use mathlib.Core.Bool.{true, false}
use mathlib.Core.List.{List, [], ◌∷◌, ◌++◌, map, append_assoc}
use lib.Dec.{eqb}
use lib.ListN.{length, get_or, length-append, length-map}
use native.Mathlib.Omega.{arith}
use native.Mathlib.Nat.{add-zero, zero-add}
use borrow.Author.Tests.{lt-ltb}
use Rattle.octets.specs.Each.{Under}
use Rattle.text.specs.Digits.{digits_of, number_from, digit_octet, digit_in, number_text}
use Rattle.text.specs.AddressText.{more_text, groups_text, are_groups, groups_from, is_side, side_groups, two_colons, gap_of}
use Rattle.text.proofs.DigitLaws.{number_digits, digits_under, digits_few, digits_some, digit_octet_lem, digit_colon}

-- the reader's steps: over a digit, and over a colon
pub are_digit : (n c : ℕ) (cs : List ℕ) → eqb c 58 ≡ false → digit_in c < 16 → n < 4 → are_groups n (c ∷ cs) ≡ are_groups (suc n) cs
unfolding are_groups
are_digit n c cs e d h = rw (e, are_groups, lt-ltb (digit_in c) 16 d, lt-ltb n 4 h)

pub are_colon : (n : ℕ) (cs : List ℕ) → 0 < n → are_groups n (58 ∷ cs) ≡ are_groups 0 cs
unfolding are_groups
are_colon n cs h = rw (lt-ltb 0 n h)

from_digit : (v c : ℕ) (cs : List ℕ) → eqb c 58 ≡ false → groups_from v (c ∷ cs) ≡ groups_from (v * 16 + digit_in c) cs
unfolding groups_from
from_digit v c cs e = rw (e, groups_from)

-- digits are passed, and count
are_digits : (n : ℕ) (ds rest : List ℕ) → Under 16 ds → n + length ds ≤ 4 → are_groups n (map digit_octet ds ++ rest) ≡ are_groups (n + length ds) rest
are_digits n [] rest u h = rw (add-zero n)
are_digits n (d ∷ ds) rest u h =
    let l : d < 16 = u 0 in
    let o = digit_octet_lem d l in
    let e : suc n + length ds ≡ n + suc (length ds) = omega arith in
    are_digit n (digit_octet d) (map digit_octet ds ++ rest) (digit_colon d l) (omega arith) (omega arith)
    ∙ are_digits (suc n) ds rest (λ i. u (suc i)) (omega arith)
    ∙ ap (λ (k : ℕ). are_groups k rest) e

from_digits : (v : ℕ) (ds rest : List ℕ) → Under 16 ds → groups_from v (map digit_octet ds ++ rest) ≡ groups_from (number_from 16 v ds) rest
unfolding number_from
from_digits v [] rest u = refl
from_digits v (d ∷ ds) rest u =
    let l : d < 16 = u 0 in
    from_digit v (digit_octet d) (map digit_octet ds ++ rest) (digit_colon d l)
    ∙ ap (λ (k : ℕ). groups_from (v * 16 + k) (map digit_octet ds ++ rest)) (digit_octet_lem d l)
    ∙ from_digits (v * 16 + d) ds rest (λ i. u (suc i))

-- the text of one group
are_text : (g : ℕ) (rest : List ℕ) → g < 65536 → are_groups 0 (number_text 16 g ++ rest) ≡ are_groups (length (digits_of 16 g)) rest
unfolding number_text
are_text g rest h =
    let f : length (digits_of 16 g) ≤ 4 = digits_few 16 g 3 (omega arith) h in
    let z : 0 + length (digits_of 16 g) ≡ length (digits_of 16 g) = omega arith in
    are_digits 0 (digits_of 16 g) rest (digits_under 16 g (omega arith)) (omega arith) ∙ ap (λ (k : ℕ). are_groups k rest) z

from_text : (g : ℕ) (rest : List ℕ) → groups_from 0 (number_text 16 g ++ rest) ≡ groups_from g rest
unfolding number_text
from_text g rest =
    from_digits 0 (digits_of 16 g) rest (digits_under 16 g (omega arith)) ∙ ap (λ (k : ℕ). groups_from k rest) (number_digits 16 g (omega arith))

-- the further groups
are_more : (n : ℕ) (gs : List ℕ) → 0 < n → Under 65536 gs → are_groups n (more_text gs) ≡ true
unfolding more_text are_groups
are_more n [] h u = lt-ltb 0 n h
are_more n (g ∷ gs) h u =
    are_colon n (number_text 16 g ++ more_text gs) h ∙ are_text g (more_text gs) (u 0) ∙ are_more (length (digits_of 16 g)) gs (digits_some 16 g) (λ i. u (suc i))

from_more : (v : ℕ) (gs : List ℕ) → groups_from v (more_text gs) ≡ v ∷ gs
unfolding more_text groups_from
from_more v [] = refl
from_more v (g ∷ gs) = ap (λ (l : List ℕ). v ∷ l) (from_text g (more_text gs) ∙ from_more g gs)

-- groups written are groups, and the same when read
pub are_groups_lem : (g : ℕ) (gs : List ℕ) → Under 65536 (g ∷ gs) → are_groups 0 (groups_text (g ∷ gs)) ≡ true
unfolding groups_text
are_groups_lem g gs u = are_text g (more_text gs) (u 0) ∙ are_more (length (digits_of 16 g)) gs (digits_some 16 g) (λ i. u (suc i))

pub from_groups : (g : ℕ) (gs : List ℕ) → groups_from 0 (groups_text (g ∷ gs)) ≡ g ∷ gs
unfolding groups_text
from_groups g gs = from_text g (more_text gs) ∙ from_more g gs

-- the text of a group is not empty
text_some : (g : ℕ) → 0 < length (number_text 16 g)
unfolding number_text
text_some g = rw (length-map (digits_of 16 g) digit_octet) (digits_some 16 g)

groups_some : (g : ℕ) (gs : List ℕ) → 0 < length (groups_text (g ∷ gs))
unfolding groups_text
groups_some g gs = let s = text_some g in rw (length-append (number_text 16 g) (more_text gs)) (omega arith)

-- one side of the two colons
pub side_is : (xs : List ℕ) → 0 < length xs → is_side xs ≡ are_groups 0 xs
unfolding is_side
side_is [] h = let z : ⊥ = omega arith in absurd z
side_is (c ∷ cs) h = refl

pub side_all : (xs : List ℕ) → 0 < length xs → side_groups xs ≡ groups_from 0 xs
unfolding side_groups
side_all [] h = let z : ⊥ = omega arith in absurd z
side_all (c ∷ cs) h = refl

pub is_side_lem : (gs : List ℕ) → Under 65536 gs → is_side (groups_text gs) ≡ true
unfolding is_side groups_text
is_side_lem [] u = refl
is_side_lem (g ∷ gs) u = side_is (groups_text (g ∷ gs)) (groups_some g gs) ∙ are_groups_lem g gs u

pub side_groups_lem : (gs : List ℕ) → side_groups (groups_text gs) ≡ gs
unfolding side_groups groups_text
side_groups_lem [] = refl
side_groups_lem (g ∷ gs) = side_all (groups_text (g ∷ gs)) (groups_some g gs) ∙ from_groups g gs

-- the search for two colons passes digits
gap_digit : (c : ℕ) (cs : List ℕ) → eqb c 58 ≡ false → gap_of (c ∷ cs) ≡ suc (gap_of cs)
unfolding gap_of two_colons
gap_digit c cs e = rw (e, gap_of)

gap_colon : (cs : List ℕ) → eqb (get_or cs 0 0) 58 ≡ false → gap_of (58 ∷ cs) ≡ suc (gap_of cs)
unfolding gap_of two_colons
gap_colon cs e = rw (e, gap_of)

gap_digits : (ds rest : List ℕ) → Under 16 ds → gap_of (map digit_octet ds ++ rest) ≡ length ds + gap_of rest
gap_digits [] rest u = sym (zero-add (gap_of rest))
gap_digits (d ∷ ds) rest u =
    let k = gap_digits ds rest (λ i. u (suc i)) in
    gap_digit (digit_octet d) (map digit_octet ds ++ rest) (digit_colon d (u 0)) ∙ omega arith

gap_text : (g : ℕ) (rest : List ℕ) → gap_of (number_text 16 g ++ rest) ≡ length (number_text 16 g) + gap_of rest
unfolding number_text
gap_text g rest = rw (length-map (digits_of 16 g) digit_octet) (gap_digits (digits_of 16 g) rest (digits_under 16 g (omega arith)))

-- the text of a group starts with no colon
head_digits : (ds rest : List ℕ) → 0 < length ds → Under 16 ds → eqb (get_or (map digit_octet ds ++ rest) 0 0) 58 ≡ false
head_digits [] rest h u = let z : ⊥ = omega arith in absurd z
head_digits (d ∷ ds) rest h u = digit_colon d (u 0)

head_text : (g : ℕ) (rest : List ℕ) → eqb (get_or (number_text 16 g ++ rest) 0 0) 58 ≡ false
unfolding number_text
head_text g rest = head_digits (digits_of 16 g) rest (digits_some 16 g) (digits_under 16 g (omega arith))

-- and groups have no two colons side by side, so that the first two stand at the start of what follows
gap_more : (gs rest : List ℕ) → gap_of rest ≡ 0 → gap_of (more_text gs ++ rest) ≡ length (more_text gs)
unfolding more_text
gap_more [] rest h = h
gap_more (g ∷ gs) rest h =
    let k = gap_more gs rest h in
    let a : (number_text 16 g ++ more_text gs) ++ rest ≡ number_text 16 g ++ (more_text gs ++ rest) = append_assoc (number_text 16 g) (more_text gs) rest in
    let t = gap_text g (more_text gs ++ rest) in
    let n = length-append (number_text 16 g) (more_text gs) in
    ap (λ (l : List ℕ). gap_of (58 ∷ l)) a ∙ gap_colon (number_text 16 g ++ (more_text gs ++ rest)) (head_text g (more_text gs ++ rest)) ∙ omega arith

pub gap_groups : (gs rest : List ℕ) → gap_of rest ≡ 0 → gap_of (groups_text gs ++ rest) ≡ length (groups_text gs)
unfolding groups_text
gap_groups [] rest h = h
gap_groups (g ∷ gs) rest h =
    let k = gap_more gs rest h in
    let a : (number_text 16 g ++ more_text gs) ++ rest ≡ number_text 16 g ++ (more_text gs ++ rest) = append_assoc (number_text 16 g) (more_text gs) rest in
    let t = gap_text g (more_text gs ++ rest) in
    let n = length-append (number_text 16 g) (more_text gs) in
    ap gap_of a ∙ omega arith
