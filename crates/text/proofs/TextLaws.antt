-- The length of the text of an address, and an address read where it was written.
use Prim.Native.Nat.{ℕ, suc, ◌+◌, ◌-◌, ◌*◌, ◌≤◌, ◌<◌}
use mathlib.Core.Path.{◌≡◌, refl, ap, ◌∙◌}
use mathlib.Core.Bool.{Bool, true, false}
use Rattle.std.specs.Prelude.{Some}
use mathlib.Core.List.{List, [], ◌∷◌, ◌++◌, map, append_assoc}
use lib.Dec.{ltb, eqb}
use lib.ListN.{length, get_or, drop, length-append, length-map}
use lib.Seq.{take-append_seam, drop-append_seam}
use native.Mathlib.Omega.{arith}
use borrow.Author.Tests.{lt-ltb, ltb-true, ltb-false}
use Rattle.octets.specs.Octets.{Small}
use Rattle.octets.specs.Each.{Under}
use Rattle.octets.proofs.BoolLaws.{or_true}
use Rattle.octets.proofs.OctetLaws.{under_take, under_drop, length_blank}
use Rattle.text.specs.Digits.{digits_of, digit_octet, number_text}
use Rattle.text.specs.Groups.{groups_of, longest, place_of, before_run, after_run}
use Rattle.text.specs.AddressText.{more_text, groups_text, short_text, write_address, may_stand, address_count}
use Rattle.text.specs.Reading.{whole_of, address_part, address_at}
use Rattle.text.proofs.DigitLaws.{digits_under, digits_few, digit_octet_lem}
use Rattle.text.proofs.GroupLaws.{run_split, groups_length, groups_under}
use Rattle.text.proofs.LeadingLaws.{leading_more}
use Rattle.text.proofs.RoundTrip.{text_full, text_short, address_read}

-- a group takes at most four octets, and each further one five
text_four : (g : ℕ) → g < 65536 → length (number_text 16 g) ≤ 4
unfolding number_text
text_four g h = rw (length-map (digits_of 16 g) digit_octet) (digits_few 16 g 3 (omega arith) h)

text_two : (g : ℕ) → g < 256 → length (number_text 16 g) ≤ 2
unfolding number_text
text_two g h = rw (length-map (digits_of 16 g) digit_octet) (digits_few 16 g 1 (omega arith) h)

more_five : (gs : List ℕ) → Under 65536 gs → length (more_text gs) ≤ 5 * length gs
unfolding more_text
more_five [] u = omega arith
more_five (g ∷ gs) u =
    let k = more_five gs (λ i. u (suc i)) in
    let f = text_four g (u 0) in
    rw (length-append (number_text 16 g) (more_text gs)) (omega arith)

groups_five : (gs : List ℕ) → Under 65536 gs → length (groups_text gs) ≤ 5 * length gs - 1
unfolding groups_text
groups_five [] u = omega arith
groups_five (g ∷ gs) u =
    let k = more_five gs (λ i. u (suc i)) in
    let f = text_four g (u 0) in
    rw (length-append (number_text 16 g) (more_text gs)) (omega arith)

-- a text with two colons in it has at most 31 octets
short_length : (gs : List ℕ) → length gs ≡ 8 → Under 65536 gs → 2 ≤ longest gs → length (short_text gs) ≤ 31
short_length gs n u l =
    let m = (simp (length-append, length_blank) at (ap length (run_split gs))) ∙ n in
    let p : length (groups_text (before_run gs)) ≤ 5 * length (before_run gs) - 1 = groups_five (before_run gs) (unfold before_run in under_take 65536 (place_of (longest gs) gs) gs u) in
    let q : length (groups_text (after_run gs)) ≤ 5 * length (after_run gs) - 1 = groups_five (after_run gs) (unfold after_run in under_drop 65536 (place_of (longest gs) gs + longest gs) gs u) in
    rw (text_short gs l, length-append (groups_text (before_run gs)) (58 ∷ 58 ∷ groups_text (after_run gs))) (omega arith)

-- by whether it has them, a text is no longer than its groups in full
length_by : (gs : List ℕ) (n : ℕ) → length gs ≡ 8 → Under 65536 gs → 31 ≤ n → length (groups_text gs) ≤ n → length (short_text gs) ≤ n
length_by gs n h u l f = go (ltb (longest gs) 2) refl
  where
    go : (t : Bool) → ltb (longest gs) 2 ≡ t → length (short_text gs) ≤ n
    go true e = rw (text_full gs (ltb-true (longest gs) 2 e)) f
    go false e = let k = short_length gs h u (ltb-false (longest gs) 2 e) in omega arith

-- the text of an address has at most 39 octets
pub address_length : (a : List ℕ) → length a ≡ 16 → Small a → length (write_address a) ≤ 39
unfolding write_address
address_length a h s =
    let n = groups_length 8 a h in
    let u = groups_under 8 a h s in
    length_by (groups_of a) 39 n u (omega arith) (omega (arith, groups_five (groups_of a) u))

-- and at most 37 where its first group has no more than two digits
groups_low : (gs : List ℕ) → Under 65536 gs → length gs ≡ 8 → get_or gs 0 0 < 256 → length (groups_text gs) ≤ 37
unfolding groups_text
groups_low [] u n l = omega arith
groups_low (g ∷ gs) u n l =
    let k = more_five gs (λ i. u (suc i)) in
    let f = text_two g l in
    rw (length-append (number_text 16 g) (more_text gs)) (omega arith)

pub address_short : (a : List ℕ) → length a ≡ 16 → Small a → get_or (groups_of a) 0 0 < 256 → length (write_address a) ≤ 37
unfolding write_address
address_short a h s l =
    let n = groups_length 8 a h in
    let u = groups_under 8 a h s in
    length_by (groups_of a) 37 n u (omega arith) (groups_low (groups_of a) u n l)

-- digits and colons may stand in an address
stand_octet : (d : ℕ) → d < 16 → may_stand (digit_octet d) ≡ true
unfolding may_stand
stand_octet d h = rw (digit_octet_lem d h, lt-ltb d 16 h) (or_true (eqb (digit_octet d) 58))

-- so all of the text is passed
count_digits : (ds rest : List ℕ) → Under 16 ds → address_count (map digit_octet ds ++ rest) ≡ length ds + address_count rest
count_digits [] rest u = omega arith
count_digits (d ∷ ds) rest u = let k = count_digits ds rest (λ i. u (suc i)) in leading_more may_stand (digit_octet d) (map digit_octet ds ++ rest) (stand_octet d (u 0)) ∙ omega arith

count_text_lem : (g : ℕ) (rest : List ℕ) → address_count (number_text 16 g ++ rest) ≡ length (number_text 16 g) + address_count rest
unfolding number_text
count_text_lem g rest = rw (length-map (digits_of 16 g) digit_octet) (count_digits (digits_of 16 g) rest (digits_under 16 g (omega arith)))

count_colon : (rest : List ℕ) → address_count (58 ∷ rest) ≡ suc (address_count rest)
count_colon rest = leading_more may_stand 58 rest (unfold may_stand in refl)

count_more : (gs rest : List ℕ) → address_count (more_text gs ++ rest) ≡ length (more_text gs) + address_count rest
unfolding more_text
count_more [] rest = omega arith
count_more (g ∷ gs) rest =
    let k = count_more gs rest in
    let n = length-append (number_text 16 g) (more_text gs) in
    let t = count_text_lem g (more_text gs ++ rest) in
    count_colon ((number_text 16 g ++ more_text gs) ++ rest) ∙ ap (λ (l : List ℕ). suc (address_count l)) (append_assoc (number_text 16 g) (more_text gs) rest) ∙ omega arith

count_groups : (gs rest : List ℕ) → address_count (groups_text gs ++ rest) ≡ length (groups_text gs) + address_count rest
unfolding groups_text
count_groups [] rest = omega arith
count_groups (g ∷ gs) rest =
    let k = count_more gs rest in
    let n = length-append (number_text 16 g) (more_text gs) in
    let t = count_text_lem g (more_text gs ++ rest) in
    ap address_count (append_assoc (number_text 16 g) (more_text gs) rest) ∙ omega arith

count_short : (gs rest : List ℕ) → address_count (short_text gs ++ rest) ≡ length (short_text gs) + address_count rest
count_short gs rest = by (ltb (longest gs) 2) refl
  where
    by : (t : Bool) → ltb (longest gs) 2 ≡ t → address_count (short_text gs ++ rest) ≡ length (short_text gs) + address_count rest
    by true e = rw (text_full gs (ltb-true (longest gs) 2 e)) (count_groups gs rest)
    by false e =
        let a = groups_text (before_run gs) in
        let b = groups_text (after_run gs) in
        let n = length-append a (58 ∷ 58 ∷ b) in
        let k = count_groups (after_run gs) rest in
        let c = count_colon (58 ∷ (b ++ rest)) in
        let d = count_colon (b ++ rest) in
        let t = count_groups (before_run gs) (58 ∷ 58 ∷ (b ++ rest)) in
        rw (text_short gs (ltb-false (longest gs) 2 e)) (ap address_count (append_assoc a (58 ∷ 58 ∷ b) rest) ∙ omega arith)

pub address_count_lem : (a rest : List ℕ) → address_count rest ≡ 0 → address_count (write_address a ++ rest) ≡ length (write_address a)
unfolding write_address
address_count_lem a rest h = let c = count_short (groups_of a) rest in c ∙ omega arith

-- an address that was written into a line, before something that may not stand in one, is found there when read
pub address_found : (before a rest : List ℕ) → length a ≡ 16 → Small a → address_count rest ≡ 0
    → address_at (before ++ (write_address a ++ rest)) (length before) ≡ record { address = Some a; next = length before + length (write_address a) }
address_found before a rest h s e = parts whole counted
  where
    d : drop (length before) (before ++ (write_address a ++ rest)) ≡ write_address a ++ rest
    d = drop-append_seam before (write_address a ++ rest)

    counted : address_count (drop (length before) (before ++ (write_address a ++ rest))) ≡ length (write_address a)
    counted = ap address_count d ∙ address_count_lem a rest e

    part : address_part (before ++ (write_address a ++ rest)) (length before) ≡ write_address a
    part = unfold address_part in rw (d, address_count_lem a rest e) (take-append_seam (write_address a) rest)

    read : whole_of (write_address a) ≡ Some a
    read = let r = address_read a h s in unfold whole_of in rw (r.0, whole_of, r.1)

    whole : whole_of (address_part (before ++ (write_address a ++ rest)) (length before)) ≡ Some a
    whole = ap whole_of part ∙ read

    parts : whole_of (address_part (before ++ (write_address a ++ rest)) (length before)) ≡ Some a
        → address_count (drop (length before) (before ++ (write_address a ++ rest))) ≡ length (write_address a)
        → address_at (before ++ (write_address a ++ rest)) (length before) ≡ record { address = Some a; next = length before + length (write_address a) }
    parts w n = unfold address_at in λ i. record { address = w i; next = length before + n i }
