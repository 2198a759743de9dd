-- Reading the text that was written of an address gives the address.
use Prim.Native.Nat.{ℕ, ◌+◌, ◌-◌, ◌≤◌, ◌<◌}
use mathlib.Core.Path.{◌≡◌, refl, ap, sym, ◌∙◌}
use mathlib.Core.Bool.{Bool, true, false, ◌&&◌}
use mathlib.Core.List.{List, [], ◌∷◌, ◌++◌, append-nil}
use lib.Dec.{ltb, eqb}
use lib.ListN.{length, take, drop, length-append}
use lib.Seq.{take-append_seam, drop-append-add}
use native.Mathlib.Omega.{arith}
use borrow.Author.Tests.{lt-ltb, le-ltb, ltb-true, ltb-false, eq-eqb}
use Rattle.octets.specs.Octets.{blank, Small}
use Rattle.octets.specs.Each.{Under}
use Rattle.octets.proofs.OctetLaws.{length_blank, under_take, under_drop}
use Rattle.text.specs.Groups.{groups_of, octets_of, longest, before_run, after_run, place_of}
use Rattle.text.specs.AddressText.{groups_text, short_text, write_address, are_groups, groups_from, is_side, side_groups, two_colons, gap_of, has_gap, before_gap, after_gap, named, is_address, address_groups, read_address}
use Rattle.text.proofs.GroupLaws.{run_split, octets_groups, groups_length, groups_under}
use Rattle.text.proofs.AddressTextLaws.{are_groups_lem, from_groups, is_side_lem, side_groups_lem, gap_groups}

-- text without two colons side by side, and text with them
pub is_plain_lem : (xs : List ℕ) → has_gap xs ≡ false → is_address xs ≡ (are_groups 0 xs && eqb (length (groups_from 0 xs)) 8)
unfolding is_address
is_plain_lem xs e = rw (e, is_address)

pub is_short : (xs : List ℕ) → has_gap xs ≡ true → is_address xs ≡ ((is_side (before_gap xs) && is_side (after_gap xs)) && ltb (named xs) 8)
unfolding is_address
is_short xs e = rw (e, is_address)

pub plain_groups : (xs : List ℕ) → has_gap xs ≡ false → address_groups xs ≡ groups_from 0 xs
unfolding address_groups
plain_groups xs e = rw (e, address_groups)

pub short_groups : (xs : List ℕ) → has_gap xs ≡ true → address_groups xs ≡ side_groups (before_gap xs) ++ (blank (8 - named xs) ++ side_groups (after_gap xs))
unfolding address_groups
short_groups xs e = rw (e, address_groups)

-- what a reader finds: the text is an address of these groups
abbrev pub Names : List ℕ → List ℕ → Type 0
Names xs gs = (is_address xs ≡ true) × (address_groups xs ≡ gs)

-- eight groups written in full
plain_gap : (gs : List ℕ) → has_gap (groups_text gs) ≡ false
unfolding has_gap
plain_gap gs =
    let e : gap_of (groups_text gs) ≡ length (groups_text gs) = ap gap_of (sym (append-nil (groups_text gs))) ∙ gap_groups gs [] (unfold gap_of in refl) in
    le-ltb (gap_of (groups_text gs)) (length (groups_text gs)) (omega arith)

pub plain_read : (gs : List ℕ) → length gs ≡ 8 → Under 65536 gs → Names (groups_text gs) gs
plain_read [] h u = let z : ⊥ = omega arith in absurd z
plain_read (g ∷ gs) h u =
    let e = plain_gap (g ∷ gs) in
    let f = from_groups g gs in
    (is_plain_lem (groups_text (g ∷ gs)) e ∙ rw (are_groups_lem g gs u, f) (eq-eqb (length (g ∷ gs)) 8 h), plain_groups (groups_text (g ∷ gs)) e ∙ f)

-- groups on both sides of two colons
module _ (a b : List ℕ) where
  sides : List ℕ
  sides = groups_text a ++ (58 ∷ 58 ∷ groups_text b)

  sides_gap : gap_of sides ≡ length (groups_text a)
  unfolding sides
  sides_gap = gap_groups a (58 ∷ 58 ∷ groups_text b) (unfold gap_of two_colons in refl)

  sides_has : has_gap sides ≡ true
  unfolding sides has_gap
  sides_has =
      let g = sides_gap in
      let l = length-append (groups_text a) (58 ∷ 58 ∷ groups_text b) in
      lt-ltb (gap_of sides) (length sides) (omega arith)

  sides_before : before_gap sides ≡ groups_text a
  unfolding sides before_gap
  sides_before = ap (λ (k : ℕ). take k sides) sides_gap ∙ take-append_seam (groups_text a) (58 ∷ 58 ∷ groups_text b)

  sides_after : after_gap sides ≡ groups_text b
  unfolding sides after_gap
  sides_after = ap (λ (k : ℕ). drop (k + 2) sides) sides_gap ∙ drop-append-add (groups_text a) (58 ∷ 58 ∷ groups_text b) 2

  sides_named : named sides ≡ length a + length b
  unfolding named
  sides_named = rw (sides_before, sides_after, side_groups_lem a, side_groups_lem b)

  sides_read : length a + length b < 8 → Under 65536 a → Under 65536 b → Names sides (a ++ (blank (8 - (length a + length b)) ++ b))
  sides_read h u v = (
    is_short sides sides_has ∙ rw (sides_before, sides_after, sides_named, is_side_lem a u, is_side_lem b v) (lt-ltb (length a + length b) 8 h),
    short_groups sides sides_has ∙ rw (sides_before, sides_after, sides_named, side_groups_lem a, side_groups_lem b),
  )

  pub short_read : length a + length b < 8 → Under 65536 a → Under 65536 b → Names (groups_text a ++ (58 ∷ 58 ∷ groups_text b)) (a ++ (blank (8 - (length a + length b)) ++ b))
  unfolding sides
  short_read = sides_read

pub text_full : (gs : List ℕ) → longest gs < 2 → short_text gs ≡ groups_text gs
unfolding short_text
text_full gs h = rw (lt-ltb (longest gs) 2 h, short_text)

pub text_short : (gs : List ℕ) → 2 ≤ longest gs → short_text gs ≡ groups_text (before_run gs) ++ (58 ∷ 58 ∷ groups_text (after_run gs))
unfolding short_text
text_short gs h = rw (le-ltb (longest gs) 2 h, short_text)

-- eight groups written are the same groups when read
pub groups_read : (gs : List ℕ) → length gs ≡ 8 → Under 65536 gs → Names (short_text gs) gs
groups_read gs h u = go (ltb (longest gs) 2) refl
  where
    before_under : Under 65536 (before_run gs)
    before_under = unfold before_run in under_take 65536 (place_of (longest gs) gs) gs u

    after_under : Under 65536 (after_run gs)
    after_under = unfold after_run in under_drop 65536 (place_of (longest gs) gs + longest gs) gs u

    go : (t : Bool) → ltb (longest gs) 2 ≡ t → Names (short_text gs) gs
    go true e = rw (text_full gs (ltb-true (longest gs) 2 e)) (plain_read gs h u)
    go false e =
        let l : 2 ≤ longest gs = ltb-false (longest gs) 2 e in
        let s = run_split gs in
        let n = ap length s in
        let m : length (before_run gs) + (longest gs + length (after_run gs)) ≡ 8 = (simp (length-append, length_blank) at n) ∙ h in
        let k : 8 - (length (before_run gs) + length (after_run gs)) ≡ longest gs = omega arith in
        let r = short_read (before_run gs) (after_run gs) (omega arith) before_under after_under in
        rw (text_short gs l) (r.0, r.1 ∙ rw k s)

-- an address written is the same address when read
pub address_read : (a : List ℕ) → length a ≡ 16 → Small a → (is_address (write_address a) ≡ true) × (read_address (write_address a) ≡ a)
unfolding write_address read_address
address_read a h s =
    let r = groups_read (groups_of a) (groups_length 8 a h) (groups_under 8 a h s) in
    (r.0, ap octets_of r.1 ∙ octets_groups 8 a h s)
