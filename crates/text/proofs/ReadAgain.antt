-- What is read as an address is sixteen octets, and is the same when it is written and read again.
use Prim.Native.Nat.{ℕ, suc, ◌+◌, ◌-◌, ◌*◌, ◌/◌, ◌%◌, ◌<◌}
use mathlib.Core.Path.{◌≡◌, refl, ap, sym, ◌∙◌}
use mathlib.Core.Bool.{Bool, true, false, ◌&&◌}
use mathlib.Core.List.{List, [], ◌∷◌, ◌++◌}
use lib.Dec.{ltb, eqb}
use lib.ListN.{length, length-append}
use native.Mathlib.Omega.{arith}
use borrow.Author.Tests.{ltb-true, eqb-true}
use Rattle.octets.specs.Octets.{blank, Small}
use Rattle.octets.specs.Each.{Under}
use Rattle.octets.proofs.BoolLaws.{clash}
use Rattle.octets.proofs.OctetLaws.{under_append, length_blank}
use Rattle.octets.proofs.SmallLaws.{small_cons, get_or_blank}
use Rattle.text.specs.Groups.{octets_of}
use Rattle.text.specs.AddressText.{write_address, are_groups, groups_from, is_side, side_groups, has_gap, before_gap, after_gap, named, is_address, address_groups, read_address}
use Rattle.text.proofs.DecimalLaws.{both}
use Rattle.text.proofs.AddressTextLaws.{side_is, side_all}
use Rattle.text.proofs.RoundTrip.{is_plain_lem, is_short, plain_groups, short_groups, address_read}
use Rattle.text.proofs.WholeLaws.{side_under}

-- two octets a group
octets_length : (gs : List ℕ) → length (octets_of gs) ≡ 2 * length gs
unfolding octets_of
octets_length [] = refl
octets_length (g ∷ gs) = let k = octets_length gs in omega arith

octets_small : (gs : List ℕ) → Under 65536 gs → Small (octets_of gs)
unfolding octets_of
octets_small [] u = λ i. omega arith
octets_small (g ∷ gs) u =
    let l : g < 65536 = u 0 in
    small_cons (g / 256) (g % 256 ∷ octets_of gs) (omega arith) (small_cons (g % 256) (octets_of gs) (omega arith) (octets_small gs (λ i. u (suc i))))

-- a text that is groups is not empty
are_some : (text : List ℕ) → are_groups 0 text ≡ true → 0 < length text
are_some [] e = absurd (clash e (unfold are_groups in refl))
are_some (c ∷ cs) e = omega arith

-- text that is an address names eight groups
pub record Eight (gs : List ℕ) : Type 0 where
  pub size : length gs ≡ 8
  pub under : Under 65536 gs

read_groups : (text : List ℕ) → is_address text ≡ true → Eight (address_groups text)
read_groups text e = go (has_gap text) refl
  where
    short : has_gap text ≡ true → is_side (before_gap text) ≡ true → is_side (after_gap text) ≡ true → named text < 8 → Eight (address_groups text)
    short g a b l =
        let p = side_groups (before_gap text) in
        let q = side_groups (after_gap text) in
        let n : named text ≡ length p + length q = unfold named in refl in
        let m = length-append p (blank (8 - named text) ++ q) ∙ ap (λ (k : ℕ). length p + k) (length-append (blank (8 - named text)) q) in
        let z = length_blank (8 - named text) in
        rw (short_groups text g) (record {
          size = omega arith;
          under = under_append 65536 p (blank (8 - named text) ++ q) (side_under (before_gap text) a)
              (under_append 65536 (blank (8 - named text)) q (λ i. rw (get_or_blank (8 - named text) i) (omega arith)) (side_under (after_gap text) b));
        })

    plain : has_gap text ≡ false → are_groups 0 text ≡ true → length (groups_from 0 text) ≡ 8 → Eight (address_groups text)
    plain g a n =
        let s = are_some text a in
        rw (plain_groups text g) (record { size = n; under = rw (side_all text s) at (side_under text (side_is text s ∙ a)) })

    go : (t : Bool) → has_gap text ≡ t → Eight (address_groups text)
    go true g =
        let h = both (is_side (before_gap text) && is_side (after_gap text)) (ltb (named text) 8) (sym (is_short text g) ∙ e) in
        let k = both (is_side (before_gap text)) (is_side (after_gap text)) h.0 in
        short g k.0 k.1 (ltb-true (named text) 8 h.1)
    go false g =
        let h = both (are_groups 0 text) (eqb (length (groups_from 0 text)) 8) (sym (is_plain_lem text g) ∙ e) in
        plain g h.0 (eqb-true (length (groups_from 0 text)) 8 h.1)

-- what is read is sixteen octets
pub read_size : (text : List ℕ) → is_address text ≡ true → length (read_address text) ≡ 16
unfolding read_address
read_size text e = let n = octets_length (address_groups text) in omega (arith, n, (read_groups text e).size)

pub read_small : (text : List ℕ) → is_address text ≡ true → Small (read_address text)
unfolding read_address
read_small text e = octets_small (address_groups text) (read_groups text e).under

-- what is read, written and read again is the same address
pub read_again : (text : List ℕ) → is_address text ≡ true → (is_address (write_address (read_address text)) ≡ true) × (read_address (write_address (read_address text)) ≡ read_address text)
read_again text e = address_read (read_address text) (read_size text e) (read_small text e)
