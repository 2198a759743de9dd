-- An ordinary label with no escape.
use Prim.Native.Nat.{ℕ, suc, ◌+◌, ◌-◌, ◌≤◌}
use mathlib.Core.Path.{◌≡◌, refl, ap, ◌∙◌, sym}
use mathlib.Core.Bool.{true}
use mathlib.Core.List.{List, [], ◌∷◌, ◌++◌}
use lib.ListN.{length, take}
use lib.Seq.{paste, take-paste, drop-paste, length-paste, take-length}
use native.Mathlib.Omega.{arith}
use borrow.Author.Tests.{lt-ltb, ne_eqb}
use Rattle.octets.specs.Octets.{blank, Small}
use Rattle.octets.proofs.BoolLaws.{clash}
use Rattle.bits.specs.Packing.{Clean}
use Rattle.bits.proofs.PackLaws.{clean_drop}
use Rattle.text.specs.Digits.{leading}
use Rattle.nametext.specs.Characters.{is_plain}
use Rattle.nametext.specs.Reading.{octets_formed, octets_in, octets_ranged}
use Rattle.std.specs.Prelude.{Ok}
use Rattle.nametext.specs.declared.reading.Part.TheVariants.{Word}
use Rattle.nametext.specs.Places.{part_by, ordinary_part, Filled}
use Rattle.text.proofs.LeadingLaws.{leading_first, leading_rest}

pub no_backslash : (x : ℕ) → is_plain x ≡ true → x ≡ 92 → ⊥
unfolding is_plain
no_backslash x h e = clash (sym (ap is_plain e) ∙ h) refl

pub plain_formed : (xs : List ℕ) → leading is_plain xs ≡ length xs → octets_formed 0 xs ≡ true
unfolding octets_formed
plain_formed [] h = refl
plain_formed (x ∷ xs) h =
    let p = leading_first is_plain x xs (omega arith) in
    rw (octets_formed, ne_eqb x 92 (no_backslash x p), p) (plain_formed xs (leading_rest is_plain x xs h))

pub plain_holds : (xs : List ℕ) → leading is_plain xs ≡ length xs → octets_in 0 xs ≡ xs
unfolding octets_in
plain_holds [] h = refl
plain_holds (x ∷ xs) h =
    let p = leading_first is_plain x xs (omega arith) in
    rw (octets_in, ne_eqb x 92 (no_backslash x p)) (ap (λ (ys : List ℕ). x ∷ ys) (plain_holds xs (leading_rest is_plain x xs h)))

small_ranged : (xs : List ℕ) → Small xs → octets_ranged xs ≡ true
unfolding octets_ranged
small_ranged [] s = refl
small_ranged (x ∷ xs) s = rw (lt-ltb x 256 (s 0)) (small_ranged xs (λ i. s (suc i)))

pub plain_part : (p : List ℕ) → Small p → (length p ≡ 0 → ⊥) → leading is_plain p ≡ length p → Ok (Word (length p)) ≡ ordinary_part p
unfolding ordinary_part part_by
plain_part p s z h = rw (ne_eqb (length p) 0 z, plain_formed p h, plain_holds p h, small_ranged p s)

pub plain_filled : (p old : List ℕ) (to : ℕ) → leading is_plain p ≡ length p → Clean old to → to + length (octets_in 0 p) ≤ length old → Filled old (paste old to p (length p)) to (to + length p) (octets_in 0 p)
plain_filled p old to h c r =
    let e = plain_holds p h in
    let l : length (octets_in 0 p) ≡ length p = ap length e in
    let k = length-paste old to p (length p) (omega arith) (omega arith) in
    record {
      whole = take-paste old to p (length p) (omega arith) (omega arith) ∙ ap (λ (ys : List ℕ). take to old ++ ys) (take-length p ∙ sym e);
      clean = drop-paste old to p (length p) (omega arith) (omega arith) ∙ clean_drop old to (length p) c ∙ ap (λ (v : ℕ). blank (v - (to + length p))) (sym k);
      place = omega arith;
    }
