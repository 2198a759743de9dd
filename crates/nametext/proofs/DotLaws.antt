-- The dots of a text: its last octet, its parts and the number of the whole.
use Prim.Native.Nat.{ℕ, zero, suc, ◌-◌, ◌≤◌, ◌<◌}
use mathlib.Core.Path.{◌≡◌, refl, ap, ◌∙◌, sym}
use mathlib.Core.Bool.{Bool, true, false, not, ◌&&◌}
use Rattle.std.specs.Prelude.{Ok}
use mathlib.Core.List.{List, [], ◌∷◌, ◌++◌, cons≢nil}
use lib.Dec.{leb, ltb, eqb}
use lib.ListN.{length, get_or, drop, length-drop}
use native.Mathlib.Omega.{arith}
use borrow.Author.Tests.{ltb-true, ltb-false, leb-true, eq-eqb, ne_eqb, eqb-true, eqb-false}
use Rattle.octets.specs.Octets.{same_by}
use Rattle.octets.proofs.BoolLaws.{clash}
use Rattle.octets.proofs.AnswerLaws.{earns_zero}
use Rattle.text.proofs.DecimalLaws.{both}
use Rattle.text.proofs.PlaceLaws.{past}
use Rattle.nametext.specs.Reading.{label_formed, label_ranged, labels_short, parts_from, parts_of, last_from, every, labels_in, name_read, text_number}
use Rattle.nametext.specs.Places.{Dot, run_size, judge_from}
use Rattle.nametext.proofs.BitPartLaws.{not_alone}
use Rattle.nametext.proofs.JudgeLaws.{begun, number_judged}

-- the last octet
last_place : (d : ℕ) (xs : List ℕ) → last_from d xs ≡ get_or (d ∷ xs) (length xs) 0
unfolding last_from
last_place d [] = refl
last_place d (x ∷ xs) = last_place x xs

pub last_is : (xs : List ℕ) → 0 < length xs → last_from 0 xs ≡ get_or xs (length xs - 1) 0
last_is [] h = let z : ⊥ = omega arith in absurd z
last_is (x ∷ xs) h =
    let e : suc (length xs) - 1 ≡ length xs = omega arith in
    last_place 0 (x ∷ xs) ∙ ap (λ (j : ℕ). get_or (x ∷ xs) j 0) (sym e)

last_any : (d e : ℕ) (xs : List ℕ) → 0 < length xs → last_from d xs ≡ last_from e xs
unfolding last_from
last_any d e [] h = let z : ⊥ = omega arith in absurd z
last_any d e (x ∷ xs) h = refl

pub last_drop : (text : List ℕ) (at : ℕ) → at < length text → last_from 0 (drop at text) ≡ last_from 0 text
unfolding last_from
last_drop [] at h = let z : ⊥ = omega arith in absurd z
last_drop (x ∷ xs) zero h = refl
last_drop (x ∷ xs) (suc at) h = last_drop xs at (omega arith) ∙ last_any 0 x xs (omega arith)

-- a text that ends in a dot has a part
parts_one : (begun : List ℕ) (x : ℕ) (xs : List ℕ) → x ≡ 46 → parts_from begun (x ∷ xs) ≡ begun ∷ parts_from [] xs
unfolding parts_from
parts_one begun x xs e = rw (parts_from, eq-eqb x 46 e)

parts_more : (begun : List ℕ) (x : ℕ) (xs : List ℕ) → (x ≡ 46 → ⊥) → parts_from begun (x ∷ xs) ≡ parts_from (begun ++ (x ∷ [])) xs
unfolding parts_from
parts_more begun x xs e = rw (parts_from, ne_eqb x 46 e)

parts_some : (begun xs : List ℕ) (d : ℕ) → 0 < length xs → last_from d xs ≡ 46 → parts_from begun xs ≡ [] → ⊥
unfolding last_from
parts_some begun [] d h l e = let z : ⊥ = omega arith in absurd z
parts_some begun (x ∷ []) d h l e = cons≢nil (sym (parts_one begun x [] l) ∙ e)
parts_some begun (x ∷ y ∷ ys) d h l e = go (eqb x 46) refl (λ k. parts_some (begun ++ (x ∷ [])) (y ∷ ys) x (omega arith) l k)
  where
    go : (b : Bool) → eqb x 46 ≡ b → (parts_from (begun ++ (x ∷ [])) (y ∷ ys) ≡ [] → ⊥) → ⊥
    go true k ih = cons≢nil (sym (parts_one begun x (y ∷ ys) (eqb-true x 46 k)) ∙ e)
    go false k ih = ih (sym (parts_more begun x (y ∷ ys) (eqb-false x 46 k)) ∙ e)

pub dot_there : (text : List ℕ) (at r : ℕ) → Dot text at r → at < length text → last_from 0 text ≡ 46 → r < length text
dot_there text at r d h l = go (ltb r (length text)) refl
  where
    go : (b : Bool) → ltb r (length text) ≡ b → r < length text
    go true e = ltb-true r (length text) e
    go false e =
        let k = ltb-false r (length text) e in
        let n = length-drop at text in
        absurd (parts_some [] (drop at text) 0 (omega arith) (last_drop text at h ∙ l) (d.none (omega (arith, d.high))))

-- the number of the whole text
pub number_unended : (text : List ℕ) → (last_from 0 text ≡ 46 → ⊥) → 20 ≡ text_number text
unfolding text_number
number_unended text h = rw (text_number, ne_eqb (last_from 0 text) 46 h)

pub number_empty : (text : List ℕ) → length text ≡ 0 → 20 ≡ text_number text
unfolding last_from
number_empty [] h = number_unended [] (λ e. omega arith)
number_empty (x ∷ xs) h = let z : ⊥ = omega arith in absurd z

pub alone : (text : List ℕ) → length text ≡ 1 → last_from 0 text ≡ 46 → text ≡ 46 ∷ []
unfolding last_from
alone [] h l = let z : ⊥ = omega arith in absurd z
alone (x ∷ []) h l = ap (λ (y : ℕ). y ∷ []) l
alone (x ∷ y ∷ ys) h l = let z : ⊥ = omega arith in absurd z

pub number_root : (text : List ℕ) → length text ≡ 1 → last_from 0 text ≡ 46 → 0 ≡ text_number text
unfolding judge_from parts_of same_by run_size
number_root text h l = sym (number_judged text l ∙ ap (λ (xs : List ℕ). judge_from (Ok begun) (parts_of xs)) (alone text h l))

pub parts_whole : (text : List ℕ) → (length text ≡ 1 → ⊥) → parts_of text ≡ parts_from [] text
unfolding parts_of
parts_whole text h = rw (parts_of, not_alone 46 text h)

pub number_start : (text : List ℕ) → (length text ≡ 1 → ⊥) → last_from 0 text ≡ 46 → judge_from (Ok begun) (parts_from [] text) ≡ text_number text
number_start text h l = sym (number_judged text l ∙ ap (judge_from (Ok begun)) (parts_whole text h))

pub parts_end : (text : List ℕ) (at : ℕ) → length text ≤ at → parts_from [] (drop at text) ≡ []
unfolding parts_from
parts_end text at h = ap (parts_from []) (past text at h)

-- a text with number 0
pub record Read (text : List ℕ) : Type 0 where
  pub ended : last_from 0 text ≡ 46
  pub formed : every label_formed (parts_of text) ≡ true
  pub ranged : every label_ranged (parts_of text) ≡ true
  pub short : length (name_read text) ≤ 255

not_not : (b : Bool) → not b ≡ false → b ≡ true
not_not true h = refl
not_not false h = absurd (clash refl h)

pub number_zero : (text : List ℕ) → text_number text ≡ 0 → Read text
unfolding text_number
number_zero text h =
    let a = earns_zero (not (eqb (last_from 0 text) 46 && every label_formed (parts_of text))) 19 _ h in
    let b = earns_zero (not (every label_ranged (parts_of text))) 20 _ a.1 in
    let c = earns_zero (not (labels_short 0 (labels_in text) && leb (length (name_read text)) 255)) 21 0 b.1 in
    let f = both (eqb (last_from 0 text) 46) (every label_formed (parts_of text)) (not_not (eqb (last_from 0 text) 46 && every label_formed (parts_of text)) a.0) in
    let s = both (labels_short 0 (labels_in text)) (leb (length (name_read text)) 255) (not_not (labels_short 0 (labels_in text) && leb (length (name_read text)) 255) c.0) in
    record {
      ended = eqb-true (last_from 0 text) 46 f.0;
      formed = f.1;
      ranged = not_not (every label_ranged (parts_of text)) b.0;
      short = leb-true (length (name_read text)) 255 s.1;
    }
