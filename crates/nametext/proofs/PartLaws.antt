-- The dots part the labels of a written name.
use Prim.Native.Nat.{ℕ, ◌<◌}
use mathlib.Core.Path.{◌≡◌, refl, ap, ◌∙◌}
use mathlib.Core.Bool.{true, false}
use mathlib.Core.List.{List, [], ◌∷◌, ◌++◌, map, append-nil, append_assoc}
use lib.Dec.{eqb}
use lib.ListN.{length}
use native.Mathlib.Omega.{arith}
use borrow.Author.Tests.{not-true}
use Rattle.octets.specs.Octets.{same_by, same}
use Rattle.labels.specs.Labels.{Label}
use Rattle.nametext.specs.Writing.{label_text, dotted, labels_text}
use Rattle.nametext.specs.Reading.{parts_from, parts_of, last_from}
use Rattle.nametext.proofs.CharacterLaws.{not_dot, Every}

no_dot_eqb : (x : ℕ) → not_dot x ≡ true → eqb x 46 ≡ false
unfolding not_dot
no_dot_eqb x h = not-true (eqb x 46) h

pub parts_label : (begun p rest : List ℕ) → Every not_dot p → parts_from begun (p ++ (46 ∷ rest)) ≡ (begun ++ p) ∷ parts_from [] rest
unfolding parts_from
parts_label begun [] rest h = rw (append-nil begun)
parts_label begun (x ∷ p) rest h =
    rw (parts_from, no_dot_eqb x h.0) (parts_label (begun ++ (x ∷ [])) p rest h.1 ∙ ap (λ (q : List ℕ). q ∷ parts_from [] rest) (append_assoc begun (x ∷ []) p))

pub last_append : (d : ℕ) (p : List ℕ) (y : ℕ) (rest : List ℕ) → last_from d (p ++ (y ∷ rest)) ≡ last_from y rest
unfolding last_from
last_append d [] y rest = refl
last_append d (x ∷ p) y rest = last_append x p y rest

same_longer : (p rest : List ℕ) → 0 < length p → Every not_dot p → same (p ++ rest) (46 ∷ []) ≡ false
unfolding same_by
same_longer [] rest h k = let z : ⊥ = omega arith in absurd z
same_longer (x ∷ p) rest h k = rw (same_by, no_dot_eqb x k.0)

-- labels whose texts are not empty and have no dot
abbrev pub Parted : List Label → Type 0
Parted [] = record {}
Parted (l ∷ ls) = ((0 < length (label_text l)) × Every not_dot (label_text l)) × Parted ls

parts_dotted : (ls : List Label) → Parted ls → parts_from [] (dotted ls) ≡ map label_text ls
unfolding dotted parts_from
parts_dotted [] h = refl
parts_dotted (l ∷ ls) h = parts_label [] (label_text l) (dotted ls) h.0.1 ∙ ap (λ (ps : List (List ℕ)). label_text l ∷ ps) (parts_dotted ls h.1)

last_dotted : (ls : List Label) → last_from 46 (dotted ls) ≡ 46
unfolding dotted last_from
last_dotted [] = refl
last_dotted (l ∷ ls) = last_append 46 (label_text l) 46 (dotted ls) ∙ last_dotted ls

-- the parts of a written name are the texts of its labels
pub parts_text : (ls : List Label) → Parted ls → parts_of (labels_text ls) ≡ map label_text ls
unfolding parts_of labels_text dotted same_by
parts_text [] h = refl
parts_text (l ∷ ls) h = rw (parts_of, same_longer (label_text l) (46 ∷ dotted ls) h.0.0 h.0.1) (parts_dotted (l ∷ ls) h)

-- and it ends in a dot
pub last_text : (ls : List Label) → last_from 0 (labels_text ls) ≡ 46
unfolding labels_text dotted last_from
last_text [] = refl
last_text (l ∷ ls) = last_append 0 (label_text l) 46 (dotted ls) ∙ last_dotted ls
