-- The order of refusals: a fault of form hides one of range, and that one a fault of size.
use Prim.Native.Nat.{ℕ}
use mathlib.Core.Path.{◌≡◌, refl, sym, ◌∙◌}
use mathlib.Core.Bool.{Bool, true, false, not, ◌&&◌}
use mathlib.Core.List.{List}
use lib.Dec.{leb, eqb}
use lib.ListN.{length}
use borrow.Author.Tests.{ne_eqb}
use Rattle.std.proofs.Common.{◌⊎◌, inl, inr, Ok, Err}
use Rattle.octets.specs.Answers.{earns}
use Rattle.octets.specs.Refusals.{code_of, number_of}
use Rattle.octets.specs.declared.Refusal.{Refusal}
use Rattle.octets.specs.declared.Refusal.TheVariants.{Form, Range, Name}
use Rattle.octets.proofs.RefusalLaws.{told_code, code_some}
use Rattle.names.specs.Name.{name_of}
use Rattle.nametext.specs.Reading.{parts_of, last_from, every, label_formed, label_ranged, labels_short, labels_in, name_read, text_number, name_told}

module _ (text : List ℕ) where
  pub number_form : (eqb (last_from 0 text) 46 && every label_formed (parts_of text)) ≡ false → text_number text ≡ 20
  unfolding text_number
  number_form f = rw (text_number, f)

  pub number_range : (eqb (last_from 0 text) 46 && every label_formed (parts_of text)) ≡ true → every label_ranged (parts_of text) ≡ false → text_number text ≡ 21
  unfolding text_number
  number_range f r = rw (text_number, f, r)

  pub number_size : (eqb (last_from 0 text) 46 && every label_formed (parts_of text)) ≡ true → every label_ranged (parts_of text) ≡ true
      → (labels_short 0 (labels_in text) && leb (length (name_read text)) 255) ≡ false → text_number text ≡ 22
  unfolding text_number
  number_size f r s = rw (text_number, f, r, s)

  -- each number that a text earns is that of a refusal
  pub number_some : (text_number text ≡ 0) ⊎ ((text_number text ≡ 20) ⊎ ((text_number text ≡ 21) ⊎ (text_number text ≡ 22)))
  unfolding text_number
  number_some = go (eqb (last_from 0 text) 46 && every label_formed (parts_of text)) (every label_ranged (parts_of text)) (labels_short 0 (labels_in text) && leb (length (name_read text)) 255)
    where
      go : (f r s : Bool) → (earns (not f) 20 (earns (not r) 21 (earns (not s) 22 0)) ≡ 0) ⊎ ((earns (not f) 20 (earns (not r) 21 (earns (not s) 22 0)) ≡ 20)
          ⊎ ((earns (not f) 20 (earns (not r) 21 (earns (not s) 22 0)) ≡ 21) ⊎ (earns (not f) 20 (earns (not r) 21 (earns (not s) 22 0)) ≡ 22)))
      go false r s = inr (inl refl)
      go true false s = inr (inr (inl refl))
      go true true false = inr (inr (inr refl))
      go true true true = inl refl

  -- what is read of a text, by its number
  pub told_name : text_number text ≡ 0 → name_told text ≡ Ok (name_of (name_read text))
  unfolding name_told
  told_name e = rw (name_told, e)

  pub told_refused : (e : Refusal) → text_number text ≡ code_of e → name_told text ≡ Err e
  unfolding name_told
  told_refused e h = let n = ne_eqb (text_number text) 0 (λ z. code_some e (sym h ∙ z)) in rw (name_told, n, h, told_code e)

  -- and the number of what is read is the text's
  pub told_number : number_of (name_told text) ≡ text_number text
  told_number = go number_some
    where
      go : (text_number text ≡ 0) ⊎ ((text_number text ≡ 20) ⊎ ((text_number text ≡ 21) ⊎ (text_number text ≡ 22))) → number_of (name_told text) ≡ text_number text
      go (inl e) = rw (told_name e) (sym e)
      go (inr (inl e)) = rw (told_refused Form e) (sym e)
      go (inr (inr (inl e))) = rw (told_refused Range e) (sym e)
      go (inr (inr (inr e))) = rw (told_refused Name e) (sym e)
