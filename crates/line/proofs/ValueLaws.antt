-- What is read of a word by the number that it earns: its value, or the refusal.
use Prim.Native.Nat.{ℕ, zero, suc}
use mathlib.Core.Path.{◌≡◌, refl, ap, sym, ◌∙◌}
use mathlib.Core.Bool.{Bool, true, false}
use mathlib.Core.Logic.{inl, inr, ⊎_elim}
use Rattle.std.specs.Prelude.{Result, Ok, Err}
use Rattle.octets.specs.Refusals.{code_of, told}
use Rattle.octets.specs.declared.Refusal.{Refusal}
use Rattle.octets.specs.declared.Refusal.TheVariants.{Form, Range, Name}
use Rattle.octets.proofs.RefusalLaws.{told_code, code_some}
use Rattle.line.specs.Walked.{value_by, Ended, WordAt}
use Rattle.line.specs.declared.reading.Word.{Word}
use Rattle.line.proofs.OrderLaws.{Known}

-- 0 gives the value
pub value_done : {A : Type 0} (n : ℕ) (v : A) → n ≡ 0 → Ok v ≡ value_by n v
unfolding value_by
value_done n v e = rw e

pub value_given : {A : Type 0} (n : ℕ) (v x : A) → value_by n v ≡ Ok x → (n ≡ 0) × (v ≡ x)
unfolding value_by
value_given zero v x e = (refl, cc)
value_given (suc j) v x e = cc

-- a refusal is that of its number, whatever the value
pub value_refused : {A : Type 0} (n : ℕ) (v : A) (e : Refusal) → code_of e ≡ n → Err e ≡ value_by n v
unfolding value_by
value_refused zero v e p = absurd (code_some e p)
value_refused (suc j) v e p = ap Err (sym (told_code e) ∙ ap told p)

pub value_passed : {A B : Type 0} (n m : ℕ) (v : A) (w : B) (e : Refusal) → value_by n v ≡ Err e → m ≡ n → Err e ≡ value_by m w
unfolding value_by
value_passed zero m v w e p q = cc
value_passed (suc j) m v w e p q = let t : told (suc j) ≡ e = cc in rw q (ap Err (sym t))

pub value_some : {A : Type 0} (n : ℕ) (v : A) (e : Refusal) → value_by n v ≡ Err e → n ≡ 0 → ⊥
value_some n v e p z = let y = value_done n v z ∙ p in cc

-- a word that has no form is refused as such
pub value_formless : {A : Type 0} (n : ℕ) (v : A) (e : Refusal) → e ≡ Form → n ≡ 20 → Err e ≡ value_by n v
value_formless n v e p q = value_refused n v e (ap code_of p ∙ sym q)

-- of the numbers that a word earns, each tells its own
module _ {A : Type 0} (n : ℕ) (v : A) (k : Known n) where
  pub value_form : value_by n v ≡ Err Form → n ≡ 20
  value_form e = go k
    where
      go : Known n → n ≡ 20
      go (inl z) = let y : Ok v ≡ Err Form = value_done n v z ∙ e in cc
      go (inr (inl z)) = z
      go (inr (inr (inl z))) = let y : Err Range ≡ Err Form = value_refused n v Range (sym z) ∙ e in cc
      go (inr (inr (inr z))) = let y : Err Name ≡ Err Form = value_refused n v Name (sym z) ∙ e in cc

  pub value_range : value_by n v ≡ Err Range → n ≡ 21
  value_range e = go k
    where
      go : Known n → n ≡ 21
      go (inl z) = let y : Ok v ≡ Err Range = value_done n v z ∙ e in cc
      go (inr (inl z)) = let y : Err Form ≡ Err Range = value_refused n v Form (sym z) ∙ e in cc
      go (inr (inr (inl z))) = z
      go (inr (inr (inr z))) = let y : Err Name ≡ Err Range = value_refused n v Name (sym z) ∙ e in cc

  pub value_code : (e : Refusal) → Err e ≡ value_by n v → code_of e ≡ n
  value_code e p = go k
    where
      alike : (r : Refusal) → code_of r ≡ n → code_of e ≡ n
      alike r q = let y : Err e ≡ value_by n v = p in let w : Err r ≡ value_by n v = value_refused n v r q in let x : e ≡ r = cc in ap code_of x ∙ q

      go : Known n → code_of e ≡ n
      go (inl z) = let y : Ok v ≡ Err e = value_done n v z ∙ sym p in cc
      go (inr (inl z)) = alike Form (sym z)
      go (inr (inr (inl z))) = alike Range (sym z)
      go (inr (inr (inr z))) = alike Name (sym z)

-- a word that was read up to a place: what stands there is the whole word, or more of it follows and it has no form
module _ {A : Type 0} (number : ℕ) (v : A) (end : ℕ) (known : Known number) (value : Result A Refusal) (ends : Bool) (next : ℕ)
    (whole : ends ≡ true → (value ≡ value_by number v) × (next ≡ end)) (more : ends ≡ false → number ≡ 20) where
  pub word_ended : (r : Result (Word A) Refusal) → Ended value ends next r → WordAt number v end r
  word_ended (Ok w) h = let k = whole h.1 in (λ z. h.0 (k.0 ∙ sym (value_refused number v Form (sym z))), h.2 ∙ k.0, h.3 ∙ k.1)
  word_ended (Err e) h = (h.0, ⊎_elim (λ p. go ends refl p) (λ p. more p) h.1)
    where
      go : (b : Bool) → ends ≡ b → value ≡ Err Form → number ≡ 20
      go true q p = value_form number v known (sym (whole q).0 ∙ p)
      go false q p = more q
