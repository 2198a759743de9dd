-- What is read of a word at its place, for the contracts of the reader: the code's own, nothing that a reader must believe.
use Rattle.std.specs.Prelude.{ℕ, zero, suc, ◌≡◌, ◌⊎◌, Bool, true, false, List, Result, Ok, Err}
use Rattle.octets.specs.Refusals.{told}
use Rattle.octets.specs.declared.Refusal.{Refusal}
use Rattle.octets.specs.declared.Refusal.TheVariants.{Form}
use Rattle.text.specs.AddressText.{read_address}
use Rattle.nametext.specs.Reading.{name_held}
use Rattle.line.specs.Words.{word}
use Rattle.line.specs.Walk.{tail_from, full_of, late_number}
use Rattle.line.specs.declared.reading.Word.{Word}
use Rattle.line.specs.declared.reading.Rest.{Rest}

-- by the number: the value, or the refusal
unfoldable pub value_by : {A : Type 0} → ℕ → A → Result A Refusal
value_by zero v = Ok v
value_by (suc j) v = Err (told (suc j))

-- a word that was read up to a place: it has no form where its value has none, or where it does not end there
abbrev pub Ended : {A : Type 0} → Result A Refusal → Bool → ℕ → Result (Word A) Refusal → Type 0
Ended value ends next (Ok w) = (value ≡ Err Form → ⊥) × (ends ≡ true) × (w.value ≡ value) × (w.next ≡ next)
Ended value ends next (Err e) = (e ≡ Form) × ((value ≡ Err Form) ⊎ (ends ≡ false))

-- what is read of a word that earns a number, stands for a value and ends at a place
abbrev pub WordAt : {A : Type 0} → ℕ → A → ℕ → Result (Word A) Refusal → Type 0
WordAt number v end (Ok w) = (number ≡ 20 → ⊥) × (w.value ≡ value_by number v) × (w.next ≡ end)
WordAt number v end (Err e) = (e ≡ Form) × (number ≡ 20)

-- a prefix length that was read; 129 for one over 128
abbrev pub prefix_in : Result ℕ Refusal → ℕ
prefix_in (Ok l) = l
prefix_in (Err e) = 129

-- what is read of the address and the target, after a prefix length of l that ends at e
abbrev pub RestAt : List ℕ → ℕ → ℕ → Result Rest Refusal → Type 0
RestAt s e l (Ok r) =
    (late_number l (full_of l (tail_from s e)) ≡ 20 → ⊥)
    × (r.address ≡ read_address (word (full_of l (tail_from s e)) 0))
    × (r.target ≡ value_by (late_number l (full_of l (tail_from s e))) (name_held (word (full_of l (tail_from s e)) 1)))
RestAt s e l (Err x) = (x ≡ Form) × (late_number l (full_of l (tail_from s e)) ≡ 20)
