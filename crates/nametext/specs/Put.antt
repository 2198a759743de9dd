-- What the writers of a name put, for their contracts: the code's own, nothing that a reader must believe.
use Rattle.std.specs.Prelude.{ℕ, ◌+◌, ◌-◌, ◌*◌, ◌/◌, ◌%◌, ◌≤◌, ◌<◌, ◌≡◌, true, false, List, [], ◌∷◌, ◌++◌, map, eqb, length, take}
use Rattle.labels.specs.Labels.{Label}
use Rattle.names.specs.Merge.{Begins, labels_at}
use Rattle.names.specs.declared.Place.{Place}
use Rattle.text.specs.Decimal.{write_decimal}
use Rattle.text.specs.Written.{Put}
use Rattle.nametext.specs.Characters.{hex_digit}
use Rattle.nametext.specs.Writing.{nibbles, digits_for, label_text}

-- the value of an octet's hex digit for a place of its label
unfoldable pub nibble_of : ℕ → ℕ → ℕ
nibble_of x i = elim (eqb (i % 2) 0) [ true ↦ x / 16 | false ↦ x % 16 ]

-- a bit label's text from the octets that hold its bits
unfoldable pub raw_bits : ℕ → List ℕ → List ℕ
raw_bits n xs = 92 ∷ 91 ∷ 120 ∷ (map hex_digit (take (digits_for n) (nibbles xs)) ++ (47 ∷ (write_decimal n ++ (93 ∷ []))))

-- a label and its dot were put
pub record Labelled (name old new : List ℕ) (at to : ℕ) (r : Place) : Type 0 where
  pub label : Label
  pub put : Put old new to r.to (label_text label ++ (46 ∷ []))
  pub labels : labels_at name at ≡ label ∷ labels_at name r.at
  pub begins : Begins name r.at
  pub on : at < r.at
  pub short : length (label_text label) + 1 ≤ 4 * (r.at - at)
