-- What holds of each member of a list, for laws: the code's own, nothing that a reader must believe.
use Rattle.std.specs.Prelude.{ℕ, ◌<◌, ◌≡◌, List, [], ◌∷◌, length, get_or}

-- each number of the list is below n
abbrev pub Under : ℕ → List ℕ → Type 0
Under n xs = (i : ℕ) → get_or xs i 0 < n

-- each of the lists has w octets
abbrev pub Each : ℕ → List (List ℕ) → Type 0
Each w [] = Unit
Each w (a ∷ l) = (length a ≡ w) × Each w l
