-- What the definitions of this crate say of lists.
use Rattle.std.specs.Prelude.{ℕ, zero, suc, ◌≡◌, ◌⊎◌, Bool, true, false, List, [], ◌∷◌, ◌++◌}

-- one of the list
abbrev pub In : {A : Type 0} → A → List A → Type 0
In a [] = ⊥
In a (x ∷ l) = (a ≡ x) ⊎ In a l

-- none of the list stands twice
abbrev pub Distinct : {A : Type 0} → List A → Type 0
Distinct [] = Unit
Distinct (x ∷ l) = (In x l → ⊥) × Distinct l

-- the first where the test holds, else the second
abbrev pub pick : {A : Type 0} → Bool → A → A → A
pick true a b = a
pick false a b = b

-- the lists that f gives for the numbers below n, one after the other
unfoldable pub up_to : {A : Type 0} → ℕ → (ℕ → List A) → List A
up_to zero f = []
up_to (suc n) f = up_to n f ++ f n
