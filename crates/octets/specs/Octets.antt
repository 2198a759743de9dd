-- Lists of octets: zeros, when two lists are the same, and whether a number stands in one.
use Rattle.std.specs.Prelude.{ℕ, ◌<◌, Bool, true, false, ◌||◌, List, [], ◌∷◌, ◌++◌, eqb, get_or, replicate}

-- n zero octets
unfoldable pub blank : ℕ → List ℕ
blank n = replicate n 0

-- each is an octet: what the type of a slice gives of its contents
abbrev pub Small : List ℕ → Type 0
Small xs = (i : ℕ) → get_or xs i 0 < 256

-- two lists are the same by a test of two elements: in the same order and number
unfoldable pub same_by : {A : Type 0} → (A → A → Bool) → List A → List A → Bool
same_by f [] [] = true
same_by f [] (y ∷ ys) = false
same_by f (x ∷ xs) [] = false
same_by f (x ∷ xs) (y ∷ ys) = elim (f x y) [ true ↦ same_by f xs ys | false ↦ false ]

-- the same octets
abbrev pub same : List ℕ → List ℕ → Bool
same = same_by eqb

-- a number stands in a list
unfoldable pub among : ℕ → List ℕ → Bool
among m [] = false
among m (x ∷ xs) = eqb x m || among m xs

-- lists of octets, one after the other
unfoldable pub flat : List (List ℕ) → List ℕ
flat [] = []
flat (a ∷ l) = a ++ flat l
