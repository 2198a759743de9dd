-- T-03 once more, as a relation that a reader can hold against the request: which octets, units and names count alike.
use Rattle.std.specs.Prelude.{ℕ, ◌+◌, ◌≤◌, ◌≡◌, List, [], ◌∷◌, ◌⊎◌}
use Rattle.names.specs.Standard.{Unit, label, bit, units_of}

-- x is a letter from A to Z, and y the same letter from a to z
abbrev pub Capital : ℕ → ℕ → Type 0
Capital x y = (65 ≤ x) × (x ≤ 90) × (y ≡ x + 32)

-- octets of ordinary labels match: they are equal, or one letter in two cases
abbrev pub MatchOctet : ℕ → ℕ → Type 0
MatchOctet x y = (x ≡ y) ⊎ (Capital x y ⊎ Capital y x)

-- two lists of one length, matched one by one
abbrev pub Pairwise : {A : Type 0} → (A → A → Type 0) → List A → List A → Type 0
Pairwise R [] [] = record {}
Pairwise R [] (y ∷ ys) = ⊥
Pairwise R (x ∷ xs) [] = ⊥
Pairwise R (x ∷ xs) (y ∷ ys) = R x y × Pairwise R xs ys

-- units match: ordinary labels octet by octet; bits where they are equal; a label never matches a bit
abbrev pub MatchUnit : Unit → Unit → Type 0
MatchUnit (label l) (label m) = Pairwise MatchOctet l m
MatchUnit (label l) (bit c) = ⊥
MatchUnit (bit b) (label m) = ⊥
MatchUnit (bit b) (bit c) = b ≡ c

-- names match: their units do, one by one
abbrev pub MatchName : List ℕ → List ℕ → Type 0
MatchName m n = Pairwise MatchUnit (units_of m) (units_of n)
