-- The words of a line (T-06): what stands between its blanks, spaces and tabs.
use Rattle.std.specs.Prelude.{ℕ, ◌-◌, Bool, true, false, ◌||◌, List, [], ◌∷◌, ◌++◌, eqb, length, get_or, take}

-- a space or a tab
unfoldable pub is_blank_octet : ℕ → Bool
is_blank_octet x = eqb x 32 || eqb x 9

-- the words of text, where the octets `begun` of the first one came before, and `after` says that a blank came just before.
-- Blanks that stand together part two words once; a blank at the start or at the end has an empty word beside it.
unfoldable pub words_from : Bool → List ℕ → List ℕ → List (List ℕ)
words_from after begun [] = begun ∷ []
words_from after begun (x ∷ xs) = elim (is_blank_octet x) [
  | true ↦ elim after [ true ↦ words_from true begun xs | false ↦ begun ∷ words_from true [] xs ]
  | false ↦ words_from false (begun ++ (x ∷ [])) xs
]

unfoldable pub words_of : List ℕ → List (List ℕ)
words_of text = words_from false [] text

-- a word by its place, from 0; empty where there are fewer
abbrev pub word : List (List ℕ) → ℕ → List ℕ
word ws i = get_or ws i []

-- a line without its last octet, and that octet
unfoldable pub body_of : List ℕ → List ℕ
body_of line = take (length line - 1) line

unfoldable pub end_of : List ℕ → ℕ
end_of line = get_or line (length line - 1) 0
