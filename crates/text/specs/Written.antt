-- Octets put over others, for the contracts of the writers: the code's own, nothing that a reader must believe.
use Rattle.std.specs.Prelude.{ℕ, ◌+◌, ◌≡◌, List, ◌++◌, length, take, drop}

-- octets put over those of a list from a place on
unfoldable pub written : List ℕ → ℕ → List ℕ → List ℕ
written d at xs = take at d ++ (xs ++ drop (at + length xs) d)

-- what a writer does: it puts octets over those of d from a place on, which gives e, and answers the place after them
abbrev pub Put : List ℕ → List ℕ → ℕ → ℕ → List ℕ → Type 0
Put d e at next xs = (next ≡ at + length xs) × (e ≡ written d at xs)
