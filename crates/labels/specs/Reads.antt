-- A scan that ends well, label by label, for the contracts of the helpers that merge: the code's own, nothing that a reader must believe.
use Rattle.std.specs.Prelude.{ℕ, ◌+◌, ◌≤◌, ◌<◌, ◌≡◌, true, false, not, ◌&&◌, List, [], ◌∷◌, eqb, length, drop}
use Rattle.labels.specs.Labels.{Label, first_of, is_label, unused_clear, size_of, run_of, label_of}

-- what holds of a label that earns no number
pub record Sound (used run : ℕ) (xs : List ℕ) : Type 0 where
  pub some : 0 < length xs
  pub kind : is_label (first_of xs) ≡ true
  pub fits : size_of xs ≤ length xs
  pub total : used + size_of xs ≤ 255
  pub clear : (eqb (first_of xs) 65 && not (unused_clear xs)) ≡ false
  pub short : run_of run xs ≤ 256

-- a scan that ended well, label by label
pub data Reads : ℕ → ℕ → List ℕ → List Label → ℕ → Type 0 where
  root : {used run : ℕ} {xs : List ℕ} {end : ℕ} → Sound used run xs → first_of xs ≡ 0 → end ≡ used + 1 → Reads used run xs [] end
  more : {used run : ℕ} {xs : List ℕ} {l : Label} {ls : List Label} {end : ℕ} → Sound used run xs → (first_of xs ≡ 0 → ⊥) → l ≡ label_of xs
      → Reads (used + size_of xs) (run_of run xs) (drop (size_of xs) xs) ls end → Reads used run xs (l ∷ ls) end
