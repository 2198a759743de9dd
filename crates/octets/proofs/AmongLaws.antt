-- Whether a number stands in a list: the turns of a loop that looks for it.
use Prim.Native.Nat.{ℕ, ◌+◌, ◌≤◌, ◌<◌}
use mathlib.Core.Path.{◌≡◌}
use mathlib.Core.Bool.{true, false}
use mathlib.Core.List.{List}
use lib.ListN.{length, get_or, drop, drop_of_length-le}
use lib.Seq.{drop-cons}
use native.Mathlib.Numerals.{add-one}
use borrow.Author.Tests.{eq-eqb, ne_eqb}
use Rattle.octets.specs.Octets.{among}

module _ (m : ℕ) (list : List ℕ) (i : ℕ) where
  pub among_on : i < length list → (get_or list i 0 ≡ m → ⊥) → among m (drop i list) ≡ among m (drop (i + 1) list)
  unfolding among
  among_on h e = rw (add-one, drop-cons list i 0 h, among, ne_eqb (get_or list i 0) m e)

  pub among_here : i < length list → get_or list i 0 ≡ m → among m (drop i list) ≡ true
  unfolding among
  among_here h e = rw (drop-cons list i 0 h, among, eq-eqb (get_or list i 0) m e)

  pub among_end : length list ≤ i → among m (drop i list) ≡ false
  unfolding among
  among_end h = rw (drop_of_length-le list {i = i} h)
