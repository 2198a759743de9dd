-- What the functions that rewrite a name answer and write: the code's own, nothing that a reader must believe.
use Rattle.std.specs.Prelude.{ℕ, zero, suc, Option, Some, None, ◌-◌, Bool, true, false, ◌||◌, List, ◌++◌, ltb, length}
use Rattle.octets.specs.Octets.{blank}
use Rattle.names.specs.Standard.{Unit, encode_from, encode}
use Rattle.rewriting.specs.Rewrite.{long_run, too_large}

-- a number over 0, and none for 0
unfoldable pub over_zero : ℕ → Option ℕ
over_zero zero = None
over_zero (suc k) = Some (suc k)

-- octets as the answer to a rewrite: their length, and the octets with zeros after them; none and zeros alone where it is too large
unfoldable pub fit_length : Bool → List ℕ → Option ℕ
fit_length large name = elim large [ true ↦ None | false ↦ Some (length name) ]

unfoldable pub fit_octets : Bool → List ℕ → List ℕ
unfolding blank
fit_octets large name = elim large [ true ↦ blank 255 | false ↦ name ++ blank (255 - length name) ]

-- a run of bits and then a target's units, after octets that end with no run
unfoldable pub joined_of : List ℕ → List ℕ → List Unit → List ℕ
unfolding encode_from
joined_of front run target = front ++ encode_from run target

unfoldable pub overlong : List ℕ → List ℕ → List Unit → Bool
unfolding long_run joined_of
overlong front run target = long_run (length run) target || ltb 255 (length (joined_of front run target))

unfoldable pub joined_length : List ℕ → List ℕ → List Unit → Option ℕ
unfolding overlong joined_of fit_length
joined_length front run target = fit_length (overlong front run target) (joined_of front run target)

unfoldable pub joined_out : List ℕ → List ℕ → List Unit → List ℕ
unfolding overlong joined_of fit_octets
joined_out front run target = fit_octets (overlong front run target) (joined_of front run target)

-- the same for a rewritten name by its units
unfoldable pub spliced_length : List Unit → Option ℕ
unfolding too_large encode fit_length
spliced_length us = fit_length (too_large us) (encode us)

unfoldable pub spliced_out : List Unit → List ℕ
unfolding too_large encode fit_octets
spliced_out us = fit_octets (too_large us) (encode us)
