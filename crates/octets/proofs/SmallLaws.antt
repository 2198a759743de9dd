-- Lists of octets put together.
use Prim.Native.Nat.{ℕ, zero, suc, ◌<◌}
use mathlib.Core.Path.{◌≡◌, refl}
use mathlib.Core.List.{List, ◌∷◌, ◌++◌}
use lib.ListN.{get_or}
use native.Mathlib.Omega.{arith}
use Rattle.octets.proofs.OctetLaws.{under_cons, under_append}
use Rattle.octets.specs.Octets.{blank, Small}

pub small_cons : (x : ℕ) (xs : List ℕ) → x < 256 → Small xs → Small (x ∷ xs)
small_cons = under_cons 256

pub small_append : (xs ys : List ℕ) → Small xs → Small ys → Small (xs ++ ys)
small_append = under_append 256

pub get_or_blank : (n i : ℕ) → get_or (blank n) i 0 ≡ 0
unfolding blank
get_or_blank zero i = refl
get_or_blank (suc n) zero = refl
get_or_blank (suc n) (suc i) = get_or_blank n i

pub small_blank : (n : ℕ) → Small (blank n)
small_blank n i = rw (get_or_blank n i) (omega arith)
