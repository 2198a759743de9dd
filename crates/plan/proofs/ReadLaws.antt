-- Laws of numbers that are read from octets at once.
use Prim.Native.Nat.{ℕ, ◌+◌, ◌≤◌, ◌<◌}
use mathlib.Core.Path.{◌≡◌, ◌∙◌}
use mathlib.Core.List.{List}
use lib.ListN.{length, get_or, take, drop}
use native.Mathlib.Omega.{arith}
use native.Mathlib.Nat.{add-zero}
use Rattle.std.specs.Int.{from_le_bytes, from_be_bytes}
use Rattle.std.proofs.Common.{w32, w64}
use Rattle.std.proofs.lemmas.List.{get_or-take, get_or-drop}
use Rattle.octets.specs.Numbers.{value_of}
use Rattle.octets.proofs.NumberLaws.{four_octets}
use Rattle.plan.specs.Marks.{word_at, pair_at}

-- an octet of a part
module _ (n : ℕ) (part s : List ℕ) (at : ℕ) (e : part ≡ take n (drop at s)) where
  octet_in : (k : ℕ) → k < n → get_or part k 0 ≡ get_or s (at + k) 0
  octet_in k h = rw e (get_or-take n (drop at s) k 0 h ∙ get_or-drop at s k 0)

-- four octets, the lowest first
pub word_read : (part s : List ℕ) (at : ℕ) → part ≡ take 4 (drop at s) → from_le_bytes w32 part ≡ word_at s at
unfolding word_at
word_read part s at e =
    let o = octet_in 4 part s at e in
    let o0 : get_or part 0 0 ≡ get_or s at 0 = rw add-zero at (o 0 (omega arith)) in
    rw (o0, o 1 (omega arith), o 2 (omega arith), o 3 (omega arith)) (omega arith)

-- eight octets, the lowest first
pub pair_read : (part s : List ℕ) (at : ℕ) → part ≡ take 8 (drop at s) → from_le_bytes w64 part ≡ pair_at s at
unfolding pair_at word_at
pair_read part s at e =
    let o = octet_in 8 part s at e in
    let o0 : get_or part 0 0 ≡ get_or s at 0 = rw add-zero at (o 0 (omega arith)) in
    let e5 : at + 5 ≡ at + 4 + 1 = omega arith in
    let e6 : at + 6 ≡ at + 4 + 2 = omega arith in
    let e7 : at + 7 ≡ at + 4 + 3 = omega arith in
    let o5 : get_or part 5 0 ≡ get_or s (at + 4 + 1) 0 = rw e5 at (o 5 (omega arith)) in
    let o6 : get_or part 6 0 ≡ get_or s (at + 4 + 2) 0 = rw e6 at (o 6 (omega arith)) in
    let o7 : get_or part 7 0 ≡ get_or s (at + 4 + 3) 0 = rw e7 at (o 7 (omega arith)) in
    rw (o0, o 1 (omega arith), o 2 (omega arith), o 3 (omega arith), o 4 (omega arith), o5, o6, o7) (omega arith)

-- four octets, the highest first
pub number_read : {n : ℕ} (part s : List ℕ) (at : ℕ) → length s ≡ n → part ≡ take 4 (drop at s) → at + 4 ≤ n → from_be_bytes w32 part ≡ value_of (take 4 (drop at s))
number_read part s at l e h =
    let o = octet_in 4 part s at e in
    let o0 : get_or part 0 0 ≡ get_or s at 0 = rw add-zero at (o 0 (omega arith)) in
    rw (o0, o 1 (omega arith), o 2 (omega arith), o 3 (omega arith)) (omega (arith, four_octets s at (omega arith)))
