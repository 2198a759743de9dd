-- A name with more octets after it.
use Prim.Native.Nat.{ℕ, ◌+◌, ◌≤◌}
use mathlib.Core.Path.{◌≡◌, refl, ap, ◌∙◌}
use mathlib.Core.Bool.{true}
use mathlib.Core.List.{List}
use lib.ListN.{length, length-append}
use native.Mathlib.Omega.{arith}
use borrow.Author.Tests.{eqb-true}
use Rattle.octets.specs.Octets.{Small}
use Rattle.labels.specs.Scan.{Reading, refused, done, scan_of, fills, well_formed}
use Rattle.octets.specs.Refusals.{number_of}
use Rattle.labels.specs.Answers.{scanned, used_by}
use Rattle.names.proofs.Written.{written}
use Rattle.names.proofs.WriteLaws.{scan_reads, written_back}

-- a scan takes no more octets than there are
pub scan_inside : (xs : List ℕ) → Small xs → used_by (scanned (scan_of xs)) ≤ length xs
unfolding scanned scan_of
scan_inside xs s = go (scan_of xs) refl
  where
    go : (r : Reading) → scan_of xs ≡ r → used_by (scanned r) ≤ length xs
    go (refused n) e = omega arith
    go (done ls u) e =
        let b = written_back (scan_reads (length xs) 0 0 xs ls u (omega arith) e) s in
        let n : length xs ≡ length (written ls) + length b.rest = ap length b.all ∙ length-append (written ls) b.rest in
        omega (arith, b.used_is)

-- a scan of a well-formed name ends well and takes all its octets
pub formed_scan : (xs : List ℕ) → well_formed xs ≡ true → (number_of (scanned (scan_of xs)) ≡ 0) × (used_by (scanned (scan_of xs)) ≡ length xs)
unfolding well_formed scanned fills
formed_scan xs w = go (scan_of xs) w
  where
    go : (r : Reading) → fills (length xs) r ≡ true → (number_of (scanned r) ≡ 0) × (used_by (scanned r) ≡ length xs)
    go (refused n) e = let z : ◌≡◌ {A = ℕ} 0 1 = cc in let y : ⊥ = omega arith in absurd y
    go (done ls u) e = (refl, eqb-true u (length xs) e)
