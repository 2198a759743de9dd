-- When a rewrite gives too long a run: only the run between the kept units and the target can be too long.
use Prim.Native.Nat.{ℕ, suc, ◌≤◌}
use mathlib.Core.Path.{◌≡◌, refl, ap, ◌∙◌}
use mathlib.Core.Bool.{Bool, true, false, ◌||◌}
use mathlib.Core.List.{List, [], ◌∷◌, ◌++◌}
use lib.Dec.{ltb}
use lib.ListN.{length, length-append}
use native.Mathlib.Omega.{arith}
use borrow.Author.Tests.{le-ltb, ltb-false}
use Rattle.labels.specs.Labels.{Label, ordinary, bits}
use Rattle.labels.specs.Scan.{apart}
use Rattle.names.specs.Standard.{Unit, label, bit, before, units}
use Rattle.names.proofs.Merged.{AllFit}
use Rattle.rewriting.specs.Rewrite.{long_run}
use Rattle.rewriting.specs.Spots.{NoBit, last_run}

pub or_false : (a b : Bool) → (a || b) ≡ false → (a ≡ false) × (b ≡ false)
or_false true b h = let z : ◌≡◌ {A = ℕ} 0 1 = cc in let y : ⊥ = omega arith in absurd y
or_false false b h = (refl, h)

false_or : (a b : Bool) → b ≡ false → (a || b) ≡ a
false_or true b h = refl
false_or false b h = h

pub long_before : (b run : List ℕ) (us : List Unit) → long_run (length run) (before b us) ≡ long_run (length (b ++ run)) us
unfolding before long_run
long_before [] run us = refl
long_before (x ∷ b) run us = long_before b run (bit x ∷ us)

-- no run is too long in what comes first: then those of the rest decide, the first of them with the bits before it
pub long_append : (run : List ℕ) (us vs : List Unit) → long_run (length run) us ≡ false → long_run (length run) (us ++ vs) ≡ long_run (length (last_run run us)) vs
unfolding long_run last_run
long_append run [] vs h = refl
long_append run (label l ∷ us) vs h =
    let o = or_false (ltb 256 (length run)) (long_run 0 us) h in
    rw o.0 (long_append [] us vs o.1)
long_append run (bit b ∷ us) vs h = long_append (b ∷ run) us vs h

long_start : (n : ℕ) (us : List Unit) → long_run n us ≡ false → ltb 256 n ≡ false
unfolding long_run
long_start n [] h = h
long_start n (label l ∷ us) h = (or_false (ltb 256 n) (long_run 0 us) h).0
long_start n (bit b ∷ us) h = let k = ltb-false 256 (suc n) (long_start (suc n) us h) in le-ltb 256 n (omega arith)

pub long_front : (n : ℕ) (us vs : List Unit) → long_run n (us ++ vs) ≡ false → long_run n us ≡ false
unfolding long_run
long_front n [] vs h = long_start n vs h
long_front n (label l ∷ us) vs h =
    let o = or_false (ltb 256 n) (long_run 0 (us ++ vs)) h in
    rw o.0 (long_front 0 us vs o.1)
long_front n (bit b ∷ us) vs h = long_front (suc n) us vs h

-- units that begin with no bit end the run before them
pub long_ends : (n : ℕ) (us : List Unit) → NoBit us → long_run 0 us ≡ false → long_run n us ≡ ltb 256 n
unfolding long_run
long_ends n [] e h = refl
long_ends n (label l ∷ us) e h = false_or (ltb 256 n) (long_run 0 us) h
long_ends n (bit b ∷ us) e h = absurd e

-- a name that was read, in standard form, has no run that is too long
pub fit_short : (after : Bool) (run : List ℕ) (ls : List Label) → AllFit ls → apart after ls ≡ true → (after ≡ false → run ≡ []) → length run ≤ 256 → long_run (length run) (units ls) ≡ false
unfolding long_run units apart
fit_short after run [] f a r k = le-ltb 256 (length run) k
fit_short after run (ordinary l ∷ ls) f a r k = rw (le-ltb 256 (length run) k) (fit_short false [] ls f.1 a (λ e. refl) (omega arith))
fit_short true run (bits b ∷ ls) f a r k = let z : ◌≡◌ {A = ℕ} 0 1 = cc in let y : ⊥ = omega arith in absurd y
fit_short false run (bits b ∷ ls) f a r k =
    let e : run ≡ [] = r refl in
    let l = length-append b run in
    let n = ap length e in
    long_before b run (units ls) ∙ fit_short true (b ++ run) ls f.1 a (λ q. cc) (omega (arith, f.0.1))
