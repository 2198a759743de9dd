-- Laws of the numbers that a scan earns: a result has the number of the reading that it tells.
use Rattle.std.proofs.Common.{◌≡◌, refl, sym, subst, ℕ, zero, suc, ◌+◌, ◌-◌, Bool, true, false, not, ◌&&◌, List, [], ◌∷◌, length}
use lib.Dec.{ltb, eqb}
use Rattle.octets.specs.Refusals.{code_of, told, number_of}
use Rattle.octets.proofs.RefusalLaws.{Known, known_zero, known_code, known_earned}
use Rattle.octets.specs.declared.Refusal.TheVariants.{Short, Malformed}
use Rattle.labels.specs.Labels.{Label, first_of, is_label, size_of, run_of, label_of, unused_clear, fault_of}
use Rattle.labels.specs.Scan.{Reading, refused, done, with, scan_from, scan_of}
use Rattle.labels.specs.Answers.{scanned}

-- a label earns 0, 11 or 12
pub fault_known : (used run : ℕ) (xs : List ℕ) → Known (fault_of used run xs)
unfolding fault_of
fault_known used run xs =
    let short = known_code Short in
    let malformed = known_code Malformed in
    known_earned (eqb (length xs) 0) 11 _ short
    (known_earned (not (is_label (first_of xs))) 12 _ malformed
    (known_earned (ltb (length xs) (size_of xs)) 11 _ short
    (known_earned (ltb 255 (used + size_of xs)) 12 _ malformed
    (known_earned (eqb (first_of xs) 65 && not (unused_clear xs)) 12 _ malformed
    (known_earned (ltb 256 (run_of run xs)) 12 0 malformed known_zero)))))

-- a reading that is refused, is so by a number that a refusal has
abbrev Told : Reading → Type 0
Told (refused n) = code_of (told n) ≡ n
Told (done ls used) = Unit {0}

told_with : (l : Label) (r : Reading) → Told r → Told (with l r)
unfolding with
told_with l (refused n) h = h
told_with l (done ls used) h = h

told_from : (used run skip : ℕ) (xs : List ℕ) → Told (scan_from used run skip xs)
unfolding scan_from told
told_from used run skip [] = refl
told_from used run (suc skip) (x ∷ xs) = told_from used run skip xs
told_from used run zero (x ∷ xs) =
    go (fault_of used run (x ∷ xs)) refl (eqb x 0) refl (told_with (label_of (x ∷ xs)) _ (told_from (used + size_of (x ∷ xs)) (run_of run (x ∷ xs)) (size_of (x ∷ xs) - 1) xs))
  where
    go : (n : ℕ) → fault_of used run (x ∷ xs) ≡ n → (b : Bool) → eqb x 0 ≡ b
        → Told (with (label_of (x ∷ xs)) (scan_from (used + size_of (x ∷ xs)) (run_of run (x ∷ xs)) (size_of (x ∷ xs) - 1) xs))
        → Told (scan_from used run zero (x ∷ xs))
    go (suc n) e b f h = rw (scan_from, e) (let k = fault_known used run (x ∷ xs) in rw e at k (λ z. cc))
    go zero e true f h = rw (scan_from, e, f) tt
    go zero e false f h = rw (scan_from, e, f) h

-- a scan that is refused has the number of its reading
pub scan_number : (xs : List ℕ) (n : ℕ) → scan_of xs ≡ refused n → number_of (scanned (scan_of xs)) ≡ n
unfolding scan_of scanned
scan_number xs n e = subst (λ (r : Reading). Told r → number_of (scanned r) ≡ n) (sym e) (λ h. h) (told_from 0 0 0 xs)
