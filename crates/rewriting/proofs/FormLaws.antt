-- Units that can be written are read back from their standard form.
use Prim.Native.Nat.{ℕ, zero, suc, ◌≤◌, ◌<◌}
use mathlib.Core.Path.{◌≡◌, refl, ap, ◌∙◌, sym}
use mathlib.Core.Bool.{true, false}
use mathlib.Core.List.{List, [], ◌∷◌, ◌++◌}
use lib.Dec.{ltb}
use lib.ListN.{length, take}
use native.Mathlib.Omega.{arith}
use borrow.Author.Tests.{eq-eqb, ltb-false}
use Rattle.octets.proofs.OctetLaws.{under_cons}
use Rattle.bits.specs.Packing.{Bits}
use Rattle.labels.specs.Labels.{Label, ordinary, bits}
use Rattle.labels.specs.Scan.{Reading, done, scan_of, apart, labels_of, fills, well_formed}
use Rattle.names.specs.Standard.{Unit, label, bit, before, units, units_of, bit_label, encode_from, encode}
use Rattle.names.proofs.Written.{write_label, written}
use Rattle.names.proofs.Merged.{one_label, AllFit}
use Rattle.names.proofs.RoundLaws.{one_label_written, one_label_units, one_label_apart, fit_one, scan_written}
use Rattle.rewriting.specs.Rewrite.{long_run}
use Rattle.rewriting.specs.Spots.{units_at, Standing}
use Rattle.rewriting.proofs.LargeLaws.{or_false}
use Rattle.rewriting.proofs.LinkLaws.{units_link, standing}

-- units that can be written: labels of 1 to 63 octets, and bits
abbrev pub FitUnits : List Unit → Type 0
FitUnits [] = record {}
FitUnits (label l ∷ us) = (0 < length l) × (length l < 64) × FitUnits us
FitUnits (bit b ∷ us) = (b < 2) × FitUnits us

pub fit_append : (us vs : List Unit) → FitUnits us → FitUnits vs → FitUnits (us ++ vs)
fit_append [] vs f g = g
fit_append (label l ∷ us) vs f g = (f.0, f.1, fit_append us vs f.2 g)
fit_append (bit b ∷ us) vs f g = (f.0, fit_append us vs f.1 g)

pub fit_take : (k : ℕ) (us : List Unit) → FitUnits us → FitUnits (take k us)
fit_take zero us f = record {}
fit_take (suc k) [] f = record {}
fit_take (suc k) (label l ∷ us) f = (f.0, f.1, fit_take k us f.2)
fit_take (suc k) (bit b ∷ us) f = (f.0, fit_take k us f.1)

bits_tail : (b : ℕ) (run : List ℕ) → Bits (b ∷ run) → Bits run
bits_tail b run h i = h (suc i)

pub fit_before : (b : List ℕ) (us : List Unit) → Bits b → FitUnits us → FitUnits (before b us)
unfolding before
fit_before [] us h f = f
fit_before (x ∷ b) us h f = fit_before b (bit x ∷ us) (bits_tail x b h) (h 0, f)

pub fit_units : (ls : List Label) → AllFit ls → FitUnits (units ls)
unfolding units
fit_units [] f = record {}
fit_units (ordinary l ∷ ls) f = (f.0.0, f.0.1, fit_units ls f.1)
fit_units (bits b ∷ ls) f = fit_before b (units ls) f.0.2 (fit_units ls f.1)

-- the labels of the standard form; `run` holds the bits of the run that was begun
gather : List ℕ → List Unit → List Label
unfolding one_label
gather run [] = one_label run []
gather run (label l ∷ us) = one_label run (ordinary l ∷ gather [] us)
gather run (bit b ∷ us) = gather (b ∷ run) us

gather_written : (run : List ℕ) (us : List Unit) → written (gather run us) ≡ encode_from run us
unfolding gather encode_from written write_label
gather_written run [] = one_label_written run []
gather_written run (label l ∷ us) = one_label_written run (ordinary l ∷ gather [] us) ∙ ap (λ (ys : List ℕ). bit_label run ++ (length l ∷ (l ++ ys))) (gather_written [] us)
gather_written run (bit b ∷ us) = gather_written (b ∷ run) us

gather_units : (run : List ℕ) (us : List Unit) → units (gather run us) ≡ before run us
unfolding gather units before
gather_units run [] = one_label_units run []
gather_units run (label l ∷ us) = one_label_units run (ordinary l ∷ gather [] us) ∙ ap (λ (vs : List Unit). before run (label l ∷ vs)) (gather_units [] us)
gather_units run (bit b ∷ us) = gather_units (b ∷ run) us

gather_apart : (run : List ℕ) (us : List Unit) → apart false (gather run us) ≡ true
unfolding gather one_label apart
gather_apart [] [] = refl
gather_apart (b ∷ bs) [] = refl
gather_apart run (label l ∷ us) = one_label_apart run l (gather [] us) (gather_apart [] us)
gather_apart run (bit b ∷ us) = gather_apart (b ∷ run) us

gather_fit : (run : List ℕ) (us : List Unit) → Bits run → FitUnits us → long_run (length run) us ≡ false → AllFit (gather run us)
unfolding gather long_run
gather_fit run [] b f h = fit_one run [] b (ltb-false 256 (length run) h) (record {})
gather_fit run (label l ∷ us) b f h =
    let o = or_false (ltb 256 (length run)) (long_run 0 us) h in
    fit_one run (ordinary l ∷ gather [] us) b (ltb-false 256 (length run) o.0) ((f.0, f.1), gather_fit [] us (λ i. omega arith) f.2 o.1)
gather_fit run (bit x ∷ us) b f h = gather_fit (x ∷ run) us (under_cons 2 x run f.0 b) f.1 h

-- a name whose standard form is not too large is read back
module _ (us : List Unit) (f : FitUnits us) (h : long_run 0 us ≡ false) (n : length (encode us) ≤ 255) where
  ms : List Label
  ms = gather [] us

  all : encode us ≡ written ms
  unfolding encode ms
  all = sym (gather_written [] us)

  scans : scan_of (encode us) ≡ done ms (length (encode us))
  unfolding scan_of ms
  scans =
      let l : length (encode us) ≡ length (written ms) = ap length all in
      ap scan_of all ∙ scan_written false 0 0 ms (gather_fit [] us (λ i. omega arith) f h) (gather_apart [] us) (λ q. refl) (omega arith) ∙ ap (done ms) (omega arith)

  pub encode_formed : well_formed (encode us) ≡ true
  unfolding well_formed fills
  encode_formed = rw scans (eq-eqb (length (encode us)) (length (encode us)) refl)

  pub encode_parted : apart false (labels_of (scan_of (encode us))) ≡ true
  unfolding labels_of ms
  encode_parted = ap (λ (r : Reading). apart false (labels_of r)) scans ∙ gather_apart [] us

  pub encode_units : units_of (encode us) ≡ us
  unfolding units_of labels_of ms before
  encode_units = ap (λ (r : Reading). units (labels_of r)) scans ∙ gather_units [] us

  pub encode_standing : Standing (encode us)
  encode_standing = standing (encode us) encode_formed encode_parted

  pub encode_at_lem : units_at (encode us) 0 ≡ us
  encode_at_lem = units_link (encode us) encode_formed ∙ encode_units
