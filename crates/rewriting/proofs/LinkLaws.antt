-- A name in standard form: its units as the code finds them are those of its definition.
use Prim.Native.Nat.{ℕ}
use mathlib.Core.Path.{◌≡◌, ap, ◌∙◌, sym}
use mathlib.Core.Bool.{true, false}
use mathlib.Core.List.{List}
use Rattle.octets.specs.Octets.{Small}
use Rattle.labels.specs.Scan.{scan_of, labels_of, well_formed, apart}
use Rattle.names.specs.Standard.{units, units_of, in_standard_form}
use Rattle.names.proofs.WriteLaws.{well_reads}
use Rattle.names.proofs.StandardLaws.{in_standard, apart_standard}
use Rattle.names.proofs.MergeLaws.{reads_labels, begins_start}
use Rattle.rewriting.specs.Spots.{units_at, Standing}

pub units_link : (name : List ℕ) → well_formed name ≡ true → units_at name 0 ≡ units_of name
unfolding units_at units_of
units_link name w = ap units (sym (reads_labels (well_reads name w)))

pub standing : (name : List ℕ) → well_formed name ≡ true → apart false (labels_of (scan_of name)) ≡ true → Standing name
standing name w a = record { begins = begins_start name w; parted = ap (apart false) (sym (reads_labels (well_reads name w))) ∙ a }

pub form_units : (name : List ℕ) → in_standard_form name ≡ true → units_at name 0 ≡ units_of name
form_units name h = units_link name (in_standard name h).0

pub form_standing : (name : List ℕ) → Small name → in_standard_form name ≡ true → Standing name
form_standing name s h = let p = in_standard name h in standing name p.0 (apart_standard name s p.0 p.1)
