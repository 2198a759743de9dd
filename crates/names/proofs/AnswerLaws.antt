-- Laws of what standard_form answers.
use Prim.Native.Nat.{ℕ, ◌-◌}
use mathlib.Core.Path.{◌≡◌, refl, ap, sym}
use mathlib.Core.Bool.{true, false, not}
use mathlib.Core.List.{List, ◌++◌}
use lib.ListN.{length, drop}
use native.Mathlib.Omega.{arith}
use lib.Dec.{eqb}
use borrow.Author.Tests.{eq-eqb, ne_eqb, eqb-true, not-false}
use Rattle.octets.specs.Octets.{blank, Small}
use Rattle.labels.specs.Scan.{Reading, refused, done, scan_of, apart, labels_of, fills, well_formed, scan_from}
use Rattle.names.specs.Standard.{standard_of}
use Rattle.octets.specs.Refusals.{told, number_of, answered}
use Rattle.octets.proofs.RefusalLaws.{code_some}
use Rattle.labels.specs.Answers.{scanned, used_by, standard_by}
use Rattle.octets.specs.declared.Refusal.TheVariants.{Given, Output}
use Rattle.octets.specs.Answers.{answering, answer_by, out_by}
use Rattle.names.specs.Answers.{standard_number, standard_answer, standard_out}
use Rattle.std.specs.Prelude.{Err}
use Rattle.octets.proofs.OctetLaws.{drop_blank}
use Rattle.octets.proofs.AnswerLaws.{earns_zero}
use Rattle.names.proofs.WriteLaws.{standard_apart}

-- what a scan says of a given name
module _ (name : List ℕ) where
  pub form_number : (number_of (scanned (scan_of name)) ≡ 0 → ⊥) → well_formed name ≡ false
  unfolding scanned well_formed fills
  form_number h = go (scan_of name) h
    where
      go : (r : Reading) → (number_of (scanned r) ≡ 0 → ⊥) → fills (length name) r ≡ false
      go (refused n) h = refl
      go (done ls u) h = absurd (h refl)

  pub form_used : (used_by (scanned (scan_of name)) ≡ length name → ⊥) → well_formed name ≡ false
  unfolding scanned well_formed fills
  form_used h = go (scan_of name) h
    where
      go : (r : Reading) → (used_by (scanned r) ≡ length name → ⊥) → fills (length name) r ≡ false
      go (refused n) h = refl
      go (done ls u) h = ne_eqb u (length name) h

  pub form_good : number_of (scanned (scan_of name)) ≡ 0 → used_by (scanned (scan_of name)) ≡ length name → well_formed name ≡ true
  unfolding scanned well_formed scan_of scan_from fills
  form_good h k = go (scan_of name) refl h k
    where
      go : (r : Reading) → scan_of name ≡ r → number_of (scanned r) ≡ 0 → used_by (scanned r) ≡ length name → fills (length name) r ≡ true
      go (refused n) e h k = absurd (code_some (told n) h)
      go (done ls u) e h k = eq-eqb u (length name) k

  form_standard : standard_by (scanned (scan_of name)) ≡ true → apart false (labels_of (scan_of name)) ≡ true
  unfolding scanned labels_of
  form_standard h = go (scan_of name) h
    where
      go : (r : Reading) → standard_by (scanned r) ≡ true → apart false (labels_of r) ≡ true
      go (refused n) h = let z : ◌≡◌ {A = ℕ} 0 1 = cc in let w : ⊥ = omega arith in absurd w
      go (done ls u) h = h

-- the numbers
module _ (name : List ℕ) (room : ℕ) where
  pub number_malformed : well_formed name ≡ false → standard_number name room ≡ 4
  unfolding standard_number
  number_malformed h = rw (standard_number, h)

  pub number_room : well_formed name ≡ true → (room ≡ 255 → ⊥) → standard_number name room ≡ 5
  unfolding standard_number
  number_room h k = rw (standard_number, h, ne_eqb room 255 k)

  pub number_done : well_formed name ≡ true → room ≡ 255 → standard_number name room ≡ 0
  unfolding standard_number
  number_done h k = rw (standard_number, h, eq-eqb room 255 k)

  -- 0 is earned by a well-formed name and an output of 255 octets alone
  pub number_zero : standard_number name room ≡ 0 → (well_formed name ≡ true) × (room ≡ 255)
  unfolding standard_number
  number_zero e =
      let t1 = earns_zero (not (well_formed name)) 3 _ e in
      let t2 = earns_zero (not (eqb room 255)) 4 _ t1.1 in
      (not-false (well_formed name) t1.0, eqb-true room 255 (not-false (eqb room 255) t2.0))

-- what is answered with an output of zeros, where the name is malformed or the output is not of 255 octets
module _ (name : List ℕ) (room : ℕ) where
  pub given_answer : well_formed name ≡ false → answered (Err Given) ≡ standard_answer name room
  unfolding answer_by
  given_answer h = rw (number_malformed name room h)

  pub given_out : well_formed name ≡ false → blank room ≡ standard_out name room
  unfolding out_by
  given_out h = rw (number_malformed name room h)

  pub output_answer : well_formed name ≡ true → (room ≡ 255 → ⊥) → answered (Err Output) ≡ standard_answer name room
  unfolding answer_by
  output_answer h k = rw (number_room name room h k)

  pub output_out : well_formed name ≡ true → (room ≡ 255 → ⊥) → blank room ≡ standard_out name room
  unfolding out_by
  output_out h k = rw (number_room name room h k)

  -- and what is answered where the standard form was put into the output
  pub done_is : well_formed name ≡ true → room ≡ 255 → answering (length (standard_of name)) 0 ≡ standard_answer name room
  unfolding answer_by
  done_is h k = rw (number_done name room h k)

  pub done_puts : well_formed name ≡ true → room ≡ 255 → standard_of name ++ blank (255 - length (standard_of name)) ≡ standard_out name room
  unfolding out_by
  done_puts h k = rw (number_done name room h k, k)

-- the copy over zeros of a name that a scan finds in standard form
pub standard_copied : (name : List ℕ) → Small name → well_formed name ≡ true → standard_by (scanned (scan_of name)) ≡ true
    → (name ++ drop (length name) (blank 255) ≡ standard_of name ++ blank (255 - length (standard_of name))) × (length name ≡ length (standard_of name))
standard_copied name s w t =
    let e : standard_of name ≡ name = standard_apart name s w (form_standard name t) in
    (rw (e, drop_blank (length name) 255), ap length (sym e))
