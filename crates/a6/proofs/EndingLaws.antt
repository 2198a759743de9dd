-- Laws of how data ends, and of the value that its parts make: the same for every layout.
use Prim.Native.Nat.{ℕ, zero, suc, ◌≤◌, ◌<◌}
use mathlib.Core.Path.{◌≡◌, refl, ap, ◌∙◌, sym}
use mathlib.Core.Bool.{true}
use mathlib.Core.List.{List, []}
use Rattle.std.specs.Prelude.{Ok, Err}
use lib.Dec.{ltb}
use lib.ListN.{length}
use lib.Seq.{take_all}
use native.Mathlib.Omega.{arith}
use borrow.Author.Tests.{lt-ltb, le-ltb, eq-eqb, ne_eqb, ltb-false}
use Rattle.octets.specs.Octets.{Small}
use Rattle.octets.specs.Refusals.{code_of, told, number_of}
use Rattle.octets.specs.declared.Refusal.{Refusal}
use Rattle.octets.proofs.RefusalLaws.{told_code, code_some}
use Rattle.octets.proofs.AnswerLaws.{earns_zero, else_zero, else_kept, else_later}
use Rattle.labels.specs.Scan.{scan_of, well_formed}
use Rattle.labels.specs.Answers.{scanned, found, used_by}
use Rattle.labels.specs.declared.Scanned.{Scanned}
use Rattle.names.specs.Standard.{standard_of}
use Rattle.names.specs.Name.{name_of}
use Rattle.names.proofs.AnswerLaws.{form_good}
use Rattle.names.proofs.FrontLaws.{scan_inside}
use Rattle.names.proofs.NameLaws.{held_formed, held_empty}
use Rattle.a6.specs.Ending.{name_found, name_number, name_octets, name_in, reading_for}
use Rattle.a6.specs.Parts.{value_at, Tells}
use Rattle.a6.specs.declared.Value.{Value}
use Rattle.a6.specs.declared.parts.Found.{Found}

module _ (l : ℕ) (rest : List ℕ) where
  -- what is found of a name
  pub found_none : l ≡ 0 → name_found l rest ≡ found 0 true
  unfolding name_found
  found_none e = rw (name_found, eq-eqb l 0 e)

  pub found_some : (l ≡ 0 → ⊥) → name_found l rest ≡ scanned (scan_of rest)
  unfolding name_found
  found_some e = rw (name_found, ne_eqb l 0 e)

  -- one law for each test
  pub ending_name : (number_of (name_found l rest) ≡ 0 → ⊥) → name_number l rest ≡ number_of (name_found l rest)
  unfolding name_number
  ending_name n = else_kept (number_of (name_found l rest)) _ n

  pub ending_left : number_of (name_found l rest) ≡ 0 → used_by (name_found l rest) < length rest → name_number l rest ≡ 13
  unfolding name_number
  ending_left n h = else_later (number_of (name_found l rest)) _ n ∙ rw (lt-ltb (used_by (name_found l rest)) (length rest) h)

  pub ending_done : number_of (name_found l rest) ≡ 0 → length rest ≤ used_by (name_found l rest) → name_number l rest ≡ 0
  unfolding name_number
  ending_done n h = else_later (number_of (name_found l rest)) _ n ∙ rw (le-ltb (used_by (name_found l rest)) (length rest) h)

  -- and what holds where both are passed
  pub ended : name_number l rest ≡ 0 → (number_of (name_found l rest) ≡ 0) × (length rest ≤ used_by (name_found l rest))
  unfolding name_number
  ended e =
      let t = else_zero (number_of (name_found l rest)) _ e in
      let u = earns_zero (ltb (used_by (name_found l rest)) (length rest)) 12 _ t.1 in
      (t.0, ltb-false (used_by (name_found l rest)) (length rest) u.0)

  pub name_none : l ≡ 0 → name_in l rest ≡ name_of []
  name_none e = rw (found_none e) held_empty

  module _ (e : name_number l rest ≡ 0) where
    -- the name is all that is left
    pub name_rest : name_octets l rest ≡ rest
    name_rest = take_all (used_by (name_found l rest)) rest (ended e).1

    -- and well formed, where one is due
    module _ (small : Small rest) (due : l ≡ 0 → ⊥) where
      pub name_formed : well_formed rest ≡ true
      name_formed =
          let w = found_some due in
          let u = scan_inside rest small in
          let k : used_by (scanned (scan_of rest)) ≡ length rest = omega (arith, (ended e).1, ap used_by w) in
          form_good rest (sym (ap number_of w) ∙ (ended e).0) k

      pub name_standard : name_in l rest ≡ name_of (standard_of rest)
      name_standard = rw name_rest (held_formed rest name_formed)

-- the tests by what the code finds of the name
module _ (l : ℕ) (rest : List ℕ) where
  pub ending_refused : (e : Refusal) → Err e ≡ name_found l rest → code_of e ≡ name_number l rest
  ending_refused e p = let k = ap number_of p in sym (ending_name l rest (λ z. code_some e (k ∙ z)) ∙ sym k)

  module _ (t : Scanned) (p : Ok t ≡ name_found l rest) where
    pub ending_more : t.used < length rest → 13 ≡ name_number l rest
    ending_more h = let u = ap used_by p in sym (ending_left l rest (sym (ap number_of p)) (omega arith))

    pub ending_whole : length rest ≤ t.used → 0 ≡ name_number l rest
    ending_whole h = let u = ap used_by p in sym (ending_done l rest (sym (ap number_of p)) (omega arith))

-- a number that is not 0 refuses, and 0 gives the value
module _ (k : ℕ) (v : Value) where
  pub reading_refused : (e : Refusal) → code_of e ≡ k → Err e ≡ reading_for k v
  unfolding reading_for
  reading_refused e p = go k p
    where
      go : (k : ℕ) → code_of e ≡ k → Err e ≡ reading_for k v
      go zero p = absurd (code_some e p)
      go (suc j) p = ap Err (sym (told_code e) ∙ ap told p)

  pub reading_done : k ≡ 0 → Ok v ≡ reading_for k v
  unfolding reading_for
  reading_done e = rw e

  -- what is given comes of number 0
  pub reading_given : (w : Value) → reading_for k v ≡ Ok w → (k ≡ 0) × (v ≡ w)
  unfolding reading_for
  reading_given w e = go k e
    where
      go : (k : ℕ) → reading_for k v ≡ Ok w → (k ≡ 0) × (v ≡ w)
      go zero e = (refl, cc)
      go (suc j) e = cc

-- what a reader gives whose tests tell a number and a value: the value of the parts that they find, or their refusal
module _ (number : ℕ) (v : Value) where
  pub told_done : (f : Found) → Tells (Ok f) number v → Ok (value_at f) ≡ reading_for number v
  told_done f t = ap Ok t.1 ∙ reading_done number v (sym t.0)

  pub told_refused : (e : Refusal) → Tells (Err e) number v → Err e ≡ reading_for number v
  told_refused e t = reading_refused number v e t.0
