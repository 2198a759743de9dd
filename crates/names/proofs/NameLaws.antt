-- Laws of a name held by value.
use Prim.Native.Nat.{ℕ, ◌-◌, ◌≤◌}
use mathlib.Core.Path.{◌≡◌, refl, ap, sym, ◌∙◌}
use mathlib.Core.Bool.{Bool, true, false}
use mathlib.Core.List.{List, []}
use lib.ListN.{length, take}
use lib.Seq.{take-append_seam}
use native.Mathlib.Omega.{arith}
use Rattle.octets.specs.Octets.{blank, Small}
use Rattle.octets.specs.declared.Answer.{Answer}
use Rattle.octets.specs.declared.Done.{Done}
use Rattle.octets.specs.declared.Refusal.{Refusal}
use Rattle.octets.specs.Answers.{answering, refusal, answer_by, out_by}
use Rattle.octets.specs.Refusals.{code_of, answered}
use Rattle.octets.proofs.RefusalLaws.{code_some}
use Rattle.std.specs.Prelude.{Some, None, Result, Ok, Err}
use Rattle.std.specs.Result.{result_ok}
use Rattle.octets.proofs.OctetLaws.{nil_of_length}
use Rattle.octets.proofs.BoolLaws.{clash, refuted}
use Rattle.labels.specs.Scan.{well_formed, fills, scan_of, scan_from}
use Rattle.names.specs.Standard.{standard_of, in_standard_form}
use Rattle.names.specs.Name.{name_of, held_of}
use Rattle.names.specs.Answers.{standard_answer, standard_out}
use Rattle.names.specs.declared.Name.{Name}
use Rattle.names.proofs.MergeLaws.{begins_start}
use Rattle.names.proofs.RoundLaws.{standard_shorter, standard_formed, standard_again}
use Rattle.names.proofs.StandardLaws.{standard_in}
use Rattle.names.proofs.AnswerLaws.{number_malformed, number_done}

-- a standard form has at most 255 octets
pub standard_short : (name : List ℕ) → Small name → well_formed name ≡ true → length (standard_of name) ≤ 255
standard_short name s w = let b = (begins_start name w).short in let k = standard_shorter name s w in omega arith

pub held_formed : (name : List ℕ) → well_formed name ≡ true → held_of name ≡ name_of (standard_of name)
unfolding held_of
held_formed name w = rw (w, held_of)

pub held_malformed : (name : List ℕ) → well_formed name ≡ false → held_of name ≡ name_of []
unfolding held_of
held_malformed name w = rw (w, held_of)

pub held_empty : held_of [] ≡ name_of []
unfolding well_formed fills scan_of scan_from
held_empty = held_malformed [] refl

-- the answer and the output of `standard_form` are the parts of the value
pub held_short : (name : List ℕ) → Small name → (standard_answer name 255).count ≤ 255
unfolding answer_by
held_short name s = go (well_formed name) refl
  where
    go : (t : Bool) → well_formed name ≡ t → (standard_answer name 255).count ≤ 255
    go true w = rw (number_done name 255 w refl) (standard_short name s w)
    go false w = rw (number_malformed name 255 w) (omega arith)

pub held_is : (name out : List ℕ) (a : Answer) → a ≡ standard_answer name 255 → out ≡ standard_out name 255 → ◌≡◌ {A = Name} (record { octets = out; length = a.count }) (held_of name)
unfolding name_of blank answer_by out_by
held_is name out a p q = rw (p, q) (go (well_formed name) refl)
  where
    go : (t : Bool) → well_formed name ≡ t → ◌≡◌ {A = Name} (record { octets = standard_out name 255; length = (standard_answer name 255).count }) (held_of name)
    go true w = rw (number_done name 255 w refl, held_formed name w)
    go false w = rw (number_malformed name 255 w, held_malformed name w)

-- an answer that is no refusal is of a well-formed name, and one that is a refusal of a malformed name
module _ (name : List ℕ) where
  pub answer_done : (r : Result Done Refusal) (d : Done) → Some d ≡ result_ok r → answered r ≡ standard_answer name 255
      → (true ≡ well_formed name) × (answering d.count d.work ≡ standard_answer name 255)
  unfolding answer_by
  answer_done (Err e) d h a = cc
  answer_done (Ok x) d h a = go (well_formed name) refl
    where
      q : x ≡ d
      q = cc

      go : (t : Bool) → well_formed name ≡ t → (true ≡ well_formed name) × (answering d.count d.work ≡ standard_answer name 255)
      go true w = (sym w, rw q at a)
      go false w =
          let k = number_malformed name 255 w in
          let f : answering x.count x.work ≡ refusal 4 = rw k at a in
          let z : ⊥ = omega (arith, ap (λ (b : Answer). b.number) f) in absurd z

  pub answer_refused : (r : Result Done Refusal) → None ≡ result_ok r → answered r ≡ standard_answer name 255 → well_formed name ≡ false
  unfolding answer_by
  answer_refused (Ok x) h a = cc
  answer_refused (Err e) h a = go (well_formed name) refl
    where
      go : (t : Bool) → well_formed name ≡ t → well_formed name ≡ false
      go false w = w
      go true w =
          let k = number_done name 255 w refl in
          let f : refusal (code_of e) ≡ answering (length (standard_of name)) 0 = rw k at a in
          absurd (code_some e (ap (λ (b : Answer). b.number) f))

-- what the value tells of the name
module _ (name : List ℕ) where
  pub held_some : ((held_of name).length ≡ 0 → ⊥) → well_formed name ≡ true
  unfolding name_of
  held_some h = go (well_formed name) refl
    where
      go : (b : Bool) → well_formed name ≡ b → well_formed name ≡ true
      go true w = w
      go false w = absurd (h (ap (λ (n : Name). n.length) (held_malformed name w)))

  pub held_none : Small name → (held_of name).length ≡ 0 → well_formed name ≡ false
  unfolding name_of well_formed fills scan_of scan_from
  held_none s h = refuted (well_formed name) (λ w.
      let l : length (standard_of name) ≡ 0 = ap (λ (n : Name). n.length) (sym (held_formed name w)) ∙ h in
      clash (ap well_formed (sym (nil_of_length (standard_of name) l)) ∙ standard_formed name s w) refl)

  -- so many octets of it as its length says
  pub held_part : (n : Name) (k : ℕ) → n ≡ held_of name → k ≡ n.length → well_formed name ≡ true → take k n.octets ≡ standard_of name
  unfolding name_of
  held_part n k h l w =
      let f = h ∙ held_formed name w in
      (λ i. take ((l ∙ ap (λ (m : Name). m.length) f) i) (f i).octets) ∙ take-append_seam (standard_of name) (blank (255 - length (standard_of name)))

  pub held_name : well_formed name ≡ true → take (held_of name).length (held_of name).octets ≡ standard_of name
  unfolding name_of
  held_name w = rw (held_formed name w) (take-append_seam (standard_of name) (blank (255 - length (standard_of name))))

-- the standard form of a name is in standard form
pub held_standard : (name : List ℕ) → Small name → well_formed name ≡ true → in_standard_form (standard_of name) ≡ true
held_standard name s w = standard_in (standard_of name) (standard_formed name s w) (standard_again name s w)
