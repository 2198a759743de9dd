-- The number of a collapse, test by test; its answer and its output by the number.
use Rattle.std.specs.Prelude.{Result, Ok, Err}
use Rattle.std.specs.Result.{is_err}
use Rattle.octets.specs.declared.Done.{Done}
use Rattle.octets.specs.Refusals.{code_of}
use Rattle.octets.proofs.RefusalLaws.{code_some}
use Rattle.plan.specs.declared.Refused.{Refused}
use Rattle.plan.specs.declared.Reply.{Reply}
use Rattle.plan.specs.Faults.{replying, replied}
use Prim.Native.Nat.{ℕ, ◌-◌, ◌*◌, ◌/◌, ◌%◌, ◌≤◌, ◌<◌, min}
use mathlib.Core.Path.{◌≡◌, refl, ap, ◌∙◌, sym}
use mathlib.Core.Bool.{Bool, true, false}
use mathlib.Core.List.{List, ◌++◌}
use native.Mathlib.Omega.{arith}
use lib.Dec.{ltb}
use lib.ListN.{length}
use borrow.Author.Tests.{ltb-true, ltb-false, lt-ltb, le-ltb, eq-eqb, ne_eqb}
use Rattle.octets.proofs.BoolLaws.{or_true}
use Rattle.octets.specs.Octets.{blank, flat, Small}
use Rattle.octets.specs.Answers.{answering}
use Rattle.octets.proofs.AnswerLaws.{else_kept, else_later, by_number, done_answer, done_out, refused_out}
use Rattle.labels.specs.Scan.{well_formed}
use Rattle.names.specs.Standard.{Same, standard_of}
use Rattle.names.proofs.RoundLaws.{standard_formed, same_standard}
use Rattle.plan.specs.Layout.{record_size, max_records}
use Rattle.plan.specs.Check.{entry_number}
use Rattle.plan.proofs.LayoutLaws.{octets_length}
use Rattle.collapse.specs.Fold.{fold_of, reviving}
use Rattle.collapse.specs.Collapse.{misshapen, passes, number_of, collapse_answer, collapse_out}
use Rattle.collapse.proofs.FoldLaws.{fold_whole}
use Rattle.collapse.proofs.RunningLaws.{fold_same, reviving_same}

-- ---- 7
module _ (size : ℕ) (rs : List (List ℕ)) where
  pub passes_room : size / record_size < length rs → passes size rs ≡ true
  unfolding passes
  passes_room h = rw (lt-ltb (size / record_size) (length rs) h)

  pub passes_many : max_records < length rs → passes size rs ≡ true
  unfolding passes
  passes_many h = rw (lt-ltb max_records (length rs) h) (or_true (ltb (size / record_size) (length rs)))

  pub passes_not : length rs ≤ size / record_size → length rs ≤ max_records → passes size rs ≡ false
  unfolding passes
  passes_not h k = rw (le-ltb (size / record_size) (length rs) h, le-ltb max_records (length rs) k)

-- by the lesser of both
pub passes_limit : (size : ℕ) (rs : List (List ℕ)) → min (size / record_size) max_records < length rs → passes size rs ≡ true
passes_limit size rs h = go (ltb (size / record_size) (length rs)) refl
  where
    go : (b : Bool) → ltb (size / record_size) (length rs) ≡ b → passes size rs ≡ true
    go true e = passes_room size rs (ltb-true (size / record_size) (length rs) e)
    go false e = passes_many size rs (omega (arith, ltb-false (size / record_size) (length rs) e))

-- ---- the number
module _ (t x : List ℕ) (size : ℕ) where
  pub number_entry : (entry_number t x ≡ 0 → ⊥) → number_of t x size ≡ entry_number t x
  unfolding number_of
  number_entry h = else_kept (entry_number t x) _ h

  module _ (o : entry_number t x ≡ 0) where
    pub number_output : (size % record_size ≡ 0 → ⊥) → number_of t x size ≡ 5
    unfolding number_of misshapen
    number_output h = else_later (entry_number t x) _ o ∙ rw (ne_eqb (size % record_size) 0 h)

    module _ (e : size % record_size ≡ 0) where
      pub number_reviving : reviving x t ≡ true → number_of t x size ≡ 9
      unfolding number_of misshapen
      number_reviving v = else_later (entry_number t x) _ o ∙ rw (eq-eqb (size % record_size) 0 e, v)

      pub number_room : reviving x t ≡ false → passes size (fold_of x t) ≡ true → number_of t x size ≡ 7
      unfolding number_of misshapen
      number_room v p = else_later (entry_number t x) _ o ∙ rw (eq-eqb (size % record_size) 0 e, v, p)

      pub number_done : reviving x t ≡ false → passes size (fold_of x t) ≡ false → number_of t x size ≡ 0
      unfolding number_of misshapen
      number_done v p = else_later (entry_number t x) _ o ∙ rw (eq-eqb (size % record_size) 0 e, v, p)

-- ---- the answer and the output of one that is accepted
module _ (t x : List ℕ) (size : ℕ) (e : number_of t x size ≡ 0) where
  pub accepted_answer : collapse_answer t x size ≡ answering (length (fold_of x t)) 0
  accepted_answer = sym (done_answer _ e (length (fold_of x t)) 0)

  pub accepted_out : collapse_out t x size ≡ flat (fold_of x t) ++ blank (size - length (fold_of x t) * record_size)
  accepted_out =
      sym (done_out _ e (flat (fold_of x t)) size) ∙ ap (λ (n : ℕ). flat (fold_of x t) ++ blank (size - n)) (octets_length (fold_of x t) (fold_whole x t))

-- ---- two spellings of a name
module _ (t x y : List ℕ) (size : ℕ) (e : Same x y) (w : well_formed x ≡ well_formed y) where
  number_same : number_of t x size ≡ number_of t y size
  unfolding number_of entry_number
  number_same = rw (w, reviving_same x y e t, fold_same x y e t)

  pub answer_same : collapse_answer t x size ≡ collapse_answer t y size
  answer_same = rw (number_same, fold_same x y e t)

  pub out_same : collapse_out t x size ≡ collapse_out t y size
  out_same = rw (number_same, fold_same x y e t)

-- a well-formed name and its standard form
pub given_same : (t x s : List ℕ) (size : ℕ) → Small x → well_formed x ≡ true → s ≡ standard_of x → (collapse_answer t s size ≡ collapse_answer t x size) × (collapse_out t s size ≡ collapse_out t x size)
given_same t x s size m w e =
    let g = same_standard x m w in
    let f = standard_formed x m w ∙ sym w in
    (ap (λ (y : List ℕ). collapse_answer t y size) e ∙ answer_same t (standard_of x) x size g f, ap (λ (y : List ℕ). collapse_out t y size) e ∙ out_same t (standard_of x) x size g f)

-- what is refused leaves zeros
pub refused_clears : (t x : List ℕ) (size : ℕ) (r : Result Done Refused) → is_err r ≡ true → replied r ≡ replying t (collapse_answer t x size) → blank size ≡ collapse_out t x size
refused_clears t x size (Ok d) h e = cc
refused_clears t x size (Err f) h e = refused_out (code_of f.refusal) _ (ap (λ (y : Reply). y.answer.number) e ∙ by_number (number_of t x size) _ _) (code_some f.refusal) _ size
