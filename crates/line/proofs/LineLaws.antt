-- What reading a line answers, by its last octet and by what its words earn.
use Prim.Native.Nat.{ℕ, ◌+◌, ◌-◌, ◌≤◌, ◌<◌}
use mathlib.Core.Path.{◌≡◌, refl, ap, sym, ◌∙◌}
use mathlib.Core.Bool.{true, false, not}
use Rattle.std.specs.Prelude.{Result, Ok, Err}
use lib.Pointwise.{pointwise}
use mathlib.Core.List.{List, [], ◌∷◌, ◌++◌}
use lib.Dec.{ltb, eqb}
use lib.ListN.{length, get_or, take, drop, drop_of_length-le}
use lib.Seq.{paste, take_all, get_or-drop}
use native.Mathlib.Omega.{arith}
use native.Mathlib.Nat.{zero-add}
use borrow.Author.Tests.{ne_eqb, lt-ltb, le-ltb}
use Rattle.octets.specs.Octets.{blank, same}
use Rattle.octets.specs.Refusals.{code_of}
use Rattle.octets.specs.declared.Refusal.{Refusal}
use Rattle.octets.proofs.RefusalLaws.{code_some}
use Rattle.octets.proofs.SameLaws.{same_eq, same_refl, by_pointwise}
use Rattle.text.proofs.PlaceLaws.{from_place}
use Rattle.octets.specs.declared.Answer.{Answer}
use Rattle.octets.specs.Answers.{earns, or_else, answering, refusal}
use Rattle.octets.proofs.OctetLaws.{drop_blank}
use Rattle.octets.proofs.AnswerLaws.{else_kept, refused_answer, refused_out, done_answer, done_out}
use Rattle.plan.specs.Layout.{record_size}
use Rattle.line.specs.Words.{words_of, body_of, end_of}
use Rattle.line.specs.Reading.{with_ttl, with_address, words_in, numbers_in, worst, line_number, fields_in, record_in}
use Rattle.plan.specs.declared.inside.Fields.{Fields}
use Rattle.plan.specs.Fields.{a6_record}
use Rattle.line.specs.Answers.{read_line_number, read_line_answer, read_line_out}
use Rattle.line.specs.Walk.{worse, word_numbers}
use Rattle.line.proofs.OrderLaws.{worst_known}
use Rattle.line.proofs.WorseLaws.{worst_append, worst_one, worse_20}
use Rattle.line.proofs.WalkedLaws.{worse_left}
use Rattle.line.specs.Walked.{value_by}
use Rattle.line.proofs.ValueLaws.{value_given, value_code}
use Rattle.line.proofs.ReadLaws.{read_size}
use mathlib.Core.Logic.{inl, inr}

module _ (line : List ℕ) where
  abbrev ws : List (List ℕ)
  ws = words_in line

  -- a line that ends in octet 10 earns what its words earn
  pub line_ended : end_of line ≡ 10 → line_number line ≡ worst (word_numbers ws)
  unfolding line_number numbers_in word_numbers
  line_ended h =
      ap (λ (n : ℕ). worst (earns (not (eqb n 10)) 20 0 ∷ word_numbers ws)) h
      ∙ worst_append (0 ∷ []) (word_numbers ws) ∙ ap (λ (n : ℕ). worse n (worst (word_numbers ws))) (worst_one 0 (inl refl)) ∙ worse_left 0 (worst (word_numbers ws)) refl

  -- any other is no line
  pub line_unended : (end_of line ≡ 10 → ⊥) → line_number line ≡ 20
  unfolding line_number numbers_in word_numbers
  line_unended h =
      ap (λ b. worst (earns (not b) 20 0 ∷ word_numbers ws)) (ne_eqb (end_of line) 10 h)
      ∙ worst_append (20 ∷ []) (word_numbers ws) ∙ ap (λ (n : ℕ). worse n (worst (word_numbers ws))) (worst_one 20 (inr (inl refl))) ∙ worse_20 (worst (word_numbers ws)) (worst_known (word_numbers ws))

  module _ (out : List ℕ) (room : ℕ) (z : out ≡ blank room) where
    -- a line that is refused, by its number
    pub read_refused : (k : ℕ) (r : Answer) → r ≡ refusal k → (k ≡ 0 → ⊥) → read_line_number line room ≡ k → (r ≡ read_line_answer line room) × (out ≡ read_line_out line room)
    read_refused k r e h n = (e ∙ refused_answer k (read_line_number line room) (sym n) h 1 0, z ∙ refused_out k (read_line_number line room) (sym n) h (record_in line) room)

  pub number_unended : (room : ℕ) → (end_of line ≡ 10 → ⊥) → read_line_number line room ≡ 20
  unfolding read_line_number
  number_unended room h = ap (λ (n : ℕ). or_else n (earns (ltb room record_size) 23 0)) (line_unended h)

  pub number_earned : (room k : ℕ) → end_of line ≡ 10 → worst (word_numbers ws) ≡ k → (k ≡ 0 → ⊥) → read_line_number line room ≡ k
  unfolding read_line_number
  number_earned room k h e n = ap (λ (m : ℕ). or_else m (earns (ltb room record_size) 23 0)) (line_ended h ∙ e) ∙ else_kept k (earns (ltb room record_size) 23 0) n

  pub number_short : (room : ℕ) → end_of line ≡ 10 → worst (word_numbers ws) ≡ 0 → room < record_size → read_line_number line room ≡ 23
  unfolding read_line_number
  number_short room h e n = ap (λ (m : ℕ). or_else m (earns (ltb room record_size) 23 0)) (line_ended h ∙ e) ∙ (rw (lt-ltb room record_size n))

  pub number_done : (room : ℕ) → end_of line ≡ 10 → worst (word_numbers ws) ≡ 0 → record_size ≤ room → read_line_number line room ≡ 0
  unfolding read_line_number
  number_done room h e n = ap (λ (m : ℕ). or_else m (earns (ltb room record_size) 23 0)) (line_ended h ∙ e) ∙ (rw (le-ltb room record_size n))

  -- a record that was written over zeros
  pub read_done : (out cleared : List ℕ) (room : ℕ) (f : Fields) → end_of line ≡ 10 → worst (word_numbers ws) ≡ 0 → record_size ≤ room → f ≡ fields_in ws → cleared ≡ blank room
      → out ≡ paste cleared 0 (a6_record f) record_size → (answering 1 0 ≡ read_line_answer line room) × (out ≡ read_line_out line room)
  unfolding record_in
  read_done out cleared room f h e n g z p =
      let k = number_done room h e n in
      let l : length (record_in line) ≡ record_size = read_size line (line_ended h ∙ e) in
      let r : take record_size (a6_record f) ≡ record_in line = ap (λ (x : Fields). take record_size (a6_record x)) g ∙ take_all record_size (record_in line) (omega arith) in
      let c : out ≡ record_in line ++ blank (room - record_size) = p ∙ (λ i. r i ++ drop (0 + record_size) (z i)) ∙ ap (λ (m : ℕ). record_in line ++ drop m (blank room)) (zero-add record_size) ∙ ap (λ (x : List ℕ). record_in line ++ x) (drop_blank record_size room) in
      (done_answer (read_line_number line room) k 1 0, c ∙ ap (λ (m : ℕ). record_in line ++ blank (room - m)) (sym l) ∙ done_out (read_line_number line room) k (record_in line) room)

-- what ends a line: octet 10, or another one
module _ (line : List ℕ) where
  pub ends_ten : pointwise eqb (drop (length line - 1) line) (10 ∷ []) ≡ true → end_of line ≡ 10
  unfolding end_of
  ends_ten h =
      let e : drop (length line - 1) line ≡ 10 ∷ [] = same_eq (drop (length line - 1) line) (10 ∷ []) (sym (by_pointwise eqb (drop (length line - 1) line) (10 ∷ [])) ∙ h) in
      let z : length line - 1 ≡ length line - 1 + 0 = omega arith in
      ap (λ (i : ℕ). get_or line i 0) z ∙ sym (get_or-drop (length line - 1) line 0 0) ∙ ap (λ (xs : List ℕ). get_or xs 0 0) e

  pub ends_other : pointwise eqb (drop (length line - 1) line) (10 ∷ []) ≡ false → end_of line ≡ 10 → ⊥
  unfolding end_of
  ends_other h e =
      let n : 0 < length line = some line e in
      let d : drop (length line - 1) line ≡ 10 ∷ [] =
      from_place line (length line - 1) (omega arith) ∙ (λ i. e i ∷ drop (length line - 1 + 1) line) ∙ ap (λ (xs : List ℕ). 10 ∷ xs) (drop_of_length-le line {i = length line - 1 + 1} (omega arith)) in
      let t : pointwise eqb (drop (length line - 1) line) (10 ∷ []) ≡ true = by_pointwise eqb (drop (length line - 1) line) (10 ∷ []) ∙ ap (λ (xs : List ℕ). same xs (10 ∷ [])) d ∙ same_refl (10 ∷ []) in
      let z : true ≡ false = sym t ∙ h in
      cc
    where
      some : (xs : List ℕ) → get_or xs (length xs - 1) 0 ≡ 10 → 0 < length xs
      some [] k = let z : ⊥ = omega arith in absurd z
      some (x ∷ xs) k = omega arith

-- what is read of the body of a line that ends in octet 10
module _ (line body : List ℕ) (b : body ≡ body_of line) (t : end_of line ≡ 10) where
  abbrev read : Result Fields Refusal
  read = value_by (worst (word_numbers (with_address (with_ttl (words_of body))))) (fields_in (with_address (with_ttl (words_of body))))

  read_is : read ≡ value_by (worst (word_numbers (words_in line))) (fields_in (words_in line))
  unfolding words_in
  read_is = ap (λ (xs : List ℕ). value_by (worst (word_numbers (with_address (with_ttl (words_of xs))))) (fields_in (with_address (with_ttl (words_of xs))))) b

  pub read_earned : (e : Refusal) (room : ℕ) → Err e ≡ read → read_line_number line room ≡ code_of e
  read_earned e room h =
      let k = value_code (worst (word_numbers (words_in line))) (fields_in (words_in line)) (worst_known (word_numbers (words_in line))) e (h ∙ read_is) in
      number_earned line room (code_of e) t (sym k) (code_some e)

  pub read_whole : (f : Fields) → Ok f ≡ read → (worst (word_numbers (words_in line)) ≡ 0) × (f ≡ fields_in (words_in line))
  read_whole f h = let g = value_given (worst (word_numbers (words_in line))) (fields_in (words_in line)) f (sym read_is ∙ sym h) in (g.0, sym g.1)
