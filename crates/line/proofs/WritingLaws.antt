-- Laws of a line put together, and of what its writer answers.
use Prim.Native.Nat.{ℕ, ◌+◌, ◌<◌}
use mathlib.Core.Path.{◌≡◌, ap, ◌∙◌, sym}
use mathlib.Core.Bool.{true, false}
use mathlib.Core.List.{List, [], ◌∷◌}
use lib.Dec.{eqb}
use lib.ListN.{length, take, set}
use lib.Seq.{take-append_seam, drop-drop}
use native.Mathlib.Omega.{arith}
use borrow.Author.Tests.{eq-eqb, ne_eqb}
use Rattle.octets.specs.Octets.{blank}
use Rattle.octets.specs.Answers.{answer_by, out_by, refusal}
use Rattle.octets.proofs.AnswerLaws.{refused_answer, refused_out, not_nought}
use Rattle.labels.specs.Scan.{well_formed}
use Rattle.names.specs.declared.Name.{Name}
use Rattle.names.specs.Name.{name_of}
use Rattle.names.proofs.StandardLaws.{in_standard}
use Rattle.plan.specs.Layout.{prefix_of, owner_of, target_of}
use Rattle.plan.specs.Fields.{one_a6, fields_of, HoldsName}
use Rattle.text.specs.Answers.{room_number, text_answer, text_out}
use borrow.Rule.Slice.PartMut.{put_mid}
use Rattle.text.specs.Written.{Put, written}
use Rattle.text.proofs.WrittenLaws.{put_one, put_then}
use Rattle.nametext.specs.Writing.{text_of}
use Rattle.line.specs.Writing.{target_text, line_of}
use Rattle.line.specs.Answers.{write_line_number, write_line_answer, write_line_out}
use Rattle.line.specs.FieldText.{held_octets, target_field, fields_text}

-- ---- the fields by value
octets_of_lem : (name : List ℕ) → held_octets (name_of name) ≡ name
unfolding held_octets name_of
octets_of_lem name = take-append_seam name _

-- the name that is held
pub octets_held : (n : Name) (h : HoldsName n) → held_octets n ≡ h.name
octets_held n h = ap held_octets h.held ∙ octets_of_lem h.name

-- its first octets, as many as its length says
pub octets_taken : (n : Name) (k : ℕ) → k ≡ n.length → take k n.octets ≡ held_octets n
unfolding held_octets
octets_taken n k e = ap (λ (m : ℕ). take m n.octets) e

pub octets_formed_lem : (n : Name) → HoldsName n → well_formed (held_octets n) ≡ true
octets_formed_lem n h = rw (octets_held n h) (in_standard h.name h.formed).0

-- the target's part of the line
pub field_none : (prefix : ℕ) (target : Name) → prefix ≡ 0 → target_field prefix target ≡ []
unfolding target_field
field_none prefix target h = rw (target_field, eq-eqb prefix 0 h)

pub field_some : (prefix : ℕ) (target : Name) → (prefix ≡ 0 → ⊥) → target_field prefix target ≡ 32 ∷ text_of (held_octets target)
unfolding target_field
field_some prefix target h = rw (target_field, ne_eqb prefix 0 h)

field_target : (r : List ℕ) → target_field (prefix_of r) (name_of (target_of r)) ≡ target_text r
unfolding target_field target_text
field_target r = ap (λ (t : List ℕ). elim (eqb (prefix_of r) 0) [ true ↦ [] | false ↦ 32 ∷ text_of t ]) (octets_of_lem (target_of r))

-- Theorem: the line of a record's fields is the record's line
pub fields_line : (r : List ℕ) → fields_text (fields_of r) ≡ line_of r
unfolding fields_text fields_of line_of
fields_line r = rw (octets_of_lem (owner_of r), field_target r)

-- a space put, and a text after it
pub put_spaced : (d e : List ℕ) (at n : ℕ) (xs : List ℕ) → at < length d → Put (set d at 32) e (at + 1) n xs → Put d e at n (32 ∷ xs)
put_spaced d e at n xs h p = put_then d (set d at 32) e at (at + 1) n (32 ∷ []) xs (omega arith) (put_one d at 32 h) p

-- ---- what is answered
module _ (r : List ℕ) (room : ℕ) where
  -- octets that are no A6 record
  number_none : one_a6 r ≡ false → write_line_number r room ≡ 2
  unfolding write_line_number
  number_none o = rw (write_line_number, o)

  pub none_answer : one_a6 r ≡ false → refusal 2 ≡ write_line_answer r room
  none_answer o = refused_answer 2 _ (sym (number_none o)) (not_nought 1) (length (line_of r)) 0

  pub none_out : one_a6 r ≡ false → blank room ≡ write_line_out r room
  none_out o = refused_out 2 _ (sym (number_none o)) (not_nought 1) (line_of r) room

  -- a record's line given out
  number_line : one_a6 r ≡ true → room_number (line_of r) room ≡ write_line_number r room
  unfolding write_line_number room_number
  number_line o = rw (write_line_number, o)

  pub line_answer : one_a6 r ≡ true → text_answer (line_of r) room ≡ write_line_answer r room
  line_answer o = ap (λ (k : ℕ). answer_by k (length (line_of r)) 0) (number_line o)

  pub line_out : one_a6 r ≡ true → text_out (line_of r) room ≡ write_line_out r room
  line_out o = ap (λ (k : ℕ). out_by k (line_of r) room) (number_line o)

-- octets that are copied to a place
pub put_copied : (d : List ℕ) (at k : ℕ) (xs ys : List ℕ) → ys ≡ xs → k ≡ length xs → put_mid at k d ys ≡ written d at xs
unfolding written
put_copied d at k xs ys p q = rw (p, q, drop-drop (length xs) at d)
