-- Laws of what write_name answers.
use Prim.Native.Nat.{ℕ, ◌≤◌}
use mathlib.Core.Path.{◌≡◌, refl, ap, sym, ◌∙◌}
use mathlib.Core.Bool.{true, false}
use mathlib.Core.List.{List}
use lib.ListN.{length, take}
use Rattle.octets.specs.Octets.{Small}
use Rattle.octets.specs.Answers.{answer_by, out_by}
use Rattle.labels.specs.Scan.{well_formed}
use Rattle.names.specs.Standard.{standard_of}
use Rattle.names.specs.Name.{held_of}
use Rattle.names.specs.declared.Name.{Name}
use Rattle.names.proofs.NameLaws.{held_part, standard_short}
use Rattle.names.proofs.RoundLaws.{standard_formed}
use Rattle.names.proofs.StandardSmall.{standard_small}
use Rattle.text.specs.Answers.{room_number, text_answer, text_out}
use Rattle.nametext.specs.Writing.{text_of}
use Rattle.nametext.specs.Answers.{name_text, write_name_number, write_name_answer, write_name_out}
use Rattle.nametext.proofs.SizeLaws.{text_short}

module _ (name : List ℕ) (room : ℕ) where
  pub number_malformed : well_formed name ≡ false → write_name_number name room ≡ 4
  unfolding write_name_number
  number_malformed h = rw (write_name_number, h)

  number_formed : well_formed name ≡ true → write_name_number name room ≡ room_number (name_text name) room
  unfolding write_name_number
  number_formed h = rw (write_name_number, h)

  -- what is given of a well-formed name's text
  pub written_answer : (t : List ℕ) → well_formed name ≡ true → t ≡ name_text name → text_answer t room ≡ write_name_answer name room
  written_answer t w e = ap (λ (s : List ℕ). text_answer s room) e ∙ ap (λ (k : ℕ). answer_by k (length (name_text name)) 0) (sym (number_formed w))

  pub written_out : (t : List ℕ) → well_formed name ≡ true → t ≡ name_text name → text_out t room ≡ write_name_out name room
  written_out t w e = ap (λ (s : List ℕ). text_out s room) e ∙ ap (λ (k : ℕ). out_by k (name_text name) room) (sym (number_formed w))

-- a well-formed name held by value: its octets in standard form
pub record Held (name part : List ℕ) : Type 0 where
  pub is : part ≡ standard_of name
  pub standard : well_formed part ≡ true
  pub short : length part ≤ 255
  pub text : length (text_of part) ≤ 1004

pub held_text : (name : List ℕ) (h : Name) → Small name → well_formed name ≡ true → h ≡ held_of name → Held name (take h.length h.octets)
held_text name h s w e =
    let p = held_part name h h.length e refl w in
    let f = standard_formed name s w in
    record { is = p; standard = ap well_formed p ∙ f; short = rw p (standard_short name s w); text = rw p (text_short (standard_of name) (standard_small name s) f) }
