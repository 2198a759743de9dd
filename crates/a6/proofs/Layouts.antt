-- Reading and writing in any layout of the same values: each undoes the other.
use Prim.Native.Nat.{ℕ, ◌-◌, ◌≤◌, ◌<◌}
use mathlib.Core.Path.{◌≡◌, ap, ◌∙◌, sym}
use mathlib.Core.Logic.{◌↔◌}
use mathlib.Core.List.{List, ◌++◌}
use Rattle.std.specs.Prelude.{Result, Ok}
use lib.ListN.{length, take}
use lib.Seq.{take-append_seam}
use native.Mathlib.Omega.{arith}
use Rattle.octets.specs.Octets.{blank, Small}
use Rattle.octets.specs.Answers.{or_else, answering, refusal, answer_by, out_by}
use Rattle.octets.specs.declared.Answer.{Answer}
use Rattle.octets.specs.declared.Refusal.{Refusal}
use Rattle.octets.proofs.AnswerLaws.{not_nought, refused_answer, refused_out, done_answer, done_out}
use Rattle.a6.specs.Data.{Shaped}
use Rattle.a6.specs.Ending.{reading_for}
use Rattle.a6.specs.Accepted.{value_number, room_number}
use Rattle.a6.specs.declared.Value.{Value}
use Rattle.a6.proofs.EndingLaws.{reading_done, reading_given}
use Rattle.a6.proofs.AcceptedLaws.{Writable, write_room, write_done, write_fits}

-- what a layout is: the number and the value of data, the data of a value, and the standard form of data; and what is to be shown of them
pub record Layout : Type 0 where
  pub number : List ℕ → ℕ
  pub value : List ℕ → Value
  pub written : Value → List ℕ
  pub standard : List ℕ → List ℕ
  pub read_writable : (octets : List ℕ) → Small octets → number octets ≡ 0 → Writable (value octets)
  pub read_shaped : (octets : List ℕ) → Small octets → number octets ≡ 0 → Shaped (value octets)
  pub read_written : (octets : List ℕ) → Small octets → number octets ≡ 0 → written (value octets) ≡ standard octets
  pub written_number : (v : Value) → Shaped v → Writable v → number (written v) ≡ 0
  pub written_value : (v : Value) → Shaped v → Writable v → value (written v) ≡ v
  pub written_small : (v : Value) → Shaped v → Small (written v)

module _ (L : Layout) where
  -- what the reader gives, and the number, the answer and the output of the writer
  abbrev pub read_by : List ℕ → Result Value Refusal
  read_by octets = reading_for (L.number octets) (L.value octets)

  abbrev pub number_by : Value → ℕ → ℕ
  number_by v room = or_else (value_number v) (room_number (L.written v) room)

  abbrev pub answer_for : Value → ℕ → Answer
  answer_for v room = answer_by (number_by v room) (length (L.written v)) 0

  abbrev pub out_for : Value → ℕ → List ℕ
  out_for v room = out_by (number_by v room) (L.written v) room

  -- the reader gives this value; some octets give it
  abbrev pub Gives : List ℕ → Value → Type 0
  Gives octets v = read_by octets ≡ Ok v

  abbrev pub Given : Value → Type 0
  Given v = (octets : List ℕ) × Small octets × Gives octets v

  -- the writer takes the value, given the room
  abbrev pub Accepted : Value → Type 0
  Accepted v = number_by v (length (L.written v)) ≡ 0

  written_gives : (v : Value) → Shaped v → Writable v → Gives (L.written v) v
  written_gives v s w = sym (reading_done (L.number (L.written v)) (L.value (L.written v)) (L.written_number v s w)) ∙ ap Ok (L.written_value v s w)

  -- data of number 0 gives its value, and what is given is the value of data of number 0
  pub number_gives : (octets : List ℕ) → L.number octets ≡ 0 → Gives octets (L.value octets)
  number_gives octets e = sym (reading_done (L.number octets) (L.value octets) e)

  pub gives : (octets : List ℕ) (v : Value) → Gives octets v → (L.number octets ≡ 0) × (L.value octets ≡ v)
  gives octets v g = reading_given (L.number octets) (L.value octets) v g

  given_writable : (v : Value) → Given v → Writable v × Shaped v
  given_writable v (octets, small, g) = let e = gives octets v g in rw (← e.1) (L.read_writable octets small e.0, L.read_shaped octets small e.0)

  -- Theorem: what was read, written with room enough, is the standard form of the data with zeros after it
  pub write_read : (octets : List ℕ) (v : Value) (room : ℕ) → Small octets → Gives octets v → length (L.standard octets) ≤ room
      → (answer_for v room ≡ answering (length (L.standard octets)) 0)
      × (out_for v room ≡ L.standard octets ++ blank (room - length (L.standard octets)))
  write_read octets v room s g l =
      let e = gives octets v g in
      let d : L.written v ≡ L.standard octets = ap L.written (sym e.1) ∙ L.read_written octets s e.0 in
      let n = write_done v (L.written v) room (given_writable v (octets, s, g)).0 (rw d l) in
      (rw (← d) (sym (done_answer _ n (length (L.written v)) 0)), rw (← d) (sym (done_out _ n (L.written v) room)))

  -- Theorem: an accepted value, written and read again, is itself
  pub read_write : (v : Value) (room : ℕ) → Shaped v → number_by v room ≡ 0 → Gives (take (answer_for v room).count (out_for v room)) v
  read_write v room s e =
      let w = (write_fits v (L.written v) room e).0 in
      rw (← done_answer _ e (length (L.written v)) 0, ← done_out _ e (L.written v) room, take-append_seam (L.written v) (blank (room - length (L.written v))))
      (written_gives v s w)

  -- Theorem: an accepted value with less room than it takes is 7, and nothing is written
  pub write_short : (v : Value) (room : ℕ) → Accepted v → room < length (L.written v) → (answer_for v room ≡ refusal 7) × (out_for v room ≡ blank room)
  write_short v room e l =
      let n = write_room v (L.written v) room (write_fits v (L.written v) (length (L.written v)) e).0 l in
      (sym (refused_answer 7 _ (sym n) (not_nought 6) (length (L.written v)) 0), sym (refused_out 7 _ (sym n) (not_nought 6) (L.written v) room))

  -- Theorem: the writer accepts just the values that the reader can give
  pub write_accepts : (v : Value) → Shaped v → Given v ↔ Accepted v
  write_accepts v s =
      (λ g. write_done v (L.written v) (length (L.written v)) (given_writable v g).0 (omega arith), λ a. (L.written v, L.written_small v s, written_gives v s (write_fits v (L.written v) (length (L.written v)) a).0))

  -- Theorem: the standard form of data that can be read is its own standard form
  pub standard_again : (octets : List ℕ) → Small octets → L.number octets ≡ 0 → L.standard (L.standard octets) ≡ L.standard octets
  standard_again octets small e =
      let v = L.value octets in
      let s = L.read_shaped octets small e in
      let w = L.read_writable octets small e in
      let d = L.read_written octets small e in
      ap L.standard (sym d) ∙ sym (L.read_written (L.written v) (L.written_small v s) (L.written_number v s w)) ∙ ap L.written (L.written_value v s w) ∙ d

-- ---- two layouts of the same values
module _ (K L : Layout) where
  -- Theorem: what one can give, so can the other
  pub given_other : (v : Value) → Given K v → Given L v
  given_other v g = let w = given_writable K v g in (L.written v, L.written_small v w.1, written_gives L v w.1 w.0)

  -- Theorem: the way round: read in the one, written in the other with room enough, it is read there as the same value; and that, written in the first, is its
  -- standard form
  pub way_round : (octets : List ℕ) (v : Value) (between room : ℕ) → Small octets → Gives K octets v → length (L.written v) ≤ between → length (K.standard octets) ≤ room
      → ((answer_for L v between).number ≡ 0)
      × Gives L (take (answer_for L v between).count (out_for L v between)) v
      × (answer_for K v room ≡ answering (length (K.standard octets)) 0)
      × (out_for K v room ≡ K.standard octets ++ blank (room - length (K.standard octets)))
  way_round octets v between room small g l m =
      let w = given_writable K v (octets, small, g) in
      let n = write_done v (L.written v) between w.0 l in
      let k = write_read K octets v room small g m in
      (ap (λ (a : Answer). a.number) (sym (done_answer _ n (length (L.written v)) 0)), read_write L v between w.1 n, k.0, k.1)
