-- Laws of what the writers of a whole text answer.
use Prim.Native.Nat.{ℕ, ◌≤◌, ◌<◌}
use mathlib.Core.Path.{◌≡◌, ◌∙◌, sym}
use mathlib.Core.List.{List, ◌++◌}
use lib.ListN.{length, drop}
use borrow.Author.Tests.{lt-ltb, le-ltb}
use Rattle.octets.specs.Octets.{blank}
use Rattle.octets.specs.Answers.{answering, refusal}
use Rattle.octets.proofs.OctetLaws.{drop_blank}
use Rattle.octets.proofs.AnswerLaws.{refused_answer, refused_out, done_answer, done_out, not_nought}
use Rattle.text.specs.Answers.{room_number, text_answer, text_out}

pub number_long : (text : List ℕ) (room : ℕ) → room < length text → room_number text room ≡ 23
unfolding room_number
number_long text room h = rw (room_number, lt-ltb room (length text) h)

pub number_fits : (text : List ℕ) (room : ℕ) → length text ≤ room → room_number text room ≡ 0
unfolding room_number
number_fits text room h = rw (room_number, le-ltb room (length text) h)

-- a text given out
pub give_long : (text out : List ℕ) (room : ℕ) → room < length text → out ≡ blank room → (refusal 23 ≡ text_answer text room) × (out ≡ text_out text room)
give_long text out room k z =
    let e = sym (number_long text room k) in
    (refused_answer 23 _ e (not_nought 22) (length text) 0, z ∙ refused_out 23 _ e (not_nought 22) text room)

pub give_fits : (text out : List ℕ) (room : ℕ) → length text ≤ room → out ≡ text ++ drop (length text) (blank room) → (answering (length text) 0 ≡ text_answer text room) × (out ≡ text_out text room)
give_fits text out room k p =
    let e = number_fits text room k in
    (done_answer (room_number text room) e (length text) 0, p ∙ rw (drop_blank (length text) room) (done_out (room_number text room) e text room))
