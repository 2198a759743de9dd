-- `text::inside::give` meets its contract: too long a text is refused, any other copied over zeros.
use lib.ListN.{length}
use native.Mathlib.Omega.{arith}
use Rattle.text.proofs.AnswerLaws.{give_long, give_fits}
use Rattle.text.proofs.inside.give.Goals as goal

pub returns-then-out-n : goal.returns-then-out-n
returns-then-out-n c =
    let a = c.args in
    let g = give_long a.text.now _ (length a.out.now) (omega arith) c.clear.ensures in record { value = g.0; out_after = g.1 }

pub returns : goal.returns
returns c =
    let a = c.args in
    let g = give_fits a.text.now _ (length a.out.now) (omega arith) (rw (c.copy_from_slice.ensures.after, c.clear.ensures)) in record { value = g.0; out_after = g.1 }
