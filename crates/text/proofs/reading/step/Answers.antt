-- `text::reading::step` meets its contract.
use mathlib.Core.Path.{sym}
use native.Mathlib.Omega.{arith}
use Rattle.text.proofs.ReadLaws.{step_empty, step_colon, step_other, step_long, step_digit}
use Rattle.text.proofs.reading.step.Goals.{then-digits-eq4-via-then-digits-eq4, then-digits-eq4-via-else-digits-eq4+then-hexadecimal-eq16}
use Rattle.text.proofs.reading.step.Goals as goal

pub returns-then-digits-eq0 : goal.returns-then-digits-eq0
returns-then-digits-eq0 c = let a = c.args in sym (step_empty a.t a.c (omega arith) (omega arith))

pub returns-then-c-eq58 : goal.returns-then-c-eq58
returns-then-c-eq58 c = let a = c.args in sym (step_colon a.t a.c (omega arith) (omega arith))

pub returns-then-digits-eq4 : goal.returns-then-digits-eq4
returns-then-digits-eq4 c =
    let a = c.args in
    elim c.then-digits-eq4.branch [
      | then-digits-eq4-via-then-digits-eq4 w ↦ sym (step_long a.t a.c (omega arith) (omega arith))
      | then-digits-eq4-via-else-digits-eq4+then-hexadecimal-eq16 w ↦ sym (step_other a.t a.c (omega arith) (omega (arith, w.hexadecimal.ensures.0)))
    ]

pub returns : goal.returns
returns c = let a = c.args in let h = c.hexadecimal.ensures in sym (step_digit a.t a.c (omega arith) (omega (arith, h.0, h.1)) (omega arith))
