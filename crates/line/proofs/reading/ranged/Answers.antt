-- `line::reading::ranged` meets its contract.
use mathlib.Core.Path.{refl, ap, sym, ◌∙◌}
use lib.Dec.{ltb}
use native.Mathlib.Omega.{arith}
use borrow.Author.Tests.{lt-ltb, le-ltb}
use Rattle.octets.specs.Answers.{earns}
use Rattle.octets.specs.declared.Refusal.TheVariants.{Form, Range}
use Rattle.line.specs.Walked.{value_by}
use Rattle.line.proofs.ValueLaws.{value_done, value_refused}
use Rattle.line.proofs.reading.ranged.Goals as goal

pub returns-then-not-found : goal.returns-then-not-found
returns-then-not-found c =
    let d = c.args.found in
    value_refused 20 d.value Form refl ∙ ap (λ b. value_by (earns b 20 (earns (ltb c.args.bound d.value) 21 0)) d.value) (sym c.if-not-found.true)

pub returns-then-from-found : goal.returns-then-from-found
returns-then-from-found c =
    let d = c.args.found in
    let l = lt-ltb c.args.bound d.value (omega (arith, c.from.ensures, c.if-from-found.true)) in
    value_refused 21 d.value Range refl ∙ (λ i. value_by (earns (sym c.if-not-found.false i) 20 (earns (sym l i) 21 0)) d.value)

pub returns : goal.returns
returns c =
    let d = c.args.found in
    let l = le-ltb c.args.bound d.value (omega (arith, c.from.ensures, c.if-from-found.false)) in
    value_done 0 d.value refl ∙ (λ i. value_by (earns (sym c.if-not-found.false i) 20 (earns (sym l i) 21 0)) d.value)
