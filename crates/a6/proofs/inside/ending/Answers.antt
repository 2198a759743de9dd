-- `a6::inside::ending` meets its contract: each test is one law of how data ends.
use mathlib.Core.Path.{◌≡◌, ap, sym, ◌∙◌}
use borrow.Author.Rules.{rules}
use Rattle.std.specs.Prelude.{Err}
use Rattle.octets.specs.Refusals.{number_of}
use Rattle.labels.specs.Answers.{standard_by}
use Rattle.a6.proofs.EndingLaws.{ending_refused, ending_more, ending_whole}
use Rattle.a6.proofs.inside.ending.Goals as goal

pub returns-in_err-name-clause-number : goal.returns-in_err-name-clause-number
returns-in_err-name-clause-number c =
    let r : c.from_residual.result ≡ Err c.in_err-name.field-0.0 = search rules in
    ap number_of r ∙ ending_refused c.args.prefix c.args.rest.now c.in_err-name.field-0.0 (sym c.in_err-name.was ∙ c.name_found.ensures)

pub returns-then-name-rest-clause-number : goal.returns-then-name-rest-clause-number
returns-then-name-rest-clause-number c =
    ending_more c.args.prefix c.args.rest.now c.in_ok-name.name (sym c.in_ok-name.was ∙ c.name_found.ensures) c.if-name-rest.true

pub returns-clause-number : goal.returns-clause-number
returns-clause-number c =
    ending_whole c.args.prefix c.args.rest.now c.in_ok-name.name (sym c.in_ok-name.was ∙ c.name_found.ensures) c.if-name-rest.false

pub returns-clause-standard : goal.returns-clause-standard
returns-clause-standard c = ap standard_by (sym c.in_ok-name.was ∙ c.name_found.ensures)
