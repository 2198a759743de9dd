-- `a6::read` meets its contract: what the tests say, and the value where they find its parts.
use mathlib.Core.Path.{◌≡◌, ap, ◌∙◌}
use borrow.Author.Rules.{rules}
use Rattle.std.specs.Prelude.{Ok, Err}
use Rattle.a6.specs.Read.{read_number, value_of}
use Rattle.a6.proofs.EndingLaws.{told_done, told_refused}
use Rattle.a6.proofs.read.Goals as goal

pub returns-in_err-found : goal.returns-in_err-found
returns-in_err-found c =
    let r : c.from_residual.result ≡ Err c.in_err-found.field-0.0 = search rules in r ∙ told_refused (read_number c.args.rdata.now) (value_of c.args.rdata.now) _ c.in_err-found.ensures

pub returns : goal.returns
returns c = ap Ok c.value.ensures ∙ told_done (read_number c.args.rdata.now) (value_of c.args.rdata.now) c.in_ok-found.found c.in_ok-found.ensures
