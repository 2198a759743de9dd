-- `draft::read` meets its contract: what the tests say, and the value where they find its parts.
use mathlib.Core.Path.{◌≡◌, ap, ◌∙◌}
use borrow.Author.Rules.{rules}
use Rattle.std.specs.Prelude.{Ok, Err}
use Rattle.draft.specs.Read.{draft_number, draft_value}
use Rattle.a6.proofs.EndingLaws.{told_done, told_refused}
use Rattle.draft.proofs.read.Goals as goal

pub returns-in_err-found : goal.returns-in_err-found
returns-in_err-found c =
    let r : c.from_residual.result ≡ Err c.in_err-found.field-0.0 = search rules in r ∙ told_refused (draft_number c.args.rdata.now) (draft_value c.args.rdata.now) _ c.in_err-found.ensures

pub returns : goal.returns
returns c = ap Ok c.value.ensures ∙ told_done (draft_number c.args.rdata.now) (draft_value c.args.rdata.now) c.in_ok-found.found c.in_ok-found.ensures
