-- `collapse::collapse` meets its contract: a refusal leaves zeros.
use mathlib.Core.Path.{ap, sym, ◌∙◌}
use lib.ListN.{length}
use Rattle.octets.specs.Octets.{blank}
use Rattle.collapse.proofs.CollapseLaws.{refused_clears}
use Rattle.collapse.proofs.collapse.Goals as goal

pub returns-then-is_err-clause-output : goal.returns-then-is_err-clause-output
returns-then-is_err-clause-output c =
    c.clear.ensures ∙ ap blank c.fill-outcome.auto.out
    ∙ refused_clears c.args.table.now c.args.name.now (length c.args.out.now) c.fill-outcome.result (sym c.is_err.ensures.value ∙ c.if-is_err.true) c.fill-outcome.ensures.reply
