-- `a6::inside::check_value` meets its contract: each test is one law of the values that a writer takes.
use mathlib.Core.Path.{sym}
use Rattle.a6.specs.Parts.{lent_value}
use Rattle.a6.proofs.AcceptedLaws.{value_prefix, lent_name, lent_filled, lent_clear, lent_done}
use Rattle.a6.proofs.inside.check_value.Goals as goal

pub returns-then-value-gt-LONGEST : goal.returns-then-value-gt-LONGEST
returns-then-value-gt-LONGEST c = sym (value_prefix (lent_value c.args.value) c.if-value-gt-LONGEST.true)

pub returns-then-not-name_fits : goal.returns-then-not-name_fits
returns-then-not-name_fits c =
    lent_name (lent_value c.args.value) _ c.name.ensures c.if-value-gt-LONGEST.false _ c.name_fits.ensures c.if-not-name_fits.true

pub returns-then-not-is_blank : goal.returns-then-not-is_blank
returns-then-not-is_blank c =
    lent_filled (lent_value c.args.value) _ c.name.ensures c.if-value-gt-LONGEST.false _ c.name_fits.ensures c.if-not-name_fits.false _ c.wide.ensures.0 _ c.is_blank.ensures c.if-not-is_blank.true

pub returns-then-not-is_clear : goal.returns-then-not-is_clear
returns-then-not-is_clear c =
    lent_clear (lent_value c.args.value) _ c.name.ensures c.if-value-gt-LONGEST.false _ c.name_fits.ensures c.if-not-name_fits.false _ c.wide.ensures.0 _ c.is_blank.ensures c.if-not-is_blank.false _ c.is_clear.ensures c.if-not-is_clear.true

pub returns : goal.returns
returns c =
    lent_done (lent_value c.args.value) _ c.name.ensures c.if-value-gt-LONGEST.false _ c.name_fits.ensures c.if-not-name_fits.false _ c.wide.ensures.0 _ c.is_blank.ensures c.if-not-is_blank.false _ c.is_clear.ensures c.if-not-is_clear.false
