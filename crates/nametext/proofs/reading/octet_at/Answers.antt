-- `nametext::reading::octet_at` meets its contract: one law for each return.
use mathlib.Core.Path.{sym, ◌∙◌}
use lib.ListN.{length}
use native.Mathlib.Omega.{arith}
use borrow.Author.Tests.{eqb-false}
use Rattle.nametext.proofs.PlaceLaws.{three_all, ends_no_escape, ends_no_plain, stands_plain, stands_escape}
use Rattle.nametext.proofs.reading.octet_at.Goals as goal

pub returns-then-not-is_escape : goal.returns-then-not-is_escape
returns-then-not-is_escape c = λ h. ends_no_escape c.args.rest.now h c.if-x-eq92.true (sym c.is_escape.ensures.0 ∙ c.if-not-is_escape.true)

pub returns-then-x-eq92 : goal.returns-then-x-eq92
returns-then-x-eq92 c =
    let d = three_all _ _ _ (sym c.is_escape.ensures.0 ∙ c.if-not-is_escape.false) in
    let x = c.digit_value.ensures in
    let y = c.digit_value-then-x-eq92.ensures in
    let z = c.digit_value-then-x-eq92-2.ensures in
    stands_escape c.args.rest.now (omega arith) _ _ _ c.if-x-eq92.true d.0 d.1 d.2 (c.is_escape.ensures.1 c.if-not-is_escape.false) x.0 y.0 z.0 x.1 y.1 z.1

pub returns-then-not-is_plain : goal.returns-then-not-is_plain
returns-then-not-is_plain c = λ h. ends_no_plain c.args.rest.now h c.if-x-eq92.false (sym c.is_plain.ensures ∙ c.if-not-is_plain.true)

pub returns : goal.returns
returns c =
    let n = eqb-false (length c.args.rest.now) 0 (sym c.is_empty.ensures ∙ c.if-is_empty.false) in
    stands_plain c.args.rest.now (omega (arith, n)) _ c.from.ensures (omega (arith, (c.type_inv.rest 0).fits)) (sym c.is_plain.ensures ∙ c.if-not-is_plain.false)
