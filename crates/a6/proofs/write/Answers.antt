-- `a6::write` meets its contract: no octet of the address before the prefix length.
use mathlib.Core.Path.{◌≡◌, ◌∙◌}
use lib.ListN.{length}
use native.Mathlib.Omega.{arith}
use borrow.Author.Rules.{rules}
use Rattle.a6.proofs.AcceptedLaws.{laid_answer, laid_out, same_answer, same_out}
use Rattle.a6.proofs.WriteLaws.{data_laid}
use Rattle.a6.proofs.write.Goals as goal

pub returns-clause-value : goal.returns-clause-value
returns-clause-value c =
    let v = c.args.value in
    let long : length v.address ≡ 16 = search rules in
    c.lay.ensures.value ∙ same_answer _ _ 0 (length c.args.out.now) c.lent.ensures ∙ laid_answer v 0 _ (data_laid v (omega (arith, long))) _

pub returns-clause-out_after : goal.returns-clause-out_after
returns-clause-out_after c =
    let v = c.args.value in
    let long : length v.address ≡ 16 = search rules in
    c.lay.ensures.out_after ∙ same_out _ _ 0 (length c.args.out.now) c.lent.ensures ∙ laid_out v 0 _ (data_laid v (omega (arith, long))) _
