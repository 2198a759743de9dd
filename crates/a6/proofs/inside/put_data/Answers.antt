-- `a6::inside::put_data` meets its contract: the parts come one after the other, where there is room for all.
use Prim.Native.Nat.{max}
use mathlib.Core.Path.{◌≡◌, ap, ◌∙◌}
use lib.ListN.{length}
use native.Mathlib.Omega.{arith}
use borrow.Author.Rules.{rules}
use Rattle.std.proofs.lemmas.Slice.{between_to_end}
use Rattle.a6.specs.Parts.{lent_value}
use Rattle.a6.proofs.AcceptedLaws.{data_short, data_answer, data_out}
use Rattle.a6.proofs.inside.put_data.Goals as goal

pub returns-then-out-size-clause-value : goal.returns-then-out-size-clause-value
returns-then-out-size-clause-value c =
    let v = lent_value c.args.value in
    let long : length c.args.value.address.now ≡ 16 = search rules in
    (data_short v c.args.before c.max-after.result c.name-name.result.now long c.requires.1 c.requires.0 (c.max-after.ensures ∙ ap (max c.args.before) c.wide.ensures.0) c.name-name.ensures c.args.out.now c.requires.2 c.if-out-size.true).0

pub returns-then-out-size-clause-out_after : goal.returns-then-out-size-clause-out_after
returns-then-out-size-clause-out_after c =
    let v = lent_value c.args.value in
    let long : length c.args.value.address.now ≡ 16 = search rules in
    (data_short v c.args.before c.max-after.result c.name-name.result.now long c.requires.1 c.requires.0 (c.max-after.ensures ∙ ap (max c.args.before) c.wide.ensures.0) c.name-name.ensures c.args.out.now c.requires.2 c.if-out-size.true).1

pub returns-clause-value : goal.returns-clause-value
returns-clause-value c =
    let v = lent_value c.args.value in
    let long : length c.args.value.address.now ≡ 16 = search rules in
    data_answer v c.args.before c.max-after.result c.name-name.result.now long c.requires.1 c.requires.0 (c.max-after.ensures ∙ ap (max c.args.before) c.wide.ensures.0) c.name-name.ensures c.args.out.now c.requires.2 c.if-out-size.false

pub returns-clause-out_after : goal.returns-clause-out_after
returns-clause-out_after c =
    let v = lent_value c.args.value in
    let long : length c.args.value.address.now ≡ 16 = search rules in
    data_out v c.args.before c.max-after.result c.name-name.result.now long c.requires.1 c.requires.0 (c.max-after.ensures ∙ ap (max c.args.before) c.wide.ensures.0) c.name-name.ensures c.args.out.now c.requires.2 c.if-out-size.false
    _ _ _ _ _ c.copy_whole.ensures (c.copy_whole-2.ensures ∙ between_to_end v.address c.max-after.result _ (omega (arith, long))) c.copy_whole-3.ensures (omega arith) (omega arith)
