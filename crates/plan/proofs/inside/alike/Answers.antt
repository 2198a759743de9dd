-- `plan::inside::alike` meets its contract: eight octets at a time.
use native.Mathlib.Omega.{arith}
use mathlib.Core.Path.{◌≡◌, ◌∙◌, sym}
use lib.ListN.{length}
use borrow.Author.Rules.{rules}
use Rattle.octets.specs.Octets.{Small}
use Rattle.plan.specs.Layout.{slot_size}
use Rattle.plan.specs.Marks.{pair_at}
use Rattle.plan.proofs.AlikeLaws.{alike_off, alike_on}
use Rattle.plan.proofs.inside.alike.Goals.{Else-pair, Else-pair-2, Else-pair-3, Else-pair-4}
use Rattle.plan.proofs.inside.alike.Goals as goal

same_1 : (c : Else-pair) → pair_at c.args.a.now 0 ≡ pair_at c.args.b.now 0
same_1 c = sym c.pair.ensures ∙ c.if-pair.false ∙ c.pair-2.ensures

same_2 : (c : Else-pair-2) → pair_at c.args.a.now 8 ≡ pair_at c.args.b.now 8
same_2 c = sym c.pair-3.ensures ∙ c.if-pair-2.false ∙ c.pair-4.ensures

same_3 : (c : Else-pair-3) → pair_at c.args.a.now 16 ≡ pair_at c.args.b.now 16
same_3 c = sym c.pair-5.ensures ∙ c.if-pair-3.false ∙ c.pair-6.ensures

same_4 : (c : Else-pair-4) → pair_at c.args.a.now 24 ≡ pair_at c.args.b.now 24
same_4 c = sym c.pair-7.ensures ∙ c.if-pair-4.false ∙ c.pair-8.ensures

pub returns-then-pair : goal.returns-then-pair
returns-then-pair c = sym (alike_off _ _ 0 _ _ (omega arith) c.pair.ensures c.pair-2.ensures c.if-pair.true)

pub returns-then-pair-2 : goal.returns-then-pair-2
returns-then-pair-2 c = sym (alike_off _ _ 8 _ _ (omega arith) c.pair-3.ensures c.pair-4.ensures c.if-pair-2.true)

pub returns-then-pair-3 : goal.returns-then-pair-3
returns-then-pair-3 c = sym (alike_off _ _ 16 _ _ (omega arith) c.pair-5.ensures c.pair-6.ensures c.if-pair-3.true)

pub returns-then-pair-4 : goal.returns-then-pair-4
returns-then-pair-4 c = sym (alike_off _ _ 24 _ _ (omega arith) c.pair-7.ensures c.pair-8.ensures c.if-pair-4.true)

pub returns : goal.returns
returns c =
    let else_pair = (goal.at.returns c).Else-pair in
    let else_pair_2 = (goal.at.returns c).Else-pair-2 in
    let else_pair_3 = (goal.at.returns c).Else-pair-3 in
    let else_pair_4 = (goal.at.returns c).Else-pair-4 in
    let a = c.args.a.now in
    let b = c.args.b.now in
    let k : length a ≡ slot_size = search rules in
    let l : length b ≡ slot_size = search rules in
    let m : Small a = λ i. search rules in
    let n : Small b = λ i. search rules in
    sym (alike_on a b k l m n (same_1 else_pair) (same_2 else_pair_2) (same_3 else_pair_3) (same_4 else_pair_4))
