-- `a6::inside::put_name` meets its contract: what is left of the data is the name.
use mathlib.Core.Path.{ap, ◌∙◌, sym}
use native.Mathlib.Omega.{arith}
use Rattle.labels.specs.Answers.{standard_by}
use Rattle.names.specs.declared.Name.{Name}
use Rattle.names.specs.Name.{name_of}
use Rattle.a6.proofs.EndingLaws.{found_some, name_none, name_formed, name_standard}
use Rattle.a6.proofs.inside.put_name.Goals as goal

pub returns-then-prefix-eq0 : goal.returns-then-prefix-eq0
unfolding name_of
returns-then-prefix-eq0 c =
    let e = name_none c.args.prefix c.args.name.now c.if-prefix-eq0.true in
    (c.requires.2 ∙ sym (ap (λ (n : Name). n.octets) e), sym (ap (λ (n : Name). n.length) e))

pub put_standard-requires : goal.put_standard-requires
put_standard-requires c = (
  name_formed c.args.prefix c.args.name.now c.requires.0 (λ i. omega (arith, c.type_inv.name i)) c.if-prefix-eq0.false,
  c.requires.1 ∙ ap standard_by (found_some c.args.prefix c.args.name.now c.if-prefix-eq0.false),
  c.requires.2,
)

pub returns : goal.returns
unfolding name_of
returns c =
    let m = c.put_standard.ensures in
    let e = name_standard c.args.prefix c.args.name.now c.requires.0 (λ i. omega (arith, c.type_inv.name i)) c.if-prefix-eq0.false in
    (m.0 ∙ sym (ap (λ (n : Name). n.octets) e), m.1 ∙ sym (ap (λ (n : Name). n.length) e))
