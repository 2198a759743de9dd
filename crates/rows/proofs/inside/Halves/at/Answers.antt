-- `rows::inside::Halves::at` meets its contract: the two halves of a row.
use Rattle.std.proofs.Common.{◌∙◌, arith}
use Rattle.rows.specs.Halves.{address_of}
use Rattle.rows.proofs.HalvesLaws.{halves}
use Rattle.rows.proofs.inside.Halves.at.Goals as goal

pub returns : goal.returns
returns c =
    let a = c.args in
    (λ i. address_of (c.half.ensures i) (c.half-2.ensures i)) ∙ halves a.out.now a.at (omega arith) (λ i. (c.type_inv.out i).fits)
