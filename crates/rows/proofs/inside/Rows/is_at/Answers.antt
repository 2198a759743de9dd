-- `rows::inside::Rows::is_at` meets its contract: a row is an address where both halves are the same.
use Rattle.std.proofs.Common.{◌∙◌, arith, lt-ltb}
use Rattle.rows.proofs.HalvesLaws.{whole_tells}
use Rattle.rows.proofs.inside.Rows.is_at.Goals as goal

pub returns-then-k-self : goal.returns-then-k-self
returns-then-k-self c =
    let a = c.args in
    rw (lt-ltb a.k a.self.now.count c.if-k-self.true, ← c.at.ensures) (c.eq.ensures ∙ whole_tells c.at.result a.address (omega arith, omega arith) (omega arith, omega arith))
