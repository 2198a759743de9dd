-- `rows::inside::Rows::keep` meets its contract: the row that the hint leads to is the address, or the address is sought.
use Rattle.std.proofs.Common.{sym, ◌∙◌}
use Rattle.rows.specs.Halves.{whole}
use Rattle.rows.specs.Held.{kept}
use Rattle.rows.proofs.HalvesLaws.{address_length}
use Rattle.rows.proofs.RowsLaws.{met_there, keep_at_lem}
use Rattle.rows.proofs.KeepingLaws.{keep_met}
use Rattle.rows.proofs.inside.Rows.keep.Goals as goal

pub returns-then-is_at-clause-after : goal.returns-then-is_at-clause-after
returns-then-is_at-clause-after c =
    let a = c.args in
    let m = a.self.now in
    let v = whole a.address in
    let h = met_there v a.ttl (kept m) _ (sym c.if-is_at.ensures) in
    (λ i. record { out = m.out.now; lives = c.lower.ensures i; count = m.count; full = m.full })
    ∙ keep_met v a.ttl (kept m) (address_length a.address.high a.address.low) c.requires.0 c.requires.1 _ h.0 h.1

pub returns-clause-after : goal.returns-clause-after
returns-clause-after c =
    let a = c.args in
    c.keep_at.ensures.after ∙ keep_at_lem (whole a.address) a.ttl (kept a.self.now) c.place-k.result c.requires.1 c.place-k.ensures.0
