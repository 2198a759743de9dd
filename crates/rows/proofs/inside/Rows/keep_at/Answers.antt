-- `rows::inside::Rows::keep_at` meets its contract, case by case.
use Rattle.std.proofs.Common.{◌+◌, sym, ◌∙◌}
use Rattle.rows.specs.Halves.{whole}
use Rattle.rows.specs.Held.{kept}
use Rattle.rows.proofs.RowsLaws.{met_there, met_not, keep_found, keep_new, keep_over}
use Rattle.rows.proofs.inside.Rows.keep_at.Goals as goal

pub returns-then-is_at-clause-after : goal.returns-then-is_at-clause-after
returns-then-is_at-clause-after c =
    let a = c.args in
    let m = a.self.now in
    let h = met_there (whole a.address) a.ttl (kept m) a.k (sym c.if-is_at.ensures) in
    (λ i. record { out = m.out.now; lives = c.lower.ensures i; count = m.count; full = m.full }) ∙ keep_found (whole a.address) a.ttl (kept m) a.k h.0 h.1

pub returns-then-end-self-clause-after : goal.returns-then-end-self-clause-after
returns-then-end-self-clause-after c =
    let a = c.args in
    let m = a.self.now in
    (λ i. record { out = c.put.ensures i; lives = c.put_life.ensures i; count = m.count + 1; full = c.requires.1 i })
    ∙ keep_new (whole a.address) a.ttl (kept m) a.k (met_not (whole a.address) a.ttl (kept m) a.k (sym c.if-is_at.ensures)) c.if-end-self.true

pub returns-else-end-self-clause-after : goal.returns-else-end-self-clause-after
returns-else-end-self-clause-after c =
    let a = c.args in
    let m = a.self.now in
    keep_over (whole a.address) a.ttl (kept m) a.k (met_not (whole a.address) a.ttl (kept m) a.k (sym c.if-is_at.ensures)) c.if-end-self.false
