-- `rows::inside::put_life` meets its contract.
use Rattle.std.proofs.Common.{ℕ, List, set, ap, ◌∙◌, arith}
use Rattle.rows.proofs.RowsLaws.{put_one}
use Rattle.rows.proofs.inside.put_life.Goals as goal

pub returns : goal.returns
returns c =
    let a = c.args in
    ap (λ (o : List ℕ). set o a.k a.ttl) c.copy_within.ensures.after ∙ put_one a.k a.c a.lives.now a.ttl (omega arith) (omega arith)
