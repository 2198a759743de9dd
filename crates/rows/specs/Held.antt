-- What is kept, as the code holds it. The code's own: nothing that a reader must believe.
use Rattle.std.specs.Prelude.{ℕ, ◌≡◌, false, List}
use Rattle.rows.specs.declared.inside.Rows.{Rows}
use Rattle.rows.specs.Rows.{Kept}

-- a hint says nothing of what is kept
abbrev pub kept : Rows → Kept
kept r = record { out = r.out.now; lives = r.lives.now; count = r.count; full = r.full }

-- before the first address
abbrev pub none_yet : List ℕ → List ℕ → Kept
none_yet out lives = record { out = out; lives = lives; count = 0; full = false }

-- the rows r' write where r does
abbrev pub Lent : Rows → Rows → Type 0
Lent r r' = (r'.out.ghost_name ≡ r.out.ghost_name) × (r'.lives.ghost_name ≡ r.lives.ghost_name)
