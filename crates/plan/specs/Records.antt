-- The type of a record: by its index, and by its name (01, The plan table).
use Rattle.std.specs.Prelude.{ℕ, List}
use Rattle.plan.specs.Layout.{a6, dname, type_of, record_at}
use Rattle.plan.specs.declared.inside.Kind.{Kind}
use Rattle.plan.specs.declared.inside.Kind.TheVariants.{A6, Dname}

-- the type of the record at an index
abbrev pub type_at : List ℕ → ℕ → ℕ
type_at t i = type_of (record_at t i)

-- the number of a type
abbrev pub kind_number : Kind → ℕ
kind_number A6 = a6
kind_number Dname = dname
