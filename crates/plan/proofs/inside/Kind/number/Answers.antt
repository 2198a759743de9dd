-- `plan::inside::Kind::number` meets its contract: the number that the code gives, of each type.
use Prim.Native.Nat.{◌+◌}
use mathlib.Core.Path.{◌≡◌, refl}
use denote.Enum.Declared.{tag_of}
use Rattle.plan.specs.contracts.inside.Kind.{the_type}
use Rattle.plan.specs.declared.inside.Kind.{Kind}
use Rattle.plan.specs.declared.inside.Kind.TheVariants.{A6, Dname}
use Rattle.plan.specs.Records.{kind_number}
use Rattle.plan.proofs.inside.Kind.number.Goals as goal

numbered : (k : Kind) → tag_of the_type k + 38 ≡ kind_number k
numbered A6 = refl
numbered Dname = refl

pub returns : goal.returns
returns c = numbered c.args.self
