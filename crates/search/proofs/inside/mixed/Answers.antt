-- `search::inside::mixed` meets its contract.
use Prim.Native.Nat.{◌^◌}
use native.Mathlib.Nat.{div-mul-le_self}
use native.Mathlib.Omega.{arith}
use lib.Pow.{split}
use Rattle.rows.proofs.HalvesLaws.{mixed_lt}
use Rattle.search.proofs.inside.mixed.Goals as goal

pub overflow_sub-result : goal.overflow_sub-result
overflow_sub-result c = omega (arith, div-mul-le_self c.args.low (2 ^ c.args.k))

pub overflow_add-result : goal.overflow_add-result
overflow_add-result c = omega (arith, mixed_lt c.args.high c.args.low c.args.k (omega arith) (omega arith), div-mul-le_self c.args.high (2 ^ c.args.k), div-mul-le_self c.args.low (2 ^ c.args.k), split c.args.low c.args.k)

pub returns : goal.returns
returns c = omega (arith, div-mul-le_self c.args.high (2 ^ c.args.k), div-mul-le_self c.args.low (2 ^ c.args.k), split c.args.low c.args.k)
