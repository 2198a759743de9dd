-- The walk of rewrites from the reverse name of an address (01, Reverse names).
use Rattle.std.specs.Prelude.{ℕ, zero, suc, ◌+◌, true, false, List, [], ◌∷◌, ltb}
use Rattle.bits.specs.Bits.{unpack}
use Rattle.names.specs.Standard.{Unit, label, before}
use Rattle.rewriting.specs.Rewrite.{below_of, rewrite_of, too_large}

-- the name that a walk starts from: one bit label with the 128 bits of the address, then the labels IP6 and ARPA
abbrev pub ip6 : List ℕ
ip6 = 73 ∷ 80 ∷ 54 ∷ []

abbrev pub arpa : List ℕ
arpa = 65 ∷ 82 ∷ 80 ∷ 65 ∷ []

unfoldable pub start_of : List ℕ → List Unit
start_of address = before (unpack 128 address) (label ip6 ∷ label arpa ∷ [])

-- a DNAME record as a rule: the units of its owner and those of its target
pub record Rule : Type 0 where
  pub owner : List Unit
  pub target : List Unit

-- the rewrite that is due: none, or how many units it keeps and the target
pub data Due : Type 0 where
  none : Due
  due : ℕ → List Unit → Due

-- of two rewrites the one whose rule has more units in its owner, so fewer below it; `best` is the one found before
unfoldable pub better : Due → ℕ → List Unit → Due
better best zero target = best
better none (suc k) target = due (suc k) target
better (due j t) (suc k) target = elim (ltb (suc k) j) [ true ↦ due (suc k) target | false ↦ due j t ]

-- the rewrite that is due by a list of rules: the best of them, found one after the other
unfoldable pub due_from : Due → List Rule → List Unit → Due
due_from best [] name = best
due_from best (r ∷ rs) name = due_from (better best (below_of r.owner name) r.target) rs name

unfoldable pub due_of : List Rule → List Unit → Due
due_of rules name = due_from none rules name

-- where a walk ends: at a refusal by its number, or at a name after so many rewrites
pub data End : Type 0 where
  refused : ℕ → End
  ended : List Unit → ℕ → End

-- on to a rewritten name, unless it is too large
unfoldable pub onward : (List Unit → End) → List Unit → End
onward go next = elim (too_large next) [ true ↦ refused 8 | false ↦ go next ]

-- the walk, with `limit` rewrites left and `done` rewrites behind it: it ends where none is due; 6 for one that is due with none left, before 8 is judged
unfoldable pub walk_of : ℕ → ℕ → List Rule → List Unit → End
walk_of zero done rules name = elim (due_of rules name) [ none ↦ ended name done | due k t ↦ refused 6 ]
walk_of (suc limit) done rules name = elim (due_of rules name) [
  | none ↦ ended name done
  | due k t ↦ onward (walk_of limit (done + 1) rules) (rewrite_of k name t)
]
