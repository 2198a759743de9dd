-- 01's second demand for reverse lookup, said of a call whose input earns none of 1 to 5.
use Rattle.std.specs.Prelude.{ℕ, ◌-◌, ◌≡◌, List, ◌++◌, ◌⊎◌, length}
use Rattle.octets.specs.Octets.{blank}
use Rattle.octets.specs.Answers.{answering, refusal}
use Rattle.octets.specs.declared.Answer.{Answer}
use Rattle.names.specs.Standard.{Unit, encode}
use Rattle.plan.specs.Layout.{name_room}
use Rattle.reverse.specs.Walk.{start_of}
use Rattle.reverse.specs.Relation.{Settles, Exhausts, Outgrows}
use Rattle.reverse.specs.Answers.{rules_of}

-- A reverse lookup of the address answers r and leaves `out`, of 255 octets. The rewriting settles within the limit, or a rewrite is due with none
-- left, or one is due whose result is too large: one of the three holds, and each has an answer of its own, so that each number comes exactly when
-- it is said. Where it settles: the length of the name, the rewrites, and the name with zeros after it; else 6 or 8, and zeros alone.
pub record ReverseIs (t address : List ℕ) (limit : ℕ) (r : Answer) (out : List ℕ) : Type 0 where
  pub ways : ((last : List Unit) × (n : ℕ) × Settles limit (rules_of t) (start_of address) last n) ⊎ (Exhausts limit (rules_of t) (start_of address) ⊎ Outgrows limit (rules_of t) (start_of address))
  pub done : (last : List Unit) (n : ℕ) → Settles limit (rules_of t) (start_of address) last n → (r ≡ answering (length (encode last)) n) × (out ≡ encode last ++ blank (name_room - length (encode last)))
  pub six : Exhausts limit (rules_of t) (start_of address) → (r ≡ refusal 6) × (out ≡ blank name_room)
  pub eight : Outgrows limit (rules_of t) (start_of address) → (r ≡ refusal 8) × (out ≡ blank name_room)
