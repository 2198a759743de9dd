-- Demand 3 (01, Collapse of a name X): one claim about every list of collapses, from any table in order.
use Rattle.std.specs.Prelude.{ℕ, zero, suc, ◌-◌, ◌*◌, ◌/◌, ◌%◌, ◌<◌, ◌≡◌, ◌⊎◌, ◌↔◌, true, false, List, [], ◌∷◌, ◌++◌, length, take}
use Rattle.octets.specs.Octets.{blank, flat}
use Rattle.octets.specs.Answers.{answering}
use Rattle.octets.specs.declared.Answer.{Answer}
use Rattle.labels.specs.Scan.{well_formed}
use Rattle.chains.specs.Chain.{Spells}
use Rattle.plan.specs.Graph.{graph_of}
use Rattle.plan.specs.Layout.{record_size, max_records, count_of}
use Rattle.plan.specs.Check.{InOrder}
use Rattle.collapse.specs.Fold.{fold_of}
use Rattle.collapse.specs.Rule.{Ruled, Reviving}
use Rattle.collapse.specs.Collapse.{collapse_of}

-- one call: any octets as the given name, and an output of any length
pub record Call : Type 0 where
  pub name : List ℕ
  pub size : ℕ

-- what a call gives on the table in hand
unfoldable pub gives : List ℕ → Call → Answer × List ℕ
gives t c = collapse_of t c.name c.size

-- the table in hand after a call that gave o: after 0 the records that it wrote, as many as it answered, without the zeros after them;
-- after a refusal what it was
unfoldable pub after : List ℕ → Answer × List ℕ → List ℕ
after t o = elim o.0.number [ zero ↦ take (o.0.count * record_size) o.1 | suc j ↦ t ]

-- the table in hand after a list of calls
unfoldable pub in_hand : List ℕ → List Call → List ℕ
in_hand t [] = t
in_hand t (c ∷ cs) = in_hand (after t (gives t c)) cs

-- the records that the rule makes of the table t for the name of the call
abbrev pub ruled : List ℕ → Call → List (List ℕ)
ruled t c = fold_of c.name t

-- more records than an output of `size` octets has room for, or than a table may have
abbrev pub Passes : ℕ → List (List ℕ) → Type 0
Passes size rs = (size / record_size < length rs) ⊎ (max_records < length rs)

-- what is claimed of one call on the table t
pub record Answered (t : List ℕ) (c : Call) : Type 0 where
  -- those records are as the rule says, record by record
  pub rule : Ruled c.name t (count_of t) (ruled t c)
  -- a name out of order is refused, then an output out of order
  pub misnamed : well_formed c.name ≡ false → (gives t c).0.number ≡ 4
  pub misshapen : well_formed c.name ≡ true → (c.size % record_size ≡ 0 → ⊥) → (gives t c).0.number ≡ 5
  -- where name and output are in order: refused as reviving exactly when the table is so for the name,
  pub revives : well_formed c.name ≡ true → c.size % record_size ≡ 0 → ((gives t c).0.number ≡ 9) ↔ Reviving c.name t
  -- else refused for want of room exactly when the rule's records pass the room or 1,024,
  pub passes : well_formed c.name ≡ true → c.size % record_size ≡ 0 → (Reviving c.name t → ⊥) →
      ((gives t c).0.number ≡ 7) ↔ Passes c.size (ruled t c)
  -- else accepted, with exactly the rule's records, which are then the table in hand
  pub accepted : well_formed c.name ≡ true → c.size % record_size ≡ 0 → (Reviving c.name t → ⊥) → (Passes c.size (ruled t c) → ⊥) →
      (gives t c ≡ (answering (length (ruled t c)) 0, flat (ruled t c) ++ blank (c.size - length (ruled t c) * record_size)))
      × (after t (gives t c) ≡ flat (ruled t c))

-- what is claimed of a list of calls from the table t on
pub record Holds (t : List ℕ) (calls : List Call) : Type 0 where
  -- each call of the list works on a table in order, and is answered as above
  pub each : (earlier later : List Call) (c : Call) → calls ≡ earlier ++ c ∷ later → InOrder (in_hand t earlier) × Answered (in_hand t earlier) c
  -- the table in hand after the list is in order,
  pub ordered : InOrder (in_hand t calls)
  -- and every name, whatever it owns, has the addresses that it had in the first table
  pub spelt : (name address : List ℕ) → Spells (graph_of (in_hand t calls)) name address ↔ Spells (graph_of t) name address

-- from any table in order, for any list of calls
abbrev pub Demand3 : Type 0
Demand3 = (t : List ℕ) → InOrder t → (calls : List Call) → Holds t calls
