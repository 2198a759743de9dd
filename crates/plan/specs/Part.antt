-- The part of a lent table that a record's owner takes (01, The plan table).
use Rattle.std.specs.Prelude.{ℕ, ◌+◌, ◌*◌, ◌≡◌, true, false, ◌&&◌, List, ltb, eqb, length, take, drop}
use Rattle.std.specs.Borrow.{Bor}
use Rattle.plan.specs.Layout.{record_size, owner_place, count_of, owner_at}
use Rattle.plan.specs.Check.{check_of}
use Rattle.plan.specs.declared.Part.{Part}

-- `part` is the part `p` of the lent octets `whole`: its contents, and its place in memory
pub record IsPart (whole part : Bor (List ℕ)) (p : Part) : Type 0 where
  pub contents : part.now ≡ take p.length (drop p.offset whole.now)
  pub block : part.ref_ptr.0 ≡ whole.ref_ptr.0
  pub place : part.ref_ptr.1 ≡ p.offset + whole.ref_ptr.1

-- where the owner of the record at an index stands: after the length octet of its slot
unfoldable pub owner_within : List ℕ → ℕ → Part
owner_within t i = record { offset = i * record_size + (owner_place + 1); length = length (owner_at t i) }

-- the part of no octets
abbrev pub empty_part : Part
empty_part = record { offset = 0; length = 0 }

-- what is shown: the owner at an index of a table in order; else the empty part
unfoldable pub owner_part : List ℕ → ℕ → Part
owner_part t i = elim (eqb (check_of t) 0 && ltb i (count_of t)) [ true ↦ owner_within t i | false ↦ empty_part ]
