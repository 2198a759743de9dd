-- The fields of an A6 record as one value, and the record that is made of them (01, The plan table; T-06).
use Rattle.std.specs.Prelude.{ℕ, ◌≤◌, ◌≡◌, Bool, true, ◌&&◌, List, [], ◌∷◌, eqb, length}
use Rattle.octets.specs.Octets.{Small}
use Rattle.names.specs.Standard.{in_standard_form}
use Rattle.names.specs.Name.{name_of}
use Rattle.names.specs.declared.Name.{Name}
use Rattle.address.specs.Address.{clear_to}
use Rattle.chains.specs.Graph.{max_ttl}
use Rattle.plan.specs.Layout.{record_size, address_size, a6, prefix_of, address_of, ttl_of, is_a6, owner_of, target_of, record_of}
use Rattle.plan.specs.Check.{check_of}
use Rattle.plan.specs.declared.inside.Fields.{Fields}

-- exactly one A6 record in order (T-06): the table of this record alone is in order
unfoldable pub one_a6 : List ℕ → Bool
one_a6 r = eqb (check_of r) 0 && (eqb (length r) record_size && is_a6 r)

-- the fields of a record's octets; a target that is not there is no name
unfoldable pub fields_of : List ℕ → Fields
fields_of r = record { prefix = prefix_of r; address = address_of r; owner = name_of (owner_of r); target = name_of (target_of r); ttl = ttl_of r }

-- the slot of a name that is held by value
unfoldable pub slot_for : Name → List ℕ
slot_for n = n.length ∷ n.octets

-- the A6 record of these fields
unfoldable pub a6_record : Fields → List ℕ
a6_record f = record_of a6 f.prefix f.address (slot_for f.owner) (slot_for f.target) f.ttl

-- The rest is the code's own: nothing that a reader must believe.
-- the value holds a name in standard form
pub record HoldsName (n : Name) : Type 0 where
  pub name : List ℕ
  pub formed : in_standard_form name ≡ true
  pub small : Small name
  pub held : n ≡ name_of name

-- the fields are those of an A6 record in order
pub record SoundFields (f : Fields) : Type 0 where
  pub prefix : f.prefix ≤ 128
  pub size : length f.address ≡ address_size
  pub small : Small f.address
  pub clear : clear_to f.prefix f.address ≡ true
  pub owner : HoldsName f.owner
  pub target : (f.prefix ≡ 0 → ⊥) → HoldsName f.target
  pub none : f.prefix ≡ 0 → f.target ≡ name_of []
  pub lived : f.ttl ≤ max_ttl
