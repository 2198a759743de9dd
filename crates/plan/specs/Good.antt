-- What a record with no field at fault is like, said field by field (01, The plan table; T-01). The code's own: nothing that a reader must believe.
use Rattle.std.specs.Prelude.{ℕ, ◌≤◌, ◌≡◌, true, false, List, ◌⊎◌}
use Rattle.octets.specs.Octets.{blank}
use Rattle.names.specs.Standard.{in_standard_form}
use Rattle.address.specs.Address.{clear_to}
use Rattle.chains.specs.Graph.{max_ttl}
use Rattle.plan.specs.Layout.{slot_size, a6, dname, type_of, prefix_of, zero_of, address_of, owner_slot, target_slot, ttl_of, name_in, slot_of}
use Rattle.plan.specs.Check.{targetless}

-- the slot holds a name in standard form, and zeros after it
pub record Holds (s : List ℕ) : Type 0 where
  pub name : in_standard_form (name_in s) ≡ true
  pub whole : s ≡ slot_of (name_in s)

-- each field of the record is as the layout says; a record that leads to no name has an empty target slot
pub record Good (r : List ℕ) : Type 0 where
  pub kind : (type_of r ≡ a6) ⊎ (type_of r ≡ dname)
  pub prefix : prefix_of r ≤ 128
  pub nought : zero_of r ≡ 0
  pub clear : clear_to (prefix_of r) (address_of r) ≡ true
  pub owner : Holds (owner_slot r)
  pub bare : type_of r ≡ dname → (prefix_of r ≡ 0) × (clear_to 128 (address_of r) ≡ true)
  pub target : targetless r ≡ false → Holds (target_slot r)
  pub none : targetless r ≡ true → target_slot r ≡ blank slot_size
  pub lived : ttl_of r ≤ max_ttl
