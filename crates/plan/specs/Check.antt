-- The check of a table (01, The plan table; What comes back, 1 to 3; T-01; the numbers of the fields: T-04).
use Rattle.std.specs.Prelude.{ℕ, ◌%◌, ◌<◌, ◌≡◌, Bool, true, false, not, ◌&&◌, ◌||◌, List, [], ◌∷◌, leb, ltb, eqb, length, get_or}
use Rattle.octets.specs.Octets.{blank, same}
use Rattle.octets.specs.Answers.{earns, or_else, refusal}
use Rattle.labels.specs.Scan.{well_formed}
use Rattle.octets.specs.declared.Answer.{Answer}
use Rattle.names.specs.Standard.{Same, same_name, in_standard_form}
use Rattle.address.specs.Address.{clear_to}
use Rattle.chains.specs.Graph.{max_ttl}
use Rattle.plan.specs.First.{first, some}
use Rattle.plan.specs.Records.{type_at}
use Rattle.plan.specs.Layout.{record_size, max_records, slot_size, dname, prefix_of, zero_of, address_of, owner_slot, target_slot, ttl_of, name_in, slot_of, is_a6, is_dname, count_of, record_at, owner_at}

-- the slot holds a name in standard form that fills the length, and zeros after it
unfoldable pub slot_good : List ℕ → Bool
slot_good s = in_standard_form (name_in s) && same s (slot_of (name_in s))

-- the slot is all zero: it holds no name. The root, of length 1, is a name.
unfoldable pub slot_empty : List ℕ → Bool
slot_empty s = same s (blank slot_size)

-- the tests of a record's fields, in the order of the layout. Any type but A6 is laid out like DNAME: no prefix, no address, a target.
unfoldable pub type_good : List ℕ → Bool
type_good r = is_a6 r || is_dname r

unfoldable pub prefix_good : List ℕ → Bool
prefix_good r = elim (is_a6 r) [ true ↦ leb (prefix_of r) 128 | false ↦ eqb (prefix_of r) 0 ]

unfoldable pub address_good : List ℕ → Bool
address_good r = elim (is_a6 r) [ true ↦ clear_to (prefix_of r) (address_of r) | false ↦ clear_to 128 (address_of r) ]

-- an A6 record with L = 0 is finished and leads to no name
unfoldable pub targetless : List ℕ → Bool
targetless r = is_a6 r && eqb (prefix_of r) 0

unfoldable pub target_good : List ℕ → Bool
target_good r = elim (targetless r) [ true ↦ slot_empty (target_slot r) | false ↦ slot_good (target_slot r) ]

unfoldable pub ttl_good : List ℕ → Bool
ttl_good r = leb (ttl_of r) max_ttl

-- the fields of a record by number (T-04): 0 type, 1 prefix length, 2 zero octet, 3 address, 4 owner, 5 target, 6 TTL
abbrev pub field_count : ℕ
field_count = 7

abbrev pub owner_field : ℕ
owner_field = 4

-- the tests of a record's fields, by number
unfoldable pub tests_of : List ℕ → List Bool
tests_of r = type_good r ∷ prefix_good r ∷ eqb (zero_of r) 0 ∷ address_good r ∷ slot_good (owner_slot r) ∷ target_good r ∷ ttl_good r ∷ []

-- the field of the record passes its test
unfoldable pub field_good : List ℕ → ℕ → Bool
field_good r f = get_or (tests_of r) f true

-- the first field at fault; the number of fields where none is
unfoldable pub fault_of : List ℕ → ℕ
fault_of r = first (λ f. not (field_good r f)) field_count

-- record i has a field at fault
unfoldable pub faulty : List ℕ → ℕ → Bool
faulty t i = ltb (fault_of (record_at t i)) field_count

-- the first record at fault
unfoldable pub first_fault : List ℕ → ℕ
first_fault t = first (faulty t) (count_of t)

-- record i is a DNAME with the owner of record j; `repeats` asks it of each i below j
unfoldable pub twin : List ℕ → ℕ → ℕ → Bool
twin t j i = is_dname (record_at t i) && same_name (owner_at t i) (owner_at t j)

-- record j is a DNAME whose owner an earlier DNAME has
unfoldable pub repeats : List ℕ → ℕ → Bool
repeats t j = is_dname (record_at t j) && some (twin t j) j

-- the first record that is such a DNAME
unfoldable pub first_repeat : List ℕ → ℕ
first_repeat t = first (repeats t) (count_of t)

-- records i and j, in this order, are DNAMEs with the same owner
pub record Twins (t : List ℕ) (i j : ℕ) : Type 0 where
  pub order : i < j
  pub one : type_at t i ≡ dname
  pub other : type_at t j ≡ dname
  pub owner : Same (owner_at t i) (owner_at t j)

-- 3 as a statement: two DNAMEs have the same owner
pub record Shared (t : List ℕ) : Type 0 where
  pub first : ℕ
  pub second : ℕ
  pub there : second < count_of t
  pub twins : Twins t first second

-- the length is no multiple of a record's, or makes too many records
unfoldable pub missized : List ℕ → Bool
missized t = not (eqb (length t % record_size) 0) || ltb max_records (count_of t)

-- the number that a table earns; 0 for a table in order
unfoldable pub check_of : List ℕ → ℕ
check_of t =
    earns (missized t) 1
    (earns (ltb (first_fault t) (count_of t)) 2
    (earns (ltb (first_repeat t) (count_of t)) 3 0))

-- the check's answer: the number, and neither count nor work
abbrev pub check_answer : List ℕ → Answer
check_answer t = refusal (check_of t)

-- the number that a table and a given name earn together: the table's, then 4 for a malformed name
unfoldable pub entry_number : List ℕ → List ℕ → ℕ
entry_number t name = or_else (check_of t) (earns (not (well_formed name)) 4 0)

-- a table in order (01's term): it earns none of 1, 2 and 3
abbrev pub InOrder : List ℕ → Type 0
InOrder t = check_of t ≡ 0
