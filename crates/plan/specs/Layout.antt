-- The plan table (01, the section of that name; T-01): its layout, in this place alone.
use Rattle.std.specs.Prelude.{ℕ, ◌+◌, ◌-◌, ◌*◌, ◌/◌, ◌%◌, Bool, List, ◌∷◌, ◌++◌, eqb, length, get_or, take, drop}
use Rattle.octets.specs.Octets.{blank}
use Rattle.octets.specs.Numbers.{value_of, octets_of}

-- the octets of a record, the most records of a table, the octets of an address, those of a slot (a length octet and the most that a name has), and those of a TTL
abbrev pub record_size : ℕ
record_size = 536

abbrev pub max_records : ℕ
max_records = 1024

abbrev pub address_size : ℕ
address_size = 16

abbrev pub name_room : ℕ
name_room = 255

abbrev pub slot_size : ℕ
slot_size = 256

abbrev pub ttl_size : ℕ
ttl_size = 4

-- where the longer fields of a record stand
abbrev pub address_place : ℕ
address_place = 4

abbrev pub owner_place : ℕ
owner_place = 20

abbrev pub target_place : ℕ
target_place = 276

abbrev pub ttl_place : ℕ
ttl_place = 532

-- the types
abbrev pub a6 : ℕ
a6 = 38

abbrev pub dname : ℕ
dname = 39

-- the fields of a record
unfoldable pub type_of : List ℕ → ℕ
type_of r = get_or r 0 0 * 256 + get_or r 1 0

unfoldable pub prefix_of : List ℕ → ℕ
prefix_of r = get_or r 2 0

unfoldable pub zero_of : List ℕ → ℕ
zero_of r = get_or r 3 0

unfoldable pub address_of : List ℕ → List ℕ
address_of r = take address_size (drop address_place r)

unfoldable pub owner_slot : List ℕ → List ℕ
owner_slot r = take slot_size (drop owner_place r)

unfoldable pub target_slot : List ℕ → List ℕ
target_slot r = take slot_size (drop target_place r)

unfoldable pub ttl_of : List ℕ → ℕ
ttl_of r = value_of (take ttl_size (drop ttl_place r))

-- the octets of a slot that its length octet says are the name
unfoldable pub name_in : List ℕ → List ℕ
name_in s = take (get_or s 0 0) (drop 1 s)

-- the slot that holds a name: its length, the name, zeros
unfoldable pub slot_of : List ℕ → List ℕ
slot_of name = length name ∷ (name ++ blank (name_room - length name))

-- a record of the type k
unfoldable pub is_type : ℕ → List ℕ → Bool
is_type k r = eqb (type_of r) k

-- an A6 record
abbrev pub is_a6 : List ℕ → Bool
is_a6 = is_type a6

-- a DNAME record
abbrev pub is_dname : List ℕ → Bool
is_dname = is_type dname

-- the name that owns the record
abbrev pub owner_of : List ℕ → List ℕ
owner_of r = name_in (owner_slot r)

-- the name that the record leads to
abbrev pub target_of : List ℕ → List ℕ
target_of r = name_in (target_slot r)

-- a record made of its fields
unfoldable pub record_of : ℕ → ℕ → List ℕ → List ℕ → List ℕ → ℕ → List ℕ
record_of type prefix address owner target ttl = type / 256 ∷ type % 256 ∷ prefix ∷ 0 ∷ (address ++ owner ++ target ++ octets_of ttl_size ttl)

-- how many records a table has, and the one at an index
unfoldable pub count_of : List ℕ → ℕ
count_of t = length t / record_size

unfoldable pub record_at : List ℕ → ℕ → List ℕ
record_at t i = take record_size (drop (i * record_size) t)

-- the fields of the record at an index
abbrev pub prefix_at : List ℕ → ℕ → ℕ
prefix_at t i = prefix_of (record_at t i)

abbrev pub address_at : List ℕ → ℕ → List ℕ
address_at t i = address_of (record_at t i)

abbrev pub owner_at : List ℕ → ℕ → List ℕ
owner_at t i = owner_of (record_at t i)

abbrev pub target_at : List ℕ → ℕ → List ℕ
target_at t i = target_of (record_at t i)

abbrev pub ttl_at : List ℕ → ℕ → ℕ
ttl_at t i = ttl_of (record_at t i)
