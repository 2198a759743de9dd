-- Tables checked, by computation.
use Prim.Native.Nat.{ℕ, ◌+◌, ◌-◌, ◌*◌}
use mathlib.Core.Path.{◌≡◌, refl}
use mathlib.Core.Bool.{true, false}
use mathlib.Core.List.{List, [], ◌∷◌, ◌++◌, map}
use lib.ListN.{take, drop, set, replicate}
use Rattle.octets.specs.Octets.{blank, flat}
use Rattle.names.proofs.Samples.{ha, pa, HA, PA}
use Rattle.plan.specs.Layout.{record_size, slot_size, address_size, ttl_place, a6, dname, ttl_of, slot_of, record_of}
use Rattle.plan.specs.Check.{fault_of, check_of}
use Rattle.plan.specs.Faults.{fault_in}
use Rattle.plan.specs.declared.Fault.{Fault}
use Rattle.plan.specs.Marks.{mark_of, alike_of}
use Rattle.plan.specs.Graph.{owns_a6}
use Rattle.plan.specs.Part.{owner_part}
use Rattle.plan.proofs.Computing.{tables_compute}

-- names: the root, two bit labels side by side, and a name that is cut off
root : List ℕ
root = 0 ∷ []

adjacent : List ℕ
adjacent = 65 ∷ 8 ∷ 1 ∷ 65 ∷ 8 ∷ 2 ∷ 0 ∷ []

short : List ℕ
short = 1 ∷ 104 ∷ []

-- addresses: ::, ::7 and 2001:db8:0:5::
zeros : List ℕ
unfolding blank
zeros = blank address_size

seven : List ℕ
unfolding blank
seven = blank 15 ++ (7 ∷ [])

five : List ℕ
unfolding blank
five = 32 ∷ 1 ∷ 13 ∷ 184 ∷ 0 ∷ 0 ∷ 0 ∷ 5 ∷ blank 8

none : List ℕ
unfolding blank
none = blank slot_size

-- the length octet says one more than the name has, or what follows the name is not zero
loose : List ℕ
unfolding blank
loose = 6 ∷ ha ++ blank 250

filled : List ℕ
unfolding blank
filled = 5 ∷ ha ++ (blank 249 ++ (1 ∷ []))

-- a record whose TTL is an hour
made : ℕ → ℕ → List ℕ → List ℕ → List ℕ → List ℕ
unfolding record_of
made type prefix address owner target = record_of type prefix address owner target 3600

h64 : List ℕ
unfolding made slot_of seven
h64 = made a6 64 seven (slot_of ha) (slot_of pa)

p0 : List ℕ
unfolding made slot_of five none
p0 = made a6 0 five (slot_of pa) none

alias : List ℕ → List ℕ → List ℕ
unfolding made slot_of zeros
alias owner target = made dname 0 zeros (slot_of owner) (slot_of target)

-- no fault
faults_none : map fault_of (
    h64 ∷ p0 ∷ alias ha pa ∷ alias root root ∷ made a6 128 zeros (slot_of ha) (slot_of root) ∷ [])
    ≡ 7 ∷ 7 ∷ 7 ∷ 7 ∷ 7 ∷ []
unfolding tables_compute h64 p0 alias made root zeros
faults_none = refl

faults_type : map fault_of (made 40 0 five (slot_of pa) none ∷ made 12 0 zeros (slot_of pa) (slot_of ha) ∷ set h64 0 1 ∷ blank record_size ∷ []) ≡ 0 ∷ 0 ∷ 0 ∷ 0 ∷ []
unfolding tables_compute h64 made five zeros none
faults_type = refl

faults_prefix : map fault_of (made a6 129 zeros (slot_of ha) (slot_of pa) ∷ made dname 1 zeros (slot_of ha) (slot_of pa) ∷ []) ≡ 1 ∷ 1 ∷ []
unfolding tables_compute made zeros
faults_prefix = refl

faults_zero : map fault_of (set h64 3 1 ∷ set (alias ha pa) 3 128 ∷ []) ≡ 2 ∷ 2 ∷ []
unfolding tables_compute h64 alias
faults_zero = refl

-- bits among the first L, and any bit for DNAME; the bit just after the first L is free
faults_address : map fault_of (
    made a6 128 seven (slot_of ha) (slot_of pa) ∷ made a6 126 seven (slot_of ha) (slot_of pa) ∷ made a6 125 seven (slot_of ha) (slot_of pa)
    ∷ made a6 3 five (slot_of ha) (slot_of pa) ∷ made a6 2 five (slot_of ha) (slot_of pa) ∷ made dname 0 seven (slot_of ha) (slot_of pa) ∷ [])
    ≡ 3 ∷ 3 ∷ 7 ∷ 3 ∷ 7 ∷ 3 ∷ []
unfolding tables_compute made seven five
faults_address = refl

faults_owner : map fault_of (
    made a6 0 five none none ∷ made a6 0 five (slot_of adjacent) none ∷ made a6 0 five (slot_of short) none
    ∷ made a6 0 five loose none ∷ made a6 0 five filled none ∷ made dname 0 zeros filled (slot_of pa) ∷ [])
    ≡ 4 ∷ 4 ∷ 4 ∷ 4 ∷ 4 ∷ 4 ∷ []
unfolding tables_compute made adjacent short loose filled zeros five none
faults_owner = refl

-- the root is a target, and no target is not the root
faults_target : map fault_of (
    made a6 0 five (slot_of ha) (slot_of root) ∷ made a6 0 five (slot_of ha) (slot_of pa) ∷ made a6 64 seven (slot_of ha) none
    ∷ made dname 0 zeros (slot_of ha) none ∷ made a6 64 seven (slot_of ha) filled ∷ made a6 64 seven (slot_of ha) (slot_of adjacent)
    ∷ made a6 64 seven (slot_of ha) (slot_of root) ∷ [])
    ≡ 5 ∷ 5 ∷ 5 ∷ 5 ∷ 5 ∷ 5 ∷ 7 ∷ []
unfolding tables_compute made root adjacent filled zeros five seven none
faults_target = refl

-- the greatest TTL is free of fault, the next one and the greatest that four octets write are not; a fault before it comes first
faults_ttl : map fault_of (
    record_of a6 0 five (slot_of pa) none 0 ∷ record_of a6 0 five (slot_of pa) none 2147483647 ∷ record_of a6 0 five (slot_of pa) none 2147483648
    ∷ record_of a6 0 five (slot_of pa) none 4294967295 ∷ record_of dname 0 zeros (slot_of ha) (slot_of pa) 2147483648 ∷ record_of a6 0 five (slot_of pa) (slot_of pa) 2147483648 ∷ [])
    ≡ 7 ∷ 7 ∷ 6 ∷ 6 ∷ 6 ∷ 5 ∷ []
unfolding tables_compute zeros five none
faults_ttl = refl

-- the high octet of a TTL stands first
ttl_order : ttl_of (set p0 ttl_place 1) ∷ ttl_of p0 ∷ ttl_of (set p0 (record_size - 1) 17) ∷ [] ≡ 16780816 ∷ 3600 ∷ 3601 ∷ []
unfolding tables_compute p0
ttl_order = refl

good : List ℕ
unfolding flat h64 p0 alias
good = flat (h64 ∷ p0 ∷ p0 ∷ alias pa ha ∷ alias ha ha ∷ [])

-- no records, some, a length that is no multiple, a fault before and after two DNAMEs with one owner, those two alone, in two spellings too (T-03); bits that look like letters, and octets beside letters, are apart
checks : map check_of (
    [] ∷ good ∷ drop 1 good ∷ (good ++ (0 ∷ [])) ∷ take (record_size - 1) good ∷ flat (alias ha pa ∷ h64 ∷ alias ha ha ∷ set p0 3 1 ∷ [])
    ∷ flat (set p0 3 1 ∷ alias ha pa ∷ alias ha ha ∷ []) ∷ flat (alias ha pa ∷ h64 ∷ alias ha ha ∷ []) ∷ flat (alias pa pa ∷ alias ha pa ∷ alias pa pa ∷ [])
    ∷ flat (alias HA pa ∷ h64 ∷ alias ha ha ∷ []) ∷ flat (alias HA pa ∷ h64 ∷ alias pa ha ∷ [])
    ∷ flat (alias (65 ∷ 8 ∷ 65 ∷ 1 ∷ 97 ∷ 0 ∷ []) pa ∷ alias (65 ∷ 8 ∷ 97 ∷ 1 ∷ 97 ∷ 0 ∷ []) ha ∷ [])
    ∷ flat (alias (1 ∷ 91 ∷ 0 ∷ []) pa ∷ alias (1 ∷ 123 ∷ 0 ∷ []) ha ∷ []) ∷ [])
    ≡ 0 ∷ 0 ∷ 1 ∷ 1 ∷ 1 ∷ 2 ∷ 2 ∷ 3 ∷ 3 ∷ 3 ∷ 0 ∷ 0 ∷ 0 ∷ []
unfolding tables_compute good h64 p0 alias
checks = refl

-- the place of a table's fault (T-04): none in order or by its length; the first of two records at fault, and the first of its fields that are; 2 before
-- 3; the second DNAME of three with one owner, past one of another; the repeat that comes first, though the other one's twin stands earlier
place : ℕ → ℕ → Fault
place i f = record { index = i; field = f }

places : map fault_in (
    [] ∷ good ∷ drop 1 good ∷ flat (h64 ∷ p0 ∷ set (set p0 3 1) 2 129 ∷ set p0 0 9 ∷ []) ∷ flat (alias ha pa ∷ alias ha ha ∷ set p0 3 1 ∷ [])
    ∷ flat (alias ha pa ∷ alias pa pa ∷ alias HA ha ∷ alias ha ha ∷ []) ∷ flat (alias pa pa ∷ alias ha pa ∷ h64 ∷ alias ha ha ∷ alias pa ha ∷ []) ∷ [])
    ≡ place 0 0 ∷ place 0 0 ∷ place 0 0 ∷ place 2 1 ∷ place 2 2 ∷ place 2 4 ∷ place 3 4 ∷ []
unfolding tables_compute place good h64 p0 alias
places = refl

-- a name owns its A6 records in any spelling, and no others (T-03)
owns : owns_a6 good 0 ha ∷ owns_a6 good 0 HA ∷ owns_a6 good 1 PA ∷ owns_a6 good 1 HA ∷ owns_a6 good 4 HA ∷ [] ≡ true ∷ true ∷ true ∷ false ∷ false ∷ []
unfolding tables_compute good h64 p0 alias
owns = refl

-- the owner part: of each kind of record, past the last record, and of a table that earns 3
parts : owner_part good 0 ∷ owner_part good 3 ∷ owner_part good 5 ∷ owner_part (flat (alias ha pa ∷ alias ha ha ∷ [])) 0 ∷ []
    ≡ record { offset = 21; length = 5 } ∷ record { offset = 3 * record_size + 21; length = 5 } ∷ record { offset = 0; length = 0 } ∷ record { offset = 0; length = 0 } ∷ []
unfolding tables_compute good h64 p0 alias
parts = refl

-- a label of forty octets that ends in x, so that two such names differ past the first 32 octets of their slots
long : ℕ → List ℕ
long x = 40 ∷ replicate 39 97 ++ (x ∷ 0 ∷ [])

-- marks of slots, the same for h.a in either case; and slots that are alike: the same short name is, a long one is not even with itself
marks : map mark_of (slot_of root ∷ slot_of ha ∷ slot_of HA ∷ slot_of pa ∷ slot_of (long 1) ∷ slot_of (long 2) ∷ []) ≡ 52373 ∷ 27802 ∷ 27802 ∷ 50246 ∷ 823 ∷ 603 ∷ []
unfolding mark_of slot_of root long blank
marks = refl

alikes : alike_of (slot_of ha) (slot_of ha) ∷ alike_of (slot_of ha) (slot_of pa) ∷ alike_of (slot_of (long 1)) (slot_of (long 2)) ∷ alike_of (slot_of (long 1)) (slot_of (long 1)) ∷ []
    ≡ true ∷ false ∷ false ∷ false ∷ []
unfolding alike_of slot_of long blank
alikes = refl
