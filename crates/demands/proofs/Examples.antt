-- 01's starred examples (Examples to check) and two of lifetimes (T-01), one table and one statement about it, by computation.
use Prim.Native.Nat.{ℕ, ◌*◌, ◌/◌, ◌%◌}
use mathlib.Core.Path.{◌≡◌, refl}
use mathlib.Core.List.{List, [], ◌∷◌, ◌++◌, map}
use lib.ListN.{replicate}
use Rattle.octets.specs.Octets.{blank, same_by, flat}
use Rattle.std.specs.Prelude.{Result, Ok, Err}
use Rattle.octets.specs.declared.Answer.{Answer}
use Rattle.octets.specs.declared.Refusal.{Refusal}
use Rattle.octets.specs.Refusals.{code_of}
use Rattle.address.specs.Address.{bit_at}
use Rattle.address.specs.Order.{order_of}
use Rattle.names.specs.Name.{name_of}
use Rattle.names.proofs.Samples.{ha, pa, qa, xa}
use Rattle.chains.specs.Chain.{last_length, spelt_bit, spelt}
use Rattle.chains.specs.Listing.{free, extend, paths, chains_from, chains_of, work_of}
use Rattle.chains.specs.Addresses.{insert, gather, addresses_of}
use Rattle.chains.specs.Lifetimes.{least_ttl, lifetime_in, lifetime_of}
use Rattle.a6.specs.Read.{read_of}
use Rattle.a6.proofs.Computing.{data_compute}
use Rattle.a6.specs.Write.{write_answer, write_out}
use Rattle.a6.specs.declared.Value.{Value}
use Rattle.plan.specs.Layout.{record_size, address_size, slot_size, a6, slot_of, record_of}
use Rattle.plan.specs.Graph.{owns_a6}
use Rattle.forward.specs.Lookup.{lookup_number, lookup_answer, lookup_out, lookup_ttls}
use Rattle.search.specs.Answers.{number_of}
use Rattle.collapse.proofs.Computing.{collapses_compute}
use Rattle.collapse.specs.Collapse.{collapse_answer, collapse_out}
use Rattle.a6plan.specs.Exports.{value_size, value_octets}

-- ---- a case: an input, and the number, the figures, the output and the lifetimes that 01 and T-01 give for it
-- a lookup has a table, a name, a limit and room for so many addresses; a collapse a table, a name and an output of so many octets; a reading has A6 data; a writing has
-- a value and an output of so many octets
pub data Input : Type 0 where
  lookup : List ℕ → List ℕ → ℕ → ℕ → Input
  collapse : List ℕ → List ℕ → ℕ → Input
  read : List ℕ → Input
  write : Value → ℕ → Input

-- a reading has no figures, and its output is the value that it gives; only a lookup has lifetimes
pub record Case : Type 0 where
  pub input : Input
  pub number : ℕ
  pub figures : List ℕ
  pub output : List ℕ
  pub ttls : List ℕ

row : Input → ℕ → List ℕ → List ℕ → Case
row input number figures output = record { input = input; number = number; figures = figures; output = output; ttls = [] }

lasting : Input → ℕ → List ℕ → List ℕ → List ℕ → Case
lasting input number figures output ttls = record { input = input; number = number; figures = figures; output = output; ttls = ttls }

pub record Outcome : Type 0 where
  pub number : ℕ
  pub figures : List ℕ
  pub output : List ℕ
  pub ttls : List ℕ

pub expected : Case → Outcome
expected c = record { number = c.number; figures = c.figures; output = c.output; ttls = c.ttls }

-- an answer and its output
answered : Answer → List ℕ → Outcome
answered a out = record { number = a.number; figures = a.count ∷ a.work ∷ []; output = out; ttls = [] }

found : Answer → List ℕ → List ℕ → Outcome
found a out ttls = record { number = a.number; figures = a.count ∷ a.work ∷ []; output = out; ttls = ttls }

-- what is read: a value as octets, or a refusal and zeros
told : Result Value Refusal → Outcome
told (Ok v) = record { number = 0; figures = []; output = value_octets v; ttls = [] }
told (Err e) = record { number = code_of e; figures = []; output = blank value_size; ttls = [] }

-- what the public functions answer and write, by their definitions (Demand1)
outcome : Input → Outcome
unfolding answered found told
outcome (lookup table name limit room) =
    let size = room * address_size in
    found (lookup_answer table name limit size room) (lookup_out table name limit size room) (lookup_ttls table name limit size room)
outcome (collapse table name size) = answered (collapse_answer table name size) (collapse_out table name size)
outcome (read octets) = told (read_of octets)
outcome (write value size) = answered (write_answer value size) (write_out value size)

pub given : Case → Outcome
unfolding outcome
given c = outcome c.input

-- ---- addresses by their eight groups
ip : ℕ → ℕ → ℕ → ℕ → ℕ → ℕ → ℕ → ℕ → List ℕ
ip a b c d e f g h = octets a ++ octets b ++ octets c ++ octets d ++ octets e ++ octets f ++ octets g ++ octets h
  where
    octets : ℕ → List ℕ
    octets k = k / 256 ∷ k % 256 ∷ []

-- ---- records: the owner, the prefix length, the address, the target of an unfinished one, and the TTL
toward : List ℕ → ℕ → List ℕ → List ℕ → ℕ → List ℕ
unfolding record_of slot_of
toward owner l address target ttl = record_of a6 l address (slot_of owner) (slot_of target) ttl

finished : List ℕ → List ℕ → ℕ → List ℕ
unfolding record_of slot_of blank
finished owner address ttl = record_of a6 0 address (slot_of owner) (blank slot_size) ttl

-- h.a → A6 64 ::7 p.a, and p.a → A6 0 2001:db8:0:5::
plain : List ℕ
unfolding flat toward finished ip
plain = flat (toward ha 64 (ip 0 0 0 0 0 0 0 7) pa 300 ∷ finished pa (ip 0x2001 0xdb8 0 5 0 0 0 0) 600 ∷ [])

-- h.a → A6 0 2001:db8:0:5::7, and p.a as it was
folded : List ℕ
unfolding flat finished ip
folded = flat (finished ha (ip 0x2001 0xdb8 0 5 0 0 0 7) 300 ∷ finished pa (ip 0x2001 0xdb8 0 5 0 0 0 0) 600 ∷ [])

-- x.a → A6 48 ::1 x.a, and x.a → A6 0 2001:db8::
loop : List ℕ
unfolding flat toward finished ip
loop = flat (toward xa 48 (ip 0 0 0 0 0 0 0 1) xa 60 ∷ finished xa (ip 0x2001 0xdb8 0 0 0 0 0 0) 600 ∷ [])

-- h.a → A6 48 :: p.a; p.a → A6 64 ::1 q.a and p.a → A6 0 2001:db8::; q.a → A6 0 2001:db8:1::
ignored : List ℕ
unfolding flat toward finished ip
ignored =
    flat
    (toward ha 48 (ip 0 0 0 0 0 0 0 0) pa 300
    ∷ toward pa 64 (ip 0 0 0 0 0 0 0 1) qa 0
    ∷ finished pa (ip 0x2001 0xdb8 0 0 0 0 0 0) 200
    ∷ finished qa (ip 0x2001 0xdb8 1 0 0 0 0 0) 0
    ∷ [])

-- h.a → A6 64 ::7 p.a and h.a → A6 64 ::7 q.a; p.a → A6 0 2001:db8:0:5:: and q.a → A6 0 2001:db8:0:5::, of four TTLs
twice : List ℕ
unfolding flat toward finished ip
twice =
    flat
    (toward ha 64 (ip 0 0 0 0 0 0 0 7) pa 900
    ∷ toward ha 64 (ip 0 0 0 0 0 0 0 7) qa 800
    ∷ finished pa (ip 0x2001 0xdb8 0 5 0 0 0 0) 200
    ∷ finished qa (ip 0x2001 0xdb8 0 5 0 0 0 0) 400
    ∷ [])

-- h.a → A6 64 ::7 p.a; p.a → A6 64 ::9 h.a, with the smaller TTL, and p.a → A6 0 2001:db8:0:5::
back : List ℕ
unfolding flat toward finished ip
back =
    flat
    (toward ha 64 (ip 0 0 0 0 0 0 0 7) pa 300 ∷ toward pa 64 (ip 0 0 0 0 0 0 0 9) ha 1 ∷ finished pa (ip 0x2001 0xdb8 0 5 0 0 0 0) 600 ∷ [])

-- ---- A6 data: n octets with every bit set, and a value by its prefix length, address and name
ones : ℕ → List ℕ
ones n = replicate n 255

value : ℕ → List ℕ → List ℕ → Value
unfolding name_of
value l address name = record { prefix = l; address = address; name = name_of name }

-- ---- the table
pub cases : List Case
unfolding row lasting plain folded loop ignored twice back ip ones value blank value_octets
cases =
    -- 0: 16 octets of suffix
    row (read (0 ∷ ones 16)) 0 [] (value_octets (value 0 (ones 16) []))
    ∷ row (write (value 0 (ones 16) []) 32) 0 (17 ∷ 0 ∷ []) (0 ∷ ones 16 ++ blank 15)
    -- 7: 16, and 7 bits of padding
    ∷ row (read (7 ∷ ones 16 ++ pa)) 0 [] (value_octets (value 7 (1 ∷ ones 15) pa))
    ∷ row (write (value 7 (1 ∷ ones 15) pa) 32) 0 (22 ∷ 0 ∷ []) (7 ∷ 1 ∷ ones 15 ++ pa ++ blank 10)
    -- 8: 15
    ∷ row (read (8 ∷ ones 15 ++ pa)) 0 [] (value_octets (value 8 (0 ∷ ones 15) pa))
    ∷ row (write (value 8 (0 ∷ ones 15) pa) 32) 0 (21 ∷ 0 ∷ []) (8 ∷ ones 15 ++ pa ++ blank 11)
    -- 121: 1
    ∷ row (read (121 ∷ ones 1 ++ pa)) 0 [] (value_octets (value 121 (blank 15 ++ 127 ∷ []) pa))
    ∷ row (write (value 121 (blank 15 ++ 127 ∷ []) pa) 32) 0 (7 ∷ 0 ∷ []) (121 ∷ 127 ∷ pa ++ blank 25)
    -- 128: none
    ∷ row (read (128 ∷ pa)) 0 [] (value_octets (value 128 (blank 16) pa))
    ∷ row (write (value 128 (blank 16) pa) 32) 0 (6 ∷ 0 ∷ []) (128 ∷ pa ++ blank 26)
    -- 129: 10
    ∷ row (read (129 ∷ pa)) 10 [] (blank value_size)
    ∷ row (write (value 129 (blank 16) pa) 32) 10 (0 ∷ 0 ∷ []) (blank 32)
    -- h.a: one address, work 2; and its collapse
    ∷ lasting (lookup plain ha 10 2) 0 (1 ∷ 2 ∷ []) (ip 0x2001 0xdb8 0 5 0 0 0 7 ++ blank address_size) (300 ∷ 0 ∷ [])
    ∷ row (collapse plain ha (3 * record_size)) 0 (2 ∷ 0 ∷ []) (folded ++ blank record_size)
    -- the loop: two addresses, work 3; limit 2; room 1; both
    ∷ lasting (lookup loop xa 3 3) 0 (2 ∷ 3 ∷ []) (ip 0x2001 0xdb8 0 0 0 0 0 0 ++ ip 0x2001 0xdb8 0 0 0 0 0 1 ++ blank address_size) (600 ∷ 60 ∷ 0 ∷ [])
    ∷ lasting (lookup loop xa 2 3) 6 (0 ∷ 0 ∷ []) (blank (3 * address_size)) (blank 3)
    ∷ lasting (lookup loop xa 3 1) 7 (0 ∷ 0 ∷ []) (blank address_size) (blank 1)
    ∷ lasting (lookup loop xa 2 1) 6 (0 ∷ 0 ∷ []) (blank address_size) (blank 1)
    -- the 64 that h.a ignores: one address, work 2; and the collapse of p.a
    ∷ lasting (lookup ignored ha 10 2) 0 (1 ∷ 2 ∷ []) (ip 0x2001 0xdb8 0 0 0 0 0 0 ++ blank address_size) (200 ∷ 0 ∷ [])
    ∷ row (collapse ignored pa (5 * record_size)) 9 (0 ∷ 0 ∷ []) (blank (5 * record_size))
    -- two chains spell one address: the least TTL of the four records
    ∷ lasting (lookup twice ha 10 2) 0 (1 ∷ 4 ∷ []) (ip 0x2001 0xdb8 0 5 0 0 0 7 ++ blank address_size) (200 ∷ 0 ∷ [])
    -- a record that lies only on chains that repeat another: its TTL does not count
    ∷ lasting (lookup back ha 10 2) 0 (1 ∷ 3 ∷ []) (ip 0x2001 0xdb8 0 5 0 0 0 7 ++ blank address_size) (300 ∷ 0 ∷ [])
    ∷ []

-- of each case the definitions give just what is expected
pub all : map given cases ≡ map expected cases
unfolding given expected cases data_compute collapses_compute lookup_number number_of owns_a6 chains_of chains_from paths extend free work_of addresses_of gather insert order_of last_length spelt spelt_bit bit_at lifetime_of lifetime_in least_ttl same_by flat
all = refl
