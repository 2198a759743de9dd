-- Collapses by computation: the marked ones of 01 (Examples to check), the edges of each number, TTLs (T-01), and letters in either case (T-03).
use Prim.Native.Nat.{ℕ, ◌+◌, ◌*◌}
use mathlib.Core.Path.{◌≡◌, refl}
use mathlib.Core.List.{List, [], ◌∷◌, ◌++◌, map}
use lib.ListN.{take, drop}
use Rattle.octets.specs.Octets.{blank, flat}
use Rattle.octets.specs.Numbers.{octets_of}
use Rattle.octets.specs.Answers.{answering, refusal}
use Rattle.octets.specs.declared.Answer.{Answer}
use Rattle.names.proofs.Samples.{ha, pa, qa, xa, HA, PA}
use Rattle.plan.specs.Layout.{record_size, slot_size, ttl_size, ttl_place, a6, slot_of, record_of}
use Rattle.collapse.specs.Collapse.{collapse_of}
use Rattle.collapse.proofs.Computing.{collapses_compute}

-- a bit label of sixteen bits, and the same name as two labels of eight
sixteen : List ℕ
sixteen = 65 ∷ 16 ∷ 0x34 ∷ 0x12 ∷ 0 ∷ []

eights : List ℕ
eights = 65 ∷ 8 ∷ 0x12 ∷ 65 ∷ 8 ∷ 0x34 ∷ 0 ∷ []

-- the address 2001:db8:0:n:: with the last octet m, and 2001:db8:n::
subnet : ℕ → ℕ → List ℕ
unfolding blank
subnet n m = 0x20 ∷ 0x01 ∷ 0x0d ∷ 0xb8 ∷ 0 ∷ 0 ∷ 0 ∷ n ∷ blank 7 ++ m ∷ []

site : ℕ → List ℕ
unfolding blank
site n = 0x20 ∷ 0x01 ∷ 0x0d ∷ 0xb8 ∷ 0 ∷ n ∷ blank 10

host : ℕ → List ℕ
unfolding blank
host m = blank 15 ++ m ∷ []

-- an unfinished record and a finished one, with a TTL of an hour
toward : List ℕ → ℕ → List ℕ → List ℕ → List ℕ
unfolding record_of slot_of
toward owner l address target = record_of a6 l address (slot_of owner) (slot_of target) 3600

finished : List ℕ → List ℕ → List ℕ
unfolding record_of slot_of blank
finished owner address = record_of a6 0 address (slot_of owner) (blank slot_size) 3600

-- a record with another TTL
lasting : ℕ → List ℕ → List ℕ
unfolding octets_of
lasting ttl r = take ttl_place r ++ octets_of ttl_size ttl

-- h.a → A6 64 ::7 p.a, and p.a → A6 0 2001:db8:0:5::
plain : List ℕ
unfolding flat toward finished host subnet
plain = flat (toward ha 64 (host 7) pa ∷ finished pa (subnet 5 0) ∷ [])

-- h.a → A6 48 :: p.a; p.a → A6 64 ::1 q.a and A6 0 2001:db8::; q.a → A6 0 2001:db8:1::
ignored : List ℕ
unfolding flat toward finished host site
ignored = flat (toward ha 48 (host 0) pa ∷ toward pa 64 (host 1) qa ∷ finished pa (site 0) ∷ finished qa (site 1) ∷ [])

-- x.a → A6 48 ::1 x.a, and x.a → A6 0 2001:db8::
loop : List ℕ
unfolding flat toward finished host site
loop = flat (toward xa 48 (host 1) xa ∷ finished xa (site 0) ∷ [])

-- a prefix length inside an octet: the sixteen bits → A6 60 ::7 p.a, and p.a → A6 0 2001:db8:0:55::
uneven : List ℕ
unfolding flat toward finished sixteen host subnet
uneven = flat (toward sixteen 60 (host 7) pa ∷ finished pa (subnet 0x55 0) ∷ [])

-- names in letters of either case: h.a → A6 64 ::7 P.A, and p.a → A6 48 0:0:0:5:: q.A; and h.a → A6 48 :: P.A before a longer record of p.a
q_a : List ℕ
q_a = 1 ∷ 113 ∷ 1 ∷ 65 ∷ 0 ∷ []

inner : ℕ → ℕ → List ℕ
unfolding blank
inner n m = blank 7 ++ n ∷ blank 7 ++ m ∷ []

spelt : List ℕ
unfolding flat toward host inner q_a
spelt = flat (toward ha 64 (host 7) PA ∷ toward pa 48 (inner 5 0) q_a ∷ [])

reviving : List ℕ
unfolding flat toward finished host site
reviving = flat (toward ha 48 (host 0) PA ∷ toward pa 64 (host 1) qa ∷ finished pa (site 0) ∷ finished qa (site 1) ∷ [])

-- the first table once more, with TTLs
lived : ℕ → ℕ → List ℕ
unfolding flat lasting toward finished host subnet
lived m n = flat (lasting m (toward ha 64 (host 7) pa) ∷ lasting n (finished pa (subnet 5 0)) ∷ [])

-- what the fold of h.a makes of it: a record of the TTL k
folded : ℕ → ℕ → List ℕ
unfolding flat lasting finished subnet
folded k n = flat (lasting k (finished ha (subnet 5 7)) ∷ lasting n (finished pa (subnet 5 0)) ∷ [])

pub record Case : Type 0 where
  pub table : List ℕ
  pub name : List ℕ
  pub size : ℕ
  pub answer : Answer
  pub output : List ℕ

pub given : Case → Answer × List ℕ
given c = collapse_of c.table c.name c.size

pub expected : Case → Answer × List ℕ
expected c = (c.answer, c.output)

-- a refusal
pub refuses : List ℕ → List ℕ → ℕ → ℕ → Case
unfolding blank
refuses t x size k = record { table = t; name = x; size = size; answer = refusal k; output = blank size }

-- r of the TTL m and q of the TTL n make a record of the TTL k
pub lives : ℕ → ℕ → ℕ → Case
unfolding lived folded
lives m n k = record { table = lived m n; name = ha; size = 2 * record_size; answer = answering 2 0; output = folded k n }

pub cases : List Case
unfolding plain ignored loop uneven sixteen eights spelt reviving q_a inner host subnet site toward finished flat blank lived refuses lives
cases =
    -- the marked two
    record { table = plain; name = ha; size = 3 * record_size; answer = answering 2 0; output = flat (finished ha (subnet 5 7) ∷ finished pa (subnet 5 0) ∷ []) ++ blank record_size }
    ∷ refuses ignored pa (4 * record_size) 9
    -- 7 by the room, 5, 4 before 5, and 2 before 4
    ∷ refuses plain ha record_size 7
    ∷ refuses plain ha (record_size + 1) 5
    ∷ refuses plain (64 ∷ []) (record_size + 1) 4
    ∷ refuses (plain ++ blank record_size) (64 ∷ []) (record_size + 1) 2
    -- nothing to fold: a copy, of a name that owns records and of one that owns none
    ∷ record { table = ignored; name = qa; size = 4 * record_size; answer = answering 4 0; output = ignored }
    ∷ record { table = ignored; name = xa; size = 5 * record_size; answer = answering 4 0; output = ignored ++ blank record_size }
    ∷ record { table = []; name = xa; size = 0; answer = answering 0 0; output = [] }
    -- a longer q is passed over; without a q the record goes
    ∷ record { table = ignored; name = ha; size = 4 * record_size; answer = answering 4 0; output = finished ha (site 0) ++ drop record_size ignored }
    ∷ record { table = take record_size plain; name = ha; size = record_size; answer = answering 0 0; output = blank record_size }
    -- q is from the table before, the record itself among them; a referrer of the same length does not revive
    ∷ record { table = loop; name = xa; size = 3 * record_size; answer = answering 3 0; output = flat (toward xa 48 (host 1) xa ∷ finished xa (0x20 ∷ 0x01 ∷ 0x0d ∷ 0xb8 ∷ blank 11 ++ 1 ∷ []) ∷ finished xa (site 0) ∷ []) }
    ∷ refuses loop xa (2 * record_size) 7
    -- a name in another spelling, and bits that part inside an octet
    ∷ record { table = uneven; name = eights; size = 2 * record_size; answer = answering 2 0; output = flat (finished sixteen (subnet 0x50 7) ∷ finished pa (subnet 0x55 0) ∷ []) }
    -- a name in letters of another case: the owner stays as r has it, and the target as q has it; 9 for a referrer in other letters
    ∷ record { table = spelt; name = HA; size = 2 * record_size; answer = answering 2 0; output = flat (toward ha 48 (inner 5 7) q_a ∷ toward pa 48 (inner 5 0) q_a ∷ []) }
    ∷ refuses reviving pa (4 * record_size) 9
    -- the smaller TTL of the two, whichever has it, and the edges
    ∷ lives 300 86400 300
    ∷ lives 86400 300 300
    ∷ lives 2147483647 2147483647 2147483647
    ∷ lives 2147483647 0 0
    ∷ lives 0 16777216 0
    -- a TTL too large is a fault of the table
    ∷ refuses (lived 300 2147483648) ha (2 * record_size) 2
    ∷ []

pub examples : map given cases ≡ map expected cases
unfolding collapses_compute given expected cases
examples = refl
