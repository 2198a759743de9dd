-- 01's examples of lookup, with numbers for names, by computation: the answer, the output, the lifetimes, and the state that a search comes to.
use Prim.Native.Nat.{ℕ, ◌+◌, ◌*◌, ◌/◌}
use mathlib.Core.Path.{◌≡◌, refl}
use mathlib.Core.Bool.{Bool, true, false}
use mathlib.Core.List.{List, [], ◌∷◌, ◌++◌, map}
use lib.ListN.{get_or, drop}
use Rattle.octets.specs.declared.Answer.{Answer}
use Rattle.octets.specs.Octets.{blank, same_by, flat}
use Rattle.bits.specs.Bits.{unpack, pack, pack_from, bits_of}
use Rattle.octets.specs.Answers.{answering, refusal, answer_by, out_by}
use Rattle.octets.specs.Numbers.{octets_of}
use Rattle.address.specs.Address.{bits, bit_at, join_of}
use Rattle.address.specs.Order.{order_of}
use Rattle.chains.specs.Lists.{up_to}
use Rattle.chains.specs.Graph.{max_ttl}
use Rattle.chains.specs.Chain.{last_length, spelt_bit, spelt}
use Rattle.chains.specs.Listing.{free, extend, paths, chains_from, chains_of, work_of}
use Rattle.chains.specs.Addresses.{insert, gather, addresses_of}
use Rattle.chains.specs.Spelling.{spell}
use Rattle.chains.specs.Lifetimes.{least_ttl, lifetime_in, lifetime_of}
use Rattle.rows.specs.Halves.{address_of}
use Rattle.rows.specs.Rows.{seek, put_at, lowered, keep_at, keep_in}
use Rattle.search.specs.declared.inside.Fields.{Fields}
use Rattle.search.specs.Search.{Records, records, graph_of, State, visit, run, searched, found_of, written_of, lasting_of}
use Rattle.search.specs.Answers.{number_of}
use Rattle.search.proofs.AnswerLaws.{start}

-- 2001:db8:s:t::m, and the number that its first half is; its last is m
address : ℕ → ℕ → ℕ → List ℕ
unfolding blank
address s t m = 0x20 ∷ 1 ∷ 13 ∷ 184 ∷ 0 ∷ s ∷ 0 ∷ t ∷ (blank 7 ++ (m ∷ []))

site : ℕ → ℕ → ℕ
site s t = 0x20010db800000000 + s * 0x10000 + t

-- records by their owners, targets, prefix lengths, halves of addresses and TTLs
fields : List ℕ → List ℕ → List ℕ → List ℕ → List ℕ → List Fields
fields [] lengths highs lows ttls = []
fields (t ∷ targets) lengths highs lows ttls =
    record { address = record { high = get_or highs 0 0; low = get_or lows 0 0 }; ttl = get_or ttls 0 0; target = t; length = get_or lengths 0 0 }
    ∷ fields targets (drop 1 lengths) (drop 1 highs) (drop 1 lows) (drop 1 ttls)

made : List ℕ → List ℕ → List ℕ → List ℕ → List ℕ → List ℕ → Records
unfolding fields
made owners targets lengths highs lows ttls = records owners (fields targets lengths highs lows ttls)

-- a name asked with a limit and an output, and what comes back: the answer, the output, the lifetimes, and the figures of the search
record Case : Type 0 where
  table : Records
  name : ℕ
  limit : ℕ
  size : ℕ
  answer : Answer
  out : List ℕ
  lives : List ℕ
  left : ℕ
  full : Bool

record Outcome : Type 0 where
  answer : Answer
  out : List ℕ
  lives : List ℕ
  left : ℕ
  full : Bool

given : Case → Outcome
unfolding number_of answer_by out_by lifetime_of lifetime_in least_ttl same_by flat searched run visit keep_in keep_at seek put_at lowered chains_of chains_from paths extend up_to free blank work_of addresses_of gather insert order_of last_length spell join_of spelt spelt_bit bit_at bits unpack pack address_of octets_of
given c =
    let g = graph_of c.table in
    let s : State = searched g (blank g.size) c.name 128 (blank 16) max_ttl (c.limit + 1, start (c.size / 16)) in
    record { answer = found_of g c.name c.limit c.size; out = written_of g c.name c.limit c.size; lives = lasting_of g c.name c.limit c.size; left = s.0; full = s.1.full }

expected : Case → Outcome
expected c = record { answer = c.answer; out = c.out; lives = c.lives; left = c.left; full = c.full }

-- x.a is 4 and its own target
loop : Records
unfolding site made
loop = made (4 ∷ 4 ∷ []) (4 ∷ 0 ∷ []) (48 ∷ 0 ∷ []) (0 ∷ site 0 0 ∷ []) (1 ∷ 0 ∷ []) (60 ∷ 600 ∷ [])

cases : List Case
unfolding address site blank loop made
cases =
    -- h.a is 1 and p.a 2: one carrier
    record {
      table = made (1 ∷ 2 ∷ []) (2 ∷ 0 ∷ []) (64 ∷ 0 ∷ []) (0 ∷ site 0 5 ∷ []) (7 ∷ 0 ∷ []) (300 ∷ 600 ∷ []);
      name = 1;
      limit = 10;
      size = 32;
      answer = answering 1 2;
      out = address 0 5 7 ++ blank 16;
      lives = 300 ∷ 0 ∷ [];
      left = 9;
      full = false;
    }
    -- the loop
    ∷ record {
      table = loop;
      name = 4;
      limit = 3;
      size = 48;
      answer = answering 2 3;
      out = address 0 0 0 ++ address 0 0 1 ++ blank 16;
      lives = 600 ∷ 60 ∷ 0 ∷ [];
      left = 1;
      full = false;
    }
    -- its work passes the limit
    ∷ record { table = loop; name = 4; limit = 2; size = 32; answer = refusal 6; out = blank 32; lives = blank 2; left = 0; full = false }
    -- its addresses pass the room
    ∷ record { table = loop; name = 4; limit = 3; size = 16; answer = refusal 7; out = blank 16; lives = blank 1; left = 1; full = true }
    -- both: 6 comes first
    ∷ record { table = loop; name = 4; limit = 2; size = 16; answer = refusal 6; out = blank 16; lives = blank 1; left = 0; full = true }
    -- h.a is 1, p.a 2, q.a 3: the ignored 64; the last record is no A6 record, and its owner's number is that of no name
    ∷ record {
      table = made (1 ∷ 2 ∷ 2 ∷ 3 ∷ 9 ∷ []) (2 ∷ 3 ∷ 0 ∷ 0 ∷ 0 ∷ []) (48 ∷ 64 ∷ 0 ∷ 0 ∷ 0 ∷ []) (0 ∷ 0 ∷ site 0 0 ∷ site 1 0 ∷ 0 ∷ []) (0 ∷ 1 ∷ 0 ∷ 0 ∷ 0 ∷ []) (300 ∷ 1 ∷ 200 ∷ 1 ∷ 1 ∷ []);
      name = 1;
      limit = 10;
      size = 16;
      answer = answering 1 2;
      out = address 0 0 0;
      lives = 200 ∷ [];
      left = 9;
      full = false;
    }
    -- records that differ in the TTL alone count block, their address stands once, with the lesser
    ∷ record {
      table = made (1 ∷ 1 ∷ []) (0 ∷ 0 ∷ []) (0 ∷ 0 ∷ []) (site 0 0 ∷ site 0 0 ∷ []) (1 ∷ 1 ∷ []) (2147483647 ∷ 2147483646 ∷ []);
      name = 1;
      limit = 2;
      size = 16;
      answer = answering 1 2;
      out = address 0 0 1;
      lives = 2147483646 ∷ [];
      left = 1;
      full = false;
    }
    -- p.a, 2, leads back to h.a: the TTL of that record, on chains that repeat alone, does not count
    ∷ record {
      table = made (1 ∷ 2 ∷ 2 ∷ []) (2 ∷ 1 ∷ 0 ∷ []) (64 ∷ 64 ∷ 0 ∷ []) (0 ∷ 0 ∷ site 0 5 ∷ []) (7 ∷ 9 ∷ 0 ∷ []) (300 ∷ 1 ∷ 600 ∷ []);
      name = 1;
      limit = 3;
      size = 16;
      answer = answering 1 3;
      out = address 0 5 7;
      lives = 300 ∷ [];
      left = 1;
      full = false;
    }
    -- a name that owns nothing: work 0 passes limit 0
    ∷ record { table = loop; name = 5; limit = 0; size = 0; answer = answering 0 0; out = []; lives = []; left = 1; full = false }
    ∷ []

examples_hold : map given cases ≡ map expected cases
unfolding given expected cases pack_from bits_of
examples_hold = refl
