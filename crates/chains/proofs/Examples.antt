-- 01's examples of lookup, with numbers for names, by computation.
use Prim.Native.Nat.{ℕ}
use mathlib.Core.Path.{◌≡◌, refl}
use mathlib.Core.List.{List, [], ◌∷◌, ◌++◌, map}
use lib.Dec.{eqb}
use lib.ListN.{length, get_or}
use Rattle.octets.specs.Octets.{blank, same_by}
use Rattle.bits.specs.Bits.{unpack, pack, pack_from, bits_of}
use Rattle.address.specs.Address.{bits, bit_at}
use Rattle.address.specs.Order.{order_of}
use Rattle.chains.specs.Lists.{up_to}
use Rattle.chains.specs.Graph.{Graph}
use Rattle.chains.specs.Chain.{last_length, spelt_bit, spelt}
use Rattle.chains.specs.Listing.{free, extend, paths, chains_from, chains_of, work_of}
use Rattle.chains.specs.Addresses.{insert, gather, addresses_of}
use Rattle.chains.specs.Lifetimes.{least_ttl, lifetime_in, lifetime_of}

record A6 : Type 0 where
  owner : ℕ
  len : ℕ
  addr : List ℕ
  target : ℕ
  ttl : ℕ

none : A6
none = record { owner = 0; len = 0; addr = []; target = 0; ttl = 0 }

graph_of : List A6 → Graph ℕ
unfolding none
graph_of rs = record {
  size = length rs;
  owns = λ i x. eqb (get_or rs i none).owner x;
  target = λ i. (get_or rs i none).target;
  len = λ i. (get_or rs i none).len;
  addr = λ i. (get_or rs i none).addr;
  ttl = λ i. (get_or rs i none).ttl;
}

-- 2001:db8:s:t::m, and ::m
address : ℕ → ℕ → ℕ → List ℕ
unfolding blank
address s t m = 0x20 ∷ 1 ∷ 13 ∷ 184 ∷ 0 ∷ s ∷ 0 ∷ t ∷ (blank 7 ++ (m ∷ []))

suffix : ℕ → List ℕ
unfolding blank
suffix m = blank 15 ++ (m ∷ [])

-- a name asked of a table, and what comes back: its chains by position, its addresses with their lifetimes, and the work
record Case : Type 0 where
  table : List A6
  name : ℕ
  chains : List (List ℕ)
  addresses : List (List ℕ)
  lifetimes : List ℕ
  work : ℕ

finished : ℕ → List ℕ → ℕ → A6
finished x a t = record { owner = x; len = 0; addr = a; target = 0; ttl = t }

unfinished : ℕ → ℕ → List ℕ → ℕ → ℕ → A6
unfinished x l a y t = record { owner = x; len = l; addr = a; target = y; ttl = t }

cases : List Case
unfolding address suffix finished unfinished
cases =
    -- h.a is 1 and p.a 2: one carrier
    record {
      table = unfinished 1 64 (suffix 7) 2 300 ∷ finished 2 (address 0 5 0) 600 ∷ [];
      name = 1;
      chains = (0 ∷ []) ∷ (0 ∷ 1 ∷ []) ∷ [];
      addresses = address 0 5 7 ∷ [];
      lifetimes = 300 ∷ [];
      work = 2;
    }
    -- x.a is 4 and its own target: the loop
    ∷ record {
      table = unfinished 4 48 (suffix 1) 4 60 ∷ finished 4 (address 0 0 0) 600 ∷ [];
      name = 4;
      chains = (0 ∷ []) ∷ (0 ∷ 1 ∷ []) ∷ (1 ∷ []) ∷ [];
      addresses = address 0 0 0 ∷ address 0 0 1 ∷ [];
      lifetimes = 600 ∷ 60 ∷ [];
      work = 3;
    }
    -- h.a is 1, p.a 2, q.a 3: the ignored 64
    ∷ record {
      table = unfinished 1 48 (suffix 0) 2 300 ∷ unfinished 2 64 (suffix 1) 3 1 ∷ finished 2 (address 0 0 0) 200 ∷ finished 3 (address 1 0 0) 1 ∷ [];
      name = 1;
      chains = (0 ∷ []) ∷ (0 ∷ 2 ∷ []) ∷ [];
      addresses = address 0 0 0 ∷ [];
      lifetimes = 200 ∷ [];
      work = 2;
    }
    -- a record as long as its referrer is not ignored, and gives no bit; the referrer gives the bit of its own prefix length
    ∷ record {
      table = unfinished 1 120 (suffix 0x80) 2 300 ∷ unfinished 2 120 (suffix 1) 3 0 ∷ finished 3 (address 0 0 0) 600 ∷ [];
      name = 1;
      chains = (0 ∷ []) ∷ (0 ∷ 1 ∷ []) ∷ (0 ∷ 1 ∷ 2 ∷ []) ∷ [];
      addresses = address 0 0 0x80 ∷ [];
      lifetimes = 0 ∷ [];
      work = 3;
    }
    -- records that differ in the TTL alone count apart, their address once, with the lesser
    ∷ record {
      table = finished 1 (address 0 0 1) 2147483647 ∷ finished 1 (address 0 0 1) 2147483646 ∷ [];
      name = 1;
      chains = (0 ∷ []) ∷ (1 ∷ []) ∷ [];
      addresses = address 0 0 1 ∷ [];
      lifetimes = 2147483646 ∷ [];
      work = 2;
    }
    -- two carriers, h.a is 1, p.a 2, q.a 3: two chains spell one address, and the least of all their records counts
    ∷ record {
      table = unfinished 1 64 (suffix 7) 2 900 ∷ unfinished 1 64 (suffix 7) 3 800 ∷ finished 2 (address 0 5 0) 200 ∷ finished 3 (address 0 5 0) 400 ∷ [];
      name = 1;
      chains = (0 ∷ []) ∷ (0 ∷ 2 ∷ []) ∷ (1 ∷ []) ∷ (1 ∷ 3 ∷ []) ∷ [];
      addresses = address 0 5 7 ∷ [];
      lifetimes = 200 ∷ [];
      work = 4;
    }
    -- p.a leads back to h.a: a complete chain over that record uses the first one twice, so its TTL does not count
    ∷ record {
      table = unfinished 1 64 (suffix 7) 2 300 ∷ unfinished 2 64 (suffix 9) 1 1 ∷ finished 2 (address 0 5 0) 600 ∷ [];
      name = 1;
      chains = (0 ∷ []) ∷ (0 ∷ 1 ∷ []) ∷ (0 ∷ 2 ∷ []) ∷ [];
      addresses = address 0 5 7 ∷ [];
      lifetimes = 300 ∷ [];
      work = 3;
    }
    ∷ []

chains_hold : map (λ c. chains_of (graph_of c.table) c.name) cases ≡ map (λ c. c.chains) cases
unfolding cases graph_of chains_of chains_from paths extend up_to free blank
chains_hold = refl

work_holds : map (λ c. work_of (graph_of c.table) c.name) cases ≡ map (λ c. c.work) cases
unfolding cases graph_of work_of chains_of chains_from paths extend up_to free blank
work_holds = refl

addresses_hold : map (λ c. addresses_of (graph_of c.table) c.name) cases ≡ map (λ c. c.addresses) cases
unfolding cases graph_of addresses_of gather insert order_of last_length spelt spelt_bit bit_at bits unpack pack chains_of chains_from paths extend up_to free blank pack_from bits_of
addresses_hold = refl

lifetimes_hold : map (λ c. map (lifetime_of (graph_of c.table) c.name) c.addresses) cases ≡ map (λ c. c.lifetimes) cases
unfolding cases graph_of lifetime_of lifetime_in least_ttl same_by last_length spelt spelt_bit bit_at bits unpack pack chains_of chains_from paths extend up_to free blank pack_from bits_of
lifetimes_hold = refl
