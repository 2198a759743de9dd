-- The walk of RFC 2874 section 5.3, and the cases of 01 (Reverse names) that are easily got wrong, by computation.
use Prim.Native.Nat.{ℕ}
use mathlib.Core.Path.{◌≡◌, refl}
use mathlib.Core.List.{List, [], ◌∷◌, ◌++◌, map}
use lib.ListN.{replicate}
use Rattle.names.specs.Standard.{Unit, units_of, encode}
use Rattle.reverse.specs.Walk.{start_of, Rule, End, refused, ended, walk_of}
use Rattle.reverse.proofs.Computing.{walks_compute}

-- a DNAME by its octets
dname : List ℕ → List ℕ → Rule
dname owner target = record { owner = units_of owner; target = units_of target }

-- the end of a walk in octets: a number, the standard form of the last name, the rewrites
record Shown : Type 0 where
  number : ℕ
  name : List ℕ
  rewrites : ℕ

shown : End → Shown
shown (refused n) = record { number = n; name = []; rewrites = 0 }
shown (ended us done) = record { number = 0; name = encode us; rewrites = done }

walked : ℕ → List Rule → List Unit → Shown
unfolding shown
walked limit rules name = shown (walk_of limit 0 rules name)

-- RFC 2874, 5.2
records : List Rule
unfolding dname
records =
    dname (65 ∷ 24 ∷ 35 ∷ 69 ∷ 0 ∷ 3 ∷ 73 ∷ 80 ∷ 54 ∷ 4 ∷ 65 ∷ 82 ∷ 80 ∷ 65 ∷ 0 ∷ []) (3 ∷ 73 ∷ 80 ∷ 54 ∷ 9 ∷ 65 ∷ 76 ∷ 80 ∷ 72 ∷ 65 ∷ 45 ∷ 84 ∷ 76 ∷ 65 ∷ 3 ∷ 79 ∷ 82 ∷ 71 ∷ 0 ∷ [])
    ∷ dname (65 ∷ 24 ∷ 38 ∷ 120 ∷ 0 ∷ 3 ∷ 73 ∷ 80 ∷ 54 ∷ 4 ∷ 65 ∷ 82 ∷ 80 ∷ 65 ∷ 0 ∷ []) (3 ∷ 73 ∷ 80 ∷ 54 ∷ 9 ∷ 66 ∷ 82 ∷ 65 ∷ 86 ∷ 79 ∷ 45 ∷ 84 ∷ 76 ∷ 65 ∷ 3 ∷ 79 ∷ 82 ∷ 71 ∷ 0 ∷ [])
    ∷ dname (65 ∷ 24 ∷ 41 ∷ 171 ∷ 0 ∷ 3 ∷ 73 ∷ 80 ∷ 54 ∷ 4 ∷ 65 ∷ 82 ∷ 80 ∷ 65 ∷ 0 ∷ []) (3 ∷ 73 ∷ 80 ∷ 54 ∷ 11 ∷ 67 ∷ 72 ∷ 65 ∷ 82 ∷ 76 ∷ 73 ∷ 69 ∷ 45 ∷ 84 ∷ 76 ∷ 65 ∷ 2 ∷ 88 ∷ 89 ∷ 0 ∷ [])
    ∷ dname (65 ∷ 4 ∷ 192 ∷ 3 ∷ 73 ∷ 80 ∷ 54 ∷ 9 ∷ 65 ∷ 76 ∷ 80 ∷ 72 ∷ 65 ∷ 45 ∷ 84 ∷ 76 ∷ 65 ∷ 3 ∷ 79 ∷ 82 ∷ 71 ∷ 0 ∷ []) (3 ∷ 73 ∷ 80 ∷ 54 ∷ 1 ∷ 67 ∷ 3 ∷ 78 ∷ 69 ∷ 84 ∷ 0 ∷ [])
    ∷ dname (65 ∷ 4 ∷ 208 ∷ 3 ∷ 73 ∷ 80 ∷ 54 ∷ 9 ∷ 65 ∷ 76 ∷ 80 ∷ 72 ∷ 65 ∷ 45 ∷ 84 ∷ 76 ∷ 65 ∷ 3 ∷ 79 ∷ 82 ∷ 71 ∷ 0 ∷ []) (3 ∷ 73 ∷ 80 ∷ 54 ∷ 1 ∷ 68 ∷ 3 ∷ 78 ∷ 69 ∷ 84 ∷ 0 ∷ [])
    ∷ dname (65 ∷ 8 ∷ 14 ∷ 3 ∷ 73 ∷ 80 ∷ 54 ∷ 9 ∷ 65 ∷ 76 ∷ 80 ∷ 72 ∷ 65 ∷ 45 ∷ 84 ∷ 76 ∷ 65 ∷ 3 ∷ 79 ∷ 82 ∷ 71 ∷ 0 ∷ []) (3 ∷ 73 ∷ 80 ∷ 54 ∷ 1 ∷ 69 ∷ 3 ∷ 78 ∷ 69 ∷ 84 ∷ 0 ∷ [])
    ∷ dname (65 ∷ 12 ∷ 28 ∷ 160 ∷ 3 ∷ 73 ∷ 80 ∷ 54 ∷ 1 ∷ 67 ∷ 3 ∷ 78 ∷ 69 ∷ 84 ∷ 0 ∷ []) (3 ∷ 73 ∷ 80 ∷ 54 ∷ 1 ∷ 65 ∷ 3 ∷ 78 ∷ 69 ∷ 84 ∷ 0 ∷ [])
    ∷ dname (65 ∷ 12 ∷ 45 ∷ 160 ∷ 3 ∷ 73 ∷ 80 ∷ 54 ∷ 1 ∷ 68 ∷ 3 ∷ 78 ∷ 69 ∷ 84 ∷ 0 ∷ []) (3 ∷ 73 ∷ 80 ∷ 54 ∷ 1 ∷ 65 ∷ 3 ∷ 78 ∷ 69 ∷ 84 ∷ 0 ∷ [])
    ∷ dname (65 ∷ 8 ∷ 235 ∷ 3 ∷ 73 ∷ 80 ∷ 54 ∷ 1 ∷ 69 ∷ 3 ∷ 78 ∷ 69 ∷ 84 ∷ 0 ∷ []) (3 ∷ 73 ∷ 80 ∷ 54 ∷ 1 ∷ 66 ∷ 3 ∷ 78 ∷ 69 ∷ 84 ∷ 0 ∷ [])
    ∷ dname (65 ∷ 8 ∷ 17 ∷ 3 ∷ 73 ∷ 80 ∷ 54 ∷ 1 ∷ 65 ∷ 3 ∷ 78 ∷ 69 ∷ 84 ∷ 0 ∷ []) (3 ∷ 73 ∷ 80 ∷ 54 ∷ 1 ∷ 88 ∷ 7 ∷ 69 ∷ 88 ∷ 65 ∷ 77 ∷ 80 ∷ 76 ∷ 69 ∷ 0 ∷ [])
    ∷ dname (65 ∷ 8 ∷ 34 ∷ 3 ∷ 73 ∷ 80 ∷ 54 ∷ 1 ∷ 66 ∷ 3 ∷ 78 ∷ 69 ∷ 84 ∷ 0 ∷ []) (3 ∷ 73 ∷ 80 ∷ 54 ∷ 1 ∷ 88 ∷ 7 ∷ 69 ∷ 88 ∷ 65 ∷ 77 ∷ 80 ∷ 76 ∷ 69 ∷ 0 ∷ [])
    ∷ dname (65 ∷ 16 ∷ 0 ∷ 1 ∷ 3 ∷ 73 ∷ 80 ∷ 54 ∷ 1 ∷ 88 ∷ 7 ∷ 69 ∷ 88 ∷ 65 ∷ 77 ∷ 80 ∷ 76 ∷ 69 ∷ 0 ∷ []) (8 ∷ 83 ∷ 85 ∷ 66 ∷ 78 ∷ 69 ∷ 84 ∷ 45 ∷ 49 ∷ 3 ∷ 73 ∷ 80 ∷ 54 ∷ 1 ∷ 88 ∷ 7 ∷ 69 ∷ 88 ∷ 65 ∷ 77 ∷ 80 ∷ 76 ∷ 69 ∷ 0 ∷ [])
    ∷ []

-- RFC 2874, 5.3
address : List ℕ
address = 35 ∷ 69 ∷ 0 ∷ 193 ∷ 202 ∷ 17 ∷ 0 ∷ 1 ∷ 18 ∷ 52 ∷ 86 ∷ 120 ∷ 154 ∷ 188 ∷ 222 ∷ 240 ∷ []

last : List ℕ
last = 65 ∷ 64 ∷ 18 ∷ 52 ∷ 86 ∷ 120 ∷ 154 ∷ 188 ∷ 222 ∷ 240 ∷ 8 ∷ 83 ∷ 85 ∷ 66 ∷ 78 ∷ 69 ∷ 84 ∷ 45 ∷ 49 ∷ 3 ∷ 73 ∷ 80 ∷ 54 ∷ 1 ∷ 88 ∷ 7 ∷ 69 ∷ 88 ∷ 65 ∷ 77 ∷ 80 ∷ 76 ∷ 69 ∷ 0 ∷ []

-- five rewrites, and 6 where the limit allows four
rfc2874_walk : walked 5 records (start_of address) ≡ record { number = 0; name = last; rewrites = 5 }
unfolding walks_compute walked records address last
rfc2874_walk = refl

rfc2874_limit : walked 4 records (start_of address) ≡ record { number = 6; name = []; rewrites = 0 }
unfolding walks_compute walked records address
rfc2874_limit = refl

record Case : Type 0 where
  limit : ℕ
  records : List Rule
  name : List ℕ
  number : ℕ
  result : List ℕ
  rewrites : ℕ

-- an ordinary label of n letters; n zero octets
letters : ℕ → List ℕ
letters n = n ∷ replicate n 97

noughts : ℕ → List ℕ
noughts n = replicate n 0

-- one case: a limit, rules and a name, and what the walk gives
case : ℕ → List Rule → List ℕ → ℕ → List ℕ → ℕ → Case
case limit records name number result rewrites = record { limit = limit; records = records; name = name; number = number; result = result; rewrites = rewrites }

cases : List Case
unfolding dname case letters noughts
cases =
    -- a cut inside a bit label: 101.a under 1.a keeps 01
    case 1 (dname (65 ∷ 1 ∷ 128 ∷ 1 ∷ 97 ∷ 0 ∷ []) (1 ∷ 98 ∷ 0 ∷ []) ∷ []) (65 ∷ 3 ∷ 160 ∷ 1 ∷ 97 ∷ 0 ∷ []) 0 (65 ∷ 2 ∷ 64 ∷ 1 ∷ 98 ∷ 0 ∷ []) 1
    -- other bits: nothing applies
    ∷ case 1 (dname (65 ∷ 1 ∷ 0 ∷ 1 ∷ 97 ∷ 0 ∷ []) (1 ∷ 98 ∷ 0 ∷ []) ∷ []) (65 ∷ 3 ∷ 160 ∷ 1 ∷ 97 ∷ 0 ∷ []) 0 (65 ∷ 3 ∷ 160 ∷ 1 ∷ 97 ∷ 0 ∷ []) 0
    -- a name that is itself an owner is rewritten by a DNAME above it
    ∷ case 9 (dname (1 ∷ 120 ∷ 1 ∷ 97 ∷ 0 ∷ []) (1 ∷ 110 ∷ 0 ∷ []) ∷ dname (1 ∷ 97 ∷ 0 ∷ []) (1 ∷ 98 ∷ 0 ∷ []) ∷ []) (1 ∷ 120 ∷ 1 ∷ 97 ∷ 0 ∷ []) 0 (1 ∷ 120 ∷ 1 ∷ 98 ∷ 0 ∷ []) 1
    -- and never by its own
    ∷ case 9 (dname (1 ∷ 120 ∷ 1 ∷ 97 ∷ 0 ∷ []) (1 ∷ 110 ∷ 0 ∷ []) ∷ []) (1 ∷ 120 ∷ 1 ∷ 97 ∷ 0 ∷ []) 0 (1 ∷ 120 ∷ 1 ∷ 97 ∷ 0 ∷ []) 0
    -- the root as owner: the target is under the root again, so the walk ends at the limit
    ∷ case 2 (dname (0 ∷ []) (1 ∷ 98 ∷ 0 ∷ []) ∷ []) (1 ∷ 120 ∷ 0 ∷ []) 6 [] 0
    -- the root as owner and target: no rewrite changes the name, and each one counts
    ∷ case 3 (dname (0 ∷ []) (0 ∷ []) ∷ []) (1 ∷ 120 ∷ 0 ∷ []) 6 [] 0
    -- the root itself is beneath nothing
    ∷ case 3 (dname (0 ∷ []) (1 ∷ 98 ∷ 0 ∷ []) ∷ []) (0 ∷ []) 0 (0 ∷ []) 0
    -- a target whose first run merges with the kept run, its bits first: 01 kept and 11 of the target give 1101
    ∷ case 1 (dname (65 ∷ 1 ∷ 128 ∷ 1 ∷ 97 ∷ 0 ∷ []) (65 ∷ 2 ∷ 192 ∷ 1 ∷ 98 ∷ 0 ∷ []) ∷ []) (65 ∷ 3 ∷ 160 ∷ 1 ∷ 97 ∷ 0 ∷ []) 0 (65 ∷ 4 ∷ 208 ∷ 1 ∷ 98 ∷ 0 ∷ []) 1
    -- most units and not most labels: the longer bit label wins
    ∷ case 1 (dname (65 ∷ 1 ∷ 128 ∷ 1 ∷ 97 ∷ 0 ∷ []) (1 ∷ 98 ∷ 0 ∷ []) ∷ dname (65 ∷ 2 ∷ 128 ∷ 1 ∷ 97 ∷ 0 ∷ []) (1 ∷ 99 ∷ 0 ∷ []) ∷ dname (1 ∷ 97 ∷ 0 ∷ []) (1 ∷ 100 ∷ 0 ∷ []) ∷ [])
    (65 ∷ 3 ∷ 160 ∷ 1 ∷ 97 ∷ 0 ∷ []) 0 (65 ∷ 1 ∷ 128 ∷ 1 ∷ 99 ∷ 0 ∷ []) 1
    -- an owner in letters of another case applies (T-03): what is below stays as it is spelt, and the target comes as it is; at an edge and inside a bit label
    ∷ case 1 (dname (1 ∷ 65 ∷ 0 ∷ []) (1 ∷ 66 ∷ 0 ∷ []) ∷ []) (1 ∷ 88 ∷ 1 ∷ 120 ∷ 1 ∷ 97 ∷ 0 ∷ []) 0 (1 ∷ 88 ∷ 1 ∷ 120 ∷ 1 ∷ 66 ∷ 0 ∷ []) 1
    ∷ case 1 (dname (65 ∷ 1 ∷ 128 ∷ 1 ∷ 65 ∷ 0 ∷ []) (1 ∷ 98 ∷ 0 ∷ []) ∷ []) (65 ∷ 3 ∷ 160 ∷ 1 ∷ 97 ∷ 0 ∷ []) 0 (65 ∷ 2 ∷ 64 ∷ 1 ∷ 98 ∷ 0 ∷ []) 1
    -- and with most units; but never to its own owner, and bits have no case
    ∷ case 1 (dname (1 ∷ 97 ∷ 0 ∷ []) (1 ∷ 98 ∷ 0 ∷ []) ∷ dname (1 ∷ 88 ∷ 1 ∷ 65 ∷ 0 ∷ []) (1 ∷ 99 ∷ 0 ∷ []) ∷ []) (1 ∷ 121 ∷ 1 ∷ 120 ∷ 1 ∷ 97 ∷ 0 ∷ []) 0 (1 ∷ 121 ∷ 1 ∷ 99 ∷ 0 ∷ []) 1
    ∷ case 9 (dname (1 ∷ 120 ∷ 1 ∷ 65 ∷ 0 ∷ []) (1 ∷ 110 ∷ 0 ∷ []) ∷ []) (1 ∷ 88 ∷ 1 ∷ 97 ∷ 0 ∷ []) 0 (1 ∷ 88 ∷ 1 ∷ 97 ∷ 0 ∷ []) 0
    ∷ case 9 (dname (65 ∷ 8 ∷ 65 ∷ 1 ∷ 97 ∷ 0 ∷ []) (1 ∷ 98 ∷ 0 ∷ []) ∷ []) (65 ∷ 16 ∷ 97 ∷ 0 ∷ 1 ∷ 97 ∷ 0 ∷ []) 0 (65 ∷ 16 ∷ 97 ∷ 0 ∷ 1 ∷ 97 ∷ 0 ∷ []) 0
    -- 6 before 8
    ∷ case 0 (dname (1 ∷ 97 ∷ 0 ∷ []) (65 ∷ 0 ∷ (noughts 32 ++ (1 ∷ 98 ∷ 0 ∷ []))) ∷ []) (65 ∷ 1 ∷ 0 ∷ 1 ∷ 97 ∷ 0 ∷ []) 6 [] 0
    -- a run of 257 bits, and one of 256
    ∷ case 1 (dname (1 ∷ 97 ∷ 0 ∷ []) (65 ∷ 0 ∷ (noughts 32 ++ (1 ∷ 98 ∷ 0 ∷ []))) ∷ []) (65 ∷ 1 ∷ 0 ∷ 1 ∷ 97 ∷ 0 ∷ []) 8 [] 0
    ∷ case 1 (dname (1 ∷ 97 ∷ 0 ∷ []) (65 ∷ 255 ∷ (noughts 32 ++ (1 ∷ 98 ∷ 0 ∷ []))) ∷ []) (65 ∷ 1 ∷ 0 ∷ 1 ∷ 97 ∷ 0 ∷ []) 0 (65 ∷ 0 ∷ (noughts 32 ++ (1 ∷ 98 ∷ 0 ∷ []))) 1
    -- counted merged: 255 octets, 257 before merging; and 256 octets
    ∷ case 1 (dname (1 ∷ 97 ∷ 0 ∷ []) (65 ∷ 8 ∷ 1 ∷ (letters 63 ++ letters 63 ++ letters 63 ++ letters 57 ++ (0 ∷ []))) ∷ []) (65 ∷ 8 ∷ 0 ∷ 1 ∷ 97 ∷ 0 ∷ []) 0
    (65 ∷ 16 ∷ 1 ∷ 0 ∷ (letters 63 ++ letters 63 ++ letters 63 ++ letters 57 ++ (0 ∷ []))) 1
    ∷ case 1 (dname (1 ∷ 97 ∷ 0 ∷ []) (65 ∷ 8 ∷ 1 ∷ (letters 63 ++ letters 63 ++ letters 63 ++ letters 58 ++ (0 ∷ []))) ∷ []) (65 ∷ 8 ∷ 0 ∷ 1 ∷ 97 ∷ 0 ∷ []) 8 [] 0
    -- without a run: 256 octets, and 255
    ∷ case 1 (dname (1 ∷ 97 ∷ 0 ∷ []) (letters 63 ++ letters 63 ++ letters 63 ++ letters 60 ++ (0 ∷ [])) ∷ []) (1 ∷ 97 ∷ 1 ∷ 97 ∷ 0 ∷ []) 8 [] 0
    ∷ case 1 (dname (1 ∷ 97 ∷ 0 ∷ []) (letters 63 ++ letters 63 ++ letters 63 ++ letters 59 ++ (0 ∷ [])) ∷ []) (1 ∷ 97 ∷ 1 ∷ 97 ∷ 0 ∷ []) 0 (1 ∷ 97 ∷ (letters 63 ++ letters 63 ++ letters 63 ++ letters 59 ++ (0 ∷ []))) 1
    ∷ []

given : Case → Shown
unfolding walked
given c = walked c.limit c.records (units_of c.name)

expected : Case → Shown
expected c = record { number = c.number; name = c.result; rewrites = c.rewrites }

walks : map given cases ≡ map expected cases
unfolding walks_compute given expected cases
walks = refl
