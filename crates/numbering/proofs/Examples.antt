-- A table numbered, by computation.
use Prim.Native.Nat.{ℕ}
use mathlib.Core.Path.{◌≡◌, refl}
use mathlib.Core.List.{List, [], ◌∷◌, map}
use Rattle.octets.specs.Octets.{blank, flat}
use Rattle.names.proofs.Samples.{ha, pa, qa, za}
use Rattle.plan.specs.Layout.{address_size, slot_size, a6, dname, slot_of, record_of}
use Rattle.plan.specs.Check.{check_of}
use Rattle.chains.specs.Lists.{up_to}
use Rattle.chains.specs.Listing.{free, extend, paths, chains_from, chains_of}
use Rattle.numbering.specs.Numbers.{number_in, names_of, own_number, target_number}
use Rattle.plan.specs.Graph.{graph_of}
use Rattle.plan.proofs.Computing.{tables_compute}
use Rattle.numbering.specs.Graph.{owns_numbered, numbered}

-- a name of sixteen bits in one bit label and in two
whole : List ℕ
whole = 65 ∷ 16 ∷ 1 ∷ 2 ∷ 0 ∷ []

halves : List ℕ
halves = 65 ∷ 8 ∷ 2 ∷ 65 ∷ 8 ∷ 1 ∷ 0 ∷ []

zeros : List ℕ
unfolding blank
zeros = blank address_size

none : List ℕ
unfolding blank
none = blank slot_size

-- h.a leads to p.a; p.a is finished, and leads to itself and to the bits; a DNAME of q.a comes between
plan : List ℕ
unfolding flat record_of slot_of whole zeros none
plan = flat (
    record_of a6 64 zeros (slot_of ha) (slot_of pa) 300 ∷ record_of a6 0 zeros (slot_of pa) none 0 ∷ record_of dname 0 zeros (slot_of qa) (slot_of ha) 3600
    ∷ record_of a6 48 zeros (slot_of pa) (slot_of pa) 86400 ∷ record_of a6 32 zeros (slot_of pa) (slot_of whole) 2147483647 ∷ [])

in_order : check_of plan ≡ 0
unfolding tables_compute plan
in_order = refl

names : names_of plan ≡ ha ∷ pa ∷ qa ∷ whole ∷ []
unfolding tables_compute names_of plan whole
names = refl

-- owners, targets, and names that are given
numbers : map (own_number plan) (0 ∷ 1 ∷ 2 ∷ 3 ∷ 4 ∷ []) ≡ 0 ∷ 1 ∷ 2 ∷ 1 ∷ 1 ∷ []
unfolding tables_compute own_number plan
numbers = refl

targets : map (target_number plan) (0 ∷ 1 ∷ 2 ∷ 3 ∷ 4 ∷ []) ≡ 1 ∷ 65535 ∷ 0 ∷ 1 ∷ 3 ∷ []
unfolding tables_compute target_number plan
targets = refl

given : map (number_in (names_of plan)) (qa ∷ whole ∷ halves ∷ za ∷ []) ≡ 2 ∷ 3 ∷ 3 ∷ 4 ∷ []
unfolding tables_compute number_in names_of plan whole halves
given = refl

-- the TTLs, in the graph over names and in the one over numbers
ttls : map (graph_of plan).ttl (0 ∷ 1 ∷ 2 ∷ 3 ∷ 4 ∷ []) ∷ map (numbered plan).ttl (0 ∷ 1 ∷ 2 ∷ 3 ∷ 4 ∷ []) ∷ []
    ≡ (300 ∷ 0 ∷ 3600 ∷ 86400 ∷ 2147483647 ∷ []) ∷ (300 ∷ 0 ∷ 3600 ∷ 86400 ∷ 2147483647 ∷ []) ∷ []
unfolding tables_compute plan
ttls = refl

-- the chains of h.a, by name and by number; the DNAME is in none
chains : chains_of (graph_of plan) ha ∷ chains_of (numbered plan) 0 ∷ []
    ≡ ((0 ∷ []) ∷ (0 ∷ 1 ∷ []) ∷ (0 ∷ 3 ∷ []) ∷ (0 ∷ 3 ∷ 1 ∷ []) ∷ (0 ∷ 3 ∷ 4 ∷ []) ∷ (0 ∷ 4 ∷ []) ∷ [])
    ∷ ((0 ∷ []) ∷ (0 ∷ 1 ∷ []) ∷ (0 ∷ 3 ∷ []) ∷ (0 ∷ 3 ∷ 1 ∷ []) ∷ (0 ∷ 3 ∷ 4 ∷ []) ∷ (0 ∷ 4 ∷ []) ∷ []) ∷ []
unfolding tables_compute chains_of chains_from paths free extend up_to owns_numbered target_number plan
chains = refl
