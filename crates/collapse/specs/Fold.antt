-- The rule of a collapse of the name x (01, Collapse of a name X; T-01) and its test 9 (01, What comes back), as computations.
use Rattle.std.specs.Prelude.{ℕ, min, Bool, ◌&&◌, List, [], ◌∷◌, leb, ltb}
use Rattle.names.specs.Standard.{same_name}
use Rattle.address.specs.Address.{join_of}
use Rattle.chains.specs.Lists.{pick, up_to}
use Rattle.plan.specs.First.{some}
use Rattle.plan.specs.Layout.{a6, prefix_of, address_of, owner_slot, target_slot, ttl_of, is_a6, owner_of, target_of, record_of, count_of, record_at, prefix_at}

-- r is an A6 record that has a target: its prefix length is over 0
abbrev pub leads : List ℕ → Bool
leads r = is_a6 r && ltb 0 (prefix_of r)

-- r is an unfinished A6 record of x (unfinished is 01's term)
unfoldable pub unfinished : List ℕ → List ℕ → Bool
unfinished x r = leads r && same_name (owner_of r) x

-- q is an A6 record that the target of r owns, and it is no longer than r
unfoldable pub continues : List ℕ → List ℕ → Bool
continues r q = is_a6 q && leb (prefix_of q) (prefix_of r) && same_name (owner_of q) (target_of r)

-- what r and q make: the owner of r, the prefix length and the target of q, the bits of q up to r's length and those of r after it, the smaller TTL
unfoldable pub joined_of : List ℕ → List ℕ → List ℕ
joined_of r q = record_of a6 (prefix_of q) (join_of (address_of q) (address_of r) (prefix_of r)) (owner_slot r) (target_slot q) (min (ttl_of r) (ttl_of q))

-- what r and the record at j of the table before make, if anything
unfoldable pub made_of : List ℕ → List ℕ → ℕ → List (List ℕ)
made_of t r j = pick (continues r (record_at t j)) (joined_of r (record_at t j) ∷ []) []

-- what stands in the place of the record at i: one record for each q in table order, none where there is no q; any other record stays
unfoldable pub place_of : List ℕ → List ℕ → ℕ → List (List ℕ)
place_of x t i = pick (unfinished x (record_at t i)) (up_to (count_of t) (made_of t (record_at t i))) (record_at t i ∷ [])

-- the records that the rule makes of the table t
unfoldable pub fold_of : List ℕ → List ℕ → List (List ℕ)
fold_of x t = up_to (count_of t) (place_of x t)

-- p is an A6 record with the target x; a finished record has no target
unfoldable pub refers : List ℕ → List ℕ → Bool
refers x p = leads p && same_name (target_of p) x

-- the record at p refers to x and is shorter than the unfinished record of x at r
unfoldable pub ignores : List ℕ → List ℕ → ℕ → ℕ → Bool
ignores x t p r = refers x (record_at t p) && unfinished x (record_at t r) && ltb (prefix_at t p) (prefix_at t r)

-- 9: some record does so (reviving is 01's term)
unfoldable pub reviving : List ℕ → List ℕ → Bool
reviving x t = some (λ p. some (ignores x t p) (count_of t)) (count_of t)
