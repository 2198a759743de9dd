-- What a lookup answers once its input is in order (01, What comes back): 6, 7, or the addresses and their lifetimes (T-01).
use Rattle.std.specs.Prelude.{ℕ, List, map, ltb, length}
use Rattle.octets.specs.declared.Answer.{Answer}
use Rattle.octets.specs.Octets.{flat}
use Rattle.octets.specs.Answers.{earns, answer_by, out_by}
use Rattle.chains.specs.Graph.{Graph}
use Rattle.chains.specs.Listing.{work_of}
use Rattle.chains.specs.Addresses.{addresses_of}
use Rattle.chains.specs.Lifetimes.{lifetime_of}

module _ {N : Type 0} (g : Graph N) (x : N) where
  -- work greater than the limit is 6, more distinct addresses than room is 7
  unfoldable pub number_of : ℕ → ℕ → ℕ
  number_of limit room = earns (ltb limit (work_of g x)) 6 (earns (ltb room (length (addresses_of g x))) 7 0)

  -- by the number: how many addresses and the work; the addresses in ascending order; and the lifetime of each, at the same place
  abbrev pub answer_of : ℕ → Answer
  answer_of k = answer_by k (length (addresses_of g x)) (work_of g x)

  abbrev pub output_of : ℕ → ℕ → List ℕ
  output_of k size = out_by k (flat (addresses_of g x)) size

  abbrev pub lives_of : ℕ → ℕ → List ℕ
  lives_of k room = out_by k (map (lifetime_of g x) (addresses_of g x)) room
