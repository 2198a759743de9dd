-- Keys read off the octets of a name, one octet after the other: the code's own, nothing that a reader must believe.
use Rattle.std.specs.Prelude.{ℕ, zero, suc, ◌-◌, ◌≤◌, ◌<◌, ◌≡◌, Bool, true, false, not, ◌&&◌, List, [], ◌∷◌, map, eqb, get_or, take, drop}
use Rattle.octets.specs.Octets.{same_by, same}
use Rattle.labels.specs.Labels.{size_of}
use Rattle.names.specs.Standard.{lower}

-- the key of an octet after the first of its label: letters count alike in an ordinary label
unfoldable pub octet_key : Bool → ℕ → ℕ
unfolding lower
octet_key letters x = elim letters [ true ↦ lower x | false ↦ x ]

-- the keys of octets, of which the first `skip` belong to a label that was begun, an ordinary one if `letters`; the first octet of a label is its own key
unfoldable pub key_from : Bool → ℕ → List ℕ → List ℕ
unfolding octet_key size_of
key_from letters skip [] = []
key_from letters (suc skip) (x ∷ xs) = octet_key letters x ∷ key_from letters skip xs
key_from letters zero (x ∷ xs) = x ∷ key_from (not (eqb x 65)) (size_of (x ∷ xs) - 1) xs

-- the keys of octets that begin with a label
unfoldable pub key_octets : List ℕ → List ℕ
unfolding key_from
key_octets xs = key_from false 0 xs

-- what a walk over two lists finds, where names stand in them up to `end`, from a place on: all octets are the same in lower case, and what is left of the
-- names has the same keys
unfoldable pub walked : List ℕ → List ℕ → ℕ → ℕ → Bool
unfolding same_by key_octets
walked a b end at = same (map lower a) (map lower b) && same (key_octets (drop at (take end a))) (key_octets (drop at (take end b)))

-- a walk from one place on finds what it finds from a later one on, where it is at the end, or labels begin that differ, or bit labels
pub record Past (a b : List ℕ) (end at r : ℕ) : Type 0 where
  pub on : at ≤ r
  pub kept : walked a b end r ≡ walked a b end at
  pub bits : r < end → get_or a r 0 ≡ get_or b r 0 → get_or a r 0 ≡ 65
