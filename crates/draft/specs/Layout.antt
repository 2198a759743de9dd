-- The layout of the 1998 draft (T-02; document 001, section 4.1.1): sixteen address octets, one octet of prefix length L, and the prefix name exactly
-- when L > 0.
use Rattle.std.specs.Prelude.{ℕ, List, get_or, take, drop}

-- the sixteen octets, the prefix length after them, and what stands after that
abbrev pub address_part : List ℕ → List ℕ
address_part octets = take 16 octets

abbrev pub prefix_part : List ℕ → ℕ
prefix_part octets = get_or octets 16 0

unfoldable pub rest_part : List ℕ → List ℕ
rest_part octets = drop 17 octets
