-- The bits of octets, and the octets that hold bits. The highest bit of an octet comes first throughout.
use Rattle.std.specs.Prelude.{ℕ, zero, suc, ◌+◌, ◌-◌, ◌*◌, ◌/◌, ◌%◌, ◌^◌, min, true, false, List, [], ◌∷◌, ◌++◌, eqb}

-- the lowest m bits of a number, the highest of them first
unfoldable pub bits_of : ℕ → ℕ → List ℕ
bits_of zero x = []
bits_of (suc m) x = x / 2 ^ m % 2 ∷ bits_of m x

-- how many octets n bits take: the fewest that hold them
abbrev pub octets_for : ℕ → ℕ
octets_for n = (n + 7) / 8

-- the first n bits of octets; all of their bits where they have fewer than n
unfoldable pub unpack : ℕ → List ℕ → List ℕ
unpack n [] = []
unpack n (x ∷ xs) = bits_of (min 8 n) (x / 2 ^ (8 - min 8 n)) ++ unpack (n - 8) xs

-- the octets that hold bits, after h bits of value v that the first octet has already; what the last octet lacks is zero bits
unfoldable pub pack_from : ℕ → ℕ → List ℕ → List ℕ
pack_from h v [] = elim (eqb h 0) [ true ↦ [] | false ↦ v * 2 ^ (8 - h) ∷ [] ]
pack_from h v (b ∷ bs) = elim (eqb h 7) [ true ↦ (v * 2 + b) ∷ pack_from 0 0 bs | false ↦ pack_from (h + 1) (v * 2 + b) bs ]

-- the octets that hold bits, from the highest bit of the first octet on
unfoldable pub pack : List ℕ → List ℕ
pack bs = pack_from 0 0 bs
