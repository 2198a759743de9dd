-- An address: sixteen octets, 128 bits, bit 0 the highest.
use Rattle.std.specs.Prelude.{ℕ, Bool, List, ◌++◌, get_or, take, drop}
use Rattle.octets.specs.Zeros.{is_blank}
use Rattle.bits.specs.Bits.{unpack, pack}

-- the 128 bits of an address
unfoldable pub bits : List ℕ → List ℕ
bits a = unpack 128 a

-- one bit of an address by its number, as 01 (Chains) counts them
unfoldable pub bit_at : List ℕ → ℕ → ℕ
bit_at a i = get_or (bits a) i 0

-- 01, Chains and Collapse: the first `at` bits are those of `high`, the rest are those of `low`. From 128 on it is all of `high`.
unfoldable pub join_of : List ℕ → List ℕ → ℕ → List ℕ
join_of high low at = pack (take at (bits high) ++ drop at (bits low))

-- 01, A6 data and The plan table: the first n bits are zero
unfoldable pub clear_to : ℕ → List ℕ → Bool
clear_to n a = is_blank (unpack n a)
