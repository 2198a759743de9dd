-- A6 data read and written, by computation.
use Prim.Native.Nat.{ℕ, ◌+◌, ◌-◌}
use mathlib.Core.Path.{◌≡◌, refl}
use mathlib.Core.List.{List, [], ◌∷◌, ◌++◌, map}
use lib.ListN.{length, drop}
use Rattle.std.specs.Prelude.{Result, Ok, Err}
use Rattle.octets.specs.Octets.{blank}
use Rattle.octets.specs.declared.Refusal.{Refusal}
use Rattle.octets.specs.declared.Refusal.TheVariants.{Prefix}
use Rattle.names.specs.Name.{name_of}
use Rattle.a6.specs.Data.{suffix_octets}
use Rattle.a6.specs.Read.{read_number, read_of}
use Rattle.a6.specs.Write.{write_number, write_out}
use Rattle.a6.specs.Standard.{standard_data}
use Rattle.a6.proofs.Samples.{ones, p}
use Rattle.a6.proofs.Computing.{data_compute}
use Rattle.a6.specs.declared.Value.{Value}

-- 01, Examples to check: the suffix octets of 0, 7, 8, 121 and 128
suffixes : map suffix_octets (0 ∷ 7 ∷ 8 ∷ 121 ∷ 128 ∷ []) ≡ 16 ∷ 16 ∷ 15 ∷ 1 ∷ 0 ∷ []
suffixes = refl

-- data with every bit of the suffix set, the padding too: what is read of it, and what is written again
record Case : Type 0 where
  prefix : ℕ
  suffix : List ℕ
  name : List ℕ
  address : List ℕ
  written : List ℕ

cases : List Case
unfolding ones p blank
cases =
    record { prefix = 0; suffix = ones 16; name = []; address = ones 16; written = 0 ∷ ones 16 }
    ∷ record { prefix = 7; suffix = ones 16; name = p; address = 1 ∷ ones 15; written = 7 ∷ 1 ∷ (ones 15 ++ p) }
    ∷ record { prefix = 8; suffix = ones 15; name = p; address = 0 ∷ ones 15; written = 8 ∷ (ones 15 ++ p) }
    ∷ record { prefix = 121; suffix = ones 1; name = p; address = blank 15 ++ (127 ∷ []); written = 121 ∷ 127 ∷ p }
    ∷ record { prefix = 128; suffix = []; name = p; address = blank 16; written = 128 ∷ p }
    -- two bit labels are merged, the right one's bits first
    ∷ record { prefix = 124; suffix = 0xF5 ∷ []; name = 65 ∷ 3 ∷ 0xA0 ∷ 65 ∷ 2 ∷ 0x40 ∷ p; address = blank 15 ++ (5 ∷ []); written = 124 ∷ 5 ∷ 65 ∷ 5 ∷ 0x68 ∷ p }
    ∷ []

given : Case → List ℕ
given c = c.prefix ∷ (c.suffix ++ c.name)

value : Case → Value
unfolding name_of
value c = record { prefix = c.prefix; address = c.address; name = name_of (drop (1 + suffix_octets c.prefix) c.written) }

expected : Case → Result Value Refusal
unfolding value
expected c = Ok (value c)

reads : map (λ c. read_of (given c)) cases ≡ map expected cases
unfolding data_compute given expected cases
reads = refl

standards : map (λ c. standard_data (given c)) cases ≡ map (λ c. c.written) cases
unfolding data_compute given cases
standards = refl

writes : map (λ c. write_out (value c) 273) cases ≡ map (λ c. c.written ++ blank (273 - length c.written)) cases
unfolding data_compute value cases
writes = refl

short : map (λ c. write_number (value c) (length c.written - 1)) cases ≡ map (λ c. 7) cases
unfolding data_compute value cases
short = refl

-- refusals of the reader, in 01's order
refusals : map read_number ([] ∷ (129 ∷ []) ∷ (200 ∷ ones 40) ∷ (0 ∷ ones 15) ∷ (7 ∷ ones 15) ∷ (121 ∷ []) ∷ (128 ∷ []) ∷ (128 ∷ 1 ∷ []) ∷ (128 ∷ 64 ∷ 0 ∷ []) ∷ (128 ∷ 65 ∷ 3 ∷ 16 ∷ 0 ∷ 0 ∷ []) ∷ (128 ∷ (p ++ (0 ∷ []))) ∷ (0 ∷ ones 17) ∷ [])
    ≡ 11 ∷ 10 ∷ 10 ∷ 11 ∷ 11 ∷ 11 ∷ 11 ∷ 11 ∷ 12 ∷ 12 ∷ 13 ∷ 13 ∷ []
unfolding data_compute ones p
refusals = refl

refused_value : read_of (129 ∷ []) ≡ Err Prefix
unfolding data_compute
refused_value = refl

-- values that the reader cannot give: a prefix length over 128; no name; a name at L = 0; octets after the name; two bit labels side by side; bits set before L
bad : List Value
unfolding ones blank p name_of
bad =
    record { prefix = 129; address = blank 16; name = name_of p }
    ∷ record { prefix = 7; address = blank 16; name = name_of [] }
    ∷ record { prefix = 0; address = ones 16; name = name_of p }
    ∷ record { prefix = 7; address = blank 16; name = record { octets = p ++ (1 ∷ blank 251); length = 3 } }
    ∷ record { prefix = 0; address = blank 16; name = record { octets = blank 254 ++ (1 ∷ []); length = 0 } }
    ∷ record { prefix = 7; address = blank 16; name = name_of (65 ∷ 3 ∷ 0xA0 ∷ 65 ∷ 2 ∷ 0x40 ∷ p) }
    ∷ record { prefix = 7; address = 2 ∷ blank 15; name = name_of p }
    ∷ []

refused_values : map (λ v. write_number v 0) bad ≡ 10 ∷ 12 ∷ 12 ∷ 12 ∷ 12 ∷ 12 ∷ 12 ∷ []
unfolding data_compute bad
refused_values = refl
