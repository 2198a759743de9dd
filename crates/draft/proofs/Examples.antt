-- Data of the 1998 layout read and written, by computation.
use Prim.Native.Nat.{ℕ, ◌-◌}
use mathlib.Core.Path.{◌≡◌, refl}
use mathlib.Core.List.{List, [], ◌∷◌, ◌++◌, map}
use lib.ListN.{length}
use Rattle.std.specs.Prelude.{Result, Ok, Err}
use Rattle.octets.specs.Octets.{blank}
use Rattle.octets.specs.declared.Refusal.{Refusal}
use Rattle.octets.specs.declared.Refusal.TheVariants.{Prefix}
use Rattle.names.specs.Name.{name_of}
use Rattle.a6.specs.declared.Value.{Value}
use Rattle.draft.specs.Read.{draft_number, draft_reading}
use Rattle.draft.specs.Write.{draft_write_number, draft_out}
use Rattle.draft.specs.Standard.{draft_standard}
use Rattle.a6.proofs.Samples.{ones, p}
use Rattle.draft.proofs.Computing.{draft_compute}

-- data with every bit of the address set: the address that is read of it, and the name
record Case : Type 0 where
  prefix : ℕ
  name : List ℕ
  address : List ℕ
  standard : List ℕ

cases : List Case
unfolding ones p blank
cases =
    record { prefix = 0; name = []; address = ones 16; standard = [] }
    ∷ record { prefix = 7; name = p; address = 1 ∷ ones 15; standard = p }
    ∷ record { prefix = 8; name = p; address = 0 ∷ ones 15; standard = p }
    ∷ record { prefix = 121; name = p; address = blank 15 ++ (127 ∷ []); standard = p }
    ∷ record { prefix = 128; name = p; address = blank 16; standard = p }
    -- two bit labels are merged, the right one's bits first
    ∷ record { prefix = 124; name = 65 ∷ 3 ∷ 0xA0 ∷ 65 ∷ 2 ∷ 0x40 ∷ p; address = blank 15 ++ (15 ∷ []); standard = 65 ∷ 5 ∷ 0x68 ∷ p }
    ∷ []

given : Case → List ℕ
given c = ones 16 ++ (c.prefix ∷ c.name)

value : Case → Value
unfolding name_of
value c = record { prefix = c.prefix; address = c.address; name = name_of c.standard }

expected : Case → Result Value Refusal
unfolding value
expected c = Ok (value c)

written : Case → List ℕ
written c = c.address ++ (c.prefix ∷ c.standard)

reads : map (λ c. draft_reading (given c)) cases ≡ map expected cases
unfolding draft_compute given expected ones cases
reads = refl

standards : map (λ c. draft_standard (given c)) cases ≡ map written cases
unfolding draft_compute given written ones cases
standards = refl

writes : map (λ c. draft_out (value c) 273) cases ≡ map (λ c. written c ++ blank (273 - length (written c))) cases
unfolding draft_compute value written cases
writes = refl

short : map (λ c. draft_write_number (value c) (length (written c) - 1)) cases ≡ map (λ c. 7) cases
unfolding draft_compute value written cases
short = refl

-- refusals of the reader: no octet; a first octet over 128 in sixteen; no prefix length; a prefix length over 128, with nothing and with a name after it; no
-- name where one is due; a name cut short; a malformed one; octets after a name; octets after the seventeenth at L = 0, a root among them
refusals : map draft_number ([] ∷ (200 ∷ ones 15) ∷ ones 16 ∷ (blank 16 ++ (129 ∷ [])) ∷ (ones 16 ++ (200 ∷ p)) ∷ (ones 16 ++ (128 ∷ [])) ∷ (ones 16 ++ (64 ∷ 1 ∷ [])) ∷ (ones 16 ++ (64 ∷ 64 ∷ 0 ∷ [])) ∷ (ones 16 ++ (64 ∷ (p ++ (0 ∷ [])))) ∷ (ones 16 ++ (0 ∷ 0 ∷ [])) ∷ (ones 16 ++ (0 ∷ p)) ∷ [])
    ≡ 11 ∷ 11 ∷ 11 ∷ 10 ∷ 10 ∷ 11 ∷ 11 ∷ 12 ∷ 13 ∷ 13 ∷ 13 ∷ []
unfolding draft_compute ones p
refusals = refl

refused_value : draft_reading (blank 16 ++ (129 ∷ [])) ≡ Err Prefix
unfolding draft_compute
refused_value = refl

-- octets that all differ stay in their order, and the first 20 bits are cleared
apart : List ℕ
apart = 0xF1 ∷ 0xF2 ∷ 0xF3 ∷ 4 ∷ 5 ∷ 6 ∷ 7 ∷ 8 ∷ 9 ∷ 10 ∷ 11 ∷ 12 ∷ 13 ∷ 14 ∷ 15 ∷ 16 ∷ []

in_order : (draft_reading (apart ++ (20 ∷ p)) ≡ Ok (record { prefix = 20; address = 0 ∷ 0 ∷ 3 ∷ 4 ∷ 5 ∷ 6 ∷ 7 ∷ 8 ∷ 9 ∷ 10 ∷ 11 ∷ 12 ∷ 13 ∷ 14 ∷ 15 ∷ 16 ∷ []; name = name_of p }))
    × (draft_reading (apart ++ (0 ∷ [])) ≡ Ok (record { prefix = 0; address = apart; name = name_of [] }))
unfolding draft_compute apart p
in_order = (refl, refl)

-- what is wrong with a value comes before the room
no_room : map (λ v. draft_write_number v 0) (
    record { prefix = 129; address = blank 16; name = name_of p }
    ∷ record { prefix = 7; address = blank 16; name = name_of [] }
    ∷ record { prefix = 7; address = 2 ∷ blank 15; name = name_of p }
    ∷ record { prefix = 7; address = 1 ∷ blank 15; name = name_of p }
    ∷ [])
    ≡ 10 ∷ 12 ∷ 12 ∷ 7 ∷ []
unfolding draft_compute p
no_room = refl
