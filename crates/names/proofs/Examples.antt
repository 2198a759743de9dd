-- Names read and put in standard form, by computation.
use Prim.Native.Nat.{ℕ}
use mathlib.Core.Path.{◌≡◌, refl}
use mathlib.Core.Bool.{Bool, true, false}
use mathlib.Core.List.{List, [], ◌∷◌, ◌++◌, map}
use lib.ListN.{replicate}
use Rattle.std.specs.Prelude.{eqb, Result, Ok, Err}
use Rattle.octets.specs.Refusals.{told}
use Rattle.octets.specs.declared.Refusal.{Refusal}
use Rattle.labels.specs.declared.Scanned.{Scanned}
use Rattle.labels.specs.Scan.{scan_of}
use Rattle.labels.specs.Answers.{scanned}
use Rattle.names.specs.Standard.{standard_of, same_name}
use Rattle.names.proofs.Computing.{names_compute}

-- RFC 2874: \[x0A0020FFFE812B32/64].\[x0009/16].\[x3FFE07C00040/48].IP6.ARPA
ip6arpa : List ℕ
ip6arpa = 3 ∷ 73 ∷ 80 ∷ 54 ∷ 4 ∷ 65 ∷ 82 ∷ 80 ∷ 65 ∷ 0 ∷ []

parts : List ℕ
unfolding ip6arpa
parts = 65 ∷ 64 ∷ 0x0A ∷ 0x00 ∷ 0x20 ∷ 0xFF ∷ 0xFE ∷ 0x81 ∷ 0x2B ∷ 0x32 ∷ 65 ∷ 16 ∷ 0x00 ∷ 0x09 ∷ 65 ∷ 48 ∷ 0x3F ∷ 0xFE ∷ 0x07 ∷ 0xC0 ∷ 0x00 ∷ 0x40 ∷ ip6arpa

whole : List ℕ
unfolding ip6arpa
whole = 65 ∷ 128 ∷ 0x3F ∷ 0xFE ∷ 0x07 ∷ 0xC0 ∷ 0x00 ∷ 0x40 ∷ 0x00 ∷ 0x09 ∷ 0x0A ∷ 0x00 ∷ 0x20 ∷ 0xFF ∷ 0xFE ∷ 0x81 ∷ 0x2B ∷ 0x32 ∷ ip6arpa

-- Theorem: RFC 2874's name of 64, 16 and 48 bits: in its standard form the bits of the right label come first (01, Errors we have met, the first)
rfc2874_standard : standard_of parts ≡ whole
unfolding names_compute parts whole
rfc2874_standard = refl

record Case : Type 0 where
  octets : List ℕ
  number : ℕ
  used : ℕ
  standard : Bool

zeros : ℕ → List ℕ
zeros n = replicate n 0

-- labels of n octets 97
ordinary_label : ℕ → List ℕ
ordinary_label n = n ∷ replicate n 97

cases : List Case
unfolding parts whole ip6arpa zeros ordinary_label
cases =
    record { octets = []; number = 11; used = 0; standard = false }
    ∷ record { octets = 0 ∷ []; number = 0; used = 1; standard = true }
    ∷ record { octets = 0 ∷ 9 ∷ []; number = 0; used = 1; standard = true }
    ∷ record { octets = parts; number = 0; used = 32; standard = false }
    ∷ record { octets = whole; number = 0; used = 28; standard = true }
    -- count octet 0: 256 bits
    ∷ record { octets = 65 ∷ 0 ∷ zeros 32 ++ 0 ∷ []; number = 0; used = 35; standard = true }
    -- a run of 256 bits, and of 257
    ∷ record { octets = 65 ∷ 255 ∷ zeros 32 ++ 65 ∷ 1 ∷ 128 ∷ 0 ∷ []; number = 0; used = 38; standard = false }
    ∷ record { octets = 65 ∷ 255 ∷ zeros 32 ++ 65 ∷ 2 ∷ 128 ∷ 0 ∷ []; number = 12; used = 0; standard = false }
    -- an ordinary label ends a run
    ∷ record { octets = 65 ∷ 255 ∷ zeros 32 ++ 1 ∷ 97 ∷ 65 ∷ 2 ∷ 128 ∷ 0 ∷ []; number = 0; used = 40; standard = true }
    -- missing first octet, missing count octet, labels beyond the end, bad first octets
    ∷ record { octets = 1 ∷ 97 ∷ []; number = 11; used = 0; standard = false }
    ∷ record { octets = 65 ∷ []; number = 11; used = 0; standard = false }
    ∷ record { octets = 65 ∷ 9 ∷ 0 ∷ []; number = 11; used = 0; standard = false }
    ∷ record { octets = 2 ∷ 97 ∷ []; number = 11; used = 0; standard = false }
    ∷ record { octets = 64 ∷ []; number = 12; used = 0; standard = false }
    ∷ record { octets = 66 ∷ []; number = 12; used = 0; standard = false }
    ∷ record { octets = 192 ∷ 0 ∷ []; number = 12; used = 0; standard = false }
    -- unused bits set
    ∷ record { octets = 65 ∷ 3 ∷ 16 ∷ 0 ∷ []; number = 12; used = 0; standard = false }
    ∷ record { octets = 65 ∷ 3 ∷ 32 ∷ 0 ∷ []; number = 0; used = 4; standard = true }
    -- 255 octets, and 256: the zero octet, then a label, goes over; beyond the end comes first
    ∷ record { octets = ordinary_label 63 ++ ordinary_label 63 ++ ordinary_label 63 ++ ordinary_label 61 ++ 0 ∷ []; number = 0; used = 255; standard = true }
    ∷ record { octets = ordinary_label 63 ++ ordinary_label 63 ++ ordinary_label 63 ++ ordinary_label 62 ++ 0 ∷ []; number = 12; used = 0; standard = false }
    ∷ record { octets = ordinary_label 63 ++ ordinary_label 63 ++ ordinary_label 63 ++ ordinary_label 63 ++ 0 ∷ []; number = 12; used = 0; standard = false }
    ∷ record { octets = ordinary_label 63 ++ ordinary_label 63 ++ ordinary_label 63 ++ 63 ∷ []; number = 11; used = 0; standard = false }
    ∷ []

given : Case → Result Scanned Refusal
given c = scanned (scan_of c.octets)

expected : Case → Result Scanned Refusal
expected c = elim (eqb c.number 0) [ true ↦ Ok (record { used = c.used; standard = c.standard }) | false ↦ Err (told c.number) ]

scans : map given cases ≡ map expected cases
unfolding names_compute told given expected cases
scans = refl

-- standard forms: 255 and 1 bits make 256, whose count octet is 0; a run stays apart from the next; bits that are no whole octets
standards : List (List ℕ)
unfolding zeros
standards = (65 ∷ 255 ∷ zeros 32 ++ (65 ∷ 1 ∷ 128 ∷ 0 ∷ [])) ∷ (65 ∷ 3 ∷ 160 ∷ 65 ∷ 2 ∷ 64 ∷ 1 ∷ 97 ∷ 65 ∷ 1 ∷ 0 ∷ 0 ∷ []) ∷ (0 ∷ []) ∷ []

merges : map standard_of standards
    ≡ (65 ∷ 0 ∷ 128 ∷ zeros 31 ++ (0 ∷ [])) ∷ (65 ∷ 5 ∷ 104 ∷ 1 ∷ 97 ∷ 65 ∷ 1 ∷ 0 ∷ 0 ∷ []) ∷ (0 ∷ []) ∷ []
unfolding names_compute standards zeros
merges = refl

-- T-03: two names, and whether they are the same
record Pair : Type 0 where
  one : List ℕ
  other : List ℕ
  same : Bool

-- the name of one label of one octet
letter : ℕ → List ℕ
letter x = 1 ∷ x ∷ 0 ∷ []

-- RFC 2874's name again, its ordinary labels in lower case
respelt : List ℕ
respelt = 65 ∷ 128 ∷ 0x3F ∷ 0xFE ∷ 0x07 ∷ 0xC0 ∷ 0x00 ∷ 0x40 ∷ 0x00 ∷ 0x09 ∷ 0x0A ∷ 0x00 ∷ 0x20 ∷ 0xFF ∷ 0xFE ∷ 0x81 ∷ 0x2B ∷ 0x32 ∷ 3 ∷ 105 ∷ 112 ∷ 54 ∷ 4 ∷ 97 ∷ 114 ∷ 112 ∷ 97 ∷ 0 ∷ []

pairs : List Pair
unfolding letter parts whole ip6arpa respelt zeros
pairs =
    record { one = letter 65; other = letter 97; same = true }
    ∷ record { one = letter 90; other = letter 122; same = true }
    ∷ record { one = parts; other = respelt; same = true }
    -- the octets beside the letters, and those over 127
    ∷ record { one = letter 64; other = letter 96; same = false }
    ∷ record { one = letter 91; other = letter 123; same = false }
    ∷ record { one = letter 65; other = letter 98; same = false }
    ∷ record { one = letter 193; other = letter 225; same = false }
    -- length octets apart by 32
    ∷ record { one = letter 65; other = 33 ∷ replicate 33 65 ++ 0 ∷ []; same = false }
    -- bits and count octets that look like letters; a letter and a bit
    ∷ record { one = 65 ∷ 8 ∷ 65 ∷ 0 ∷ []; other = 65 ∷ 8 ∷ 97 ∷ 0 ∷ []; same = false }
    ∷ record { one = 65 ∷ 65 ∷ zeros 9 ++ 0 ∷ []; other = 65 ∷ 97 ∷ zeros 13 ++ 0 ∷ []; same = false }
    ∷ record { one = letter 65; other = 65 ∷ 1 ∷ 0 ∷ 0 ∷ []; same = false }
    -- letters after a bit label count alike again
    ∷ record { one = 65 ∷ 8 ∷ 65 ∷ 1 ∷ 65 ∷ 0 ∷ []; other = 65 ∷ 8 ∷ 65 ∷ 1 ∷ 97 ∷ 0 ∷ []; same = true }
    ∷ []

spellings : map (λ p. same_name p.one p.other) pairs ≡ map (λ p. p.same) pairs
unfolding names_compute pairs letter parts whole ip6arpa respelt zeros
spellings = refl
