-- Digits of a number in a base, as octets of text (T-06).
use Rattle.std.specs.Prelude.{ℕ, zero, suc, ◌+◌, ◌-◌, ◌*◌, ◌/◌, ◌%◌, Bool, true, false, ◌&&◌, List, [], ◌∷◌, ◌++◌, map, ltb, leb}

-- the lowest `most` digits of a number, the highest first, with no needless zero
unfoldable pub digits_up_to : ℕ → ℕ → ℕ → List ℕ
digits_up_to zero base n = []
digits_up_to (suc most) base n = elim (ltb n base) [ true ↦ n ∷ [] | false ↦ digits_up_to most base (n / base) ++ (n % base ∷ []) ]

-- all digits of a number: it has no more digits than one and its own value
unfoldable pub digits_of : ℕ → ℕ → List ℕ
digits_of base n = digits_up_to (suc n) base n

-- the number that digits write after those of v
unfoldable pub number_from : ℕ → ℕ → List ℕ → ℕ
number_from base v [] = v
number_from base v (d ∷ ds) = number_from base (v * base + d) ds

-- the octet of a digit: 0 to 9, then small letters
unfoldable pub digit_octet : ℕ → ℕ
digit_octet d = elim (ltb d 10) [ true ↦ 48 + d | false ↦ 87 + d ]

-- the octet lies between two others, both counted
abbrev pub between : ℕ → ℕ → ℕ → Bool
between low high c = leb low c && leb c high

-- the digit that an octet writes, a letter of either case; 16 for every other octet
unfoldable pub digit_in : ℕ → ℕ
digit_in c =
    elim (between 48 57 c) [
      | true ↦ c - 48
      | false ↦ elim (between 97 102 c) [
        | true ↦ c - 87
        | false ↦ elim (between 65 70 c) [ true ↦ c - 55 | false ↦ 16 ]
      ]
    ]

-- a decimal digit; a hexadecimal digit of either case
abbrev pub is_digit : ℕ → Bool
is_digit c = between 48 57 c

abbrev pub is_hex : ℕ → Bool
is_hex c = ltb (digit_in c) 16

-- how many octets at the start of text pass a test
unfoldable pub leading : (ℕ → Bool) → List ℕ → ℕ
leading t [] = 0
leading t (c ∷ cs) = elim (t c) [ true ↦ suc (leading t cs) | false ↦ 0 ]

-- the text of a number, with no needless zero
unfoldable pub number_text : ℕ → ℕ → List ℕ
number_text base n = map digit_octet (digits_of base n)
