-- A name read from text (T-06): its form is judged over the whole text, then the ranges of its numbers, then its sizes.
-- No octet of a label's text is a dot, so the dots part the labels.
use Rattle.std.specs.Prelude.{ℕ, zero, suc, ◌+◌, ◌-◌, ◌*◌, ◌%◌, ◌^◌, Bool, true, false, not, ◌&&◌, ◌||◌, List, [], ◌∷◌, ◌++◌, map, leb, ltb, eqb, length, get_or, take, drop, Result, Ok, Err}
use Rattle.octets.specs.Octets.{same}
use Rattle.octets.specs.Answers.{earns}
use Rattle.octets.specs.declared.Refusal.{Refusal}
use Rattle.octets.specs.Refusals.{told}
use Rattle.bits.specs.Bits.{octets_for, unpack}
use Rattle.labels.specs.Labels.{Label, ordinary, bits, first_of}
use Rattle.names.specs.Standard.{units, encode}
use Rattle.names.specs.Name.{name_of}
use Rattle.names.specs.declared.Name.{Name}
use Rattle.nametext.specs.declared.reading.Named.{Named}
use Rattle.text.specs.Digits.{digit_in, is_digit, is_hex, leading}
use Rattle.text.specs.Decimal.{digit_count, decimal_of, is_decimal}
use Rattle.nametext.specs.Characters.{is_plain, may_name}
use Rattle.nametext.specs.Writing.{digits_for}

-- the octets of values below 16, two values to an octet; a zero is added to the last one if it stands alone
unfoldable pub paired : List ℕ → List ℕ
paired [] = []
paired (x ∷ []) = x * 16 ∷ []
paired (x ∷ y ∷ zs) = (x * 16 + y) ∷ paired zs

-- Ordinary labels. An escape is a backslash and three digits; `skip` octets of one are passed over first.
unfoldable pub octets_formed : ℕ → List ℕ → Bool
octets_formed skip [] = true
octets_formed (suc skip) (x ∷ xs) = octets_formed skip xs
octets_formed zero (x ∷ xs) = elim (eqb x 92) [
  | true ↦ (is_digit (get_or xs 0 0) && (is_digit (get_or xs 1 0) && is_digit (get_or xs 2 0))) && octets_formed 3 xs
  | false ↦ is_plain x && octets_formed 0 xs
]

-- what the label holds; an escape may stand for a number up to 999
unfoldable pub octets_in : ℕ → List ℕ → List ℕ
octets_in skip [] = []
octets_in (suc skip) (x ∷ xs) = octets_in skip xs
octets_in zero (x ∷ xs) = elim (eqb x 92) [
  | true ↦ ((get_or xs 0 0 - 48) * 100 + ((get_or xs 1 0 - 48) * 10 + (get_or xs 2 0 - 48))) ∷ octets_in 3 xs
  | false ↦ x ∷ octets_in 0 xs
]

unfoldable pub octets_ranged : List ℕ → Bool
octets_ranged [] = true
octets_ranged (x ∷ xs) = ltb x 256 && octets_ranged xs

-- Bit labels: a backslash and a bracket begin one, and nothing else. After the x come the digits; then a slash and the count, if it is given; then a bracket.
unfoldable pub is_bits_text : List ℕ → Bool
is_bits_text p = eqb (get_or p 0 0) 92 && eqb (get_or p 1 0) 91

unfoldable pub digits_in : List ℕ → List ℕ
digits_in p = take (leading is_hex (drop 3 p)) (drop 3 p)

unfoldable pub past_digits : List ℕ → List ℕ
past_digits p = drop (leading is_hex (drop 3 p)) (drop 3 p)

unfoldable pub is_counted : List ℕ → Bool
is_counted p = eqb (first_of (past_digits p)) 47

-- the count's text and what comes after it
unfoldable pub count_text : List ℕ → List ℕ
count_text p = drop 1 (past_digits p)

-- the count; four times the digits where it is left out
unfoldable pub count_in : List ℕ → ℕ
count_in p = elim (is_counted p) [ true ↦ decimal_of (count_text p) | false ↦ 4 * length (digits_in p) ]

-- a count that is given is a decimal
unfoldable pub count_formed : List ℕ → Bool
count_formed p = not (is_counted p) || is_decimal (count_text p)

-- what comes after the count
unfoldable pub end_in : List ℕ → List ℕ
end_in p = elim (is_counted p) [ true ↦ drop (digit_count (count_text p)) (count_text p) | false ↦ past_digits p ]

-- the octets that hold the digits
unfoldable pub bit_octets : List ℕ → List ℕ
bit_octets p = paired (map digit_in (digits_in p))

-- the bits of the last octet that a count of n leaves unused are zero
unfoldable pub rest_clear : ℕ → List ℕ → Bool
rest_clear n xs = eqb (get_or xs (octets_for n - 1) 0 % 2 ^ (octets_for n * 8 - n)) 0

-- some digits, just as many as the count needs, no needless zero in the count, the unused bits zero
unfoldable pub bits_formed : List ℕ → Bool
bits_formed p =
    eqb (get_or p 2 0) 120
    && (not (eqb (length (digits_in p)) 0)
    && (count_formed p
    && (same (end_in p) (93 ∷ [])
    && (eqb (length (digits_in p)) (digits_for (count_in p))
    && rest_clear (count_in p) (bit_octets p)))))

-- One label: its form, what it holds, and whether its numbers are in range. An empty label has no form.
unfoldable pub label_formed : List ℕ → Bool
label_formed p = elim (is_bits_text p) [ true ↦ bits_formed p | false ↦ not (eqb (length p) 0) && octets_formed 0 p ]

unfoldable pub label_in : List ℕ → Label
label_in p = elim (is_bits_text p) [ true ↦ bits (unpack (count_in p) (bit_octets p)) | false ↦ ordinary (octets_in 0 p) ]

unfoldable pub label_ranged : List ℕ → Bool
label_ranged p = elim (is_bits_text p) [ true ↦ leb (count_in p) 256 | false ↦ octets_ranged (octets_in 0 p) ]

-- The whole name: what stands before each dot, after `begun` of the first of them.
unfoldable pub parts_from : List ℕ → List ℕ → List (List ℕ)
parts_from begun [] = []
parts_from begun (x ∷ xs) = elim (eqb x 46) [ true ↦ begun ∷ parts_from [] xs | false ↦ parts_from (begun ++ (x ∷ [])) xs ]

-- the texts of the labels; the root has none
unfoldable pub parts_of : List ℕ → List (List ℕ)
parts_of text = elim (same text (46 ∷ [])) [ true ↦ [] | false ↦ parts_from [] text ]

unfoldable pub last_from : ℕ → List ℕ → ℕ
last_from d [] = d
last_from d (x ∷ xs) = last_from x xs

-- all parts pass a test
unfoldable pub every : (List ℕ → Bool) → List (List ℕ) → Bool
every t [] = true
every t (p ∷ ps) = t p && every t ps

-- no ordinary label has over 63 octets, and no run over 256 bits; `run` bits of one came before
unfoldable pub labels_short : ℕ → List Label → Bool
labels_short run [] = true
labels_short run (ordinary l ∷ ls) = ltb (length l) 64 && labels_short 0 ls
labels_short run (bits b ∷ ls) = leb (run + length b) 256 && labels_short (run + length b) ls

unfoldable pub labels_in : List ℕ → List Label
labels_in text = map label_in (parts_of text)

-- the name in standard form: runs are merged, since its units are written with one bit label for each run
unfoldable pub name_read : List ℕ → List ℕ
name_read text = encode (units (labels_in text))

-- T-06: 20 where the text has not the form of a name that ends in a dot, 21 for an escape over 255 or a count over 256,
-- 22 for a label over 63 octets, a run over 256 bits or a name over 255 octets
unfoldable pub text_number : List ℕ → ℕ
text_number text =
    earns (not (eqb (last_from 0 text) 46 && every label_formed (parts_of text))) 20
    (earns (not (every label_ranged (parts_of text))) 21
    (earns (not (labels_short 0 (labels_in text) && leb (length (name_read text)) 255)) 22
    0))

-- the part of a line from a place on whose octets may stand in a name
unfoldable pub name_part : List ℕ → ℕ → List ℕ
name_part s from = take (leading may_name (drop from s)) (drop from s)

-- the value that holds the name that a text stands for; none where the text earns a number
unfoldable pub name_held : List ℕ → Name
name_held text = elim (eqb (text_number text) 0) [ true ↦ name_of (name_read text) | false ↦ name_of [] ]

-- what is read of a text: the name that it stands for, or the refusal that its number tells
unfoldable pub name_told : List ℕ → Result Name Refusal
name_told text = elim (eqb (text_number text) 0) [ true ↦ Ok (name_of (name_read text)) | false ↦ Err (told (text_number text)) ]

-- what is read from a place on: the name, and the place after the octets that may stand in one
unfoldable pub name_at : List ℕ → ℕ → Named
name_at s from = record { name = name_told (name_part s from); next = from + leading may_name (drop from s) }
