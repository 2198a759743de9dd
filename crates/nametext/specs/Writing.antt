-- A name as text (T-06): each label and a dot.
use Rattle.std.specs.Prelude.{ℕ, ◌+◌, ◌/◌, ◌%◌, true, false, List, [], ◌∷◌, ◌++◌, map, length, take}
use Rattle.bits.specs.Bits.{pack}
use Rattle.labels.specs.Labels.{Label, ordinary, bits}
use Rattle.labels.specs.Scan.{scan_of, labels_of}
use Rattle.text.specs.Decimal.{write_decimal}
use Rattle.nametext.specs.Characters.{is_plain, hex_digit, three_digits}

-- an octet of an ordinary label: itself, or a backslash and its three decimal digits
unfoldable pub octet_text : ℕ → List ℕ
octet_text x = elim (is_plain x) [ true ↦ x ∷ [] | false ↦ 92 ∷ three_digits x ]

unfoldable pub ordinary_text : List ℕ → List ℕ
ordinary_text [] = []
ordinary_text (x ∷ xs) = octet_text x ++ ordinary_text xs

-- octets as values below 16, two for each octet
unfoldable pub nibbles : List ℕ → List ℕ
nibbles [] = []
nibbles (x ∷ xs) = x / 16 ∷ x % 16 ∷ nibbles xs

-- how many hex digits hold n bits: the fewest
abbrev pub digits_for : ℕ → ℕ
digits_for n = (n + 3) / 4

-- the hex digits of bits, as few as hold them, the unused bits of the last one zero
unfoldable pub hex_text : List ℕ → List ℕ
hex_text b = map hex_digit (take (digits_for (length b)) (nibbles (pack b)))

-- a bit label: backslash, bracket, x, the digits, slash, the count, bracket
unfoldable pub bits_text : List ℕ → List ℕ
bits_text b = 92 ∷ 91 ∷ 120 ∷ (hex_text b ++ (47 ∷ (write_decimal (length b) ++ (93 ∷ []))))

unfoldable pub label_text : Label → List ℕ
label_text (ordinary l) = ordinary_text l
label_text (bits b) = bits_text b

-- each label and a dot
unfoldable pub dotted : List Label → List ℕ
dotted [] = []
dotted (l ∷ ls) = label_text l ++ (46 ∷ dotted ls)

-- the labels of a name as text; the root is a dot alone
unfoldable pub labels_text : List Label → List ℕ
labels_text [] = 46 ∷ []
labels_text (l ∷ ls) = dotted (l ∷ ls)

-- a name in wire form as text
unfoldable pub text_of : List ℕ → List ℕ
text_of name = labels_text (labels_of (scan_of name))
