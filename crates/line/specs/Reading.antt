-- A line read (T-06): each word earns a number by its place, the line earns the first of 20, 21 and 22 that is among them, and the words give the fields.
use Rattle.std.specs.Prelude.{ℕ, true, false, not, ◌&&◌, List, [], ◌∷◌, ◌++◌, ltb, eqb, length, take, drop}
use Rattle.octets.specs.Octets.{blank, same, among}
use Rattle.octets.specs.Answers.{earns}
use Rattle.address.specs.Address.{join_of}
use Rattle.chains.specs.Graph.{max_ttl}
use Rattle.plan.specs.declared.inside.Fields.{Fields}
use Rattle.plan.specs.Fields.{a6_record}
use Rattle.text.specs.Decimal.{digit_count, decimal_of, is_decimal}
use Rattle.text.specs.AddressText.{is_address, read_address}
use Rattle.nametext.specs.Reading.{text_number, name_held}
use Rattle.line.specs.Words.{words_of, word, body_of, end_of}
use Rattle.line.specs.Writing.{a6_word}

-- what a word earns by itself. A decimal: 20 where it is none from end to end, then 21 where it is over the bound.
unfoldable pub decimal_number : ℕ → List ℕ → ℕ
decimal_number bound w = earns (not (is_decimal w && eqb (digit_count w) (length w))) 20 (earns (ltb bound (decimal_of w)) 21 0)

-- the type, and an address: 20 where it is none
unfoldable pub type_number : List ℕ → ℕ
type_number w = earns (not (same w a6_word)) 20 0

unfoldable pub address_number : List ℕ → ℕ
address_number w = earns (not (is_address w)) 20 0

-- a line whose second word is A6 leaves the TTL out: it stands for 300
unfoldable pub with_ttl : List (List ℕ) → List (List ℕ)
with_ttl ws = elim (same (word ws 1) a6_word) [ true ↦ word ws 0 ∷ (51 ∷ 48 ∷ 48 ∷ []) ∷ drop 1 ws | false ↦ ws ]

-- the prefix length of words that have a TTL, whatever its size
unfoldable pub length_in : List (List ℕ) → ℕ
length_in ws = decimal_of (word ws 3)

-- at prefix length 128 five words leave the address out: it stands for ::
unfoldable pub with_address : List (List ℕ) → List (List ℕ)
with_address ws = elim (eqb (length_in ws) 128 && eqb (length ws) 5) [ true ↦ take 4 ws ++ ((58 ∷ 58 ∷ []) ∷ drop 4 ws) | false ↦ ws ]

-- the words of a line, with those that are left out: owner, TTL, A6, prefix length, address and, unless the length is 0, target
unfoldable pub words_in : List ℕ → List (List ℕ)
words_in line = with_address (with_ttl (words_of (body_of line)))

-- how the words end: with the address at prefix length 0, and with the target at any other
unfoldable pub rest_number : List (List ℕ) → ℕ
rest_number ws = elim (eqb (length_in ws) 0) [
  | true ↦ earns (not (eqb (length ws) 5)) 20 0
  | false ↦ earns (not (eqb (length ws) 6)) 20 (text_number (word ws 5))
]

-- the numbers that the words earn, and the end of the line
unfoldable pub numbers_in : List ℕ → List (List ℕ) → List ℕ
numbers_in line ws =
    earns (not (eqb (end_of line) 10)) 20 0
    ∷ text_number (word ws 0)
    ∷ decimal_number max_ttl (word ws 1)
    ∷ type_number (word ws 2)
    ∷ decimal_number 128 (word ws 3)
    ∷ address_number (word ws 4)
    ∷ rest_number ws
    ∷ []

-- 20 wherever it stands hides 21, and 21 hides 22
unfoldable pub worst : List ℕ → ℕ
worst ns = earns (among 20 ns) 20 (earns (among 21 ns) 21 (earns (among 22 ns) 22 0))

unfoldable pub line_number : List ℕ → ℕ
line_number line = worst (numbers_in line (words_in line))

-- the fields that the words give: the first bits of the address are cleared, as many as the prefix length, and no target is read at length 0
unfoldable pub fields_in : List (List ℕ) → Fields
fields_in ws = record {
  prefix = length_in ws;
  address = join_of (blank 16) (read_address (word ws 4)) (length_in ws);
  owner = name_held (word ws 0);
  target = name_held (word ws 5);
  ttl = decimal_of (word ws 1);
}

-- the record of a line
unfoldable pub record_in : List ℕ → List ℕ
record_in line = a6_record (fields_in (words_in line))
