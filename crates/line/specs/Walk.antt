-- The words of a line by their places, as the reader walks over them: the code's own, nothing that a reader must believe.
use Rattle.std.specs.Prelude.{ℕ, ◌+◌, min, Bool, true, false, not, ◌&&◌, List, [], ◌∷◌, ltb, eqb, length, take, drop}
use Rattle.octets.specs.Octets.{same}
use Rattle.octets.specs.Answers.{earns}
use Rattle.chains.specs.Graph.{max_ttl}
use Rattle.text.specs.Digits.{leading}
use Rattle.nametext.specs.Reading.{text_number}
use Rattle.line.specs.Words.{is_blank_octet, words_of, word}
use Rattle.line.specs.Writing.{a6_word}
use Rattle.line.specs.Reading.{decimal_number, type_number, address_number, rest_number}

-- no blank
unfoldable pub not_blank : ℕ → Bool
not_blank x = not (is_blank_octet x)

-- the word at a place, the place after it, and the place of the word after that
unfoldable pub word_at : List ℕ → ℕ → List ℕ
word_at s at = take (leading not_blank (drop at s)) (drop at s)

unfoldable pub word_end : List ℕ → ℕ → ℕ
word_end s at = at + leading not_blank (drop at s)

unfoldable pub passed : List ℕ → ℕ → ℕ
passed s e = e + leading is_blank_octet (drop e s)

unfoldable pub next : List ℕ → ℕ → ℕ
next s at = passed s (word_end s at)

-- the words after a word that ends at a place, and after the word at a place
unfoldable pub tail_from : List ℕ → ℕ → List (List ℕ)
tail_from s e = elim (ltb e (length s)) [ true ↦ words_of (drop (passed s e) s) | false ↦ [] ]

abbrev pub tail_at : List ℕ → ℕ → List (List ℕ)
tail_at s at = tail_from s (word_end s at)

-- after the owner, which ends at a place: the TTL, or 300 for it, and where the type stands
unfoldable pub ttl_word : List ℕ → ℕ → List ℕ
ttl_word s e = elim (same (word_at s (passed s e)) a6_word) [ true ↦ 51 ∷ 48 ∷ 48 ∷ [] | false ↦ word_at s (passed s e) ]

unfoldable pub type_place : List ℕ → ℕ → ℕ
type_place s e = elim (same (word_at s (passed s e)) a6_word) [ true ↦ passed s e | false ↦ next s (passed s e) ]

-- the first of 20, 21 and 22 that is one of two numbers
unfoldable pub worse : ℕ → ℕ → ℕ
worse a b = elim (eqb a 0) [ true ↦ b | false ↦ elim (eqb b 0) [ true ↦ a | false ↦ min a b ] ]

-- what the TTL and the type earn, after an owner that ends at a place
abbrev pub lived_number : List ℕ → ℕ → ℕ
lived_number s e = worse (decimal_number max_ttl (ttl_word s e)) (type_number (word_at s (type_place s e)))

-- the words after the prefix length, with the address where it is left out
unfoldable pub full_of : ℕ → List (List ℕ) → List (List ℕ)
full_of l ts = elim (eqb l 128 && eqb (length ts) 1) [ true ↦ (58 ∷ 58 ∷ []) ∷ ts | false ↦ ts ]

-- how they end
unfoldable pub end_number : ℕ → List (List ℕ) → ℕ
end_number l us = elim (eqb l 0) [
  | true ↦ earns (not (eqb (length us) 1)) 20 0
  | false ↦ earns (not (eqb (length us) 2)) 20 (text_number (word us 1))
]

-- what the words earn from the prefix length on, which is l
unfoldable pub late_number : ℕ → List (List ℕ) → ℕ
late_number l us = worse (address_number (word us 0)) (end_number l us)

-- the numbers that all the words earn
unfoldable pub word_numbers : List (List ℕ) → List ℕ
word_numbers ws = text_number (word ws 0) ∷ decimal_number max_ttl (word ws 1) ∷ type_number (word ws 2) ∷ decimal_number 128 (word ws 3) ∷ address_number (word ws 4) ∷ rest_number ws ∷ []
