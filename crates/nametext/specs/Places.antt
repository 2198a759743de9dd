-- What the readers of a name's text find, place by place and part by part: the code's own, nothing that a reader must believe.
use Rattle.std.specs.Prelude.{ℕ, zero, suc, ◌+◌, ◌-◌, ◌*◌, ◌/◌, ◌%◌, ◌^◌, ◌≤◌, ◌<◌, min, ◌≡◌, Bool, true, false, not, ◌&&◌, List, [], ◌∷◌, ◌++◌, map, leb, ltb, eqb, length, get_or, take, drop, Result, Ok, Err}
use Rattle.octets.specs.Answers.{earns}
use Rattle.octets.specs.declared.Refusal.{Refusal}
use Rattle.octets.specs.declared.Refusal.TheVariants.{Form, Range, Name}
use Rattle.octets.specs.Refusals.{code_of, number_of}
use Rattle.bits.specs.Bits.{bits_of, octets_for, pack_from}
use Rattle.bits.specs.Packing.{Clean}
use Rattle.labels.specs.Labels.{Label, ordinary, bits}
use Rattle.names.specs.Standard.{units, encode_from}
use Rattle.names.specs.Merge.{run_bits, after_run}
use Rattle.names.specs.declared.Place.{Place}
use Rattle.names.specs.declared.Run.{Run}
use Rattle.text.specs.Digits.{digit_in}
use Rattle.nametext.specs.Reading.{octets_formed, octets_in, octets_ranged, is_bits_text, bits_formed, count_in, label_formed, label_ranged, label_in, parts_from, last_from, every}
use Rattle.nametext.specs.declared.reading.Octet.{Octet}
use Rattle.nametext.specs.declared.reading.Part.{Part}
use Rattle.nametext.specs.declared.reading.Part.TheVariants.{Word, Bits}
use Rattle.nametext.specs.declared.reading.Quarters.{Quarters}
use Rattle.nametext.specs.declared.reading.Sizes.{Sizes}

-- the first dot from a place on, or the end of the text: what stands between is the next part
pub record Dot (text : List ℕ) (at r : ℕ) : Type 0 where
  pub low : at ≤ r
  pub high : r ≤ length text
  pub found : r < length text → (get_or text r 0 ≡ 46) × (parts_from [] (drop at text) ≡ take (r - at) (drop at text) ∷ parts_from [] (drop (r + 1) text))
  pub none : r ≡ length text → parts_from [] (drop at text) ≡ []

-- an octet or an escape stands at the front of an ordinary label's text, and its value
pub record Stands (p : List ℕ) (r : Octet) : Type 0 where
  pub some : 0 < r.size
  pub formed : octets_formed 0 p ≡ octets_formed 0 (drop r.size p)
  pub holds : octets_in 0 p ≡ r.value ∷ octets_in 0 (drop r.size p)
  pub inside : r.size ≤ length p
  pub small : r.value < 1000

-- none stands there: the text ends, or has no form
abbrev pub Ended : List ℕ → Type 0
Ended p = 0 < length p → octets_formed 0 p ≡ false

-- a part as a label: by its form, then by its ranges, with what it holds
unfoldable pub part_by : Bool → Bool → Part → Result Part Refusal
part_by formed ranged part = elim formed [
  | true ↦ elim ranged [ true ↦ Ok part | false ↦ Err Range ]
  | false ↦ Err Form
]

unfoldable pub ordinary_part : List ℕ → Result Part Refusal
ordinary_part p = part_by (not (eqb (length p) 0) && octets_formed 0 p) (octets_ranged (octets_in 0 p)) (Word (length (octets_in 0 p)))

unfoldable pub bit_part : List ℕ → Result Part Refusal
bit_part p = part_by (bits_formed p) (leb (count_in p) 256) (Bits (count_in p))

unfoldable pub part_of : List ℕ → Result Part Refusal
part_of p = elim (is_bits_text p) [ true ↦ bit_part p | false ↦ ordinary_part p ]

-- a part that is a bit label
abbrev pub IsBits : List ℕ → Type 0
IsBits p = part_of p ≡ Ok (Bits (count_in p))

-- a number as four times a whole and a rest, capped
pub record Quartered (value cap : ℕ) (r : Quarters) : Type 0 where
  pub is : 4 * r.whole + r.rest ≡ min value cap
  pub rest : r.rest < 4

-- the octets that a run of so many bits takes
unfoldable pub run_size : ℕ → ℕ
run_size zero = 0
run_size (suc k) = 2 + octets_for (suc k)

-- the octets of the merged name, where so many bits of a run came before
unfoldable pub size_from : ℕ → List Label → ℕ
size_from run [] = run_size run + 1
size_from run (ordinary l ∷ ls) = run_size run + (1 + (length l + size_from 0 ls))
size_from run (bits b ∷ ls) = size_from (run + length b) ls

-- one ordinary label more, of n octets; one bit label more, of n bits
unfoldable pub tallied_word : Sizes → ℕ → Result Sizes Refusal
tallied_word t n = elim (ltb n 64 && ltb (t.size + (run_size t.run + (1 + n))) 255) [
  | true ↦ Ok (record { size = t.size + (run_size t.run + (1 + n)); run = 0 })
  | false ↦ Err Name
]

unfoldable pub tallied_bits : Sizes → ℕ → Result Sizes Refusal
tallied_bits t n = elim (leb (t.run + n) 256) [ true ↦ Ok (record { size = t.size; run = t.run + n }) | false ↦ Err Name ]

-- one label more, where sizes are tallied
abbrev pub tallied_part : Sizes → Part → Result Sizes Refusal
tallied_part t (Word n) = tallied_word t n
tallied_part t (Bits n) = tallied_bits t n

-- one label more: its fault, or else what is known
abbrev pub tallied : Result Sizes Refusal → Result Part Refusal → Result Sizes Refusal
tallied t (Err e) = Err e
tallied (Err e) (Ok l) = Err e
tallied (Ok t) (Ok l) = tallied_part t l

-- the number at the end of the name
abbrev pub concluded : Result Sizes Refusal → ℕ
concluded (Err e) = code_of e
concluded (Ok t) = earns (not (leb (t.size + (run_size t.run + 1)) 255)) 22 0

-- the number of parts after those that were tallied
unfoldable pub judge_from : Result Sizes Refusal → List (List ℕ) → ℕ
judge_from t [] = concluded t
judge_from t (p ∷ ps) = elim (eqb (number_of (part_of p)) 20) [ true ↦ 20 | false ↦ judge_from (tallied t (part_of p)) ps ]

-- sizes that are tallied are small
pub record Low (t : Sizes) : Type 0 where
  pub size : t.size < 255
  pub run : t.run ≤ 256

-- the first n bits of hex digits
unfoldable pub hex_bits : ℕ → List ℕ → List ℕ
hex_bits n [] = []
hex_bits n (c ∷ cs) = bits_of (min 4 n) (digit_in c / 2 ^ (4 - min 4 n)) ++ hex_bits (n - 4) cs

-- the labels from a place on, and the octets of them in standard form
abbrev pub rest_of : List ℕ → ℕ → List Label
rest_of text at = map label_in (parts_from [] (drop at text))

unfoldable pub encode_rest : List ℕ → ℕ → List ℕ
encode_rest text at = encode_from [] (units (rest_of text at))

-- labels in order stand from a place on, to the end of the text
pub record Standing (text : List ℕ) (at : ℕ) : Type 0 where
  pub inside : at ≤ length text
  pub dot : at < length text → last_from 0 (drop at text) ≡ 46
  pub formed : every label_formed (parts_from [] (drop at text)) ≡ true
  pub ranged : every label_ranged (parts_from [] (drop at text)) ≡ true

-- octets were put from a place on, with zeros after them
pub record Filled (old new : List ℕ) (to r : ℕ) (xs : List ℕ) : Type 0 where
  pub whole : take r new ≡ take to old ++ xs
  pub clean : Clean new r
  pub place : r ≡ to + length xs

-- a run was packed from a place on, its header with the count of all its bits first; `sum` bits of it came before
pub record Ran (text old new : List ℕ) (at sum to : ℕ) (r : Run) : Type 0 where
  pub adds : (rest : List ℕ) → take r.packer.to new ++ pack_from r.packer.have r.packer.value rest
      ≡ (take to old ++ (65 ∷ (sum + length (run_bits (rest_of text at))) % 256 ∷ [])) ++ pack_from 0 0 (run_bits (rest_of text at) ++ rest)
  pub clean : Clean new r.packer.to
  pub have : r.packer.have < 8
  pub value : r.packer.value < 2 ^ r.packer.have
  pub place : r.packer.to * 8 + r.packer.have ≡ (to + 2) * 8 + length (run_bits (rest_of text at))
  pub standing : Standing text r.end
  pub after : rest_of text r.end ≡ after_run (rest_of text at)
  pub far : at ≤ r.end
  pub on : 0 < length (run_bits (rest_of text at)) → at < r.end

-- one more label or run was written
pub record Moved (text old new : List ℕ) (at to : ℕ) (r : Place) : Type 0 where
  pub same : take r.to new ++ encode_rest text r.at ≡ take to old ++ encode_rest text at
  pub clean : Clean new r.to
  pub low : r.to ≤ length new
  pub standing : Standing text r.at
  pub on : at < r.at
