-- The order of refusals, for every line: 20 wherever it is earned hides 21 and 22, and 21 hides 22.
use Prim.Native.Nat.{ℕ}
use mathlib.Core.Path.{◌≡◌, refl, ◌∙◌, sym}
use mathlib.Core.Bool.{Bool, true, false, not, ◌&&◌, ◌||◌}
use mathlib.Core.List.{List, [], ◌∷◌}
use mathlib.Core.Logic.{◌⊎◌, inl, inr, ⊎_elim}
use lib.Dec.{leb, ltb, eqb}
use lib.ListN.{length}
use native.Mathlib.Omega.{arith}
use borrow.Author.Tests.{ne_eqb, eqb-false}
use Rattle.octets.specs.Octets.{same, among}
use Rattle.octets.specs.Answers.{earns}
use Rattle.octets.proofs.BoolLaws.{clash}
use Rattle.octets.proofs.AnswerLaws.{else_to}
use Rattle.chains.specs.Graph.{max_ttl}
use Rattle.plan.specs.Layout.{record_size}
use Rattle.text.specs.Decimal.{digit_count, decimal_of, is_decimal}
use Rattle.text.specs.AddressText.{is_address}
use Rattle.text.specs.Rfc5952.{Every}
use Rattle.nametext.specs.Reading.{label_formed, label_ranged, parts_of, last_from, every, labels_short, labels_in, name_read, text_number}
use Rattle.line.specs.Words.{word, end_of}
use Rattle.line.specs.Writing.{a6_word}
use Rattle.line.specs.Reading.{decimal_number, type_number, address_number, length_in, words_in, rest_number, numbers_in, worst, line_number}
use Rattle.line.specs.Answers.{read_line_number}

-- what a word, and a line, can earn
abbrev pub Known : ℕ → Type 0
Known n = (n ≡ 0) ⊎ ((n ≡ 20) ⊎ ((n ≡ 21) ⊎ (n ≡ 22)))

pub known_earns : (b : Bool) (n later : ℕ) → Known n → Known later → Known (earns b n later)
known_earns true n later h k = h
known_earns false n later h k = k

pub known_none : Known 0
known_none = inl refl

pub known_20 : Known 20
known_20 = inr (inl refl)

known_21 : Known 21
known_21 = inr (inr (inl refl))

known_22 : Known 22
known_22 = inr (inr (inr refl))

-- each word
pub name_known : (w : List ℕ) → Known (text_number w)
unfolding text_number
name_known w =
    known_earns (not (eqb (last_from 0 w) 46 && every label_formed (parts_of w))) 20 _ known_20
    (known_earns (not (every label_ranged (parts_of w))) 21 _ known_21 (known_earns (not (labels_short 0 (labels_in w) && leb (length (name_read w)) 255)) 22 0 known_22 known_none))

pub decimal_known : (bound : ℕ) (w : List ℕ) → Known (decimal_number bound w)
unfolding decimal_number
decimal_known bound w =
    known_earns (not (is_decimal w && eqb (digit_count w) (length w))) 20 _ known_20 (known_earns (ltb bound (decimal_of w)) 21 0 known_21 known_none)

pub type_known : (w : List ℕ) → Known (type_number w)
unfolding type_number
type_known w = known_earns (not (same w a6_word)) 20 0 known_20 known_none

pub address_known : (w : List ℕ) → Known (address_number w)
unfolding address_number
address_known w = known_earns (not (is_address w)) 20 0 known_20 known_none

pub rest_known : (ws : List (List ℕ)) → Known (rest_number ws)
unfolding rest_number
rest_known ws = go (eqb (length_in ws) 0) refl
  where
    go : (t : Bool) → eqb (length_in ws) 0 ≡ t → Known (rest_number ws)
    go true e = rw (rest_number, e) (known_earns (not (eqb (length ws) 5)) 20 0 known_20 known_none)
    go false e = rw (rest_number, e) (known_earns (not (eqb (length ws) 6)) 20 (text_number (word ws 5)) known_20 (name_known (word ws 5)))

pub numbers_known : (line : List ℕ) (ws : List (List ℕ)) → Every Known (numbers_in line ws)
unfolding numbers_in
numbers_known line ws =
    let e = known_earns (not (eqb (end_of line) 10)) 20 0 known_20 known_none in
    (e, (name_known (word ws 0), (decimal_known max_ttl (word ws 1), (type_known (word ws 2), (decimal_known 128 (word ws 3), (address_known (word ws 4), (rest_known ws, tt)))))))

-- the worst of numbers
module _ (ns : List ℕ) where
  pub worst_20 : among 20 ns ≡ true → worst ns ≡ 20
  unfolding worst
  worst_20 h = rw (worst, h)

  pub worst_21 : among 20 ns ≡ false → among 21 ns ≡ true → worst ns ≡ 21
  unfolding worst
  worst_21 h k = rw (worst, h, k)

  pub worst_22 : among 20 ns ≡ false → among 21 ns ≡ false → among 22 ns ≡ true → worst ns ≡ 22
  unfolding worst
  worst_22 h k l = rw (worst, h, k, l)

  pub worst_none : among 20 ns ≡ false → among 21 ns ≡ false → among 22 ns ≡ false → worst ns ≡ 0
  unfolding worst
  worst_none h k l = rw (worst, h, k, l)

  -- which of them it is
  data Which : Type 0 where
    twenty : among 20 ns ≡ true → worst ns ≡ 20 → Which
    twenty_one : among 20 ns ≡ false → among 21 ns ≡ true → worst ns ≡ 21 → Which
    twenty_two : among 20 ns ≡ false → among 21 ns ≡ false → among 22 ns ≡ true → worst ns ≡ 22 → Which
    none : among 20 ns ≡ false → among 21 ns ≡ false → among 22 ns ≡ false → worst ns ≡ 0 → Which

  which : Which
  which = go (among 20 ns) refl (among 21 ns) refl (among 22 ns) refl
    where
      go : (a : Bool) → among 20 ns ≡ a → (b : Bool) → among 21 ns ≡ b → (c : Bool) → among 22 ns ≡ c → Which
      go true e b f c g = twenty e (worst_20 e)
      go false e true f c g = twenty_one e f (worst_21 e f)
      go false e false f true g = twenty_two e f g (worst_22 e f g)
      go false e false f false g = none e f g (worst_none e f g)

  pub worst_known : Known (worst ns)
  worst_known = elim which [ twenty e h ↦ inr (inl h) | twenty_one e f h ↦ inr (inr (inl h)) | twenty_two e f g h ↦ inr (inr (inr h)) | none e f g h ↦ inl h ]

  -- and what it came from
  pub from_20 : worst ns ≡ 20 → among 20 ns ≡ true
  from_20 w = elim which [
    | twenty e h ↦ e
    | twenty_one e f h ↦ let z : ⊥ = omega arith in absurd z
    | twenty_two e f g h ↦ let z : ⊥ = omega arith in absurd z
    | none e f g h ↦ let z : ⊥ = omega arith in absurd z
  ]

  pub from_21 : worst ns ≡ 21 → (among 20 ns ≡ false) × (among 21 ns ≡ true)
  from_21 w = elim which [
    | twenty e h ↦ let z : ⊥ = omega arith in absurd z
    | twenty_one e f h ↦ (e, f)
    | twenty_two e f g h ↦ let z : ⊥ = omega arith in absurd z
    | none e f g h ↦ let z : ⊥ = omega arith in absurd z
  ]

  pub from_22 : worst ns ≡ 22 → (among 20 ns ≡ false) × (among 21 ns ≡ false) × (among 22 ns ≡ true)
  from_22 w = elim which [
    | twenty e h ↦ let z : ⊥ = omega arith in absurd z
    | twenty_one e f h ↦ let z : ⊥ = omega arith in absurd z
    | twenty_two e f g h ↦ (e, f, g)
    | none e f g h ↦ let z : ⊥ = omega arith in absurd z
  ]

  pub from_none : worst ns ≡ 0 → (among 20 ns ≡ false) × (among 21 ns ≡ false) × (among 22 ns ≡ false)
  from_none w = elim which [
    | twenty e h ↦ let z : ⊥ = omega arith in absurd z
    | twenty_one e f h ↦ let z : ⊥ = omega arith in absurd z
    | twenty_two e f g h ↦ let z : ⊥ = omega arith in absurd z
    | none e f g h ↦ (e, f, g)
  ]

-- no number but 0: no other is among them, and where none of 20, 21 and 22 is, each is 0
abbrev pub Nought : ℕ → Type 0
Nought n = n ≡ 0

among_nought : (m : ℕ) (ns : List ℕ) → (m ≡ 0 → ⊥) → Every Nought ns → among m ns ≡ false
unfolding among
among_nought m [] h k = refl
among_nought m (n ∷ ns) h k = rw (ne_eqb n m (λ e. h (sym e ∙ k.0)), among_nought m ns h k.1)

neither : (a b : Bool) → (a || b) ≡ false → (a ≡ false) × (b ≡ false)
neither true b e = absurd (clash refl e)
neither false b e = (refl, e)

among_not : (m n : ℕ) (ns : List ℕ) → among m (n ∷ ns) ≡ false → (n ≡ m → ⊥) × (among m ns ≡ false)
unfolding among
among_not m n ns h = let k = neither (eqb n m) (among m ns) h in (eqb-false n m k.0, k.1)

nought_known : (ns : List ℕ) → Every Known ns → among 20 ns ≡ false → among 21 ns ≡ false → among 22 ns ≡ false → Every Nought ns
nought_known [] k a b c = tt
nought_known (n ∷ ns) k a b c =
    let d = among_not 20 n ns a in
    let e = among_not 21 n ns b in
    let f = among_not 22 n ns c in
    (⊎_elim (λ h. h) (⊎_elim (λ h. absurd (d.0 h)) (⊎_elim (λ h. absurd (e.0 h)) (λ h. absurd (f.0 h)))) k.0, nought_known ns k.1 d.1 e.1 f.1)

-- ---- the theorems
module _ (line : List ℕ) where
  -- the numbers that a line's words earn, and its end
  abbrev pub earned : List ℕ
  earned = numbers_in line (words_in line)

  -- a number of the line comes before the room of the output
  pub read_kept : (k room : ℕ) → (k ≡ 0 → ⊥) → line_number line ≡ k → read_line_number line room ≡ k
  unfolding read_line_number
  read_kept k room h e = else_to k (line_number line) (earns (ltb room record_size) 23 0) h e

  -- Theorem: 20, wherever it is earned, hides 21 and 22
  pub hides_20 : among 20 earned ≡ true → (line_number line ≡ 20) × ((room : ℕ) → read_line_number line room ≡ 20)
  unfolding line_number
  hides_20 h = let e = worst_20 earned h in (e, λ room. read_kept 20 room (λ z. omega arith) e)

  -- Theorem: 21, where no 20 is earned, hides 22
  pub hides_21 : among 20 earned ≡ false → among 21 earned ≡ true → (line_number line ≡ 21) × ((room : ℕ) → read_line_number line room ≡ 21)
  unfolding line_number
  hides_21 h k = let e = worst_21 earned h k in (e, λ room. read_kept 21 room (λ z. omega arith) e)

  -- Theorem: 22, where neither is earned, hides 23
  pub hides_22 : among 20 earned ≡ false → among 21 earned ≡ false → among 22 earned ≡ true → (line_number line ≡ 22) × ((room : ℕ) → read_line_number line room ≡ 22)
  unfolding line_number
  hides_22 h k l = let e = worst_22 earned h k l in (e, λ room. read_kept 22 room (λ z. omega arith) e)

  -- Theorem: a line earns 0, 20, 21 or 22
  pub line_known : Known (line_number line)
  unfolding line_number
  line_known = worst_known earned

  -- and it earns what one of its words earns, and no other word a worse number
  pub line_20 : line_number line ≡ 20 → among 20 earned ≡ true
  unfolding line_number
  line_20 = from_20 earned

  pub line_21 : line_number line ≡ 21 → (among 20 earned ≡ false) × (among 21 earned ≡ true)
  unfolding line_number
  line_21 = from_21 earned

  pub line_22 : line_number line ≡ 22 → (among 20 earned ≡ false) × (among 21 earned ≡ false) × (among 22 earned ≡ true)
  unfolding line_number
  line_22 = from_22 earned

  -- Theorem: a line earns 0 exactly when each of its words does
  pub line_nought : line_number line ≡ 0 → Every Nought earned
  unfolding line_number
  line_nought e = let f = from_none earned e in nought_known earned (numbers_known line (words_in line)) f.0 f.1 f.2

  pub nought_line : Every Nought earned → line_number line ≡ 0
  unfolding line_number
  nought_line h =
      worst_none earned (among_nought 20 earned (λ z. omega arith) h) (among_nought 21 earned (λ z. omega arith) h) (among_nought 22 earned (λ z. omega arith) h)
