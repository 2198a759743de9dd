-- The words of a line by their places are the words that the line is judged by.
use Prim.Native.Nat.{ℕ, suc, ◌+◌, ◌≤◌, ◌<◌}
use mathlib.Core.Path.{◌≡◌, refl, ap, sym, ◌∙◌}
use mathlib.Core.Bool.{Bool, true, false, not, ◌&&◌}
use mathlib.Core.List.{List, [], ◌∷◌, ◌++◌}
use lib.Dec.{eqb}
use lib.ListN.{length, take, drop, length-drop, length-append, get_or-append}
use lib.Seq.{get_or-take, get_or-drop, drop-drop, length-take-le, drop_at}
use native.Mathlib.Omega.{arith}
use borrow.Author.Tests.{eq-eqb, ne_eqb, eqb-true, eqb-false}
use Rattle.octets.specs.Octets.{same}
use Rattle.octets.specs.Answers.{earns}
use Rattle.chains.specs.Graph.{max_ttl}
use Rattle.text.specs.Decimal.{decimal_of}
use Rattle.text.proofs.DecimalLaws.{both}
use Rattle.nametext.specs.Reading.{text_number}
use Rattle.line.specs.Words.{words_of, word}
use Rattle.line.specs.Writing.{a6_word}
use Rattle.line.specs.Reading.{decimal_number, type_number, address_number, with_ttl, length_in, with_address, rest_number, worst}
use Rattle.line.specs.Walk.{word_at, word_end, passed, next, tail_at, ttl_word, type_place, worse, full_of, end_number, word_numbers}
use Rattle.line.proofs.WalkLaws.{words_at, tail_word, tail_drop, next_within, end_within, passed_within}
use Rattle.line.proofs.OrderLaws.{name_known, decimal_known, type_known, address_known, rest_known}
use Rattle.line.proofs.WorseLaws.{worst_one, worst_append}

-- a word by its place among those after the first few
word_drop : (k : ℕ) (ws : List (List ℕ)) (i : ℕ) → word (drop k ws) i ≡ word ws (k + i)
word_drop k ws i = get_or-drop k ws i []

-- an end is judged by the prefix length and by how many words there are
plus_eqb : (n k : ℕ) → eqb (4 + n) (4 + k) ≡ eqb n k
plus_eqb n k = go (eqb n k) refl
  where
    go : (b : Bool) → eqb n k ≡ b → eqb (4 + n) (4 + k) ≡ eqb n k
    go true e = let h = eqb-true n k e in eq-eqb (4 + n) (4 + k) (omega arith) ∙ sym e
    go false e = ne_eqb (4 + n) (4 + k) (λ z. eqb-false n k e (omega arith)) ∙ sym e

one_way : (us ts : List (List ℕ)) (l : ℕ) → length_in us ≡ l → word us 5 ≡ word ts 1 → length us ≡ 4 + length ts → rest_number us ≡ end_number l ts
unfolding rest_number end_number
one_way us ts l e t n = go (eqb l 0) refl
  where
    go : (b : Bool) → eqb l 0 ≡ b → rest_number us ≡ end_number l ts
    go true h = rw (rest_number, end_number, e, h, n) (ap (λ (b : Bool). earns (not b) 20 0) (plus_eqb (length ts) 1))
    go false h = rw (rest_number, end_number, e, h, n, t) (ap (λ (b : Bool). earns (not b) 20 (text_number (word ts 1))) (plus_eqb (length ts) 2))

full_as : (l : ℕ) (ts : List (List ℕ)) (n : ℕ) → n ≡ 4 + length ts → (eqb l 128 && eqb n 5) ≡ false → full_of l ts ≡ ts
unfolding full_of
full_as l ts n e h = rw (full_of, sym (ap (λ (b : Bool). eqb l 128 && b) (ap (λ (m : ℕ). eqb m 5) e ∙ plus_eqb (length ts) 1)) ∙ h)

-- what the words with a TTL are, by their places
pub record Timed (s : List ℕ) (vs : List (List ℕ)) : Type 0 where
  pub owner : word vs 0 ≡ word_at s 0
  pub ttl : word vs 1 ≡ ttl_word s (word_end s 0)
  pub kind : word vs 2 ≡ word_at s (type_place s (word_end s 0))
  pub rest : drop 3 vs ≡ tail_at s (type_place s (word_end s 0))
  pub within : type_place s (word_end s 0) ≤ length s

module _ (s : List ℕ) where
  first_words : words_of s ≡ word_at s 0 ∷ tail_at s 0
  first_words = words_at s 0 (omega arith)

  after_first : tail_at s 0 ≡ drop 1 (words_of s)
  after_first = ap (drop 1) (sym first_words)

  next_first : next s 0 ≡ passed s (word_end s 0)
  unfolding next
  next_first = refl

  second_word : word (words_of s) 1 ≡ word_at s (passed s (word_end s 0))
  second_word = ap (λ (ws : List (List ℕ)). word ws 1) first_words ∙ tail_word s 0 (omega arith) ∙ ap (word_at s) next_first

  first_within : passed s (word_end s 0) ≤ length s
  first_within = passed_within s (word_end s 0) (end_within s 0 (omega arith))

  -- the TTL is left out
  left_out : same (word_at s (passed s (word_end s 0))) a6_word ≡ true → Timed s (word (words_of s) 0 ∷ (51 ∷ 48 ∷ 48 ∷ []) ∷ drop 1 (words_of s))
  unfolding ttl_word type_place
  left_out h =
      let p = passed s (word_end s 0) in
      let k : type_place s (word_end s 0) ≡ p = rw (type_place, h) in
      record {
        owner = ap (λ (ws : List (List ℕ)). word ws 0) first_words;
        ttl = sym (rw (ttl_word, h));
        kind = word_drop 1 (words_of s) 0 ∙ second_word ∙ ap (word_at s) (sym k);
        rest = ap (drop 1) (sym after_first) ∙ tail_drop s 0 (omega arith) ∙ ap (tail_at s) (next_first ∙ sym k);
        within = rw k first_within;
      }

  -- the TTL is given
  given : same (word_at s (passed s (word_end s 0))) a6_word ≡ false → Timed s (words_of s)
  unfolding ttl_word type_place
  given h =
      let p = passed s (word_end s 0) in
      let k : type_place s (word_end s 0) ≡ next s p = rw (type_place, h) in
      let d : drop 2 (words_of s) ≡ tail_at s p = ap (drop 2) first_words ∙ tail_drop s 0 (omega arith) ∙ ap (tail_at s) next_first in
      record {
        owner = ap (λ (ws : List (List ℕ)). word ws 0) first_words;
        ttl = second_word ∙ sym (rw (ttl_word, h));
        kind = sym (word_drop 2 (words_of s) 0) ∙ ap (λ (ws : List (List ℕ)). word ws 0) d ∙ tail_word s p first_within ∙ ap (word_at s) (sym k);
        rest = sym (drop-drop 1 2 (words_of s)) ∙ ap (drop 1) d ∙ tail_drop s p first_within ∙ ap (tail_at s) (sym k);
        within = rw k (next_within s p first_within);
      }

  pub timed : Timed s (with_ttl (words_of s))
  unfolding with_ttl
  timed = go (same (word (words_of s) 1) a6_word) refl
    where
      go : (b : Bool) → same (word (words_of s) 1) a6_word ≡ b → Timed s (with_ttl (words_of s))
      go true e = rw (with_ttl, e) (left_out (sym (ap (λ (w : List ℕ). same w a6_word) second_word) ∙ e))
      go false e = rw (with_ttl, e) (given (sym (ap (λ (w : List ℕ). same w a6_word) second_word) ∙ e))

-- the prefix length, and the words after it
module _ (s : List ℕ) (vs : List (List ℕ)) (t : Timed s vs) where
  pub timed_length : word vs 3 ≡ word_at s (next s (type_place s (word_end s 0)))
  timed_length = sym (word_drop 3 vs 0) ∙ ap (λ (ws : List (List ℕ)). word ws 0) t.rest ∙ tail_word s (type_place s (word_end s 0)) t.within

  pub timed_rest : drop 4 vs ≡ tail_at s (next s (type_place s (word_end s 0)))
  timed_rest = sym (drop-drop 1 3 vs) ∙ ap (drop 1) t.rest ∙ tail_drop s (type_place s (word_end s 0)) t.within

-- ---- with the address
filled : List (List ℕ) → List (List ℕ)
filled vs = take 4 vs ++ ((58 ∷ 58 ∷ []) ∷ drop 4 vs)

module _ (vs : List (List ℕ)) where
  -- the first words stay as they are
  pub front : (i : ℕ) → i < 4 → word (with_address vs) i ≡ word vs i
  unfolding with_address
  front i h = go (eqb (length_in vs) 128 && eqb (length vs) 5) refl
    where
      go : (b : Bool) → (eqb (length_in vs) 128 && eqb (length vs) 5) ≡ b → word (with_address vs) i ≡ word vs i
      go true e =
          let n : length vs ≡ 5 = eqb-true (length vs) 5 (both (eqb (length_in vs) 128) (eqb (length vs) 5) e).1 in
          let m : length (take 4 vs) ≡ 4 = length-take-le 4 vs (omega arith) in
          rw (with_address, e) (get_or-append (take 4 vs) ((58 ∷ 58 ∷ []) ∷ drop 4 vs) [] i (omega arith) ∙ get_or-take 4 vs i [] h)
      go false e = rw (with_address, e)

  -- the words after the prefix length, and how they end
  pub record Ended : Type 0 where
    pub address : word (with_address vs) 4 ≡ word (full_of (length_in vs) (drop 4 vs)) 0
    pub target : word (with_address vs) 5 ≡ word (full_of (length_in vs) (drop 4 vs)) 1
    pub number : rest_number (with_address vs) ≡ end_number (length_in vs) (full_of (length_in vs) (drop 4 vs))

  same_length : length_in (with_address vs) ≡ length_in vs
  unfolding length_in
  same_length = ap decimal_of (front 3 (omega arith))

  -- the address is left out
  ended_bare : length_in vs ≡ 128 → length vs ≡ 5 → Ended
  unfolding filled with_address full_of
  ended_bare h n =
      let m : length (take 4 vs) ≡ 4 = length-take-le 4 vs (omega arith) in
      let l : length (drop 4 vs) ≡ 1 = let d = length-drop 4 vs in omega arith in
      let w : with_address vs ≡ filled vs = rw (with_address, eq-eqb (length_in vs) 128 h, eq-eqb (length vs) 5 n) in
      let f : full_of (length_in vs) (drop 4 vs) ≡ (58 ∷ 58 ∷ []) ∷ drop 4 vs = rw (full_of, eq-eqb (length_in vs) 128 h, eq-eqb (length (drop 4 vs)) 1 l) in
      let d : drop 4 (filled vs) ≡ (58 ∷ 58 ∷ []) ∷ drop 4 vs = drop_at (take 4 vs) ((58 ∷ 58 ∷ []) ∷ drop 4 vs) 4 m in
      let a : drop 4 (with_address vs) ≡ full_of (length_in vs) (drop 4 vs) = ap (drop 4) w ∙ d ∙ sym f in
      let k : length (with_address vs) ≡ 6 = ap length w ∙ length-append (take 4 vs) ((58 ∷ 58 ∷ []) ∷ drop 4 vs) ∙ (let z : length (take 4 vs) + suc (length (drop 4 vs)) ≡ 6 = omega arith in z) in
      let j : length (full_of (length_in vs) (drop 4 vs)) ≡ 2 = ap length f ∙ (let z : suc (length (drop 4 vs)) ≡ 2 = omega arith in z) in
      let t : word (with_address vs) 5 ≡ word (full_of (length_in vs) (drop 4 vs)) 1 = sym (word_drop 4 (with_address vs) 1) ∙ ap (λ (ws : List (List ℕ)). word ws 1) a in
      record {
        address = sym (word_drop 4 (with_address vs) 0) ∙ ap (λ (ws : List (List ℕ)). word ws 0) a;
        target = t;
        number = one_way (with_address vs) (full_of (length_in vs) (drop 4 vs)) (length_in vs) same_length t (omega arith);
      }

  -- nothing is left out
  ended_full : (eqb (length_in vs) 128 && eqb (length vs) 5) ≡ false → 4 ≤ length vs → Ended
  unfolding with_address
  ended_full h n =
      let w : with_address vs ≡ vs = rw (with_address, h) in
      let l : length vs ≡ 4 + length (drop 4 vs) = let d = length-drop 4 vs in omega arith in
      let f : full_of (length_in vs) (drop 4 vs) ≡ drop 4 vs = full_as (length_in vs) (drop 4 vs) (length vs) l h in
      let t : word (with_address vs) 5 ≡ word (full_of (length_in vs) (drop 4 vs)) 1 = ap (λ (ws : List (List ℕ)). word ws 5) w ∙ sym (word_drop 4 vs 1) ∙ ap (λ (ws : List (List ℕ)). word ws 1) (sym f) in
      let k : length (with_address vs) ≡ length vs = ap length w in
      let j : length (full_of (length_in vs) (drop 4 vs)) ≡ length (drop 4 vs) = ap length f in
      record {
        address = ap (λ (ws : List (List ℕ)). word ws 4) w ∙ sym (word_drop 4 vs 0) ∙ ap (λ (ws : List (List ℕ)). word ws 0) (sym f);
        target = t;
        number = one_way (with_address vs) (full_of (length_in vs) (drop 4 vs)) (length_in vs) same_length t (omega arith);
      }

  pub ended : 4 ≤ length vs → Ended
  ended n = go (eqb (length_in vs) 128) refl (eqb (length vs) 5) refl
    where
      go : (a : Bool) → eqb (length_in vs) 128 ≡ a → (b : Bool) → eqb (length vs) 5 ≡ b → Ended
      go true e true f = ended_bare (eqb-true (length_in vs) 128 e) (eqb-true (length vs) 5 f)
      go true e false f = ended_full (rw (e, f)) n
      go false e b f = ended_full (rw e) n

-- ---- what all the words earn
module _ (us : List (List ℕ)) where
  pub numbers_worse : worst (word_numbers us)
      ≡ worse (text_number (word us 0)) (worse (worse (decimal_number max_ttl (word us 1)) (type_number (word us 2))) (worse (decimal_number 128 (word us 3)) (worse (address_number (word us 4)) (rest_number us))))
  unfolding word_numbers
  numbers_worse =
      let o = text_number (word us 0) in
      let t = decimal_number max_ttl (word us 1) in
      let y = type_number (word us 2) in
      let l = decimal_number 128 (word us 3) in
      let a = address_number (word us 4) in
      let r = rest_number us in
      worst_append (o ∷ []) (t ∷ y ∷ l ∷ a ∷ r ∷ [])
      ∙ (λ i. worse (worst_one o (name_known (word us 0)) i) (worst_append (t ∷ y ∷ []) (l ∷ a ∷ r ∷ []) i))
      ∙ (λ i. worse o (worse ((worst_append (t ∷ []) (y ∷ []) ∙ (λ j. worse (worst_one t (decimal_known max_ttl (word us 1)) j) (worst_one y (type_known (word us 2)) j))) i)
      ((worst_append (l ∷ []) (a ∷ r ∷ []) ∙ (λ j. worse (worst_one l (decimal_known 128 (word us 3)) j) ((worst_append (a ∷ []) (r ∷ []) ∙ (λ m. worse (worst_one a (address_known (word us 4)) m) (worst_one r (rest_known us) m))) j))) i)))
