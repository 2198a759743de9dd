-- The words of a line by their places: each word, and the words after it.
use Prim.Native.Nat.{ℕ, zero, suc, ◌+◌, ◌≤◌, ◌<◌}
use mathlib.Core.Path.{◌≡◌, refl, ap, sym, ◌∙◌}
use mathlib.Core.Bool.{Bool, true, false}
use mathlib.Core.List.{List, [], ◌∷◌, ◌++◌, append-nil, append_assoc}
use lib.Dec.{ltb}
use lib.ListN.{length, take, drop, length-drop}
use lib.Seq.{drop-drop, take_all, length-take-le}
use native.Mathlib.Omega.{arith}
use native.Mathlib.Nat.{add-zero}
use borrow.Author.Tests.{lt-ltb, le-ltb, ltb-true, ltb-false}
use Rattle.text.specs.Digits.{leading}
use Rattle.text.proofs.PlaceLaws.{past}
use Rattle.text.proofs.LeadingLaws.{leading_more, leading_stop, leading_none, leading_few, lead_split, lead_take}
use Rattle.line.specs.Words.{is_blank_octet, words_from, words_of, word}
use Rattle.line.specs.Walk.{not_blank, word_at, word_end, passed, next, tail_from, tail_at}

pub blank_not : (x : ℕ) → is_blank_octet x ≡ true → not_blank x ≡ false
unfolding not_blank
blank_not x h = rw h

pub other_not : (x : ℕ) → is_blank_octet x ≡ false → not_blank x ≡ true
unfolding not_blank
other_not x h = rw h

-- after blanks the words go on where the blanks end
words_after : (xs : List ℕ) → words_from true [] xs ≡ words_from false [] (drop (leading is_blank_octet xs) xs)
unfolding words_from leading
words_after [] = refl
words_after (x ∷ xs) = go (is_blank_octet x) refl (words_after xs)
  where
    go : (b : Bool) → is_blank_octet x ≡ b → words_from true [] xs ≡ words_from false [] (drop (leading is_blank_octet xs) xs)
        → words_from true [] (x ∷ xs) ≡ words_from false [] (drop (leading is_blank_octet (x ∷ xs)) (x ∷ xs))
    go true e k = rw (words_from, e) k
    go false e k = rw (leading_stop is_blank_octet x xs e) (rw (words_from, e))

-- a word that is the last one
words_last : (begun xs : List ℕ) → leading not_blank xs ≡ length xs → words_from false begun xs ≡ (begun ++ xs) ∷ []
unfolding words_from
words_last begun [] h = rw (append-nil begun)
words_last begun (x ∷ xs) h = go (is_blank_octet x) refl (words_last (begun ++ (x ∷ [])) xs)
  where
    go : (b : Bool) → is_blank_octet x ≡ b → (leading not_blank xs ≡ length xs → words_from false (begun ++ (x ∷ [])) xs ≡ ((begun ++ (x ∷ [])) ++ xs) ∷ [])
        → words_from false begun (x ∷ xs) ≡ (begun ++ (x ∷ xs)) ∷ []
    go true e k = let z = leading_stop not_blank x xs (blank_not x e) in let c : ⊥ = omega arith in absurd c
    go false e k =
        let z = leading_more not_blank x xs (other_not x e) in
        let f : leading not_blank xs ≡ length xs = omega arith in
        rw (words_from, e) (k f ∙ ap (λ (w : List ℕ). w ∷ []) (append_assoc begun (x ∷ []) xs))

-- a word with a blank after it
words_part : (begun xs : List ℕ) → leading not_blank xs < length xs
    → words_from false begun xs ≡ (begun ++ take (leading not_blank xs) xs) ∷ words_from false [] (drop (leading is_blank_octet (drop (leading not_blank xs) xs)) (drop (leading not_blank xs) xs))
unfolding words_from
words_part begun [] h = let z : ⊥ = omega arith in absurd z
words_part begun (x ∷ xs) h = go (is_blank_octet x) refl (words_part (begun ++ (x ∷ [])) xs)
  where
    rest : List ℕ → List (List ℕ)
    rest ys = words_from false [] (drop (leading is_blank_octet (drop (leading not_blank ys) ys)) (drop (leading not_blank ys) ys))

    go : (b : Bool) → is_blank_octet x ≡ b
        → (leading not_blank xs < length xs → words_from false (begun ++ (x ∷ [])) xs ≡ ((begun ++ (x ∷ [])) ++ take (leading not_blank xs) xs) ∷ rest xs)
        → words_from false begun (x ∷ xs) ≡ (begun ++ take (leading not_blank (x ∷ xs)) (x ∷ xs)) ∷ rest (x ∷ xs)
    go true e k =
        rw (leading_stop not_blank x xs (blank_not x e), leading_more is_blank_octet x xs e, append-nil begun, words_from, e)
        (ap (λ (ws : List (List ℕ)). begun ∷ ws) (words_after xs))
    go false e k =
        let z = leading_more not_blank x xs (other_not x e) in
        let f : leading not_blank xs < length xs = omega arith in
        rw (z, words_from, e) (k f ∙ ap (λ (w : List ℕ). w ∷ rest xs) (append_assoc begun (x ∷ []) (take (leading not_blank xs) xs)))

-- places stay inside the text
pub end_within : (s : List ℕ) (at : ℕ) → at ≤ length s → word_end s at ≤ length s
unfolding word_end
end_within s at h = let l = leading_few not_blank (drop at s) in let d = length-drop at s in omega arith

pub passed_within : (s : List ℕ) (e : ℕ) → e ≤ length s → passed s e ≤ length s
unfolding passed
passed_within s e h = let l = leading_few is_blank_octet (drop e s) in let d = length-drop e s in omega arith

pub next_within : (s : List ℕ) (at : ℕ) → at ≤ length s → next s at ≤ length s
unfolding next
next_within s at h = passed_within s (word_end s at) (end_within s at h)

-- no word comes after one that ends the text
pub rest_none : (s : List ℕ) (e : ℕ) → length s ≤ e → tail_from s e ≡ []
unfolding tail_from
rest_none s e h = rw (tail_from, le-ltb e (length s) h)

pub tail_none : (s : List ℕ) (at : ℕ) → length s ≤ word_end s at → tail_at s at ≡ []
tail_none s at h = rest_none s (word_end s at) h

tail_on : (s : List ℕ) (at : ℕ) → word_end s at < length s → tail_at s at ≡ words_of (drop (next s at) s)
unfolding tail_from next
tail_on s at h = rw (tail_from, lt-ltb (word_end s at) (length s) h)

at_part : (s : List ℕ) (at : ℕ) → at ≤ length s → word_end s at < length s → words_of (drop at s) ≡ word_at s at ∷ tail_at s at
unfolding words_of word_at word_end next passed
at_part s at h l =
    let d = length-drop at s in
    let xs : List ℕ = drop at s in
    let k : ℕ = leading not_blank xs in
    let e : drop k xs ≡ drop (at + k) s = drop-drop k at s in
    let f : drop (leading is_blank_octet (drop (at + k) s)) (drop (at + k) s) ≡ drop (at + k + leading is_blank_octet (drop (at + k) s)) s = drop-drop (leading is_blank_octet (drop (at + k) s)) (at + k) s in
    words_part [] xs (omega arith)
    ∙ ap (λ (ys : List ℕ). take k xs ∷ words_from false [] (drop (leading is_blank_octet ys) ys)) e
    ∙ ap (λ (ys : List ℕ). take k xs ∷ words_from false [] ys) f
    ∙ ap (λ (ws : List (List ℕ)). take k xs ∷ ws) (sym (tail_on s at l))

at_last : (s : List ℕ) (at : ℕ) → at ≤ length s → length s ≤ word_end s at → words_of (drop at s) ≡ word_at s at ∷ tail_at s at
unfolding words_of word_at word_end
at_last s at h l =
    let d = length-drop at s in
    let xs : List ℕ = drop at s in
    let m = leading_few not_blank xs in
    let e : leading not_blank xs ≡ length xs = omega arith in
    words_last [] xs e
    ∙ ap (λ (w : List ℕ). w ∷ []) (sym (take_all (leading not_blank xs) xs (omega arith)))
    ∙ ap (λ (ws : List (List ℕ)). take (leading not_blank xs) xs ∷ ws) (sym (tail_none s at l))

-- the words from a place on: the word there, and the words after it
pub words_at : (s : List ℕ) (at : ℕ) → at ≤ length s → words_of (drop at s) ≡ word_at s at ∷ tail_at s at
words_at s at h = go (ltb (word_end s at) (length s)) refl
  where
    go : (b : Bool) → ltb (word_end s at) (length s) ≡ b → words_of (drop at s) ≡ word_at s at ∷ tail_at s at
    go true e = at_part s at h (ltb-true (word_end s at) (length s) e)
    go false e = at_last s at h (ltb-false (word_end s at) (length s) e)

-- the next word
pub tail_some : (s : List ℕ) (at : ℕ) → at ≤ length s → word_end s at < length s → tail_at s at ≡ word_at s (next s at) ∷ tail_at s (next s at)
tail_some s at h l = tail_on s at l ∙ words_at s (next s at) (next_within s at h)

-- after the last word stands an empty one, with none after it
past_end : (s : List ℕ) (at : ℕ) → at ≤ length s → length s ≤ word_end s at → next s at ≡ length s
unfolding next passed
past_end s at h l =
    let e : word_end s at ≡ length s = let k = end_within s at h in omega arith in
    rw (e, past s (length s) (omega arith), leading_none is_blank_octet) (add-zero (length s))

pub word_past : (s : List ℕ) (at : ℕ) → at ≡ length s → word_at s at ≡ []
unfolding word_at leading
word_past s at e = rw (past s at (omega arith))

tail_past : (s : List ℕ) (at : ℕ) → at ≡ length s → tail_at s at ≡ []
unfolding word_end
tail_past s at e = tail_none s at (omega arith)

-- the words after the word at a place: the first of them, and those after that
pub tail_word : (s : List ℕ) (at : ℕ) → at ≤ length s → word (tail_at s at) 0 ≡ word_at s (next s at)
tail_word s at h = go (ltb (word_end s at) (length s)) refl
  where
    go : (b : Bool) → ltb (word_end s at) (length s) ≡ b → word (tail_at s at) 0 ≡ word_at s (next s at)
    go true e = rw (tail_some s at h (ltb-true (word_end s at) (length s) e))
    go false e = let l = ltb-false (word_end s at) (length s) e in rw (tail_none s at l, word_past s (next s at) (past_end s at h l))

pub tail_drop : (s : List ℕ) (at : ℕ) → at ≤ length s → drop 1 (tail_at s at) ≡ tail_at s (next s at)
tail_drop s at h = go (ltb (word_end s at) (length s)) refl
  where
    go : (b : Bool) → ltb (word_end s at) (length s) ≡ b → drop 1 (tail_at s at) ≡ tail_at s (next s at)
    go true e = rw (tail_some s at h (ltb-true (word_end s at) (length s) e))
    go false e = let l = ltb-false (word_end s at) (length s) e in rw (tail_none s at l, tail_past s (next s at) (past_end s at h l))

-- a word that ends where the octets end that pass a test is those octets
pub word_stops : (t : ℕ → Bool) → ((x : ℕ) → t x ≡ true → not_blank x ≡ true) → (s : List ℕ) (at : ℕ) → leading not_blank (drop (at + leading t (drop at s)) s) ≡ 0
    → leading not_blank (drop at s) ≡ leading t (drop at s)
word_stops t w s at h =
    let e = lead_split t not_blank w (drop at s) in
    let d : leading not_blank (drop (leading t (drop at s)) (drop at s)) ≡ 0 = ap (leading not_blank) (drop-drop (leading t (drop at s)) at s) ∙ h in
    omega arith

-- any other word has an octet that fails
pub word_fails : (t : ℕ → Bool) → ((x : ℕ) → t x ≡ true → not_blank x ≡ true) → (s : List ℕ) (at : ℕ) → (leading not_blank (drop (at + leading t (drop at s)) s) ≡ 0 → ⊥)
    → leading t (word_at s at) < length (word_at s at)
unfolding word_at
word_fails t w s at h =
    let xs : List ℕ = drop at s in
    let e = lead_split t not_blank w xs in
    let d : leading not_blank (drop (leading t xs) xs) ≡ leading not_blank (drop (at + leading t xs) s) = ap (leading not_blank) (drop-drop (leading t xs) at s) in
    let f = leading_few not_blank xs in
    let g : leading t (take (leading not_blank xs) xs) ≡ leading t xs = lead_take t (leading not_blank xs) xs (omega arith) in
    let l : length (take (leading not_blank xs) xs) ≡ leading not_blank xs = length-take-le (leading not_blank xs) xs f in
    let p : 0 < leading not_blank (drop (at + leading t xs) s) = some (leading not_blank (drop (at + leading t xs) s)) h in
    omega arith
  where
    some : (n : ℕ) → (n ≡ 0 → ⊥) → 0 < n
    some zero k = absurd (k refl)
    some (suc n) k = omega arith
