-- What is read of a name at its place, and of the address and the target that end a line.
use Prim.Native.Nat.{ℕ, zero, suc, ◌+◌, ◌≤◌, ◌<◌}
use mathlib.Core.Path.{◌≡◌, refl, ap, sym, ◌∙◌}
use mathlib.Core.Bool.{Bool, true, false, not}
use mathlib.Core.List.{List, [], ◌∷◌, append-nil}
use mathlib.Core.Logic.{⊎_elim}
use lib.Dec.{ltb, eqb}
use lib.ListN.{length, take, drop}
use native.Mathlib.Omega.{arith}
use borrow.Author.Tests.{lt-ltb, ne_eqb, ltb-true, ltb-false, eqb-true, eqb-false}
use Rattle.octets.specs.Octets.{blank}
use Rattle.std.specs.Prelude.{Result, Ok, Err}
use Rattle.octets.specs.Refusals.{told}
use Rattle.octets.specs.declared.Refusal.{Refusal}
use Rattle.names.specs.Name.{name_of}
use Rattle.names.specs.declared.Name.{Name}
use Rattle.text.specs.Digits.{leading}
use Rattle.text.specs.AddressText.{is_address, read_address}
use Rattle.text.proofs.LeadingLaws.{leading_none, lead_end}
use Rattle.text.proofs.Computing.{text_compute}
use Rattle.nametext.specs.Characters.{is_plain, may_name}
use Rattle.nametext.specs.Reading.{last_from, name_read, text_number, name_held, name_told, name_part, name_at}
use Rattle.nametext.specs.declared.reading.Named.{Named}
use Rattle.nametext.proofs.NumberLaws.{number_form}
use Rattle.nametext.proofs.MayLaws.{formed_may}
use Rattle.line.specs.Words.{words_of, word}
use Rattle.line.specs.Reading.{address_number}
use Rattle.line.specs.Walk.{not_blank, word_at, word_end, passed, next, tail_from, tail_at, worse, full_of, end_number, late_number}
use Rattle.line.specs.Walked.{value_by, Ended, WordAt, RestAt}
use Rattle.line.specs.declared.reading.Rest.{Rest}
use Rattle.line.specs.declared.reading.Word.{Word}
use Rattle.line.proofs.ValueLaws.{value_done, word_ended}
use Rattle.line.proofs.WorseLaws.{worse_known}
use Rattle.line.proofs.WordLaws.{not_blank_lem, name_word, address_word}
use Rattle.line.proofs.WalkLaws.{end_within, passed_within, rest_none, tail_none, words_at, tail_some, word_past, word_stops, word_fails}
use Rattle.line.proofs.WalkedLaws.{worse_left, word_length}
use Rattle.line.proofs.OrderLaws.{Known, known_earns, known_none, known_20, name_known, address_known}
use Rattle.line.proofs.RoundLaws.{held_none}

-- ---- a name
-- its octets are no blanks
name_solid : (x : ℕ) → may_name x ≡ true → not_blank x ≡ true
unfolding may_name is_plain
name_solid = not_blank_lem may_name refl refl

module _ (s : List ℕ) (at next : ℕ) (e : next ≡ at + leading may_name (drop at s)) where
  -- a word with an octet after those that may stand in a name is none
  pub name_inside : (leading not_blank (drop next s) ≡ 0 → ⊥) → text_number (word_at s at) ≡ 20
  name_inside h = go (eqb (text_number (word_at s at)) 20) refl
    where
      go : (b : Bool) → eqb (text_number (word_at s at)) 20 ≡ b → text_number (word_at s at) ≡ 20
      go true q = eqb-true (text_number (word_at s at)) 20 q
      go false q =
          let f = word_fails may_name name_solid s at (λ z. h (ap (λ (n : ℕ). leading not_blank (drop n s)) e ∙ z)) in
          let g : leading may_name (word_at s at) ≡ length (word_at s at) =
          ap (leading may_name) (sym (append-nil (word_at s at))) ∙ formed_may (word_at s at) (eqb-false (text_number (word_at s at)) 20 q) [] (leading_none may_name) in
          let z : ⊥ = omega arith in
          absurd z

  -- any other word is what stands there that may stand in a name
  pub name_whole : leading not_blank (drop next s) ≡ 0 → (name_part s at ≡ word_at s at) × (next ≡ word_end s at)
  unfolding name_part word_at word_end
  name_whole h =
      let w = word_stops may_name name_solid s at (ap (λ (n : ℕ). leading not_blank (drop n s)) (sym e) ∙ h) in
      (ap (λ (n : ℕ). take n (drop at s)) (sym w), omega arith)

-- what is read of a name
by_number : (n : ℕ) (x y : Name) → elim (eqb n 0) [ true ↦ Ok x | false ↦ Err (told n) ] ≡ value_by n (elim (eqb n 0) [ true ↦ x | false ↦ y ])
unfolding value_by
by_number zero x y = refl
by_number (suc k) x y = rw (ne_eqb (suc k) 0 (λ z. omega arith))

told_by : (text : List ℕ) → name_told text ≡ value_by (text_number text) (name_held text)
unfolding name_told name_held
told_by text = by_number (text_number text) (name_of (name_read text)) (name_of [])

module _ (s : List ℕ) (at : ℕ) (d : Named) (f : d ≡ name_at s at) where
  name_next : d.next ≡ at + leading may_name (drop at s)
  unfolding name_at
  name_next = ap (λ (r : Named). r.next) f

  name_value : d.name ≡ name_told (name_part s at)
  unfolding name_at
  name_value = ap (λ (r : Named). r.name) f

  pub name_ended : (r : Result (Word Name) Refusal) → Ended d.name (eqb (leading not_blank (drop d.next s)) 0) d.next r
      → WordAt (text_number (word_at s at)) (name_held (word_at s at)) (word_end s at) r
  name_ended =
      word_ended (text_number (word_at s at)) (name_held (word_at s at)) (word_end s at) (name_known (word_at s at)) d.name _ d.next
      (λ t. let w = name_whole s at d.next name_next (eqb-true (leading not_blank (drop d.next s)) 0 t) in (name_value ∙ ap name_told w.0 ∙ told_by (word_at s at), w.1))
      (λ t. name_inside s at d.next name_next (eqb-false (leading not_blank (drop d.next s)) 0 t))

-- ---- the words after a word that ends at e
-- a word ends no earlier than it begins
end_after : (s : List ℕ) (at : ℕ) → at ≤ word_end s at
unfolding word_end
end_after s at = omega arith

-- the first of them stands at `at`
module _ (s : List ℕ) (e at : ℕ) (h : e ≤ length s) (p : at ≡ passed s e) where
  pub at_within : at ≤ length s
  at_within = let k = passed_within s e h in omega arith

  at_after : e ≤ at
  unfolding passed
  at_after = omega arith

  rest_on : e < length s → tail_from s e ≡ word_at s at ∷ tail_at s at
  unfolding tail_from
  rest_on l = rw (tail_from, lt-ltb e (length s) l) (ap (λ (n : ℕ). words_of (drop n s)) (sym p) ∙ words_at s at at_within)

  pub rest_word : word (tail_from s e) 0 ≡ word_at s at
  rest_word = go (ltb e (length s)) refl
    where
      go : (b : Bool) → ltb e (length s) ≡ b → word (tail_from s e) 0 ≡ word_at s at
      go true l = ap (λ (ws : List (List ℕ)). word ws 0) (rest_on (ltb-true e (length s) l))
      go false l =
          let k = ltb-false e (length s) l in
          let a = at_within in
          let b = at_after in
          ap (λ (ws : List (List ℕ)). word ws 0) (rest_none s e k) ∙ sym (word_past s at (omega arith))

  -- a word that has an octet is the first of them
  pub rest_some : 0 < length (word_at s at) → tail_from s e ≡ word_at s at ∷ tail_at s at
  rest_some n = go (ltb e (length s)) refl
    where
      go : (b : Bool) → ltb e (length s) ≡ b → tail_from s e ≡ word_at s at ∷ tail_at s at
      go true l = rest_on (ltb-true e (length s) l)
      go false l =
          let k = ltb-false e (length s) l in
          let b = at_after in
          let w = word_length s at in
          let z = lead_end not_blank s at (omega arith) in
          let y : ⊥ = omega arith in
          absurd y

-- ---- what they earn
address_twenty : (w : List ℕ) → (address_number w ≡ 0 → ⊥) → address_number w ≡ 20
unfolding address_number
address_twenty w h = go (is_address w) refl
  where
    go : (b : Bool) → is_address w ≡ b → address_number w ≡ 20
    go true e = absurd (h (rw e))
    go false e = rw e

address_some : (w : List ℕ) → address_number w ≡ 0 → 0 < length w
unfolding address_number
address_some w h = go (is_address w) refl
  where
    go : (b : Bool) → is_address w ≡ b → 0 < length w
    go true e = (address_word w e).some
    go false e = let k : address_number w ≡ 20 = rw e in let z : ⊥ = omega arith in absurd z

end_known : (l : ℕ) (us : List (List ℕ)) → Known (end_number l us)
unfolding end_number
end_known l us = go (eqb l 0) refl
  where
    go : (b : Bool) → eqb l 0 ≡ b → Known (end_number l us)
    go true e = rw (end_number, e) (known_earns (not (eqb (length us) 1)) 20 0 known_20 known_none)
    go false e = rw (end_number, e) (known_earns (not (eqb (length us) 2)) 20 (text_number (word us 1)) known_20 (name_known (word us 1)))

-- 20 hides every other number
worse_first : (b : ℕ) → Known b → worse 20 b ≡ 20
unfolding worse
worse_first b k = ⊎_elim (λ h. ap (worse 20) h) (⊎_elim (λ h. ap (worse 20) h) (⊎_elim (λ h. ap (worse 20) h) (λ h. ap (worse 20) h))) k

late_not : (l : ℕ) (us : List (List ℕ)) → (address_number (word us 0) ≡ 0 → ⊥) → late_number l us ≡ 20
unfolding late_number
late_not l us h = ap (λ (n : ℕ). worse n (end_number l us)) (address_twenty (word us 0) h) ∙ worse_first (end_number l us) (end_known l us)

late_then : (l : ℕ) (us : List (List ℕ)) → address_number (word us 0) ≡ 0 → late_number l us ≡ end_number l us
unfolding late_number
late_then l us h = worse_left (address_number (word us 0)) (end_number l us) h

-- how they end: at prefix length 0 with the address
end_one : (w : List ℕ) → end_number 0 (w ∷ []) ≡ 0
unfolding end_number
end_one w = refl

end_more : (w v : List ℕ) (ws : List (List ℕ)) → end_number 0 (w ∷ v ∷ ws) ≡ 20
unfolding end_number
end_more w v ws = rw (ne_eqb (length (w ∷ v ∷ ws)) 1 (λ z. omega arith))

-- at any other with the target
module _ (l : ℕ) (n : l ≡ 0 → ⊥) where
  end_two : (w v : List ℕ) → end_number l (w ∷ v ∷ []) ≡ text_number v
  unfolding end_number
  end_two w v = rw (end_number, ne_eqb l 0 n)

  end_three : (w v u : List ℕ) (ws : List (List ℕ)) → end_number l (w ∷ v ∷ u ∷ ws) ≡ 20
  unfolding end_number
  end_three w v u ws = rw (end_number, ne_eqb l 0 n, ne_eqb (length (w ∷ v ∷ u ∷ ws)) 2 (λ z. omega arith))

  end_unformed : (us : List (List ℕ)) → text_number (word us 1) ≡ 20 → end_number l us ≡ 20
  unfolding end_number
  end_unformed us h = go (eqb (length us) 2) refl
    where
      go : (b : Bool) → eqb (length us) 2 ≡ b → end_number l us ≡ 20
      go true e = rw (end_number, ne_eqb l 0 n, e) h
      go false e = rw (end_number, ne_eqb l 0 n, e)

-- ---- what is read of them
-- no address is put before them at prefix length 0
pub full_none : (ts : List (List ℕ)) → full_of 0 ts ≡ ts
unfolding full_of
full_none ts = refl

-- at 128 `::` is put before a word alone; nothing is where there is no word
full_one : (w : List ℕ) → full_of 128 (w ∷ []) ≡ (58 ∷ 58 ∷ []) ∷ w ∷ []
unfolding full_of
full_one w = refl

full_empty : full_of 128 [] ≡ []
unfolding full_of
full_empty = refl

colons_number : address_number (58 ∷ 58 ∷ []) ≡ 0
unfolding address_number text_compute
colons_number = refl

colons_address : read_address (58 ∷ 58 ∷ []) ≡ blank 16
unfolding text_compute
colons_address = refl

module _ (s : List ℕ) (e at : ℕ) (h : e ≤ length s) (p : at ≡ passed s e) where
  -- a word that is no address
  pub address_missed : (l : ℕ) → full_of l (tail_from s e) ≡ tail_from s e → (address_number (word_at s at) ≡ 0 → ⊥) → late_number l (full_of l (tail_from s e)) ≡ 20
  address_missed l f a = ap (late_number l) f ∙ late_not l (tail_from s e) (λ z. a (ap address_number (sym (rest_word s e at h p)) ∙ z))

  -- the words where the first of them is the last, at prefix length 128
  bare_of : e < length s → word_end s at ≡ length s → (full_of 128 (tail_from s e) ≡ (58 ∷ 58 ∷ []) ∷ word_at s at ∷ []) × (late_number 128 (full_of 128 (tail_from s e)) ≡ text_number (word_at s at))
  bare_of q l =
      let w = word_at s at in
      let f : tail_from s e ≡ w ∷ [] = rest_on s e at h p q ∙ ap (λ (ws : List (List ℕ)). w ∷ ws) (tail_none s at (omega arith)) in
      let g : full_of 128 (tail_from s e) ≡ (58 ∷ 58 ∷ []) ∷ w ∷ [] = ap (full_of 128) f ∙ full_one w in
      (g, ap (late_number 128) g ∙ late_then 128 ((58 ∷ 58 ∷ []) ∷ w ∷ []) colons_number ∙ end_two 128 (λ z. omega arith) (58 ∷ 58 ∷ []) w)

  -- an address
  module _ (a : address_number (word_at s at) ≡ 0) where
    begun : tail_from s e ≡ word_at s at ∷ tail_at s at
    begun = rest_some s e at h p (address_some (word_at s at) a)

    -- alone, at prefix length 0
    pub finished_more : word_end s at < length s → late_number 0 (full_of 0 (tail_from s e)) ≡ 20
    finished_more l =
        ap (late_number 0) (full_none (tail_from s e) ∙ begun)
        ∙ late_then 0 (word_at s at ∷ tail_at s at) a
        ∙ ap (λ (ws : List (List ℕ)). end_number 0 (word_at s at ∷ ws)) (tail_some s at (at_within s e at h p) l)
        ∙ end_more (word_at s at) (word_at s (next s at)) (tail_at s (next s at))

    pub finished_is : word_end s at ≡ length s → (r : Rest) → r.address ≡ read_address (word_at s at) → r.target ≡ Ok (name_of []) → RestAt s e 0 (Ok r)
    finished_is l r v t =
        let g : full_of 0 (tail_from s e) ≡ word_at s at ∷ [] = full_none (tail_from s e) ∙ begun ∙ ap (λ (ws : List (List ℕ)). word_at s at ∷ ws) (tail_none s at (omega arith)) in
        let n : late_number 0 (full_of 0 (tail_from s e)) ≡ 0 = ap (late_number 0) g ∙ late_then 0 (word_at s at ∷ []) a ∙ end_one (word_at s at) in (
          λ z. omega arith,
          v ∙ sym (ap (λ (us : List (List ℕ)). read_address (word us 0)) g),
          t ∙ ap Ok (sym (ap (λ (us : List (List ℕ)). name_held (word us 1)) g ∙ held_none)) ∙ value_done _ _ n,
        )

  -- a target alone, at prefix length 128
  module _ (l : word_end s at ≡ length s) where
    pub bare_not : text_number (word_at s at) ≡ 20 → late_number 128 (full_of 128 (tail_from s e)) ≡ 20
    bare_not t = go (ltb e (length s)) refl
      where
        go : (b : Bool) → ltb e (length s) ≡ b → late_number 128 (full_of 128 (tail_from s e)) ≡ 20
        go true q = (bare_of (ltb-true e (length s) q) l).1 ∙ t
        go false q = ap (λ (ts : List (List ℕ)). late_number 128 (full_of 128 ts)) (rest_none s e (ltb-false e (length s) q)) ∙ ap (late_number 128) full_empty ∙ late_not 128 [] (λ z. let y = address_some [] z in omega arith)

    pub bare_is : (text_number (word_at s at) ≡ 20 → ⊥) → (r : Rest) → r.address ≡ blank 16 → r.target ≡ value_by (text_number (word_at s at)) (name_held (word_at s at)) → RestAt s e 128 (Ok r)
    bare_is n r v t = go (ltb e (length s)) refl
      where
        go : (b : Bool) → ltb e (length s) ≡ b → RestAt s e 128 (Ok r)
        go true q =
            let g = bare_of (ltb-true e (length s) q) l in (
              λ z. n (sym g.1 ∙ z),
              v ∙ sym (ap (λ (us : List (List ℕ)). read_address (word us 0)) g.0 ∙ colons_address),
              t ∙ (λ i. value_by (sym g.1 i) (name_held (word (sym g.0 i) 1))),
            )
        go false q =
            let k = ltb-false e (length s) q in
            let i = at_within s e at h p in
            let j = at_after s e at h p in
            absurd (n (ap text_number (word_past s at (omega arith)) ∙ number_form [] (unfold last_from in refl)))

  -- an address and a target; none is put before them, for at prefix length 128 a word follows the first
  pub full_kept : (l : ℕ) → (l ≡ 128 → word_end s at < length s) → full_of l (tail_from s e) ≡ tail_from s e
  unfolding full_of
  full_kept l m = go (eqb l 128) refl
    where
      go : (b : Bool) → eqb l 128 ≡ b → full_of l (tail_from s e) ≡ tail_from s e
      go false q = rw (full_of, q)
      go true q =
          let i = at_after s e at h p in
          let j = end_after s at in
          let k = m (eqb-true l 128 q) in
          let f : tail_from s e ≡ word_at s at ∷ word_at s (next s at) ∷ tail_at s (next s at) =
          rest_on s e at h p (omega arith) ∙ ap (λ (ws : List (List ℕ)). word_at s at ∷ ws) (tail_some s at (at_within s e at h p) k) in
          let g : length (tail_from s e) ≡ length (word_at s at ∷ word_at s (next s at) ∷ tail_at s (next s at)) = ap length f in
          rw (full_of, q, ne_eqb (length (tail_from s e)) 1 (λ z. omega arith))

  module _ (l : ℕ) (z : l ≡ 0 → ⊥) (f : full_of l (tail_from s e) ≡ tail_from s e) (a : address_number (word_at s at) ≡ 0) (m : ℕ) (o : m ≡ passed s (word_end s at)) where
    kept : full_of l (tail_from s e) ≡ word_at s at ∷ tail_at s at
    kept = f ∙ begun a

    ends : word_end s at ≤ length s
    ends = end_within s at (at_within s e at h p)

    late : late_number l (full_of l (tail_from s e)) ≡ end_number l (word_at s at ∷ tail_at s at)
    late = ap (late_number l) kept ∙ late_then l (word_at s at ∷ tail_at s at) a

    -- a second word that is no name
    pub full_unformed : text_number (word_at s m) ≡ 20 → late_number l (full_of l (tail_from s e)) ≡ 20
    full_unformed t = late ∙ end_unformed l z (word_at s at ∷ tail_at s at) (ap text_number (rest_word s (word_end s at) m ends o) ∙ t)

    -- a name, and whether it is the last word
    module _ (t : text_number (word_at s m) ≡ 20 → ⊥) where
      second : tail_at s at ≡ word_at s m ∷ tail_at s m
      second = rest_some s (word_end s at) m ends o (name_word (word_at s m) t).some

      pub full_more : word_end s m < length s → late_number l (full_of l (tail_from s e)) ≡ 20
      full_more k =
          late
          ∙ ap (λ (ws : List (List ℕ)). end_number l (word_at s at ∷ ws)) (second ∙ ap (λ (ws : List (List ℕ)). word_at s m ∷ ws) (tail_some s m (at_within s (word_end s at) m ends o) k))
          ∙ end_three l z (word_at s at) (word_at s m) (word_at s (next s m)) (tail_at s (next s m))

      pub full_is : word_end s m ≡ length s → (r : Rest) → r.address ≡ read_address (word_at s at) → r.target ≡ value_by (text_number (word_at s m)) (name_held (word_at s m)) → RestAt s e l (Ok r)
      full_is k r v u =
          let w : tail_at s at ≡ word_at s m ∷ [] = second ∙ ap (λ (ws : List (List ℕ)). word_at s m ∷ ws) (tail_none s m (omega arith)) in
          let g : full_of l (tail_from s e) ≡ word_at s at ∷ word_at s m ∷ [] = kept ∙ ap (λ (ws : List (List ℕ)). word_at s at ∷ ws) w in
          let n : late_number l (full_of l (tail_from s e)) ≡ text_number (word_at s m) = ap (late_number l) g ∙ late_then l (word_at s at ∷ word_at s m ∷ []) a ∙ end_two l z (word_at s at) (word_at s m) in (
            λ q. t (sym n ∙ q),
            v ∙ sym (ap (λ (us : List (List ℕ)). read_address (word us 0)) g),
            u ∙ (λ i. value_by (sym n i) (name_held (word (sym g i) 1))),
          )

-- what they earn is known
pub late_known : (l : ℕ) (us : List (List ℕ)) → Known (late_number l us)
unfolding late_number
late_known l us = worse_known (address_number (word us 0)) (end_number l us) (address_known (word us 0)) (end_known l us)

-- an address has its value where it has its form
pub address_zero : (w : List ℕ) → (address_number w ≡ 20 → ⊥) → address_number w ≡ 0
address_zero w h = go (eqb (address_number w) 0) refl
  where
    go : (b : Bool) → eqb (address_number w) 0 ≡ b → address_number w ≡ 0
    go true e = eqb-true (address_number w) 0 e
    go false e = absurd (h (address_twenty w (eqb-false (address_number w) 0 e)))
