-- Laws of places in a text: one for each branch of the readers, one for each turn of a loop.
use Prim.Native.Nat.{ℕ, suc, ◌+◌, ◌-◌, ◌*◌, ◌≤◌, ◌<◌}
use mathlib.Core.Path.{◌≡◌, refl, ap, ◌∙◌, sym}
use mathlib.Core.Bool.{Bool, true, false, not, ◌&&◌}
use mathlib.Core.List.{List, [], ◌∷◌, ◌++◌, append-nil, append_assoc}
use lib.Dec.{ltb, eqb}
use lib.ListN.{length, get_or, take, drop, set, length-set, length-drop, get_or-eq_default}
use lib.Seq.{get_or-drop, drop-drop, length-take-le, take-take, take-append-le, take-append-add, take-add, drop_at, drop-set-lt, set_split}
use native.Mathlib.Omega.{arith}
use native.Mathlib.Numerals.{add-one}
use native.Mathlib.Nat.{add-zero}
use borrow.Author.Tests.{not-true, ltb-true, ltb-false, eqb-true, eq-eqb, ne_eqb}
use Rattle.octets.proofs.BoolLaws.{and_true, and_false, clash}
use Rattle.bits.specs.Packing.{Clean}
use Rattle.bits.proofs.PackLaws.{clean_more, take_more}
use Rattle.text.proofs.DecimalLaws.{both}
use Rattle.text.proofs.PlaceLaws.{from_place}
use Rattle.text.proofs.RunLaws.{rest_whole}
use Rattle.octets.proofs.OctetLaws.{nil_of_length}
use Rattle.text.specs.Digits.{is_digit}
use Rattle.nametext.specs.Characters.{is_plain}
use Rattle.nametext.specs.Reading.{parts_from, octets_formed, octets_in, octets_ranged, is_bits_text}
use Rattle.nametext.specs.Places.{Dot, Ended, Stands, part_by, ordinary_part, Filled}
use Rattle.std.specs.Prelude.{Ok, Err}
use Rattle.octets.specs.declared.Refusal.TheVariants.{Form, Range}
use Rattle.text.specs.Digits.{leading}
use Rattle.nametext.proofs.PlainLaws.{no_backslash}
use Rattle.text.proofs.LeadingLaws.{leading_more, leading_stop, leading_few, leading_first, leading_rest}
use Rattle.nametext.specs.declared.reading.Part.TheVariants.{Word}
use Rattle.nametext.specs.declared.reading.Octet.{Octet}

drop_three : (xs : List ℕ) (i : ℕ) → i + 4 ≤ length xs → drop (i + 1) xs ≡ get_or xs (i + 1) 0 ∷ get_or xs (i + 1 + 1) 0 ∷ get_or xs (i + 1 + 1 + 1) 0 ∷ drop (i + 4) xs
drop_three xs i k =
    let e : i + 1 + 1 + 1 + 1 ≡ i + 4 = omega arith in
    rw (from_place xs (i + 1) (omega arith), from_place xs (i + 1 + 1) (omega arith), from_place xs (i + 1 + 1 + 1) (omega arith), e)

-- dots: the parts of a text by the octets before its first dot
abbrev other : ℕ → Bool
other x = not (eqb x 46)

parts_dot : (begun xs : List ℕ) → leading other xs < length xs
    → (get_or xs (leading other xs) 0 ≡ 46) × (parts_from begun xs ≡ (begun ++ take (leading other xs) xs) ∷ parts_from [] (drop (leading other xs + 1) xs))
unfolding leading parts_from
parts_dot begun [] h = let z : ⊥ = omega arith in absurd z
parts_dot begun (x ∷ xs) h = go (eqb x 46) refl (parts_dot (begun ++ (x ∷ [])) xs)
  where
    go : (b : Bool) → eqb x 46 ≡ b
        → (leading other xs < length xs → (get_or xs (leading other xs) 0 ≡ 46) × (parts_from (begun ++ (x ∷ [])) xs ≡ ((begun ++ (x ∷ [])) ++ take (leading other xs) xs) ∷ parts_from [] (drop (leading other xs + 1) xs)))
        → (get_or (x ∷ xs) (leading other (x ∷ xs)) 0 ≡ 46) × (parts_from begun (x ∷ xs) ≡ (begun ++ take (leading other (x ∷ xs)) (x ∷ xs)) ∷ parts_from [] (drop (leading other (x ∷ xs) + 1) (x ∷ xs)))
    go true e ih =
        let l : leading other (x ∷ xs) ≡ 0 = leading_stop other x xs (rw e) in
        rw l (eqb-true x 46 e, rw (parts_from, e, append-nil begun))
    go false e ih =
        let l : leading other (x ∷ xs) ≡ suc (leading other xs) = leading_more other x xs (rw e) in
        let k = ih (omega arith) in
        let n : suc (leading other xs) + 1 ≡ suc (leading other xs + 1) = omega arith in
        rw (l, n) (k.0, rw (parts_from, e) (k.1 ∙ ap (λ (ys : List ℕ). ys ∷ parts_from [] (drop (leading other xs + 1) xs)) (append_assoc begun (x ∷ []) (take (leading other xs) xs))))

parts_none : (begun xs : List ℕ) → leading other xs ≡ length xs → parts_from begun xs ≡ []
unfolding parts_from
parts_none begun [] h = refl
parts_none begun (x ∷ xs) h =
    let e : eqb x 46 ≡ false = not-true (eqb x 46) (leading_first other x xs (omega arith)) in
    rw (parts_from, e) (parts_none (begun ++ (x ∷ [])) xs (leading_rest other x xs h))

pub dot_passed : (text : List ℕ) (at r : ℕ) → at ≤ length text → r ≡ at + leading (λ x. not (eqb x 46)) (drop at text) → Dot text at r
dot_passed text at r h e =
    let f = leading_few other (drop at text) in
    let d = length-drop at text in
    let n : r - at ≡ leading other (drop at text) = omega arith in
    record {
      low = omega arith;
      high = omega arith;
      found = λ k.
          let p = parts_dot [] (drop at text) (omega arith) in
          let g : get_or text r 0 ≡ get_or (drop at text) (leading other (drop at text)) 0 = rw e (sym (get_or-drop at text (leading other (drop at text)) 0)) in
          let j : at + (leading other (drop at text) + 1) ≡ r + 1 = omega arith in
          (g ∙ p.0, p.1 ∙ rw n (ap (λ (ys : List ℕ). take (leading other (drop at text)) (drop at text) ∷ parts_from [] ys) (drop-drop (leading other (drop at text) + 1) at text ∙ ap (λ (m : ℕ). drop m text) j)));
      none = λ k. parts_none [] (drop at text) (omega arith);
    }

-- escapes
abbrev three_at : List ℕ → Bool
three_at p = is_digit (get_or p 1 0) && (is_digit (get_or p 2 0) && is_digit (get_or p 3 0))

module _ (p : List ℕ) (h : 0 < length p) where
  whole : p ≡ get_or p 0 0 ∷ drop 1 p
  whole = from_place p 0 h

  escape_formed : get_or p 0 0 ≡ 92 → octets_formed 0 p ≡ (three_at p && octets_formed 3 (drop 1 p))
  unfolding octets_formed
  escape_formed e = ap (octets_formed 0) (whole ∙ ap (λ (x : ℕ). x ∷ drop 1 p) e) ∙ rw (get_or-drop 1 p 0 0, get_or-drop 1 p 1 0, get_or-drop 1 p 2 0)

  escape_in : get_or p 0 0 ≡ 92 → octets_in 0 p ≡ ((get_or p 1 0 - 48) * 100 + ((get_or p 2 0 - 48) * 10 + (get_or p 3 0 - 48))) ∷ octets_in 3 (drop 1 p)
  unfolding octets_in
  escape_in e = ap (octets_in 0) (whole ∙ ap (λ (x : ℕ). x ∷ drop 1 p) e) ∙ rw (get_or-drop 1 p 0 0, get_or-drop 1 p 1 0, get_or-drop 1 p 2 0)

  -- neither an escape nor a plain octet
  pub ends_no_escape : get_or p 0 0 ≡ 92 → three_at p ≡ false → octets_formed 0 p ≡ false
  ends_no_escape e f = escape_formed e ∙ rw f

  pub ends_no_plain : (get_or p 0 0 ≡ 92 → ⊥) → is_plain (get_or p 0 0) ≡ false → octets_formed 0 p ≡ false
  unfolding octets_formed
  ends_no_plain e f = ap (octets_formed 0) whole ∙ rw (octets_formed, ne_eqb (get_or p 0 0) 92 e, f)

  pub stands_plain : (v : ℕ) → v ≡ get_or p 0 0 → v < 256 → is_plain (get_or p 0 0) ≡ true → Stands p (record { size = 1; value = v })
  unfolding octets_formed octets_in
  stands_plain v w s f =
      let e = no_backslash (get_or p 0 0) f in
      record {
        some = omega arith;
        formed = ap (octets_formed 0) whole ∙ rw (octets_formed, ne_eqb (get_or p 0 0) 92 e, f);
        holds = ap (octets_in 0) whole ∙ rw (octets_in, ne_eqb (get_or p 0 0) 92 e, w);
        inside = omega arith;
        small = omega arith;
      }

  -- three octets passed over
  skip_formed : 4 ≤ length p → octets_formed 3 (drop 1 p) ≡ octets_formed 0 (drop 4 p)
  unfolding octets_formed
  skip_formed k = ap (octets_formed 3) (drop_three p 0 k)

  skip_in : 4 ≤ length p → octets_in 3 (drop 1 p) ≡ octets_in 0 (drop 4 p)
  unfolding octets_in
  skip_in k = ap (octets_in 3) (drop_three p 0 k)

  pub stands_escape : (a b c : ℕ) → get_or p 0 0 ≡ 92 → is_digit (get_or p 1 0) ≡ true → is_digit (get_or p 2 0) ≡ true → is_digit (get_or p 3 0) ≡ true → 4 ≤ length p
      → a ≡ get_or p 1 0 - 48 → b ≡ get_or p 2 0 - 48 → c ≡ get_or p 3 0 - 48 → a < 10 → b < 10 → c < 10 → Stands p (record { size = 4; value = a * 100 + (b * 10 + c) })
  stands_escape a b c e d1 d2 d3 k ea eb ec la lb lc =
      record {
        some = omega arith;
        formed = escape_formed e ∙ rw (d1, d2, d3) (skip_formed k);
        holds = escape_in e ∙ rw (← ea, ← eb, ← ec) (ap (λ (ys : List ℕ). (a * 100 + (b * 10 + c)) ∷ ys) (skip_in k));
        inside = k;
        small = omega arith;
      }

pub three_all : (a b c : Bool) → (a && (b && c)) ≡ true → (a ≡ true) × (b ≡ true) × (c ≡ true)
three_all true true true h = (refl, refl, refl)
three_all true true false h = absurd (clash h refl)
three_all true false c h = absurd (clash h refl)
three_all false b c h = absurd (clash h refl)

-- fewer than three octets are no three digits
pub three_short : (p : List ℕ) → length p < 4 → three_at p ≡ false
three_short p h =
    let e : get_or p 3 0 ≡ 0 = get_or-eq_default p 0 {n = 3} (omega arith) in
    rw e (ap (λ (b : Bool). is_digit (get_or p 1 0) && b) (and_false (is_digit (get_or p 2 0))) ∙ and_false (is_digit (get_or p 1 0)))

-- an empty part has no form
pub part_none : (p : List ℕ) → length p ≡ 0 → Err Form ≡ ordinary_part p
unfolding ordinary_part part_by
part_none p h = rw (eq-eqb (length p) 0 h)

-- any other holds an octet
in_some : (p : List ℕ) → 0 < length p → 0 < length (octets_in 0 p)
unfolding octets_in
in_some [] h = h
in_some (x ∷ xs) h = go (eqb x 92) refl
  where
    go : (b : Bool) → eqb x 92 ≡ b → 0 < length (octets_in 0 (x ∷ xs))
    go true e = rw (e, octets_in) (omega arith)
    go false e = rw (e, octets_in) (omega arith)

-- the loop that judges an ordinary label: what it counted, and what is left
pub record Judging (p : List ℕ) (b : Bool) (k : ℕ) (rest : List ℕ) : Type 0 where
  pub inside : k + length rest ≤ length p
  pub formed : octets_formed 0 rest ≡ octets_formed 0 p
  pub ranged : (b && octets_ranged (octets_in 0 rest)) ≡ octets_ranged (octets_in 0 p)
  pub counted : k + length (octets_in 0 rest) ≡ length (octets_in 0 p)

pub judging_start : (p : List ℕ) → Judging p true 0 p
judging_start p = record { inside = omega arith; formed = refl; ranged = refl; counted = omega arith }

and_assoc : (a b c : Bool) → ((a && b) && c) ≡ (a && (b && c))
and_assoc true b c = refl
and_assoc false b c = refl

module _ (p : List ℕ) (b : Bool) (k : ℕ) (rest : List ℕ) (j : Judging p b k rest) where
  pub judging_turn : (r : Octet) (d : Bool) → Stands rest r → d ≡ (b && ltb r.value 256) → Judging p d (k + 1) (take (length rest - r.size) (drop r.size rest))
  unfolding octets_ranged
  judging_turn r d s e =
      let h = s.holds in
      let l : length (octets_in 0 rest) ≡ suc (length (octets_in 0 (drop r.size rest))) = ap length h in
      let m = length-drop r.size rest in
      rw (rest_whole rest r.size) (record {
        inside = omega (arith, j.inside, s.some, s.inside);
        formed = sym s.formed ∙ j.formed;
        ranged = rw e (and_assoc b (ltb r.value 256) (octets_ranged (octets_in 0 (drop r.size rest))) ∙ ap (λ (xs : List ℕ). b && octets_ranged xs) (sym h) ∙ j.ranged);
        counted = omega (arith, j.counted);
      })

  pub judging_bad : 0 < length rest → Ended rest → Err Form ≡ ordinary_part p
  unfolding ordinary_part part_by
  judging_bad h s = rw (sym j.formed ∙ s h, and_false (not (eqb (length p) 0)))

  module _ (z : length rest ≡ 0) where
    judging_formed : octets_formed 0 p ≡ true
    unfolding octets_formed
    judging_formed = sym j.formed ∙ ap (octets_formed 0) (nil_of_length rest z)

    judging_ranged : octets_ranged (octets_in 0 p) ≡ b
    unfolding octets_ranged octets_in
    judging_ranged = sym j.ranged ∙ ap (λ (xs : List ℕ). b && octets_ranged (octets_in 0 xs)) (nil_of_length rest z) ∙ and_true b

    judging_count : length (octets_in 0 p) ≡ k
    unfolding octets_in
    judging_count = let l : length (octets_in 0 rest) ≡ 0 = ap (λ (xs : List ℕ). length (octets_in 0 xs)) (nil_of_length rest z) in omega (arith, j.counted)

    pub judging_good : (k ≡ 0 → ⊥) → b ≡ true → Ok (Word k) ≡ ordinary_part p
    unfolding ordinary_part part_by
    judging_good n e = rw (ne_eqb (length p) 0 (λ y. n (omega (arith, j.inside))), judging_formed, judging_ranged, judging_count, e)

    pub judging_over : (k ≡ 0 → ⊥) → b ≡ false → Err Range ≡ ordinary_part p
    unfolding ordinary_part part_by
    judging_over n e = rw (ne_eqb (length p) 0 (λ y. n (omega (arith, j.inside))), judging_formed, judging_ranged, e)

    -- nothing was counted, and nothing is left: there was nothing
    pub judging_none : k ≡ 0 → Err Form ≡ ordinary_part p
    judging_none n = part_none p (go (ltb 0 (length p)) refl)
      where
        go : (t : Bool) → ltb 0 (length p) ≡ t → length p ≡ 0
        go true e = let c = judging_count in let i = in_some p (ltb-true 0 (length p) e) in absurd (omega arith)
        go false e = let l = ltb-false 0 (length p) e in omega arith

-- the loop that writes what an ordinary label holds
pub record Filling (p old new : List ℕ) (to t : ℕ) (rest : List ℕ) : Type 0 where
  pub formed : octets_formed 0 rest ≡ true
  pub ranged : octets_ranged (octets_in 0 rest) ≡ true
  pub same : take t new ++ octets_in 0 rest ≡ take to old ++ octets_in 0 p
  pub clean : Clean new t
  pub place : t + length (octets_in 0 rest) ≡ to + length (octets_in 0 p)
  pub size : length new ≡ length old

module _ (p old new : List ℕ) (to t : ℕ) (rest : List ℕ) (f : Filling p old new to t rest) where
  module _ (r : Octet) (s : Stands rest r) where
    tests : (ltb r.value 256 && octets_ranged (octets_in 0 (drop r.size rest))) ≡ true
    unfolding octets_ranged
    tests = ap octets_ranged (sym s.holds) ∙ f.ranged

    pub filling_small : r.value < 256
    filling_small = ltb-true r.value 256 (both (ltb r.value 256) (octets_ranged (octets_in 0 (drop r.size rest))) tests).0

    pub filling_room : to + length (octets_in 0 p) ≤ length old → t < length new
    filling_room h =
        let l : length (octets_in 0 rest) ≡ suc (length (octets_in 0 (drop r.size rest))) = ap length s.holds in
        omega (arith, f.place, f.size)

    pub filling_turn : to + length (octets_in 0 p) ≤ length old → Filling p old (set new t r.value) to (t + 1) (take (length rest - r.size) (drop r.size rest))
    filling_turn h =
        let k = s.holds in
        let xs = octets_in 0 (drop r.size rest) in
        let l : length (octets_in 0 rest) ≡ suc (length xs) = ap length k in
        rw (rest_whole rest r.size) (record {
          formed = sym s.formed ∙ f.formed;
          ranged = (both (ltb r.value 256) (octets_ranged xs) tests).1;
          same = ap (λ (ys : List ℕ). ys ++ xs) (take_more new t r.value (filling_room h)) ∙ append_assoc (take t new) (r.value ∷ []) xs ∙ ap (λ (ys : List ℕ). take t new ++ ys) (sym k) ∙ f.same;
          clean = clean_more new t r.value f.clean;
          place = omega (arith, f.place);
          size = length-set new t r.value ∙ f.size;
        })

  -- where no octet stands at the front of a formed label, it has ended
  pub filling_end : Ended rest → Filled old new to t (octets_in 0 p)
  unfolding octets_in
  filling_end s =
      let z : length rest ≡ 0 = go (ltb 0 (length rest)) refl in
      let e : octets_in 0 rest ≡ [] = ap (octets_in 0) (nil_of_length rest z) in
      let l : length (octets_in 0 rest) ≡ 0 = ap length e in
      record { whole = sym (append-nil (take t new)) ∙ ap (λ (ys : List ℕ). take t new ++ ys) (sym e) ∙ f.same; clean = f.clean; place = omega (arith, f.place) }
    where
      go : (b : Bool) → ltb 0 (length rest) ≡ b → length rest ≡ 0
      go true e = absurd (clash f.formed (s (ltb-true 0 (length rest) e)))
      go false e = let l = ltb-false 0 (length rest) e in omega arith

pub filling_start : (p out : List ℕ) (to : ℕ) → octets_formed 0 p ≡ true → octets_ranged (octets_in 0 p) ≡ true → Clean out to → Filling p out out to to p
filling_start p out to f r c = record { formed = f; ranged = r; same = refl; clean = c; place = refl; size = refl }

-- the length of a label, put in front of its octets
pub filled_length : (old mid : List ℕ) (to e k : ℕ) (xs : List ℕ) → Filled old mid (to + 1) e xs → length mid ≡ length old → to + (1 + length xs) ≤ length old → k ≡ length xs
    → Filled old (set mid to k) to e (length xs ∷ xs)
filled_length old mid to e k xs f l h q =
    let a : e ≡ suc (to + length xs) = omega (arith, f.place) in
    let b : to ≤ to + 1 = omega arith in
    let c : length (take (to + 1) old) ≡ to + 1 = length-take-le (to + 1) old (omega arith) in
    let d : take to mid ≡ take to old =
    sym (take-take to e mid (omega arith)) ∙ ap (take to) f.whole ∙ take-append-le to (take (to + 1) old) xs (omega arith) ∙ take-take to (to + 1) old b in
    let g : length (take to mid) ≡ to = length-take-le to mid (omega arith) in
    let i : take (length xs) (drop (suc to) mid) ≡ xs = dropped in
    let m : e ≡ length (take to mid) + suc (length xs) = omega arith in
    record {
      whole = ap (take e) (set_split mid to k (omega arith)) ∙ ap (λ (n : ℕ). take n (take to mid ++ (k ∷ drop (suc to) mid))) m
          ∙ take-append-add (take to mid) (k ∷ drop (suc to) mid) (suc (length xs)) ∙ rw (d, q, i);
      clean = rw (length-set mid to k) (drop-set-lt e mid to k (omega arith) ∙ f.clean);
      place = omega arith;
    }
  where
    dropped : take (length xs) (drop (suc to) mid) ≡ xs
    dropped =
        let c : length (take (to + 1) old) ≡ suc to = length-take-le (to + 1) old (omega arith) ∙ add-one to in
        let a : e ≡ suc to + length xs = omega (arith, f.place) in
        let b : length (take (suc to) mid) ≡ suc to = length-take-le (suc to) mid (omega arith) in
        sym (drop_at (take (suc to) mid) (take (length xs) (drop (suc to) mid)) (suc to) b)
        ∙ ap (drop (suc to)) (sym (take-add (suc to) (length xs) mid) ∙ ap (λ (n : ℕ). take n mid) (sym a) ∙ f.whole)
        ∙ drop_at (take (to + 1) old) xs (suc to) c

-- a bit label begins at a place
module _ (p : List ℕ) (at : ℕ) where
  pub begins_is : is_bits_text (drop at p) ≡ (eqb (get_or p at 0) 92 && eqb (get_or p (at + 1) 0) 91)
  unfolding is_bits_text
  begins_is = rw (get_or-drop at p 0 0, get_or-drop at p 1 0, add-zero at)
