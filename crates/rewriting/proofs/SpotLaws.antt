-- Laws of labels passed and units found.
use Prim.Native.Nat.{ℕ, ◌+◌, ◌-◌, ◌*◌, ◌≤◌, ◌<◌}
use mathlib.Core.Path.{◌≡◌, refl, ap, ◌∙◌, sym}
use mathlib.Core.Bool.{Bool, true, false}
use mathlib.Core.List.{List, [], ◌∷◌, ◌++◌, append_assoc}
use lib.Dec.{eqb}
use borrow.Author.Tests.{eqb-true, eqb-false}
use lib.ListN.{length, get_or, drop, length-append}
use native.Mathlib.Omega.{arith}
use native.Mathlib.Nat.{zero-add}
use Rattle.bits.specs.Bits.{octets_for, unpack}
use Rattle.labels.specs.Labels.{Label, ordinary, bits, count_for}
use Rattle.names.specs.Standard.{Unit, label, bit, before, units}
use Rattle.labels.specs.Scan.{apart}
use Rattle.names.specs.Merge.{Begins, labels_at}
use Rattle.labels.proofs.LabelLaws.{first_at}
use Rattle.names.proofs.MergeLaws.{at_bits, at_ordinary, labels_end, begins_inside}
use Rattle.rewriting.specs.Spots.{units_at, NoBit, last_run, Turned, Parted, Found}

pub before_front : (b : List ℕ) (us vs : List Unit) → before b (us ++ vs) ≡ before b us ++ vs
unfolding before
before_front [] us vs = refl
before_front (x ∷ b) us vs = before_front b (bit x ∷ us) vs

pub before_length : (b : List ℕ) (us : List Unit) → length (before b us) ≡ length b + length us
unfolding before
before_length [] us = sym (zero-add (length us))
before_length (x ∷ b) us = let i = before_length b (bit x ∷ us) in omega arith

pub turned_bits : (name : List ℕ) (at n : ℕ) → Begins name at → get_or name at 0 ≡ 65 → n ≡ count_for (get_or name (at + 1) 0) → Turned name at (at + 2 + octets_for n) n
unfolding units_at units
turned_bits name at n b f e =
    let a = at_bits name at n b f e in
    let u = unpack n (drop (at + 2) name) in
    record {
      begins = a.begins;
      on = omega arith;
      first = bits u;
      labels = a.labels;
      front = before u [];
      parts = ap units a.labels ∙ before_front u [] (units (labels_at name (at + 2 + octets_for n)));
      sized = before_length u [] ∙ omega (arith, a.size);
      some = a.some;
      few = omega arith;
      single = λ h. absurd (h f);
      plain = λ h. absurd (h f);
      counted = λ h. (e, refl);
    }

pub turned_ordinary : (name : List ℕ) (at n : ℕ) → Begins name at → (get_or name at 0 ≡ 0 → ⊥) → (get_or name at 0 ≡ 65 → ⊥) → n ≡ get_or name at 0 + 1 → Turned name at (at + n) 1
unfolding units_at units last_run
turned_ordinary name at n b f g e =
    let a = at_ordinary name at n b f g e in
    record {
      begins = a.begins;
      on = omega arith;
      first = ordinary a.content;
      labels = a.labels;
      front = label a.content ∷ [];
      parts = ap units a.labels;
      sized = refl;
      some = omega arith;
      few = omega arith;
      single = λ h. refl;
      plain = λ h run. refl;
      counted = λ h. absurd (g h);
    }

pub none_left : (name : List ℕ) (at : ℕ) → get_or name at 0 ≡ 0 → units_at name at ≡ []
unfolding units_at units
none_left name at e = ap units (labels_end (drop at name) (first_at name at ∙ e))

-- a label passed: its units are no longer to come
passed_length : {name : List ℕ} {at end size : ℕ} → Turned name at end size → length (units_at name at) ≡ size + length (units_at name end)
passed_length {name} {at} {end} {size} t = ap length t.parts ∙ length-append t.front (units_at name end) ∙ ap (λ (n : ℕ). n + length (units_at name end)) t.sized

-- the end of a label lies within the name, and after the label's beginning
pub passed_within : {name : List ℕ} {at end size : ℕ} → Turned name at end size → (at < end) × (end < length name) × (length name ≤ 255)
passed_within {name} {at} {end} t = (t.on, begins_inside name end t.begins, t.begins.short)

-- on the way through a name: `sum` units are passed, and with those from `at` on they are all
pub record Counting (name : List ℕ) (at sum : ℕ) : Type 0 where
  pub begins : Begins name at
  pub whole : sum + length (units_at name at) ≡ length (units_at name 0)
  pub few : sum ≤ 8 * at

pub counting_start : (name : List ℕ) → Begins name 0 → Counting name 0 0
counting_start name b = record { begins = b; whole = zero-add (length (units_at name 0)); few = omega arith }

module _ {name : List ℕ} {at sum : ℕ} (c : Counting name at sum) where
  pub counting_on : {end size : ℕ} → Turned name at end size → Counting name end (sum + size)
  counting_on t = record { begins = t.begins; whole = omega (arith, passed_length t, c.whole); few = omega (arith, t.few, c.few, t.on) }

  pub counting_end : get_or name at 0 ≡ 0 → sum ≡ length (units_at name 0)
  counting_end e = let n = ap length (none_left name at e) in omega (arith, c.whole, n)

apart_weak : (after : Bool) (ls : List Label) → apart after ls ≡ true → apart false ls ≡ true
unfolding apart
apart_weak after [] h = refl
apart_weak after (ordinary l ∷ ls) h = h
apart_weak true (bits b ∷ ls) h = let z : ◌≡◌ {A = Bool} false true = h in cc
apart_weak false (bits b ∷ ls) h = h

pub apart_next : (l : Label) (ls : List Label) → apart false (l ∷ ls) ≡ true → apart false ls ≡ true
unfolding apart
apart_next (ordinary l) ls h = h
apart_next (bits b) ls h = apart_weak true ls h

pub apart_bits : (b : List ℕ) (ls : List Label) → apart false (bits b ∷ ls) ≡ true → NoBit (units ls)
unfolding apart units
apart_bits b [] h = record {}
apart_bits b (ordinary l ∷ ls) h = record {}
apart_bits b (bits c ∷ ls) h = let z : ◌≡◌ {A = Bool} false true = h in let y : ◌≡◌ {A = ℕ} 0 1 = cc in let w : ⊥ = omega arith in absurd w

-- on the way to unit j: `left` units are still to be passed
pub record Seeking (name : List ℕ) (j at left : ℕ) : Type 0 where
  pub begins : Begins name at
  pub enough : left < length (units_at name at)
  pub passed : List Unit
  pub parts : units_at name 0 ≡ passed ++ units_at name at
  pub place : length passed + left ≡ j
  pub still : Parted name 0 → Parted name at
  pub closed : Parted name 0 → get_or name at 0 ≡ 65 → last_run [] passed ≡ []

pub seeking_start : (name : List ℕ) (j : ℕ) → Begins name 0 → j < length (units_at name 0) → Seeking name j 0 j
unfolding last_run
seeking_start name j b h = record { begins = b; enough = h; passed = []; parts = refl; place = zero-add j; still = λ p. p; closed = λ p g. refl }

-- after a bit label no other follows
after_bits : (name : List ℕ) (at end size : ℕ) → Turned name at end size → Begins name at → Parted name at → get_or name at 0 ≡ 65 → get_or name end 0 ≡ 65 → ⊥
unfolding apart
after_bits name at end size t b p f g =
    let k = t.counted f in
    let a = at_bits name at size b f k.0 in
    let d = at_bits name end (count_for (get_or name (end + 1) 0)) t.begins g refl in
    let h : apart false (bits (unpack size (drop (at + 2) name)) ∷ labels_at name end) ≡ true =
    sym (ap (apart false) (a.labels ∙ ap (λ (i : ℕ). bits (unpack size (drop (at + 2) name)) ∷ labels_at name i) (sym k.1))) ∙ p in
    let z : ◌≡◌ {A = Bool} false true = sym (ap (apart true) d.labels) ∙ h in
    let y : ◌≡◌ {A = ℕ} 0 1 = cc in
    omega arith

pub last_append : (run : List ℕ) (us vs : List Unit) → last_run run (us ++ vs) ≡ last_run (last_run run us) vs
unfolding last_run
last_append run [] vs = refl
last_append run (label l ∷ us) vs = last_append [] us vs
last_append run (bit b ∷ us) vs = last_append (b ∷ run) us vs

module _ {name : List ℕ} {j at left : ℕ} (s : Seeking name j at left) where
  pub seeking_on : {end size : ℕ} → Turned name at end size → size ≤ left → Seeking name j end (left - size)
  seeking_on {end} {size} t h =
      let l = passed_length t in
      let m = length-append s.passed t.front in
      record {
        begins = t.begins;
        enough = omega (arith, s.enough);
        passed = s.passed ++ t.front;
        parts = s.parts ∙ ap (λ (us : List Unit). s.passed ++ us) t.parts ∙ sym (append_assoc s.passed t.front (units_at name end));
        place = omega (arith, m, s.place, t.sized);
        still = λ p. apart_next t.first (labels_at name end) (sym (ap (apart false) t.labels) ∙ s.still p);
        closed = λ p g. last_append [] s.passed t.front ∙ t.plain (λ f. after_bits name at end size t s.begins (s.still p) f g) (last_run [] s.passed);
      }

  pub seeking_found : (end size : ℕ) → Turned name at end size → left < size → Found name j (record { at = at; left = left; end = end; units = size })
  seeking_found end size t h = record { begins = s.begins; turned = t; within = h; passed = s.passed; parts = s.parts; place = s.place; still = s.still; closed = s.closed }

  -- a label is there
  pub seeking_more : 0 < get_or name at 0
  seeking_more = go (eqb (get_or name at 0) 0) refl
    where
      go : (b : Bool) → eqb (get_or name at 0) 0 ≡ b → 0 < get_or name at 0
      go true e = let n = ap length (none_left name at (eqb-true (get_or name at 0) 0 e)) in omega (arith, s.enough, n)
      go false e = omega (arith, eqb-false (get_or name at 0) 0 e)
