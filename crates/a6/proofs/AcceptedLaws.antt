-- Laws of the values that a writer takes, and of how it lays data down: the same for every layout.
use Prim.Native.Nat.{ℕ, ◌+◌, ◌-◌, ◌/◌, ◌≤◌, ◌<◌, max}
use mathlib.Core.Path.{◌≡◌, refl, ap, ◌∙◌, sym}
use mathlib.Core.Bool.{Bool, true, false, not}
use mathlib.Core.List.{List, [], ◌∷◌, ◌++◌, append_assoc}
use lib.Dec.{ltb, eqb}
use lib.ListN.{length, take, drop, set, length-append, length-drop}
use lib.Seq.{take-append_seam, drop-append_seam, take_at, take-length, length-take-le, drop-append-add, drop-drop, paste}
use native.Mathlib.Omega.{arith}
use borrow.Rule.Slice.PartMut.{put_mid}
use Rattle.std.proofs.lemmas.Slice.{put_mid-paste}
use borrow.Author.Tests.{lt-ltb, le-ltb, eq-eqb, ne_eqb, ltb-false, not-false}
use Rattle.octets.specs.Octets.{blank}
use Rattle.octets.specs.Zeros.{is_blank}
use Rattle.octets.specs.Answers.{or_else, answering, refusal, answer_by, out_by}
use Rattle.octets.proofs.OctetLaws.{length_blank, drop_blank}
use Rattle.octets.proofs.SameLaws.{same_refl}
use Rattle.octets.proofs.AnswerLaws.{earns_zero, else_zero, else_later, not_nought, refused_answer, refused_out, done_answer, done_out}
use Rattle.names.specs.Name.{name_of}
use Rattle.names.specs.Standard.{in_standard_form}
use Rattle.address.specs.Address.{clear_to}
use Rattle.a6.specs.Data.{octets_of}
use Rattle.a6.specs.Accepted.{name_fits, zero_filled, value_number, room_number}
use Rattle.a6.specs.Parts.{over, laid, laid_of, laid_number}
use Rattle.a6.specs.declared.Value.{Value}

-- what a writer asks of a value, the room aside
pub record Writable (v : Value) : Type 0 where
  pub low : v.prefix ≤ 128
  pub fits : name_fits v.prefix (octets_of v.name) ≡ true
  pub filled : zero_filled v.name ≡ true
  pub clear : clear_to v.prefix v.address ≡ true

-- one law for each test
module _ (v : Value) where
  pub value_prefix : 128 < v.prefix → value_number v ≡ 10
  unfolding value_number
  value_prefix p = rw (value_number, lt-ltb 128 v.prefix p)

  pub value_name : v.prefix ≤ 128 → name_fits v.prefix (octets_of v.name) ≡ false → value_number v ≡ 12
  unfolding value_number
  value_name p n = rw (value_number, le-ltb 128 v.prefix p, n)

  pub value_filled : v.prefix ≤ 128 → name_fits v.prefix (octets_of v.name) ≡ true → zero_filled v.name ≡ false → value_number v ≡ 12
  unfolding value_number
  value_filled p n z = rw (value_number, le-ltb 128 v.prefix p, n, z)

  pub value_clear : v.prefix ≤ 128 → name_fits v.prefix (octets_of v.name) ≡ true → zero_filled v.name ≡ true → clear_to v.prefix v.address ≡ false
      → value_number v ≡ 12
  unfolding value_number
  value_clear p n z c = rw (value_number, le-ltb 128 v.prefix p, n, z, c)

  pub value_done : Writable v → value_number v ≡ 0
  unfolding value_number
  value_done w = rw (value_number, le-ltb 128 v.prefix w.low, w.fits, w.filled, w.clear)

  pub writable : value_number v ≡ 0 → Writable v
  unfolding value_number
  writable e =
      let t1 = earns_zero (ltb 128 v.prefix) 9 _ e in
      let t2 = earns_zero (not (name_fits v.prefix (octets_of v.name))) 11 _ t1.1 in
      let t3 = earns_zero (not (zero_filled v.name)) 11 _ t2.1 in
      let t4 = earns_zero (not (clear_to v.prefix v.address)) 11 _ t3.1 in
      record {
        low = ltb-false 128 v.prefix t1.0;
        fits = not-false (name_fits v.prefix (octets_of v.name)) t2.0;
        filled = not-false (zero_filled v.name) t3.0;
        clear = not-false (clear_to v.prefix v.address) t4.0;
      }

pub room_short : (octets : List ℕ) (room : ℕ) → room < length octets → room_number octets room ≡ 7
unfolding room_number
room_short octets room h = rw (room_number, lt-ltb room (length octets) h)

pub room_enough : (octets : List ℕ) (room : ℕ) → length octets ≤ room → room_number octets room ≡ 0
unfolding room_number
room_enough octets room h = rw (room_number, le-ltb room (length octets) h)

-- the value's number, then the room's: for whatever data a layout makes of the value
module _ (v : Value) (octets : List ℕ) (room : ℕ) where
  pub write_room : Writable v → room < length octets → or_else (value_number v) (room_number octets room) ≡ 7
  write_room w h = else_later (value_number v) _ (value_done v w) ∙ room_short octets room h

  pub write_done : Writable v → length octets ≤ room → or_else (value_number v) (room_number octets room) ≡ 0
  write_done w h = else_later (value_number v) _ (value_done v w) ∙ room_enough octets room h

  pub write_fits : or_else (value_number v) (room_number octets room) ≡ 0 → Writable v × (length octets ≤ room)
  unfolding room_number
  write_fits e =
      let t = else_zero (value_number v) _ e in
      (writable v t.0, ltb-false room (length octets) (earns_zero (ltb room (length octets)) 6 _ t.1).0)

-- what the name has to be
pub fits_none : (l : ℕ) (xs : List ℕ) → l ≡ 0 → name_fits l xs ≡ eqb (length xs) 0
unfolding name_fits
fits_none l xs e = rw (name_fits, eq-eqb l 0 e)

pub fits_some : (l : ℕ) (xs : List ℕ) → (l ≡ 0 → ⊥) → name_fits l xs ≡ in_standard_form xs
unfolding name_fits
fits_some l xs e = rw (name_fits, ne_eqb l 0 e)

-- octets held by value, and read out of it again
pub held_octets_lem : (xs : List ℕ) → octets_of (name_of xs) ≡ xs
unfolding octets_of name_of
held_octets_lem xs = take-append_seam xs (blank (255 - length xs))

pub held_filled : (xs : List ℕ) → zero_filled (name_of xs) ≡ true
unfolding name_of is_blank
held_filled xs = rw (drop-append_seam xs (blank (255 - length xs)), length_blank (255 - length xs)) (same_refl (blank (255 - length xs)))

-- octets copied behind those that were written
paste_over : (out front xs : List ℕ) (a : ℕ) → length front ≡ a → paste (over out front) a xs (length xs) ≡ over out (front ++ xs)
paste_over out front xs a e =
    let n = length xs in
    let f : drop (a + n) (front ++ drop a out) ≡ drop (a + n) out = rw (← e) (drop-append-add front (drop (length front) out) n ∙ drop-drop n (length front) out) in
    let l : length (front ++ xs) ≡ a + n = length-append front xs ∙ ap (λ (k : ℕ). k + n) e in
    rw (e, take_at front (drop a out) a e, take-length xs, f, l)

put_over : (out front xs : List ℕ) (a k : ℕ) → length front ≡ a → k ≡ length xs → put_mid a k (over out front) xs ≡ over out (front ++ xs)
put_over out front xs a k e n = put_mid-paste a k (over out front) xs xs (length xs) refl (sym n) refl ∙ paste_over out front xs a e

-- and one octet
set_over : (out front : List ℕ) (x : ℕ) → length front < length out → set (over out front) (length front) x ≡ over out (front ++ (x ∷ []))
set_over out front x h = go out front h
  where
    go : (out front : List ℕ) → length front < length out → set (over out front) (length front) x ≡ over out (front ++ (x ∷ []))
    go [] front h = let z : ⊥ = omega arith in absurd z
    go (y ∷ ys) [] h = refl
    go (y ∷ ys) (z ∷ zs) h = ap (λ (t : List ℕ). z ∷ t) (go ys zs (omega arith))

-- data as the code copies it, part by part
module _ (x : ℕ) (address : List ℕ) (before after : ℕ) (name : List ℕ) (long : length address ≡ 16) (b : before ≤ 16) (c : after ≤ 16) where
  front : length (take before address) ≡ before
  front = length-take-le before address (omega arith)

  back_lem : length (drop after address) ≡ 16 - after
  back_lem = length-drop after address ∙ rw long

  pub laid_length : length (laid x address before after name) ≡ before + 1 + (16 - after) + length name
  laid_length = length-append (take before address) (x ∷ (drop after address ++ name)) ∙ omega (arith, front, back_lem, length-append (drop after address) name)

  -- as the code lays it over zeros: the octets of the address in two parts, `back` and `size` of them counted, the prefix length between them, the name last
  pub laid_over : (out : List ℕ) (back size : ℕ) → before < length out → back ≡ 16 - after → size ≡ length name
      → put_mid (before + 1 + (16 - after)) size (put_mid (before + 1) back (set (take before address ++ drop before out) before x) (drop after address)) name ≡ over out (laid x address before after name)
  laid_over out back size h p q =
      let one = take before address ++ (x ∷ []) in
      let k : length one ≡ before + 1 = length-append (take before address) (x ∷ []) ∙ rw front in
      let m : length (one ++ drop after address) ≡ before + 1 + (16 - after) = length-append one (drop after address) ∙ rw (k, back_lem) in
      let f : take before address ++ drop before out ≡ over out (take before address) = ap (λ (n : ℕ). take before address ++ drop n out) (sym front) in
      let g : set (over out (take before address)) before x ≡ over out one = ap (λ (n : ℕ). set (over out (take before address)) n x) (sym front) ∙ set_over out (take before address) x (omega (arith, front)) in
      let w = put_over out one (drop after address) (before + 1) back k (p ∙ sym back_lem) in
      let a : (one ++ drop after address) ++ name ≡ laid x address before after name = append_assoc one (drop after address) name ∙ append_assoc (take before address) (x ∷ []) (drop after address ++ name) in
      rw (f, g, w, put_over out (one ++ drop after address) name (before + 1 + (16 - after)) size m q) (ap (over out) a)

pub over_blank : (out xs : List ℕ) (room : ℕ) → out ≡ blank room → over out xs ≡ xs ++ blank (room - length xs)
over_blank out xs room z = rw (z, drop_blank (length xs) room)

-- the same tests, of a value whose name the code lends
module _ (v : Value) (name : List ℕ) (n : name ≡ take v.name.length v.name.octets) (low : v.prefix ≤ 128) where
  lent : (b : Bool) → b ≡ name_fits v.prefix name → name_fits v.prefix (octets_of v.name) ≡ b
  unfolding octets_of
  lent b e = sym (e ∙ ap (name_fits v.prefix) n)

  module _ (b : Bool) (e : b ≡ name_fits v.prefix name) where
    pub lent_name : b ≡ false → 12 ≡ value_number v
    lent_name f = sym (value_name v low (lent b e ∙ f))

    module _ (f : b ≡ true) (count : ℕ) (m : count ≡ v.name.length) (z : Bool) (g : z ≡ is_blank (drop count v.name.octets)) where
      filling : zero_filled v.name ≡ z
      filling = sym (g ∙ ap (λ (k : ℕ). is_blank (drop k v.name.octets)) m)

      pub lent_filled : z ≡ false → 12 ≡ value_number v
      lent_filled h = sym (value_filled v low (lent b e ∙ f) (filling ∙ h))

      module _ (h : z ≡ true) (c : Bool) (k : c ≡ clear_to v.prefix v.address) where
        pub lent_clear : c ≡ false → 12 ≡ value_number v
        lent_clear d = sym (value_clear v low (lent b e ∙ f) (filling ∙ h) (sym k ∙ d))

        pub lent_done : c ≡ true → 0 ≡ value_number v
        lent_done d = sym (value_done v (record { low = low; fits = lent b e ∙ f; filled = filling ∙ h; clear = sym k ∙ d }))

-- a value's data as the code makes it, where `after` and the name are as it has them
module _ (v : Value) (before after : ℕ) (name : List ℕ) (long : length v.address ≡ 16) (b : before ≤ 16) (low : v.prefix ≤ 128) (a : after ≡ max before (v.prefix / 8)) (n : name ≡ take v.name.length v.name.octets) where
  data_is : laid v.prefix v.address before after name ≡ laid_of v before
  unfolding octets_of
  data_is = λ i. laid v.prefix v.address before (a i) (n i)

  pub data_size : before + 1 + (16 - after) + length name ≡ length (laid_of v before)
  data_size = sym (laid_length v.prefix v.address before after name long b (omega (arith, a))) ∙ ap length data_is

  module _ (out : List ℕ) (z : out ≡ blank (length out)) where
    -- without room
    pub data_short : length out < before + 1 + (16 - after) + length name
        → (refusal 7 ≡ answer_by (room_number (laid_of v before) (length out)) (length (laid_of v before)) 0) × (out ≡ out_by (room_number (laid_of v before) (length out)) (laid_of v before) (length out))
    data_short h =
        let e = room_short (laid_of v before) (length out) (omega (arith, data_size)) in
        (refused_answer 7 _ (sym e) (not_nought 6) (length (laid_of v before)) 0, z ∙ refused_out 7 _ (sym e) (not_nought 6) (laid_of v before) (length out))

    -- and with room
    module _ (h : before + 1 + (16 - after) + length name ≤ length out) where
      enough : room_number (laid_of v before) (length out) ≡ 0
      enough = room_enough (laid_of v before) (length out) (omega (arith, data_size))

      pub data_answer : answering (before + 1 + (16 - after) + length name) 0 ≡ answer_by (room_number (laid_of v before) (length out)) (length (laid_of v before)) 0
      data_answer = ap (λ (k : ℕ). answering k 0) data_size ∙ done_answer _ enough (length (laid_of v before)) 0

      pub data_out : (first second third : List ℕ) (back size : ℕ) → first ≡ take before v.address → second ≡ drop after v.address → third ≡ name
          → back ≡ 16 - after → size ≡ length name
          → put_mid (before + 1 + (16 - after)) size (put_mid (before + 1) back (set (first ++ drop before out) before v.prefix) second) third ≡ out_by (room_number (laid_of v before) (length out)) (laid_of v before) (length out)
      data_out first second third back size p q r s t =
          (λ i. put_mid (before + 1 + (16 - after)) size (put_mid (before + 1) back (set (p i ++ drop before out) before v.prefix) (q i)) (r i))
          ∙ laid_over v.prefix v.address before after name long b (omega (arith, a)) out back size (omega arith) s t ∙ ap (over out) data_is
          ∙ over_blank out (laid_of v before) (length out) z ∙ done_out _ enough (laid_of v before) (length out)

-- what `lay` answers and writes, where the data that it lays is the data of some layout
module _ (v : Value) (before : ℕ) (octets : List ℕ) (d : laid_of v before ≡ octets) (room : ℕ) where
  pub laid_number_lem : laid_number v before room ≡ or_else (value_number v) (room_number octets room)
  laid_number_lem = ap (λ (xs : List ℕ). or_else (value_number v) (room_number xs room)) d

  pub laid_answer : answer_by (laid_number v before room) (length (laid_of v before)) 0 ≡ answer_by (or_else (value_number v) (room_number octets room)) (length octets) 0
  laid_answer = ap (λ (xs : List ℕ). answer_by (or_else (value_number v) (room_number xs room)) (length xs) 0) d

  pub laid_out : out_by (laid_number v before room) (laid_of v before) room ≡ out_by (or_else (value_number v) (room_number octets room)) octets room
  laid_out = ap (λ (xs : List ℕ). out_by (or_else (value_number v) (room_number xs room)) xs room) d

-- what is answered and written for a value is answered and written for the same value in another form
module _ (u v : Value) (before room : ℕ) (e : u ≡ v) where
  pub same_answer : answer_by (laid_number u before room) (length (laid_of u before)) 0 ≡ answer_by (laid_number v before room) (length (laid_of v before)) 0
  same_answer = λ i. answer_by (laid_number (e i) before room) (length (laid_of (e i) before)) 0

  pub same_out : out_by (laid_number u before room) (laid_of u before) room ≡ out_by (laid_number v before room) (laid_of v before) room
  same_out = λ i. out_by (laid_number (e i) before room) (laid_of (e i) before) room
