-- The rules of RFC 5952 leave nothing open: a text that keeps them is the one that is written.
use Prim.Native.Nat.{ℕ, zero, suc, ◌+◌, ◌≤◌, ◌<◌}
use mathlib.Core.Path.{◌≡◌, refl, ap, sym, ◌∙◌}
use mathlib.Core.Bool.{Bool, true, false}
use mathlib.Core.List.{List, [], ◌∷◌, ◌++◌, map, map-append}
use lib.Dec.{ltb}
use lib.ListN.{length, take, drop, length-map}
use lib.Seq.{take_at, drop_at, take-append_seam, drop-append_seam, drop-drop}
use native.Mathlib.Omega.{arith}
use borrow.Author.Tests.{ltb-true, ltb-false}
use Rattle.octets.specs.Octets.{blank}
use Rattle.octets.specs.Each.{Under}
use Rattle.octets.proofs.OctetLaws.{under_cons, length_blank, nil_of_length}
use Rattle.text.specs.Digits.{digit_octet, digit_in, number_text}
use Rattle.text.specs.Groups.{groups_of, zeros_at, longest, place_of, before_run, after_run}
use Rattle.text.specs.AddressText.{groups_text, write_address}
use Rattle.text.specs.Rfc5952.{Every, IsGroup, group_of, parted, shortened, ZerosAt, Rfc5952}
use Rattle.text.proofs.DigitLaws.{digits_number, octet_figure, octet_letter}
use Rattle.text.proofs.GroupLaws.{zeros_split, place_run, longest_most, place_first}
use Rattle.text.proofs.ReadLaws.{digit_by}
use Rattle.text.proofs.RoundTrip.{text_full, text_short}
use Rattle.text.proofs.Rfc5952Laws.{every_append, parted_text, zeros_counted}

every_left : {A : Type 0} (P : A → Type 0) (xs ys : List A) → Every P (xs ++ ys) → Every P xs
every_left P [] ys h = record {}
every_left P (x ∷ xs) ys h = (h.0, every_left P xs ys h.1)

every_right : {A : Type 0} (P : A → Type 0) (xs ys : List A) → Every P (xs ++ ys) → Every P ys
every_right P [] ys h = h
every_right P (x ∷ xs) ys h = every_right P xs ys h.1

-- no capital letter
abbrev Lower : ℕ → Type 0
Lower c = 65 ≤ c → c ≤ 90 → ⊥

-- an octet that writes a digit, and is no capital, is the octet of that digit
octet_again : (c : ℕ) → digit_in c < 16 → Lower c → digit_octet (digit_in c) ≡ c
octet_again c h n =
    digit_by (digit_octet (digit_in c) ≡ c) c
    (λ l m d. let e : 48 + digit_in c ≡ c = omega arith in octet_figure (digit_in c) (omega arith) ∙ e)
    (λ l m d. let e : 87 + digit_in c ≡ c = omega arith in octet_letter (digit_in c) (omega arith) ∙ e)
    (λ l m d. absurd (n l (omega arith)))
    (λ d. let z : ⊥ = omega arith in absurd z)

octets_again : (f : List ℕ) → Every (λ c. digit_in c < 16) f → Every Lower f → map digit_octet (map digit_in f) ≡ f
octets_again [] h n = refl
octets_again (c ∷ cs) h n = λ i. octet_again c h.0 n.0 i ∷ octets_again cs h.1 n.1 i

digits_below : (f : List ℕ) → Every (λ c. digit_in c < 16) f → Under 16 (map digit_in f)
digits_below [] h = λ i. omega arith
digits_below (c ∷ cs) h = under_cons 16 (digit_in c) (map digit_in cs) h.0 (digits_below cs h.1)

-- a written group is the text of its number
group_text : (f : List ℕ) → IsGroup f → Every Lower f → number_text 16 (group_of f) ≡ f
unfolding number_text group_of
group_text [] g n = let s = g.some in let z : ⊥ = omega arith in absurd z
group_text (c ∷ cs) g n =
    ap (map digit_octet) (digits_number 16 (digit_in c) (map digit_in cs) (omega arith) (digits_below (c ∷ cs) g.digit) alone) ∙ octets_again (c ∷ cs) g.digit n
  where
    alone : digit_in c ≡ 0 → map digit_in cs ≡ []
    alone e =
        let o : c ≡ 48 = sym (octet_again c g.digit.0 n.0) ∙ ap digit_octet e ∙ octet_figure 0 (omega arith) in
        let l = g.lead o in
        ap (map digit_in) (nil_of_length cs (omega arith))

groups_text_lem : (fs : List (List ℕ)) → Every IsGroup fs → Every Lower (parted fs) → map (number_text 16) (map group_of fs) ≡ fs
unfolding parted
groups_text_lem [] g n = refl
groups_text_lem (f ∷ []) g n = λ i. group_text f g.0 n i ∷ []
groups_text_lem (f ∷ e ∷ fs) g n =
    λ i. group_text f g.0 (every_left Lower f (58 ∷ parted (e ∷ fs)) n) i ∷ groups_text_lem (e ∷ fs) g.1 (every_right Lower f (58 ∷ parted (e ∷ fs)) n).1 i

parted_again : (fs : List (List ℕ)) → Every IsGroup fs → Every Lower (parted fs) → parted fs ≡ groups_text (map group_of fs)
parted_again fs g n = sym (parted_text (map group_of fs) ∙ ap parted (groups_text_lem fs g n))

-- the longest run is one
longest_run : (gs : List ℕ) → ZerosAt gs (place_of (longest gs) gs) (longest gs)
longest_run gs =
    let p = place_of (longest gs) gs in
    let e = zeros_split (drop p gs) ∙ ap (λ (n : ℕ). blank n ++ drop n (drop p gs)) (place_run gs) in
    ap (take (longest gs)) e ∙ take_at (blank (longest gs)) (drop (longest gs) (drop p gs)) (longest gs) (length_blank (longest gs))

module _ (a text : List ℕ) (r : Rfc5952 a text) where
  -- no two colons: there is no run of two
  plain : r.count ≡ 0 → text ≡ write_address a
  unfolding write_address shortened blank
  plain e =
      let f : text ≡ parted (r.before ++ r.after) = rw e at r.form in
      let g : map group_of r.before ++ map group_of r.after ≡ groups_of a = rw e at r.groups in
      let n : Every Lower (parted (r.before ++ r.after)) = rw f at r.lower in
      f ∙ parted_again (r.before ++ r.after) (every_append IsGroup r.before r.after r.leading.0 r.leading.1) n
      ∙ ap groups_text (map-append group_of r.before r.after ∙ g) ∙ sym (text_full (groups_of a) few)
    where
      few : longest (groups_of a) < 2
      few = go (ltb (longest (groups_of a)) 2) refl
        where
          go : (t : Bool) → ltb (longest (groups_of a)) 2 ≡ t → longest (groups_of a) < 2
          go true d = ltb-true (longest (groups_of a)) 2 d
          go false d =
              let l = ltb-false (longest (groups_of a)) 2 d in
              let m = r.longest (place_of (longest (groups_of a)) (groups_of a)) (longest (groups_of a)) l (longest_run (groups_of a)) in
              let z : ⊥ = omega arith in absurd z

  -- two colons: they stand for the leftmost of the longest runs
  there : drop (length r.before) (groups_of a) ≡ blank r.count ++ map group_of r.after
  there =
      let l = length-map r.before group_of in
      ap (drop (length r.before)) (sym r.groups) ∙ ap (λ (n : ℕ). drop n (map group_of r.before ++ (blank r.count ++ map group_of r.after))) (sym l)
      ∙ drop-append_seam (map group_of r.before) (blank r.count ++ map group_of r.after)

  stands : r.count ≤ zeros_at (drop (length r.before) (groups_of a))
  stands =
      zeros_counted r.count (drop (length r.before) (groups_of a))
      (ap (take r.count) there ∙ take_at (blank r.count) (map group_of r.after) r.count (length_blank r.count))

  counted : 2 ≤ r.count → r.count ≡ longest (groups_of a)
  counted h =
      let m = longest_most (groups_of a) (length r.before) in
      let s = stands in
      let l = r.longest (place_of (longest (groups_of a)) (groups_of a)) (longest (groups_of a)) (omega arith) (longest_run (groups_of a)) in
      omega arith

  placed : 2 ≤ r.count → length r.before ≡ place_of (longest (groups_of a)) (groups_of a)
  placed h = go (ltb (length r.before) (place_of (longest (groups_of a)) (groups_of a))) refl
    where
      go : (t : Bool) → ltb (length r.before) (place_of (longest (groups_of a)) (groups_of a)) ≡ t → length r.before ≡ place_of (longest (groups_of a)) (groups_of a)
      go true e =
          let f = place_first (groups_of a) (length r.before) (ltb-true (length r.before) (place_of (longest (groups_of a)) (groups_of a)) e) in
          let s = stands in
          let c = counted h in
          let z : ⊥ = omega arith in absurd z
      go false e =
          let f = ltb-false (length r.before) (place_of (longest (groups_of a)) (groups_of a)) e in
          let c = counted h in
          let l = r.leftmost (place_of (longest (groups_of a)) (groups_of a)) (longest (groups_of a)) (omega arith) (longest_run (groups_of a)) (sym c) in
          omega arith

  left : 2 ≤ r.count → map group_of r.before ≡ before_run (groups_of a)
  unfolding before_run
  left h =
      sym (take-append_seam (map group_of r.before) (blank r.count ++ map group_of r.after))
      ∙ (λ i. take ((length-map r.before group_of ∙ placed h) i) (r.groups i))

  right : 2 ≤ r.count → map group_of r.after ≡ after_run (groups_of a)
  unfolding after_run
  right h =
      sym (drop_at (blank r.count) (map group_of r.after) r.count (length_blank r.count))
      ∙ ap (drop r.count) (sym there) ∙ drop-drop r.count (length r.before) (groups_of a)
      ∙ (λ i. drop (placed h i + counted h i) (groups_of a))

  short : (k : ℕ) → r.count ≡ suc k → 2 ≤ suc k → text ≡ write_address a
  unfolding write_address shortened
  short k e h =
      let t : 2 ≤ r.count = omega arith in
      let f : text ≡ parted r.before ++ (58 ∷ 58 ∷ parted r.after) = rw e at r.form in
      let n : Every Lower (parted r.before ++ (58 ∷ 58 ∷ parted r.after)) = rw f at r.lower in
      let x = parted_again r.before r.leading.0 (every_left Lower (parted r.before) (58 ∷ 58 ∷ parted r.after) n) ∙ ap groups_text (left t) in
      let y = parted_again r.after r.leading.1 (every_right Lower (parted r.before) (58 ∷ 58 ∷ parted r.after) n).1.1 ∙ ap groups_text (right t) in
      f ∙ (λ i. x i ++ (58 ∷ 58 ∷ y i)) ∙ sym (text_short (groups_of a) (omega (arith, counted t)))

  -- so it is the text that is written
  pub only_5952 : text ≡ write_address a
  only_5952 = by r.count refl
    where
      by : (n : ℕ) → r.count ≡ n → text ≡ write_address a
      by zero e = plain e
      by (suc zero) e = absurd (r.several e)
      by (suc (suc k)) e = short (suc k) e (omega arith)
