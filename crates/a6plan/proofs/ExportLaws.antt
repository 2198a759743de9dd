-- Laws of what an answer becomes at the C interface.
use Prim.Native.Nat.{ℕ, ◌+◌, ◌-◌, ◌≤◌}
use mathlib.Core.Path.{◌≡◌, refl, ap, ◌∙◌, sym}
use mathlib.Core.Bool.{Bool, true, false, not, ◌||◌}
use mathlib.Core.List.{List, [], ◌∷◌, ◌++◌, append-nil, append_assoc}
use lib.Dec.{eqb}
use lib.ListN.{length, take, drop, set, length-append, length-take, length-drop, drop_of_length-le}
use lib.Seq.{length-take-le, take_all, take_at, drop_at, drop-append-add, get_or_at, set_at}
use native.Mathlib.Omega.{arith}
use borrow.Author.Tests.{not-false, eq-eqb, ne_eqb, eqb-true, eqb-false}
use denote.Enum.Bare.{sameb, same_true, same_false}
use Rattle.std.specs.Prelude.{Result, Ok, Err, MatchResult, map}
use Rattle.std.specs.List.{list_any}
use Rattle.octets.specs.Octets.{blank, among}
use Rattle.octets.specs.Refusals.{code_of, told, number_of}
use Rattle.octets.specs.contracts.Refusal.{the_type}
use Rattle.octets.specs.declared.Refusal.{Refusal}
use Rattle.octets.proofs.RefusalLaws.{told_code, code_some}
use Rattle.octets.specs.declared.Answer.{Answer}
use Rattle.octets.specs.Answers.{or_else, answer_by, out_by}
use Rattle.octets.proofs.AnswerLaws.{earns_zero, not_nought, refused_out, by_number}
use Rattle.octets.proofs.OctetLaws.{length_blank}
use Rattle.octets.proofs.BoolLaws.{clash}
use Rattle.plan.specs.Faults.{replying}
use Rattle.plan.specs.declared.Reply.{Reply}
use Rattle.a6.specs.Data.{Shaped}
use Rattle.a6.specs.declared.Value.{Value}
use Rattle.a6.specs.Accepted.{value_number, room_number}
use Rattle.a6.specs.Parts.{value_at, Tells, laid_of, laid_number}
use Rattle.a6.specs.declared.parts.Found.{Found}
use Rattle.a6.proofs.AcceptedLaws.{laid_number_lem, laid_answer}
use Rattle.a6plan.specs.Exports.{Figured, of_name, of_part, of_line, of_table, exported_number, exported_figures, placed_figures, reply_figures, value_size, value_octets, value_in, misfit, exported_read_number, exported_write_number}
use Rattle.a6plan.specs.Keeping.{kept_for}

-- whether a refusal stands in a list, by the numbers
same_code : (x e : Refusal) → sameb the_type x e ≡ eqb (code_of x) (code_of e)
same_code x e = go (sameb the_type x e) refl
  where
    go : (b : Bool) → sameb the_type x e ≡ b → b ≡ eqb (code_of x) (code_of e)
    go true h = sym (eq-eqb (code_of x) (code_of e) (ap code_of (same_true the_type tt x e h)))
    go false h = sym (ne_eqb (code_of x) (code_of e) (λ k. same_false the_type x e h (sym (told_code x) ∙ ap told k ∙ told_code e)))

pub among_code : (e : Refusal) (es : List Refusal) → list_any (λ x. sameb the_type x e) es ≡ among (code_of e) (map code_of es)
unfolding among
among_code e [] = refl
among_code e (x ∷ es) = λ i. same_code x e i || among_code e es i

-- and 0 is the number of none
pub among_nought : (es : List Refusal) → among 0 (map code_of es) ≡ false
unfolding among
among_nought [] = refl
among_nought (e ∷ es) = rw (ne_eqb (code_of e) 0 (code_some e)) (among_nought es)

-- the number at the interface, of an operation whose figures slice has n places
module _ (w : Figured) (n k : ℕ) where
  pub exported_fit : n ≡ w.wanted → exported_number w n k ≡ k
  unfolding exported_number
  exported_fit h = rw (eq-eqb n w.wanted h)

  module _ (h : n ≡ w.wanted → ⊥) where
    pub exported_early : among k w.earlier ≡ true → exported_number w n k ≡ k
    unfolding exported_number
    exported_early e = rw (ne_eqb n w.wanted h, e)

    pub exported_late : among k w.earlier ≡ false → exported_number w n k ≡ 5
    unfolding exported_number
    exported_late e = rw (ne_eqb n w.wanted h, e)

-- 0 is none of the numbers that come before 5
abbrev pub Refuses : Figured → Type 0
Refuses w = among 0 w.earlier ≡ false

pub refuses_name : Refuses of_name
unfolding among
refuses_name = refl

pub refuses_part : Refuses of_part
unfolding among
refuses_part = refl

pub refuses_line : Refuses of_line
unfolding among
refuses_line = refl

pub refuses_table : Refuses of_table
unfolding among
refuses_table = refl

module _ (w : Figured) (z : Refuses w) (n k : ℕ) where
  -- 0 comes out only where 0 went in and the figures are as many as are wanted
  pub exported_zero : exported_number w n k ≡ 0 → (n ≡ w.wanted) × (k ≡ 0)
  exported_zero e = go (eqb n w.wanted) refl
    where
      other : (t : Bool) → among k w.earlier ≡ t → (n ≡ w.wanted → ⊥) → ⊥
      other true f h = clash f (ap (λ (j : ℕ). among j w.earlier) (sym (exported_early w n k h f) ∙ e) ∙ z)
      other false f h = omega (arith, exported_late w n k h f)

      go : (t : Bool) → eqb n w.wanted ≡ t → (n ≡ w.wanted) × (k ≡ 0)
      go true f = let h = eqb-true n w.wanted f in (h, sym (exported_fit w n k h) ∙ e)
      go false f = absurd (other (among k w.earlier) refl (eqb-false n w.wanted f))

  -- an operation's output, kept where the figures are as many as are wanted: by the exported number it is the result, or zeros
  pub kept_out : (size : ℕ) (result out end : List ℕ) → out ≡ out_by k result size → length out ≡ size → end ≡ kept_for w.wanted n out → end ≡ out_by (exported_number w n k) result size
  kept_out size result out end o l e = e ∙ go (eqb n w.wanted) refl
    where
      go : (t : Bool) → eqb n w.wanted ≡ t → kept_for w.wanted n out ≡ out_by (exported_number w n k) result size
      go true f = rw (f, exported_fit w n k (eqb-true n w.wanted f)) o
      go false f = rw (f, l) (refused_out (exported_number w n k) _ refl (λ h. eqb-false n w.wanted f (exported_zero h).0) result size)

-- what becomes of an operation's answer and of each of its outputs, by the exported number
module _ (w : Figured) (n k count work : ℕ) (answer : Answer) (r : ℕ) (a : answer ≡ answer_by k count work) (e : r ≡ exported_number w n answer.number) where
  pub exported_number_lem : r ≡ exported_number w n k
  exported_number_lem = e ∙ ap (exported_number w n) (ap (λ (v : Answer). v.number) a ∙ by_number k count work)

  pub exported_out : Refuses w → (size : ℕ) (result out end : List ℕ) → out ≡ out_by k result size → length out ≡ size → end ≡ kept_for w.wanted n out → end ≡ out_by r result size
  exported_out z size result out end o l h = kept_out w z n k size result out end o l h ∙ ap (λ (m : ℕ). out_by m result size) (sym exported_number_lem)

  pub exported_figures_lem : (figures : List ℕ) → figures ≡ exported_figures r answer n → figures ≡ exported_figures r (answer_by k count work) n
  exported_figures_lem figures h = h ∙ ap (λ (v : Answer). exported_figures r v n) a

-- what `report_answer` makes of an operation with one output: the number, the output and the figures
pub answered : (w : Figured) → Refuses w → (n k count work size : ℕ) (result out end figures : List ℕ) (answer : Answer) (r : ℕ) → (answer ≡ answer_by k count work) × (out ≡ out_by k result size) → length out ≡ size
    → (r ≡ exported_number w n answer.number) × ((end ≡ kept_for w.wanted n out) × (figures ≡ exported_figures r answer n))
    → (r ≡ exported_number w n k) × ((end ≡ out_by r result size) × (figures ≡ exported_figures r (answer_by k count work) n))
answered w z n k count work size result out end figures answer r o l h = (
  exported_number_lem w n k count work answer r o.0 h.0,
  (exported_out w n k count work answer r o.0 h.0 z size result out end o.1 l h.1.0, exported_figures_lem w n k count work answer r o.0 h.0 figures h.1.1),
)

-- what `report` makes of an operation on a table with one output: the number, the output and the figures
pub reported : (t : List ℕ) (n k count work size : ℕ) (result out end figures : List ℕ) (reply : Reply) (r : ℕ) → (reply ≡ replying t (answer_by k count work)) × (out ≡ out_by k result size) → length out ≡ size
    → (r ≡ exported_number of_table n reply.answer.number) × ((end ≡ kept_for 4 n out) × (figures ≡ placed_figures (reply_figures reply) n))
    → (r ≡ exported_number of_table n k) × ((end ≡ out_by r result size) × (figures ≡ placed_figures (reply_figures (replying t (answer_by k count work))) n))
reported t n k count work size result out end figures reply r o l h =
    let a = ap (λ (v : Reply). v.answer) o.0 in (
      exported_number_lem of_table n k count work reply.answer r a h.0,
      (exported_out of_table n k count work reply.answer r a h.0 refuses_table size result out end o.1 l h.1.0, h.1.1 ∙ ap (λ (v : Reply). placed_figures (reply_figures v) n) o.0),
    )

-- figures put where there are as many places, one after the other; else zeros
module _ (fs : List ℕ) (n : ℕ) where
  pub placed_all : n ≡ length fs → fs ≡ placed_figures fs n
  unfolding placed_figures
  placed_all h = rw (placed_figures, eq-eqb n (length fs) h)

  pub placed_none : (n ≡ length fs → ⊥) → blank n ≡ placed_figures fs n
  unfolding placed_figures
  placed_none h = rw (placed_figures, ne_eqb n (length fs) h)

-- a result that fills its output
pub full_out : (result : List ℕ) (room : ℕ) → length result ≡ room → result ≡ out_by 0 result room
unfolding out_by blank
full_out result room e =
    let z : room - length result ≡ 0 = omega arith in
    rw z (sym (append-nil result))

-- the two figures by the exported number: those of an operation that is done stand where there are two places; else there are zeros
module _ (earlier : List Refusal) (n : ℕ) where
  abbrev two : Figured
  two = record { wanted = 2; earlier = map code_of earlier }

  pub figured_done : (count work r : ℕ) {figures : List ℕ} → r ≡ exported_number two n 0 → figures ≡ placed_figures (count ∷ work ∷ []) n → figures ≡ out_by r (count ∷ work ∷ []) n
  figured_done count work r e p = p ∙ go (eqb n 2) refl
    where
      go : (b : Bool) → eqb n 2 ≡ b → placed_figures (count ∷ work ∷ []) n ≡ out_by r (count ∷ work ∷ []) n
      go true f = let h = eqb-true n 2 f in rw (e ∙ exported_fit two n 0 h) (sym (placed_all (count ∷ work ∷ []) n h) ∙ full_out (count ∷ work ∷ []) n (sym h))
      go false f = let h = eqb-false n 2 f in sym (placed_none (count ∷ work ∷ []) n h) ∙ refused_out r r refl (λ z. h (exported_zero two (among_nought earlier) n 0 (sym e ∙ z)).0) _ n

  pub figured_refused : (e : Refusal) (r : ℕ) {figures : List ℕ} → r ≡ exported_number two n (code_of e) → figures ≡ blank n → figures ≡ out_by r (0 ∷ 0 ∷ []) n
  figured_refused x r e p = p ∙ refused_out r r refl (λ z. code_some x (exported_zero two (among_nought earlier) n (code_of x) (sym e ∙ z)).1) _ n

-- sixteen octets put into a value, and those of the name after them
abbrev pub addressed : List ℕ → List ℕ → List ℕ
addressed v address = take 1 v ++ (address ++ drop 16 (drop 1 v))

abbrev pub named : List ℕ → List ℕ → List ℕ
named w octets = take 18 w ++ (octets ++ drop (length w - 18) (drop 18 w))

-- the parts of a value, put into zeros
pub address_blank : (v : List ℕ) → v ≡ blank value_size → take 16 (drop 1 v) ≡ blank 16
unfolding blank
address_blank v h = rw h

module _ (v address : List ℕ) (h : v ≡ blank value_size) (a : length address ≡ 16) where
  front_long : length ((0 ∷ address) ++ (0 ∷ [])) ≡ 18
  front_long = length-append (0 ∷ address) (0 ∷ []) ∙ omega arith

  with_address_lem : addressed v address ≡ ((0 ∷ address) ++ (0 ∷ [])) ++ blank 255
  unfolding blank
  with_address_lem = rw h (ap (λ (ys : List ℕ). 0 ∷ ys) (sym (append_assoc address (0 ∷ []) (blank 255))))

  pub address_long : length (addressed v address) ≡ value_size
  address_long = rw with_address_lem (length-append ((0 ∷ address) ++ (0 ∷ [])) (blank 255) ∙ omega (arith, front_long, length_blank 255))

  rest_blank : drop 18 (addressed v address) ≡ blank 255
  rest_blank = rw with_address_lem (drop_at ((0 ∷ address) ++ (0 ∷ [])) (blank 255) 18 front_long)

  pub name_blank : take (length (addressed v address) - 18) (drop 18 (addressed v address)) ≡ blank 255
  name_blank = rw (address_long, rest_blank) (take_all 255 (blank 255) (omega (arith, length_blank 255)))

  with_name : (octets : List ℕ) → named (addressed v address) octets ≡ 0 ∷ (address ++ (0 ∷ octets))
  with_name octets =
      let t : take 18 (addressed v address) ≡ (0 ∷ address) ++ (0 ∷ []) = rw with_address_lem (take_at ((0 ∷ address) ++ (0 ∷ [])) (blank 255) 18 front_long) in
      let d : drop (length (addressed v address) - 18) (drop 18 (addressed v address)) ≡ [] = rw (address_long, rest_blank) (drop_of_length-le (blank 255) {i = 255} (omega (arith, length_blank 255))) in
      rw (t, d, append-nil octets) (append_assoc (0 ∷ address) (0 ∷ []) octets)

  pub value_long : (octets : List ℕ) → length octets ≡ 255 → length (named (addressed v address) octets) ≡ value_size
  value_long octets m = let n = length-append address (0 ∷ octets) in rw (with_name octets) (omega (arith, n))

  pub value_put : (octets : List ℕ) (p l : ℕ) → set (set (named (addressed v address) octets) 0 p) 17 l ≡ p ∷ (address ++ (l ∷ octets))
  value_put octets p l = rw (with_name octets) (set_at (p ∷ address) 0 octets l 17 (omega arith))

-- ---- reading, in each layout: 5 before everything else
pub read_misfit : (m k : ℕ) (result : List ℕ) {end : List ℕ} → (m ≡ value_size → ⊥) → end ≡ blank m → (5 ≡ exported_read_number m k) × (end ≡ out_by 5 result m)
unfolding exported_read_number
read_misfit m k result h e = (rw (ne_eqb m value_size h), e ∙ refused_out 5 5 refl (not_nought 4) result m)

pub read_right : (m k : ℕ) → m ≡ value_size → exported_read_number m k ≡ k
unfolding exported_read_number
read_right m k h = rw (eq-eqb m value_size h)

pub read_fit : (m k r : ℕ) (result : List ℕ) {end : List ℕ} → m ≡ value_size → (r ≡ k) × (end ≡ out_by r result value_size) → (r ≡ exported_read_number m k) × (end ≡ out_by r result m)
read_fit m k r result h p = (p.0 ∙ sym (read_right m k h), p.1 ∙ ap (out_by r result) (sym h))

-- 0 comes out only where 0 went in and the length is right
pub read_zero : (m k : ℕ) → exported_read_number m k ≡ 0 → (m ≡ value_size) × (k ≡ 0)
unfolding exported_read_number
read_zero m k e = let t = earns_zero (not (eqb m value_size)) 4 k e in (eqb-true m value_size (not-false (eqb m value_size) t.0), t.1)

-- a value slice that is zeros holds what a refusal gives
pub read_none : (f : Result Found Refusal) (r m : ℕ) {end : List ℕ} → (r ≡ 0 → ⊥) → end ≡ blank m → MatchResult f (λ x. end ≡ out_by r (value_octets (value_at x)) m) (λ x. end ≡ blank m)
read_none (Ok x) r m h e = e ∙ refused_out r r refl h (value_octets (value_at x)) m
read_none (Err x) r m h e = e

-- what the tests of a layout say of data, and what has become of the slice by it
pub read_told : (m : ℕ) (f : Result Found Refusal) (number : ℕ) (v : Value) (r : ℕ) {end : List ℕ} → Tells f number v
    → (r ≡ exported_read_number m (number_of f)) × MatchResult f (λ x. end ≡ out_by r (value_octets (value_at x)) m) (λ x. end ≡ blank m)
    → (r ≡ exported_read_number m number) × (end ≡ out_by r (value_octets v) m)
read_told m (Ok f) number v r t p = (p.0 ∙ ap (exported_read_number m) t.0, p.1 ∙ ap (λ (w : Value). out_by r (value_octets w) m) t.1)
read_told m (Err e) number v r t p =
    let k = p.0 ∙ ap (exported_read_number m) t.0 in
    (k, p.1 ∙ refused_out r r refl (λ z. code_some e (t.0 ∙ (read_zero m number (sym k ∙ z)).1)) (value_octets v) m)

-- ---- writing, in each layout: 5 before everything else
module _ (m n : ℕ) where
  pub misfit_value : (m ≡ value_size → ⊥) → misfit m n ≡ true
  misfit_value h = rw (ne_eqb m value_size h)

  pub misfit_figures : m ≡ value_size → (n ≡ 2 → ⊥) → misfit m n ≡ true
  misfit_figures h l = rw (eq-eqb m value_size h, ne_eqb n 2 l)

  pub fitting : m ≡ value_size → n ≡ 2 → misfit m n ≡ false
  fitting h l = rw (eq-eqb m value_size h, eq-eqb n 2 l)

  pub fits : misfit m n ≡ false → (m ≡ value_size) × (n ≡ 2)
  fits h = go (eqb m value_size) refl (eqb n 2) refl
    where
      go : (a : Bool) → eqb m value_size ≡ a → (b : Bool) → eqb n 2 ≡ b → (m ≡ value_size) × (n ≡ 2)
      go true e true f = (eqb-true m value_size e, eqb-true n 2 f)
      go true e false f = absurd (clash (misfit_figures (eqb-true m value_size e) (eqb-false n 2 f)) h)
      go false e b f = absurd (clash (misfit_value (eqb-false m value_size e)) h)

  pub write_right : (k : ℕ) → m ≡ value_size → n ≡ 2 → exported_write_number m n k ≡ k
  unfolding exported_write_number
  write_right k h l = rw (fitting h l)

  -- 0 comes out only where 0 went in and the lengths are right
  pub write_zero : (k : ℕ) → exported_write_number m n k ≡ 0 → ((m ≡ value_size) × (n ≡ 2)) × (k ≡ 0)
  unfolding exported_write_number
  write_zero k e = let t = earns_zero (misfit m n) 4 k e in (fits t.0, t.1)

  -- what a writing with result `xs`, and an output of `size` octets, comes to by its number k
  module _ (k : ℕ) (xs : List ℕ) (size : ℕ) {out figures : List ℕ} where
    pub unwritten : misfit m n ≡ true → out ≡ blank size → figures ≡ blank n
        → (5 ≡ exported_write_number m n k) × ((out ≡ out_by 5 xs size) × (figures ≡ exported_figures 5 (answer_by k (length xs) 0) n))
    unfolding exported_write_number
    unwritten h o f = (rw h, (o ∙ refused_out 5 5 refl (not_nought 4) _ size, f ∙ refused_out 5 5 refl (not_nought 4) _ n))

    pub written : misfit m n ≡ false → {answer : Answer} {r : ℕ} → (answer ≡ answer_by k (length xs) 0) × (out ≡ out_by k xs size)
        → (r ≡ exported_number of_part n answer.number) × (figures ≡ exported_figures r answer n)
        → (r ≡ exported_write_number m n k) × ((out ≡ out_by r xs size) × (figures ≡ exported_figures r (answer_by k (length xs) 0) n))
    unfolding exported_write_number
    written h {answer} {r} o f =
        let e : r ≡ k = exported_number_lem of_part n k (length xs) 0 answer r o.0 f.0 ∙ exported_fit of_part n k (fits h).1 in
        (e ∙ rw h, (o.1 ∙ ap (λ (j : ℕ). out_by j xs size) (sym e), exported_figures_lem of_part n k (length xs) 0 answer r o.0 f.0 figures f.1))

-- the parts of a value in so many octets
module _ (xs : List ℕ) where
  pub value_parts : length xs ≡ value_size → (length (take 16 (drop 1 xs)) ≡ 16) × (length (take 255 (drop 18 xs)) ≡ 255)
  value_parts e = (length-take-le 16 (drop 1 xs) (omega (arith, length-drop 1 xs)), length-take-le 255 (drop 18 xs) (omega (arith, length-drop 18 xs)))

  pub address_short : length (value_in xs).address ≤ 16
  unfolding value_in
  address_short = omega (arith, length-take 16 (drop 1 xs))

-- a writing whose data is the data of some layout
pub written_as : (m n : ℕ) (v : Value) (before : ℕ) (octets : List ℕ) (size : ℕ) {r : ℕ} {out figures : List ℕ} → laid_of v before ≡ octets
    → (r ≡ exported_write_number m n (laid_number v before size)) × ((out ≡ out_by r (laid_of v before) size) × (figures ≡ exported_figures r (answer_by (laid_number v before size) (length (laid_of v before)) 0) n))
    → (r ≡ exported_write_number m n (or_else (value_number v) (room_number octets size)))
    × ((out ≡ out_by r octets size) × (figures ≡ exported_figures r (answer_by (or_else (value_number v) (room_number octets size)) (length octets) 0) n))
written_as m n v before octets size {r} d p = (
  p.0 ∙ ap (exported_write_number m n) (laid_number_lem v before octets d size),
  (p.1.0 ∙ ap (λ (xs : List ℕ). out_by r xs size) d, p.1.1 ∙ ap (λ (a : Answer). exported_figures r a n) (laid_answer v before octets d size)),
)

-- Theorem: a value that is put into 273 octets is taken out of them again
module _ (v : Value) (s : Shaped v) where
  pub value_held : value_in (value_octets v) ≡ v
  unfolding value_in value_octets
  value_held =
      let ys = v.name.length ∷ v.name.octets in
      let d : drop 17 (v.address ++ ys) ≡ v.name.octets = ap (λ (k : ℕ). drop (k + 1) (v.address ++ ys)) (sym s.address_long) ∙ drop-append-add v.address ys 1 in
      let a = take_at v.address ys 16 s.address_long in
      let n = get_or_at v.address v.name.length v.name.octets 0 16 s.address_long in
      let o = ap (take 255) d ∙ take_all 255 v.name.octets (omega (arith, s.octets_long)) in
      λ i. record { prefix = v.prefix; address = a i; name = record { octets = o i; length = n i } }

  pub value_size_lem : length (value_octets v) ≡ value_size
  unfolding value_octets
  value_size_lem = omega (arith, length-append v.address (v.name.length ∷ v.name.octets), s.address_long, s.octets_long)
