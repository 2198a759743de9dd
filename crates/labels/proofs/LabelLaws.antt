-- Laws of one label: which test decides, and what holds where none does.
use Prim.Native.Nat.{ℕ, zero, suc, ◌+◌, ◌-◌, ◌*◌, ◌%◌, ◌^◌, ◌≤◌, ◌<◌}
use mathlib.Core.Path.{◌≡◌, refl, ap, ◌∙◌, sym}
use mathlib.Core.Bool.{true, false, not, ◌&&◌}
use mathlib.Core.List.{List}
use lib.Dec.{ltb, eqb}
use lib.ListN.{length, get_or, drop, length-drop}
use lib.Seq.{get_or-drop}
use native.Mathlib.Omega.{arith}
use native.Mathlib.Nat.{add-zero}
use borrow.Author.Tests.{lt-ltb, le-ltb, eq-eqb, ne_eqb, eqb-false, ltb-false, not-false}
use Rattle.bits.specs.Bits.{octets_for}
use Rattle.labels.specs.Labels.{first_of, is_label, count_for, count_of, size_of, unused_clear, run_of, fault_of}
use Rattle.octets.proofs.AnswerLaws.{earns_zero}
use Rattle.octets.proofs.BoolLaws.{and_false}
use Rattle.labels.specs.Reads.{Sound}
use Rattle.labels.specs.declared.Step.{Step}
use Rattle.labels.specs.Steps.{step_at, step_for, step_of}
use Rattle.std.specs.Prelude.{Ok, Err}
use Rattle.octets.specs.Refusals.{told}
use Rattle.octets.specs.declared.Refusal.{Refusal}
use Rattle.octets.specs.declared.Refusal.TheVariants.{Short, Malformed}

pub is_ordinary : (x : ℕ) → x < 64 → is_label x ≡ true
is_ordinary x h = rw (lt-ltb x 64 h)

pub is_bits : (x : ℕ) → x ≡ 65 → is_label x ≡ true
is_bits x h = rw h

pub is_other : (x : ℕ) → 64 ≤ x → (x ≡ 65 → ⊥) → is_label x ≡ false
is_other x h k = rw (le-ltb x 64 h, ne_eqb x 65 k)

-- the label's own figures
pub size_bits : (xs : List ℕ) → first_of xs ≡ 65 → size_of xs ≡ 2 + octets_for (count_of xs)
unfolding size_of
size_bits xs h = rw (eq-eqb (first_of xs) 65 h, size_of)

pub size_ordinary : (xs : List ℕ) → first_of xs < 64 → size_of xs ≡ 1 + first_of xs
unfolding size_of
size_ordinary xs h = rw (ne_eqb (first_of xs) 65 (λ e. omega arith), size_of)

pub run_bits_lem : (run : ℕ) (xs : List ℕ) → first_of xs ≡ 65 → run_of run xs ≡ run + count_of xs
unfolding run_of
run_bits_lem run xs h = rw (eq-eqb (first_of xs) 65 h, run_of)

pub run_ordinary : (run : ℕ) (xs : List ℕ) → first_of xs < 64 → run_of run xs ≡ 0
unfolding run_of
run_ordinary run xs h = rw (ne_eqb (first_of xs) 65 (λ e. omega arith), run_of)

pub plain_clear : (xs : List ℕ) → first_of xs < 64 → (eqb (first_of xs) 65 && not (unused_clear xs)) ≡ false
plain_clear xs h = rw (ne_eqb (first_of xs) 65 (λ e. omega arith))

pub bits_clear : (xs : List ℕ) → unused_clear xs ≡ true → (eqb (first_of xs) 65 && not (unused_clear xs)) ≡ false
bits_clear xs h = rw h (and_false (eqb (first_of xs) 65))

pub bits_unclear : (xs : List ℕ) → first_of xs ≡ 65 → unused_clear xs ≡ false → (eqb (first_of xs) 65 && not (unused_clear xs)) ≡ true
bits_unclear xs e h = rw (h, eq-eqb (first_of xs) 65 e)

pub count_least : (xs : List ℕ) → 0 < count_of xs
unfolding count_of count_for
count_least xs = go (get_or xs 1 0)
  where
    go : (c : ℕ) → 0 < count_for c
    go zero = omega arith
    go (suc c) = rw (ne_eqb (suc c) 0 (λ e. omega arith), count_for) (omega arith)

-- each number in turn
module _ (used run : ℕ) (xs : List ℕ) where
  pub fault_bad : 0 < length xs → is_label (first_of xs) ≡ false → fault_of used run xs ≡ 12
  unfolding fault_of
  fault_bad s k = rw (fault_of, ne_eqb (length xs) 0 (λ e. omega arith), k)

  pub fault_beyond : 0 < length xs → is_label (first_of xs) ≡ true → length xs < size_of xs → fault_of used run xs ≡ 11
  unfolding fault_of
  fault_beyond s k f = rw (fault_of, ne_eqb (length xs) 0 (λ e. omega arith), k, lt-ltb (length xs) (size_of xs) f)

  pub fault_over : 0 < length xs → is_label (first_of xs) ≡ true → size_of xs ≤ length xs → 255 < used + size_of xs → fault_of used run xs ≡ 12
  unfolding fault_of
  fault_over s k f o = rw (fault_of, ne_eqb (length xs) 0 (λ e. omega arith), k, le-ltb (length xs) (size_of xs) f, lt-ltb 255 (used + size_of xs) o)

  pub fault_unused : 0 < length xs → is_label (first_of xs) ≡ true → size_of xs ≤ length xs → used + size_of xs ≤ 255
      → (eqb (first_of xs) 65 && not (unused_clear xs)) ≡ true → fault_of used run xs ≡ 12
  unfolding fault_of
  fault_unused s k f o u = rw (fault_of, ne_eqb (length xs) 0 (λ e. omega arith), k, le-ltb (length xs) (size_of xs) f, le-ltb 255 (used + size_of xs) o, u)

  pub fault_run : 0 < length xs → is_label (first_of xs) ≡ true → size_of xs ≤ length xs → used + size_of xs ≤ 255
      → (eqb (first_of xs) 65 && not (unused_clear xs)) ≡ false → 256 < run_of run xs → fault_of used run xs ≡ 12
  unfolding fault_of
  fault_run s k f o u r =
      rw (fault_of, ne_eqb (length xs) 0 (λ e. omega arith), k, le-ltb (length xs) (size_of xs) f, le-ltb 255 (used + size_of xs) o, u, lt-ltb 256 (run_of run xs) r)

  pub fault_none : 0 < length xs → is_label (first_of xs) ≡ true → size_of xs ≤ length xs → used + size_of xs ≤ 255
      → (eqb (first_of xs) 65 && not (unused_clear xs)) ≡ false → run_of run xs ≤ 256 → fault_of used run xs ≡ 0
  unfolding fault_of
  fault_none s k f o u r =
      rw (fault_of, ne_eqb (length xs) 0 (λ e. omega arith), k, le-ltb (length xs) (size_of xs) f, le-ltb 255 (used + size_of xs) o, u, le-ltb 256 (run_of run xs) r)

  pub step_short : fault_of used run xs ≡ 11 → Err Short ≡ step_of used run xs
  unfolding step_of told
  step_short f = rw f

  pub step_malformed : fault_of used run xs ≡ 12 → Err Malformed ≡ step_of used run xs
  unfolding step_of told
  step_malformed f = rw f

  pub step_none : fault_of used run xs ≡ 0 → step_of used run xs ≡ step_at (used + size_of xs) (run_of run xs)
  unfolding step_of
  step_none e = rw e

  -- a step that is refused has the number of the fault, and one that is taken has none
  pub step_refused : (e : Refusal) → Err e ≡ step_of used run xs → (n : ℕ) × (fault_of used run xs ≡ suc n) × (told (suc n) ≡ e)
  unfolding step_of
  step_refused e h = go (fault_of used run xs) refl h
    where
      go : (n : ℕ) → fault_of used run xs ≡ n → Err e ≡ step_for n used run xs → (n : ℕ) × (fault_of used run xs ≡ suc n) × (told (suc n) ≡ e)
      go zero f h = cc
      go (suc n) f h = (n, f, cc)

  pub step_taken : (t : Step) → Ok t ≡ step_of used run xs → (fault_of used run xs ≡ 0) × (t.end ≡ used + size_of xs) × (t.run ≡ run_of run xs)
  unfolding step_of
  step_taken t h = go (fault_of used run xs) refl h
    where
      go : (n : ℕ) → fault_of used run xs ≡ n → Ok t ≡ step_for n used run xs → (fault_of used run xs ≡ 0) × (t.end ≡ used + size_of xs) × (t.run ≡ run_of run xs)
      go zero f h =
          let e : ◌≡◌ {A = Step} t (record { end = used + size_of xs; run = run_of run xs }) = cc in
          (f, ap (λ (u : Step). u.end) e, ap (λ (u : Step). u.run) e)
      go (suc n) f h = cc

pub fault_sound : (used run : ℕ) (xs : List ℕ) → fault_of used run xs ≡ 0 → Sound used run xs
unfolding fault_of
fault_sound used run xs e =
    let t1 = earns_zero (eqb (length xs) 0) 10 _ e in
    let t2 = earns_zero (not (is_label (first_of xs))) 11 _ t1.1 in
    let t3 = earns_zero (ltb (length xs) (size_of xs)) 10 _ t2.1 in
    let t4 = earns_zero (ltb 255 (used + size_of xs)) 11 _ t3.1 in
    let t5 = earns_zero (eqb (first_of xs) 65 && not (unused_clear xs)) 11 _ t4.1 in
    let t6 = earns_zero (ltb 256 (run_of run xs)) 11 _ t5.1 in
    let n : length xs ≡ 0 → ⊥ = eqb-false (length xs) 0 t1.0 in
    record {
      some = omega (arith, n);
      kind = not-false (is_label (first_of xs)) t2.0;
      fits = ltb-false (length xs) (size_of xs) t3.0;
      total = ltb-false 255 (used + size_of xs) t4.0;
      clear = t5.0;
      short = ltb-false 256 (run_of run xs) t6.0;
    }

-- the label at a place of the octets
module _ (s : List ℕ) (at : ℕ) where
  pub first_at : first_of (drop at s) ≡ get_or s at 0
  first_at = get_or-drop at s 0 0 ∙ ap (λ (n : ℕ). get_or s n 0) (add-zero at)

  pub count_at : count_of (drop at s) ≡ count_for (get_or s (at + 1) 0)
  unfolding count_of
  count_at = rw get_or-drop

  pub unused_at : unused_clear (drop at s)
      ≡ eqb (get_or s (at + (1 + octets_for (count_of (drop at s)))) 0 % 2 ^ (octets_for (count_of (drop at s)) * 8 - count_of (drop at s))) 0
  unfolding unused_clear
  unused_at = rw (unused_clear, get_or-drop at s (1 + octets_for (count_of (drop at s))) 0)

  pub unused_set : (n i v : ℕ) → count_of (drop at s) ≡ n → i ≡ at + (1 + octets_for n) → v ≡ get_or s i 0 % 2 ^ (octets_for n * 8 - n)
      → (v ≡ 0 → ⊥) → unused_clear (drop at s) ≡ false
  unused_set n i v q p w k = unused_at ∙ rw (q, ← p, ← w) (ne_eqb v 0 k)

  pub unused_none : (n i v : ℕ) → count_of (drop at s) ≡ n → i ≡ at + (1 + octets_for n) → v ≡ get_or s i 0 % 2 ^ (octets_for n * 8 - n)
      → v ≡ 0 → unused_clear (drop at s) ≡ true
  unused_none n i v q p w k = unused_at ∙ rw (q, ← p, ← w) (eq-eqb v 0 k)

step_at_eq : (e f r q : ℕ) → e ≡ f → r ≡ q → step_at e r ≡ step_at f q
step_at_eq e f r q g h = rw (g, h)

-- the label at a place, by its first octet
module _ (s : List ℕ) (at run : ℕ) (some : at < length s) where
  abbrev rest : List ℕ
  rest = drop at s

  -- there is an octet to read
  opens : (0 < length rest) × (length rest ≡ length s - at) × (first_of rest ≡ get_or s at 0)
  opens = let l = length-drop at s in (omega arith, l, first_at s at)

  pub label_other : 64 ≤ get_or s at 0 → (get_or s at 0 ≡ 65 → ⊥) → Err Malformed ≡ step_of at run (drop at s)
  label_other h k = let o = opens in step_malformed at run rest (fault_bad at run rest o.0 (is_other (first_of rest) (omega arith) (λ e. k (sym o.2 ∙ e))))

  -- an ordinary label
  module _ (x : ℕ) (e : x ≡ get_or s at 0) (h : x < 64) where
    record Ordinary : Type 0 where
      there : 0 < length rest
      first : first_of rest < 64
      kind : is_label (first_of rest) ≡ true
      long : length rest ≡ length s - at
      size : size_of rest ≡ 1 + x
      next : run_of run rest ≡ 0

    ordinary : Ordinary
    ordinary =
        let o = opens in
        let f : first_of rest < 64 = omega arith in
        let z = size_ordinary rest f in
        record { there = o.0; first = f; kind = is_ordinary (first_of rest) f; long = o.1; size = omega arith; next = run_ordinary run rest f }

    pub ordinary_short : length s < at + 1 + x → Err Short ≡ step_of at run (drop at s)
    ordinary_short k = let o = ordinary in step_short at run rest (fault_beyond at run rest o.there o.kind (omega arith))

    pub ordinary_long : at + 1 + x ≤ length s → 255 < at + 1 + x → Err Malformed ≡ step_of at run (drop at s)
    ordinary_long k l = let o = ordinary in step_malformed at run rest (fault_over at run rest o.there o.kind (omega arith) (omega arith))

    pub ordinary_taken : at + 1 + x ≤ length s → at + 1 + x ≤ 255 → step_at (at + 1 + x) 0 ≡ step_of at run (drop at s)
    ordinary_taken k l =
        let o = ordinary in
        let n = fault_none at run rest o.there o.kind (omega arith) (omega arith) (plain_clear rest o.first) (omega arith) in
        step_at_eq (at + 1 + x) (at + size_of rest) 0 (run_of run rest) (omega arith) (sym o.next) ∙ sym (step_none at run rest n)

  -- a bit label
  module _ (f : get_or s at 0 ≡ 65) where
    first : first_of rest ≡ 65
    first = opens.2 ∙ f

    kind : is_label (first_of rest) ≡ true
    kind = is_bits (first_of rest) first

    pub bits_cut : length s ≤ at + 1 → Err Short ≡ step_of at run (drop at s)
    bits_cut k = let o = opens in step_short at run rest (fault_beyond at run rest o.0 kind (omega (arith, size_bits rest first)))

    -- so many bits in so many octets
    module _ (n m : ℕ) (e : n ≡ count_for (get_or s (at + 1) 0)) (p : m ≡ octets_for n) where
      record Bits : Type 0 where
        there : 0 < length rest
        long : length rest ≡ length s - at
        count : count_of rest ≡ n
        size : size_of rest ≡ 2 + m
        next : run_of run rest ≡ run + n

      bits : Bits
      bits =
          let o = opens in
          let c : count_of rest ≡ n = count_at s at ∙ sym e in
          record { there = o.0; long = o.1; count = c; size = size_bits rest first ∙ rw (c, p); next = run_bits_lem run rest first ∙ rw c }

      pub bits_short : length s < at + 2 + m → Err Short ≡ step_of at run (drop at s)
      bits_short k = let b = bits in step_short at run rest (fault_beyond at run rest b.there kind (omega arith))

      pub bits_long : at + 2 + m ≤ length s → 255 < at + 2 + m → Err Malformed ≡ step_of at run (drop at s)
      bits_long k l = let b = bits in step_malformed at run rest (fault_over at run rest b.there kind (omega arith) (omega arith))

      -- it ends within the octets, and its last octet has unused bits of a value
      module _ (k : at + 2 + m ≤ length s) (l : at + 2 + m ≤ 255) (v : ℕ) (w : v ≡ get_or s (at + 2 + m - 1) 0 % 2 ^ (m * 8 - n)) where
        within : (size_of rest ≤ length rest) × (at + size_of rest ≤ 255)
        within = let b = bits in (omega arith, omega arith)

        unused : v ≡ get_or s (at + (1 + octets_for n)) 0 % 2 ^ (octets_for n * 8 - n)
        unused = let q : at + 2 + m - 1 ≡ at + (1 + m) = omega arith in w ∙ rw (q, p)

        clear : v ≡ 0 → (eqb (first_of rest) 65 && not (unused_clear rest)) ≡ false
        clear z = bits_clear rest (unused_none s at n (at + (1 + octets_for n)) v bits.count refl unused z)

        pub bits_unused : (v ≡ 0 → ⊥) → Err Malformed ≡ step_of at run (drop at s)
        bits_unused z =
            let b = bits in
            step_malformed at run rest (fault_unused at run rest b.there kind within.0 within.1 (bits_unclear rest first (unused_set s at n (at + (1 + octets_for n)) v b.count refl unused z)))

        pub bits_many : v ≡ 0 → 256 < run + n → Err Malformed ≡ step_of at run (drop at s)
        bits_many z u = let b = bits in step_malformed at run rest (fault_run at run rest b.there kind within.0 within.1 (clear z) (omega arith))

        pub bits_taken : v ≡ 0 → run + n ≤ 256 → step_at (at + 2 + m) (run + n) ≡ step_of at run (drop at s)
        bits_taken z u =
            let b = bits in
            let g = fault_none at run rest b.there kind within.0 within.1 (clear z) (omega arith) in
            step_at_eq (at + 2 + m) (at + size_of rest) (run + n) (run_of run rest) (omega arith) (sym b.next) ∙ sym (step_none at run rest g)
