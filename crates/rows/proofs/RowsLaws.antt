-- Laws of the rows while an address is sought and put in its place with its lifetime.
use Rattle.std.proofs.Common.{◌≡◌, ℕ, zero, suc, ◌+◌, ◌-◌, ◌*◌, ◌/◌, ◌<◌, ◌≤◌, Bool, true, false, ◌&&◌, ltb, List, [], ◌∷◌, ◌++◌, length, get_or, take, drop, set, sym, refl, ap, ◌∙◌, append_assoc, arith, length-append, length-drop, length-take-le, take_all, take-suc, take-take, drop-drop, drop_at, ltb-true, le-ltb, lt-ltb, le-leb}
use lib.Seq.{take-append-le, append_snoc, set_at, paste, take-paste, drop-paste}
use borrow.Author.Tests.{lt-leb}
use Rattle.std.specs.declared.cmp.Ordering.{Ordering}
use Rattle.std.specs.declared.cmp.Ordering.TheVariants.{Less, Equal, Greater}
use Rattle.address.specs.Order.{order_of}
use Rattle.octets.specs.Numbers.{octets_of}
use Rattle.octets.proofs.BoolLaws.{clash}
use Rattle.octets.proofs.NumberLaws.{octets_length}
use Rattle.rows.specs.Halves.{address_of}
use Rattle.std.specs.List.{copy_within}
use Rattle.rows.specs.Rows.{row, seek, put_at, lowered, Kept, is_same, keep_at, keep_in}

-- ---- seeking
pub seek_end : (most : ℕ) (out v : List ℕ) (a b : ℕ) → b ≤ a → seek most out v a b ≡ a
unfolding seek
seek_end zero out v a b h = refl
seek_end (suc most) out v a b h = rw (seek, le-ltb a b h)

module _ (most : ℕ) (out v : List ℕ) (a b : ℕ) (h : a < b) where
  pub seek_right : order_of (row out ((a + b) / 2)) v ≡ Less → seek (suc most) out v a b ≡ seek most out v ((a + b) / 2 + 1) b
  unfolding seek
  seek_right e = rw (seek, lt-ltb a b h, e)

  pub seek_left : (order_of (row out ((a + b) / 2)) v ≡ Less → ⊥) → seek (suc most) out v a b ≡ seek most out v a ((a + b) / 2)
  unfolding seek
  seek_left n = rw (seek, lt-ltb a b h) (go (order_of (row out ((a + b) / 2)) v) n)
    where
      go : (o : Ordering) → (o ≡ Less → ⊥)
          → elim o [ Less ↦ seek most out v ((a + b) / 2 + 1) b | Equal ↦ seek most out v a ((a + b) / 2) | Greater ↦ seek most out v a ((a + b) / 2) ]
          ≡ seek most out v a ((a + b) / 2)
      go Less d = absurd (d refl)
      go Equal d = refl
      go Greater d = refl

-- what is left to seek, from a to b, comes to what all of it comes to, r
pub record Seeking (out v : List ℕ) (r a b : ℕ) : Type 0 where
  pub most : ℕ
  pub enough : b - a ≤ most
  pub comes : seek most out v a b ≡ r

pub seeking_start : (out v : List ℕ) (count : ℕ) → Seeking out v (seek count out v 0 count) 0 count
seeking_start out v count = record { most = count; enough = omega arith; comes = refl }

module _ (out v : List ℕ) (r : ℕ) where
  pub seeking_end : (a b : ℕ) → b ≤ a → Seeking out v r a b → a ≡ r
  seeking_end a b h s = sym (seek_end s.most out v a b h) ∙ s.comes

  module _ (a b : ℕ) (h : a < b) (s : Seeking out v r a b) where
    abbrev less : ℕ
    less = s.most - 1

    whole : seek (suc less) out v a b ≡ r
    whole =
        let e : suc less ≡ s.most = let q = s.enough in omega arith in
        ap (λ (n : ℕ). seek n out v a b) e ∙ s.comes

    pub seeking_right : order_of (row out ((a + b) / 2)) v ≡ Less → Seeking out v r ((a + b) / 2 + 1) b
    seeking_right e = record { most = less; enough = let q = s.enough in omega arith; comes = sym (seek_right less out v a b h e) ∙ whole }

    pub seeking_left : (order_of (row out ((a + b) / 2)) v ≡ Less → ⊥) → Seeking out v r a ((a + b) / 2)
    seeking_left n = record { most = less; enough = let q = s.enough in omega arith; comes = sym (seek_left less out v a b h n) ∙ whole }

-- ---- what stands moved up by a row, with what is at k still there
abbrev moved : ℕ → ℕ → ℕ → List ℕ → List ℕ
moved w k c o = take (k + w) o ++ take (c - k) (drop k o) ++ drop (c + w) o

copied : (w k c : ℕ) (o : List ℕ) → k ≤ c → copy_within o k c (k + w) ≡ moved w k c o
copied w k c o h =
    let e : k + w + (c - k) ≡ c + w = omega arith in
    ap (λ (n : ℕ). take (k + w) o ++ take (c - k) (drop k o) ++ drop n o) e

-- ---- and the two halves of an address written below them
module _ (k c : ℕ) (o : List ℕ) (high low : ℕ) (h : k ≤ c) (l : c + 16 ≤ length o) where
  abbrev m : List ℕ
  m = take (c - k) (drop k o)

  abbrev d : List ℕ
  d = drop (c + 16) o

  abbrev t : List ℕ
  t = take (k + 16) o

  t_length : length t ≡ k + 16
  t_length = length-take-le (k + 16) o (omega arith)

  moved_before : take k (moved 16 k c o) ≡ take k o
  moved_before = let n = t_length in ap (take k) (append_assoc t m d) ∙ take-append-le k t (m ++ d) (omega arith) ∙ take-take k (k + 16) o (omega arith)

  moved_after : drop (k + 16) (moved 16 k c o) ≡ m ++ d
  moved_after = ap (drop (k + 16)) (append_assoc t m d) ∙ drop_at t (m ++ d) (k + 16) t_length

  moved_length : length (moved 16 k c o) ≡ length o
  moved_length =
      omega (arith, length-append (t ++ m) d, length-append t m, t_length, length-take-le (c - k) (drop k o) (omega (arith, length-drop k o)), length-drop (c + 16) o)

  pub put_halves : (o₀ o₁ o₂ : List ℕ) → o₀ ≡ copy_within o k c (k + 16) → o₁ ≡ paste o₀ k (octets_of 8 high) 8 → o₂ ≡ paste o₁ (k + 8) (octets_of 8 low) 8
      → o₂ ≡ put_at 16 k c (address_of high low) o
  unfolding put_at address_of
  put_halves o₀ o₁ o₂ e₀ e₁ f =
      let n = moved_length in
      let e : o₁ ≡ paste (moved 16 k c o) k (octets_of 8 high) 8 = e₁ ∙ ap (λ (w : List ℕ). paste w k (octets_of 8 high) 8) (e₀ ∙ copied 16 k c o h) in
      let H = octets_of 8 high in
      let L = octets_of 8 low in
      let a : take (k + 8) o₁ ≡ take k o ++ H =
      ap (take (k + 8)) e ∙ take-paste (moved 16 k c o) k H 8 (omega arith) (omega (arith, octets_length 8 high))
      ∙ λ i. moved_before i ++ take_all 8 H (omega (arith, octets_length 8 high)) i in
      let b : drop (k + 8 + 8) o₁ ≡ m ++ d =
      sym (drop-drop 8 (k + 8) o₁)
      ∙ ap (drop 8) (ap (drop (k + 8)) e ∙ drop-paste (moved 16 k c o) k H 8 (omega arith) (omega (arith, octets_length 8 high)))
      ∙ drop-drop 8 (k + 8) (moved 16 k c o) ∙ ap (λ (j : ℕ). drop j (moved 16 k c o)) (let q : k + 8 + 8 ≡ k + 16 = omega arith in q) ∙ moved_after in
      f ∙ (λ i. a i ++ take_all 8 L (omega (arith, octets_length 8 low)) i ++ b i)
      ∙ ap (λ (xs : List ℕ). xs ++ (m ++ d)) (append_assoc (take k o) H L)
      ∙ sym (append_assoc (take k o ++ (H ++ L)) m d)

-- ---- and one number written below them
put_here : (k c : ℕ) (o : List ℕ) (t : ℕ) → k ≤ c → c < length o → set (moved 1 k c o) k t ≡ put_at 1 k c (t ∷ []) o
unfolding put_at
put_here k c o t h l =
    let m = take (c - k) (drop k o) in
    let d = drop (c + 1) o in
    let e : k + 1 ≡ suc k = omega arith in
    rw (e, take-suc o k 0 (omega arith), append_assoc (take k o ++ (get_or o k 0 ∷ [])) m d, append_snoc (take k o) (get_or o k 0) (m ++ d))
    (set_at (take k o) (get_or o k 0) (m ++ d) t k (length-take-le k o (omega arith)) ∙ sym (append_snoc (take k o) t (m ++ d)) ∙ sym (append_assoc (take k o ++ (t ∷ [])) m d))

pub put_one : (k c : ℕ) (o : List ℕ) (t : ℕ) → k ≤ c → c < length o → set (copy_within o k c (k + 1)) k t ≡ put_at 1 k c (t ∷ []) o
put_one k c o t h l = ap (λ (m : List ℕ). set m k t) (copied 1 k c o h) ∙ put_here k c o t h l

-- ---- keeping an address, case by case
pub is_same_lem : (o : Ordering) → is_same o ≡ true → o ≡ Equal
is_same_lem Less h = absurd (clash h refl)
is_same_lem Equal h = refl
is_same_lem Greater h = absurd (clash h refl)

module _ (v : List ℕ) (t : ℕ) (s : Kept) where
  pub keep_full : s.full ≡ true → s ≡ keep_in v t s
  unfolding keep_in
  keep_full h = rw h

  pub keep_at_lem : (k : ℕ) → s.full ≡ false → k ≡ seek s.count s.out v 0 s.count → keep_at k v t s ≡ keep_in v t s
  unfolding keep_in
  keep_at_lem k h e = rw (h, ← e)

  module _ (k : ℕ) where
    -- the row at k is v
    abbrev pub met : Bool
    met = ltb k s.count && is_same (order_of (row s.out k) v)

    pub met_there : met ≡ true → (k < s.count) × (is_same (order_of (row s.out k) v) ≡ true)
    met_there e = go (ltb k s.count) refl e
      where
        go : (b : Bool) → ltb k s.count ≡ b → b && is_same (order_of (row s.out k) v) ≡ true → (k < s.count) × (is_same (order_of (row s.out k) v) ≡ true)
        go true p q = (ltb-true k s.count p, q)
        go false p q = absurd (clash q refl)

    pub met_not : met ≡ false → k < s.count → is_same (order_of (row s.out k) v) ≡ false
    met_not e l = rw (lt-ltb k s.count l) at e

    pub keep_found : k < s.count → is_same (order_of (row s.out k) v) ≡ true
        → record { out = s.out; lives = lowered k t s.lives; count = s.count; full = s.full } ≡ keep_at k v t s
    unfolding keep_at
    keep_found l m = rw (lt-ltb k s.count l, m)

    module _ (n : k < s.count → is_same (order_of (row s.out k) v) ≡ false) where
      absent : ltb k s.count && is_same (order_of (row s.out k) v) ≡ false
      absent = go (ltb k s.count) refl
        where
          go : (b : Bool) → ltb k s.count ≡ b → b && is_same (order_of (row s.out k) v) ≡ false
          go true p = n (ltb-true k s.count p)
          go false p = refl

      pub keep_new : s.count * 16 + 16 ≤ length s.out
          → record { out = put_at 16 (k * 16) (s.count * 16) v s.out; lives = put_at 1 k s.count (t ∷ []) s.lives; count = s.count + 1; full = false } ≡ keep_at k v t s
      unfolding keep_at
      keep_new l = rw (absent, le-leb (s.count * 16 + 16) (length s.out) l)

      pub keep_over : length s.out < s.count * 16 + 16 → record { out = s.out; lives = s.lives; count = s.count; full = true } ≡ keep_at k v t s
      unfolding keep_at
      keep_over l = rw (absent, lt-leb (s.count * 16 + 16) (length s.out) l)
