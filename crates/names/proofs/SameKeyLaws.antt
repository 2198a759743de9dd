-- Laws of the walk over two names, label by label: what is left has the same keys exactly when the whole has.
use Prim.Native.Nat.{ℕ, zero, suc, ◌+◌, ◌≤◌, ◌<◌}
use mathlib.Core.Path.{◌≡◌, refl, ap, ap₂, ◌∙◌, sym}
use mathlib.Core.Bool.{Bool, true, false, ◌&&◌}
use mathlib.Core.List.{List, [], ◌∷◌, map, tail-eq_of_cons-eq, head-eq_of_cons-eq}
use lib.Dec.{eqb}
use lib.ListN.{length, get_or, take, drop, drop_of_length-le, get_or-map, length-map}
use lib.Seq.{drop-cons, drop-drop, get_or-drop, get_or-take, take-length, length-take-le}
use native.Mathlib.Omega.{arith}
use borrow.Author.Tests.{eq-eqb, ne_eqb, eqb-true, eqb-false}
use Rattle.octets.specs.Octets.{same_by, same}
use Rattle.bits.specs.Bits.{octets_for}
use Rattle.labels.specs.Labels.{count_for}
use Rattle.octets.proofs.SameLaws.{same_eq, same_refl, same_unlike, same_on, same_off}
use Rattle.octets.proofs.BoolLaws.{and_true, and_false, clash, refuted}
use Rattle.names.specs.Standard.{lower}
use Rattle.names.specs.Keys.{octet_key, key_from, key_octets, walked}
use Rattle.names.proofs.KeyLaws.{keys_length, keys_lowered, key_begins, begins_ordinary, begins_bits, bit_size}

-- lists of other lengths have other keys
pub keys_unlike : (a b : List ℕ) → (length a ≡ length b → ⊥) → same (key_octets a) (key_octets b) ≡ false
keys_unlike a b h = same_unlike (key_octets a) (key_octets b) (λ e. h (sym (keys_length a) ∙ e ∙ keys_length b))

-- ---- octets in lower case
pub lowered_at : (xs : List ℕ) (i : ℕ) → get_or (map lower xs) i 0 ≡ lower (get_or xs i 0)
unfolding lower
lowered_at xs i = get_or-map lower xs i 0

-- what is left of both in lower case, from one place on and from the next
pub same_lowered_turn : (a b : List ℕ) (i : ℕ) (ok : Bool) (x y : ℕ) → i < length a → i < length b → x ≡ lower (get_or a i 0) → y ≡ lower (get_or b i 0)
    → ((ok && eqb x y) && same (drop (i + 1) (map lower a)) (drop (i + 1) (map lower b))) ≡ (ok && same (drop i (map lower a)) (drop i (map lower b)))
same_lowered_turn a b i ok x y p q e f = go (eqb x y) refl
  where
    xs : List ℕ
    xs = map lower a

    ys : List ℕ
    ys = map lower b

    go : (t : Bool) → eqb x y ≡ t → ((ok && t) && same (drop (i + 1) xs) (drop (i + 1) ys)) ≡ (ok && same (drop i xs) (drop i ys))
    go true h =
        let m = length-map a lower in
        let n = length-map b lower in
        let k = same_on xs ys i (omega arith) (omega arith) (lowered_at a i ∙ sym e ∙ eqb-true x y h ∙ f ∙ sym (lowered_at b i)) in
        rw (and_true ok, k)
    go false h =
        let m = length-map a lower in
        let n = length-map b lower in
        let k = same_off xs ys i (omega arith) (omega arith) (λ z. eqb-false x y h (e ∙ sym (lowered_at a i) ∙ z ∙ lowered_at b i ∙ sym f)) in
        rw (and_false ok, k) (sym (and_false ok))

-- a place at which two lists differ so
pub alike_off : (a b : List ℕ) (i : ℕ) → (lower (get_or a i 0) ≡ lower (get_or b i 0) → ⊥) → same (map lower a) (map lower b) ≡ false
alike_off a b i h = refuted (same (map lower a) (map lower b)) (λ e. h (sym (lowered_at a i) ∙ ap (λ (xs : List ℕ). get_or xs i 0) (same_eq (map lower a) (map lower b) e) ∙ lowered_at b i))

-- octets that differ by more than the case of a letter have other keys
pub keys_differ : (a b : List ℕ) (i : ℕ) → (lower (get_or a i 0) ≡ lower (get_or b i 0) → ⊥) → same (key_octets a) (key_octets b) ≡ false
keys_differ a b i h =
    refuted (same (key_octets a) (key_octets b)) (λ e. clash (ap (λ (xs : List ℕ). same xs (map lower b)) (keys_lowered a b (same_eq (key_octets a) (key_octets b) e)) ∙ same_refl (map lower b)) (alike_off a b i h))

-- ---- what is left of two labels that were begun, and what follows them

-- ordinary ones: where all octets count alike, what follows tells
skip_letters : (k : ℕ) (xs ys : List ℕ) → map lower xs ≡ map lower ys → same (key_from true k xs) (key_from true k ys) ≡ same (key_octets (drop k xs)) (key_octets (drop k ys))
unfolding key_octets key_from octet_key same_by
skip_letters zero xs ys h = ap₂ same (key_begins true xs) (key_begins true ys)
skip_letters (suc k) [] [] h = refl
skip_letters (suc k) [] (y ∷ ys) h = cc
skip_letters (suc k) (x ∷ xs) [] h = cc
skip_letters (suc k) (x ∷ xs) (y ∷ ys) h = rw (same_by, eq-eqb (lower x) (lower y) (head-eq_of_cons-eq h)) (skip_letters k xs ys (tail-eq_of_cons-eq h))

-- bit labels: their octets tell, and what follows
skip_bits : (k : ℕ) (xs ys : List ℕ) → same (key_from false k xs) (key_from false k ys) ≡ (same (take k xs) (take k ys) && same (key_octets (drop k xs)) (key_octets (drop k ys)))
unfolding key_octets key_from octet_key same_by
skip_bits zero xs ys = ap₂ same (key_begins false xs) (key_begins false ys)
skip_bits (suc k) [] [] = refl
skip_bits (suc k) [] (y ∷ ys) = refl
skip_bits (suc k) (x ∷ xs) [] = refl
skip_bits (suc k) (x ∷ xs) (y ∷ ys) = go (eqb x y) refl (skip_bits k xs ys)
  where
    go : (t : Bool) → eqb x y ≡ t → same (key_from false k xs) (key_from false k ys) ≡ (same (take k xs) (take k ys) && same (key_octets (drop k xs)) (key_octets (drop k ys)))
        → same (key_from false (suc k) (x ∷ xs)) (key_from false (suc k) (y ∷ ys)) ≡ (same (x ∷ take k xs) (y ∷ take k ys) && same (key_octets (drop k xs)) (key_octets (drop k ys)))
    go true e ih = rw (same_by, e) ih
    go false e ih = rw (same_by, e)

-- two bit labels: where their count octets differ, they do
own_first : (j c : ℕ) (xs : List ℕ) → (ys : List ℕ) × (key_from false j (c ∷ xs) ≡ c ∷ ys)
unfolding key_from octet_key
own_first zero c xs = (_, refl)
own_first (suc j) c xs = (_, refl)

by_count : (j k : ℕ) (xs ys : List ℕ) → (get_or xs 0 0 ≡ get_or ys 0 0 → j ≡ k) → same (key_from false j xs) (key_from false k ys) ≡ same (key_from false j xs) (key_from false j ys)
unfolding key_from same_by
by_count j k [] [] h = refl
by_count j k [] (d ∷ ys) h = rw ((own_first k d ys).1, (own_first j d ys).1)
by_count j k (c ∷ xs) [] h = refl
by_count j k (c ∷ xs) (d ∷ ys) h = go (eqb c d) refl
  where
    go : (t : Bool) → eqb c d ≡ t → same (key_from false j (c ∷ xs)) (key_from false k (d ∷ ys)) ≡ same (key_from false j (c ∷ xs)) (key_from false j (d ∷ ys))
    go true e = ap (λ (i : ℕ). same (key_from false j (c ∷ xs)) (key_from false i (d ∷ ys))) (sym (h (eqb-true c d e)))
    go false e = rw ((own_first j c xs).1, (own_first k d ys).1, (own_first j d ys).1, same_by, e)

-- ---- two labels that begin
begun_letters : (x : ℕ) (xs ys : List ℕ) → (x ≡ 65 → ⊥) → map lower xs ≡ map lower ys → same (key_octets (x ∷ xs)) (key_octets (x ∷ ys)) ≡ same (key_octets (drop x xs)) (key_octets (drop x ys))
unfolding same_by
begun_letters x xs ys h e = rw (begins_ordinary x xs h, begins_ordinary x ys h, same_by, eq-eqb x x refl) (skip_letters x xs ys e)

begun_bits : (x : ℕ) (xs ys : List ℕ) → x ≡ 65
    → same (key_octets (x ∷ xs)) (key_octets (x ∷ ys)) ≡ (same (take (bit_size xs) xs) (take (bit_size xs) ys) && same (key_octets (drop (bit_size xs) xs)) (key_octets (drop (bit_size xs) ys)))
unfolding same_by
begun_bits x xs ys h =
    rw (begins_bits x xs h, begins_bits x ys h, same_by, eq-eqb x x refl)
    (by_count (bit_size xs) (bit_size ys) xs ys (λ e. ap (λ (c : ℕ). bit_size (c ∷ [])) e) ∙ skip_bits (bit_size xs) xs ys)

begun_other : (x y : ℕ) (xs ys : List ℕ) → (x ≡ y → ⊥) → same (key_octets (x ∷ xs)) (key_octets (y ∷ ys)) ≡ false
unfolding key_octets key_from same_by
begun_other x y xs ys h = rw (same_by, ne_eqb x y h)

-- ---- the walk

map_drop : (k : ℕ) (xs : List ℕ) → map lower (drop k xs) ≡ drop k (map lower xs)
map_drop zero xs = refl
map_drop (suc k) [] = refl
map_drop (suc k) (x ∷ xs) = map_drop k xs

abbrev same_keys : List ℕ → List ℕ → Bool
same_keys xs ys = same (key_octets xs) (key_octets ys)

and_turn : (l p q : Bool) → (l && (p && q)) ≡ ((l && q) && p)
and_turn true true q = sym (and_true q)
and_turn true false q = sym (and_false q)
and_turn false p q = refl

when : (s p q : Bool) → (s ≡ true → p ≡ q) → (s && p) ≡ (s && q)
when true p q h = h refl
when false p q h = refl

-- two names, and a test `l` that all their octets are the same in lower case
module _ (a b : List ℕ) (l : Bool) (c : l ≡ true → map lower a ≡ map lower b) where
  left_end : (at : ℕ) → length a ≤ at → length b ≤ at → (l && same_keys (drop at a) (drop at b)) ≡ l
  unfolding key_octets key_from same_by
  left_end at p q = rw (drop_of_length-le a {i = at} p, drop_of_length-le b {i = at} q) (and_true l)

  module _ (at : ℕ) (p : at < length a) (q : at < length b) where
    -- what is left from a place on begins with the octet there
    left_a : drop at a ≡ get_or a at 0 ∷ drop (suc at) a
    left_a = drop-cons a at 0 p

    left_b : drop at b ≡ get_or b at 0 ∷ drop (suc at) b
    left_b = drop-cons b at 0 q

    left_other : (get_or a at 0 ≡ get_or b at 0 → ⊥) → (l && same_keys (drop at a) (drop at b)) ≡ false
    left_other h = ap (λ (t : Bool). l && t) (ap₂ same_keys left_a left_b ∙ begun_other (get_or a at 0) (get_or b at 0) (drop (suc at) a) (drop (suc at) b) h) ∙ and_false l

    module _ (e : get_or a at 0 ≡ get_or b at 0) where
      left_same : drop at b ≡ get_or a at 0 ∷ drop (suc at) b
      left_same = left_b ∙ ap (λ (x : ℕ). x ∷ drop (suc at) b) (sym e)

      -- what is left after so many octets more
      left_on : (k n : ℕ) → k ≡ at + 1 + n → (xs : List ℕ) → drop n (drop (suc at) xs) ≡ drop k xs
      left_on k n z xs = let i : suc at + n ≡ k = omega arith in drop-drop n (suc at) xs ∙ ap (λ (j : ℕ). drop j xs) i

      left_letters : (k : ℕ) → k ≡ at + 1 + get_or a at 0 → (get_or a at 0 ≡ 65 → ⊥) → (l && same_keys (drop at a) (drop at b)) ≡ (l && same_keys (drop k a) (drop k b))
      left_letters k z h = when l (same_keys (drop at a) (drop at b)) (same_keys (drop k a) (drop k b)) go
        where
          go : l ≡ true → same_keys (drop at a) (drop at b) ≡ same_keys (drop k a) (drop k b)
          go s =
              let m : map lower (drop (suc at) a) ≡ map lower (drop (suc at) b) = map_drop (suc at) a ∙ ap (drop (suc at)) (c s) ∙ sym (map_drop (suc at) b) in
              ap₂ same_keys left_a left_same ∙ begun_letters (get_or a at 0) (drop (suc at) a) (drop (suc at) b) h m ∙ ap₂ same_keys (left_on k (get_or a at 0) z a) (left_on k (get_or a at 0) z b)

      left_bits : (k n : ℕ) → n ≡ 1 + octets_for (count_for (get_or a (at + 1) 0)) → k ≡ at + 1 + n → get_or a at 0 ≡ 65
          → (l && same_keys (drop at a) (drop at b)) ≡ ((l && same_keys (drop k a) (drop k b)) && same (take n (drop (at + 1) a)) (take n (drop (at + 1) b)))
      left_bits k n m z h =
          let i : at + 1 ≡ suc at = omega arith in
          let o : suc at + 0 ≡ at + 1 = omega arith in
          let d : bit_size (drop (suc at) a) ≡ n = ap (λ (x : ℕ). 1 + octets_for (count_for x)) (get_or-drop (suc at) a 0 0 ∙ ap (λ (j : ℕ). get_or a j 0) o) ∙ sym m in
          let g = begun_bits (get_or a at 0) (drop (suc at) a) (drop (suc at) b) h in
          let f : same_keys (drop at a) (drop at b) ≡ (same (take n (drop (suc at) a)) (take n (drop (suc at) b)) && same_keys (drop k a) (drop k b)) =
          ap₂ same_keys left_a left_same ∙ g ∙ ap (λ (j : ℕ). same (take j (drop (suc at) a)) (take j (drop (suc at) b)) && same_keys (drop j (drop (suc at) a)) (drop j (drop (suc at) b))) d
          ∙ ap₂ (λ (xs ys : List ℕ). same (take n (drop (suc at) a)) (take n (drop (suc at) b)) && same_keys xs ys) (left_on k n z a) (left_on k n z b) in
          rw (i, f) (and_turn l (same (take n (drop (suc at) a)) (take n (drop (suc at) b))) (same_keys (drop k a) (drop k b)))

-- ---- the walk over two lists in which names stand up to `end`
pub map_take : (k : ℕ) (xs : List ℕ) → map lower (take k xs) ≡ take k (map lower xs)
map_take zero xs = refl
map_take (suc k) [] = refl
map_take (suc k) (x ∷ xs) = ap (λ (ys : List ℕ). lower x ∷ ys) (map_take k xs)

module _ (a b : List ℕ) (end : ℕ) (z : length a ≡ length b) (m : end ≤ length a) where
  -- all octets are the same in lower case: so are those of the names
  abbrev all : Bool
  all = same (map lower a) (map lower b)

  in_names : all ≡ true → map lower (take end a) ≡ map lower (take end b)
  in_names h = map_take end a ∙ ap (take end) (same_eq (map lower a) (map lower b) h) ∙ sym (map_take end b)

  size_a : length (take end a) ≡ end
  size_a = length-take-le end a m

  size_b : length (take end b) ≡ end
  size_b = length-take-le end b (omega arith)

  pub walk_end : (at : ℕ) → end ≤ at → walked a b end at ≡ all
  unfolding walked
  walk_end at h = left_end (take end a) (take end b) all in_names at (omega (arith, size_a)) (omega (arith, size_b))

  module _ (at : ℕ) (h : at < end) where
    octet_a : get_or (take end a) at 0 ≡ get_or a at 0
    octet_a = get_or-take end a at 0 h

    octet_b : get_or (take end b) at 0 ≡ get_or b at 0
    octet_b = get_or-take end b at 0 h

    pub walk_other : (get_or a at 0 ≡ get_or b at 0 → ⊥) → walked a b end at ≡ false
    unfolding walked
    walk_other u =
        left_other (take end a) (take end b) all in_names at (omega (arith, size_a)) (omega (arith, size_b)) (λ e. u (sym octet_a ∙ e ∙ octet_b))

    module _ (e : get_or a at 0 ≡ get_or b at 0) where
      pub walk_letters : (k : ℕ) → k ≡ at + 1 + get_or a at 0 → (get_or a at 0 ≡ 65 → ⊥) → walked a b end at ≡ walked a b end k
      unfolding walked
      walk_letters k y u =
          left_letters (take end a) (take end b) all in_names at (omega (arith, size_a)) (omega (arith, size_b)) (octet_a ∙ e ∙ sym octet_b) k (omega (arith, octet_a)) (λ f. u (sym octet_a ∙ f))

      pub walk_bits : (k n : ℕ) → n ≡ 1 + octets_for (count_for (get_or (take end a) (at + 1) 0)) → k ≡ at + 1 + n → get_or a at 0 ≡ 65
          → walked a b end at ≡ (walked a b end k && same (take n (drop (at + 1) (take end a))) (take n (drop (at + 1) (take end b))))
      unfolding walked
      walk_bits k n q y u =
          left_bits (take end a) (take end b) all in_names at (omega (arith, size_a)) (omega (arith, size_b)) (octet_a ∙ e ∙ sym octet_b) k n q y (octet_a ∙ u)

-- what the walk from a place on finds, where the names have the same keys only if all octets are the same in lower case
pub walk_found : (a b : List ℕ) (end at : ℕ) → (same (key_octets (drop at (take end a))) (key_octets (drop at (take end b))) ≡ true → map lower a ≡ map lower b)
    → walked a b end at ≡ same (key_octets (drop at (take end a))) (key_octets (drop at (take end b)))
unfolding walked
walk_found a b end at h = go (same (key_octets (drop at (take end a))) (key_octets (drop at (take end b)))) refl
  where
    go : (t : Bool) → same (key_octets (drop at (take end a))) (key_octets (drop at (take end b))) ≡ t
        → (same (map lower a) (map lower b) && same (key_octets (drop at (take end a))) (key_octets (drop at (take end b)))) ≡ same (key_octets (drop at (take end a))) (key_octets (drop at (take end b)))
    go true e = rw (h e, same_refl (map lower b))
    go false e = rw e (and_false (same (map lower a) (map lower b)))

-- of whole lists: those whose keys are the same are the same in lower case
pub walk_whole : (a b : List ℕ) → length a ≡ length b → walked a b (length a) 0 ≡ same (key_octets a) (key_octets b)
walk_whole a b z =
    let p = take-length a in
    let q : take (length a) b ≡ b = ap (λ (n : ℕ). take n b) z ∙ take-length b in
    walk_found a b (length a) 0 (λ h. keys_lowered a b (sym (ap key_octets p) ∙ same_eq (key_octets (take (length a) a)) (key_octets (take (length a) b)) h ∙ ap key_octets q)) ∙ ap₂ same_keys p q
