-- Laws of octets put over others.
use Prim.Native.Nat.{ℕ, suc, ◌+◌, ◌≤◌, ◌<◌}
use mathlib.Core.Path.{◌≡◌, refl, ap, sym, ◌∙◌}
use mathlib.Core.List.{List, [], ◌∷◌, ◌++◌, append_assoc}
use lib.ListN.{length, take, drop, set, length-set, length-append, length-drop, take-append-drop}
use lib.Seq.{set_split, take-take, take-append-le, drop_at, take_at, take-append_seam, drop-append-add, drop-drop, length-take-le}
use native.Mathlib.Omega.{arith}
use native.Mathlib.Nat.{add-zero, zero-add}
use native.Mathlib.Numerals.{add-one}
use Rattle.text.specs.Written.{written, Put}

-- nothing put
pub written_none : (d : List ℕ) (at : ℕ) → written d at [] ≡ d
unfolding written
written_none d at = rw (add-zero at) (take-append-drop at d)

-- one octet put
pub written_one : (d : List ℕ) (at x : ℕ) → at < length d → set d at x ≡ written d at (x ∷ [])
unfolding written
written_one d at x h = rw (add-one at) (set_split d at x h)

pub written_length : (d : List ℕ) (at : ℕ) (xs : List ℕ) → at + length xs ≤ length d → length (written d at xs) ≡ length d
unfolding written
written_length d at xs h =
    let e = length-take-le at d (omega arith) in
    let f = length-drop (at + length xs) d in
    rw (length-append (take at d) (xs ++ drop (at + length xs) d), length-append xs (drop (at + length xs) d)) (omega arith)

-- an octet put before octets just put
pub written_before : (d : List ℕ) (at x : ℕ) (xs : List ℕ) → at + 1 + length xs ≤ length d → set (written d (at + 1) xs) at x ≡ written d at (x ∷ xs)
unfolding written
written_before d at x xs h =
    let w : List ℕ = take (at + 1) d ++ (xs ++ drop (at + 1 + length xs) d) in
    let l = length-take-le (at + 1) d (omega arith) in
    let m = length-append (take (at + 1) d) (xs ++ drop (at + 1 + length xs) d) in
    let k : at + 1 + length xs ≡ at + suc (length xs) = omega arith in
    let t : take at w ≡ take at d = take-append-le at (take (at + 1) d) (xs ++ drop (at + 1 + length xs) d) (omega arith) ∙ take-take at (at + 1) d (omega arith) in
    let r : drop (suc at) w ≡ xs ++ drop (at + 1 + length xs) d = drop_at (take (at + 1) d) (xs ++ drop (at + 1 + length xs) d) (suc at) (omega arith) in
    set_split w at x (omega arith) ∙ rw (t, r, k)

-- octets put after octets just put
pub written_more : (d : List ℕ) (at : ℕ) (xs ys : List ℕ) → at + length xs ≤ length d → written (written d at xs) (at + length xs) ys ≡ written d at (xs ++ ys)
unfolding written
written_more d at xs ys h =
    let p : List ℕ = take at d ++ xs in
    let rest : List ℕ = drop (at + length xs) d in
    let e : length (take at d ++ xs) ≡ at + length xs = length-append (take at d) xs ∙ ap (λ (k : ℕ). k + length xs) (length-take-le at d (omega arith)) in
    let w : take at d ++ (xs ++ rest) ≡ p ++ rest = sym (append_assoc (take at d) xs rest) in
    let t : take (at + length xs) (p ++ rest) ≡ p = take_at p rest (at + length xs) e in
    let k : at + length xs + length ys ≡ length p + length ys = omega arith in
    let o : drop (at + length xs + length ys) (p ++ rest) ≡ drop (length ys) rest = ap (λ (m : ℕ). drop m (p ++ rest)) k ∙ drop-append-add p rest (length ys) in
    let q : drop (length ys) rest ≡ drop (at + length xs + length ys) d = drop-drop (length ys) (at + length xs) d in
    let l : at + length xs + length ys ≡ at + length (xs ++ ys) = let n = length-append xs ys in omega arith in
    ap (λ (s : List ℕ). take (at + length xs) s ++ (ys ++ drop (at + length xs + length ys) s)) w
    ∙ ap (λ (s : List ℕ). s ++ (ys ++ drop (at + length xs + length ys) (p ++ rest))) t
    ∙ ap (λ (s : List ℕ). p ++ (ys ++ s)) (o ∙ q ∙ ap (λ (m : ℕ). drop m d) l)
    ∙ append_assoc (take at d) xs (ys ++ drop (at + length (xs ++ ys)) d)
    ∙ ap (λ (s : List ℕ). take at d ++ s) (sym (append_assoc xs ys (drop (at + length (xs ++ ys)) d)))

-- an octet, then octets, then the rest
pub written_turn : (d : List ℕ) (at x : ℕ) (xs ys : List ℕ) → at + length (x ∷ xs) ≤ length d
    → written (written (set d at x) (at + 1) xs) (at + 1 + length xs) ys ≡ written d at (x ∷ (xs ++ ys))
written_turn d at x xs ys h =
    let e : at + 1 + length xs ≡ at + length (x ∷ xs) = omega arith in
    let o : at + length (x ∷ []) ≤ length d = omega arith in
    ap (λ (l : List ℕ). written (written l (at + 1) xs) (at + 1 + length xs) ys) (written_one d at x (omega arith))
    ∙ ap (λ (l : List ℕ). written l (at + 1 + length xs) ys) (written_more d at (x ∷ []) xs o)
    ∙ ap (λ (k : ℕ). written (written d at (x ∷ xs)) k ys) e
    ∙ written_more d at (x ∷ xs) ys h

-- a writer that does nothing
pub put_none : (d : List ℕ) (at : ℕ) (xs : List ℕ) → xs ≡ [] → Put d d at at xs
put_none d at xs e = (sym (ap (λ (l : List ℕ). at + length l) e ∙ add-zero at), sym (written_none d at) ∙ ap (written d at) (sym e))

-- one store
pub put_one : (d : List ℕ) (at x : ℕ) → at < length d → Put d (set d at x) at (at + 1) (x ∷ [])
put_one d at x h = (refl, written_one d at x h)

-- two writers one after the other
pub put_then : (d e f : List ℕ) (at m n : ℕ) (xs ys : List ℕ) → at + length xs ≤ length d → Put d e at m xs → Put e f m n ys → Put d f at n (xs ++ ys)
put_then d e f at m n xs ys h p q =
    let l = length-append xs ys in (
      omega arith,
      q.1 ∙ ap (λ (s : List ℕ). written s m ys) p.1 ∙ ap (λ (k : ℕ). written (written d at xs) k ys) p.0 ∙ written_more d at xs ys h,
    )

-- two stores
pub put_two : (d : List ℕ) (at x y : ℕ) → at + 2 ≤ length d → Put d (set (set d at x) (at + 1) y) at (at + 1 + 1) (x ∷ y ∷ [])
put_two d at x y h =
    let l = length-set d at x in
    put_then d (set d at x) (set (set d at x) (at + 1) y) at (at + 1) (at + 1 + 1) (x ∷ []) (y ∷ []) (omega arith) (put_one d at x (omega arith)) (put_one (set d at x) (at + 1) y (omega arith))

-- three stores, and four
module _ (d : List ℕ) (at x y z : ℕ) where
  pub put_three : at + 3 ≤ length d → Put d (set (set (set d at x) (at + 1) y) (at + 2) z) at (at + 3) (x ∷ y ∷ z ∷ [])
  put_three h =
      let e = set (set d at x) (at + 1) y in
      let l = length-set d at x in
      let m = length-set (set d at x) (at + 1) y in
      let k : at + 1 + 1 ≡ at + 2 = omega arith in
      let j : at + 2 + 1 ≡ at + 3 = omega arith in
      rw j at (put_then d e (set e (at + 2) z) at (at + 2) (at + 2 + 1) (x ∷ y ∷ []) (z ∷ []) (omega arith) (rw k at (put_two d at x y (omega arith))) (put_one e (at + 2) z (omega arith)))

  pub put_four : (w : ℕ) → at + 4 ≤ length d → Put d (set (set (set (set d at x) (at + 1) y) (at + 2) z) (at + 3) w) at (at + 4) (x ∷ y ∷ z ∷ w ∷ [])
  put_four w h =
      let e = set (set (set d at x) (at + 1) y) (at + 2) z in
      let l = length-set d at x in
      let m = length-set (set d at x) (at + 1) y in
      let n = length-set (set (set d at x) (at + 1) y) (at + 2) z in
      let j : at + 3 + 1 ≡ at + 4 = omega arith in
      rw j at (put_then d e (set e (at + 3) w) at (at + 3) (at + 3 + 1) (x ∷ y ∷ z ∷ []) (w ∷ []) (omega arith) (put_three (omega arith)) (put_one e (at + 3) w (omega arith)))

-- the same octets by another name
pub put_as : (d e : List ℕ) (at n : ℕ) (xs ys : List ℕ) → xs ≡ ys → Put d e at n xs → Put d e at n ys
put_as d e at n xs ys s p = (p.0 ∙ ap (λ (l : List ℕ). at + length l) s, p.1 ∙ ap (written d at) s)

-- a writer leaves as many octets as there were
pub put_length : (d e : List ℕ) (at n : ℕ) (xs : List ℕ) → at + length xs ≤ length d → Put d e at n xs → length e ≡ length d
put_length d e at n xs h p = ap length p.1 ∙ written_length d at xs h

-- what is put from the first place on stands in front
pub put_front : (d e : List ℕ) (n : ℕ) (xs : List ℕ) → Put d e 0 n xs → take n e ≡ xs
unfolding written
put_front d e n xs p = ap (λ (m : ℕ). take m e) (p.0 ∙ zero-add (length xs)) ∙ ap (take (length xs)) p.1 ∙ take-append_seam xs (drop (0 + length xs) d)
