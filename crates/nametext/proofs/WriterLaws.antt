-- Laws that the writers cite: one for each branch, one for each turn of a loop.
use Prim.Native.Nat.{ℕ, zero, suc, ◌+◌, ◌*◌, ◌/◌, ◌%◌, ◌≤◌, ◌<◌}
use mathlib.Core.Path.{◌≡◌, refl, ap, ◌∙◌, sym}
use mathlib.Core.Bool.{Bool, true, false}
use mathlib.Core.List.{List, [], ◌∷◌, ◌++◌, map, map-append, append_assoc, append-nil}
use lib.Dec.{eqb}
use lib.ListN.{length, get_or, take, set, length-set, length-append, length-map}
use lib.Seq.{take-suc, length-take-le}
use native.Mathlib.Omega.{arith}
use native.Mathlib.Numerals.{add-one}
use borrow.Author.Tests.{eq-eqb, ne_eqb}
use Rattle.bits.specs.Bits.{octets_for}
use Rattle.text.specs.Decimal.{write_decimal}
use Rattle.text.specs.Written.{Put}
use Rattle.text.proofs.DecimalLaws.{decimal_few}
use Rattle.text.proofs.WrittenLaws.{put_then, put_one, put_three, put_as}
use Rattle.nametext.specs.Characters.{is_plain, hex_digit}
use Rattle.nametext.specs.Writing.{octet_text, ordinary_text, nibbles, digits_for}
use Rattle.nametext.specs.Put.{nibble_of, raw_bits}
use Rattle.nametext.proofs.OrdinaryLaws.{octet_plain, octet_escaped}
use Rattle.nametext.proofs.BitsLaws.{nibbles_length}

-- the values of an octet
pub nibble_left : (x i : ℕ) → i % 2 ≡ 0 → nibble_of x i ≡ x / 16
unfolding nibble_of
nibble_left x i h = rw (nibble_of, eq-eqb (i % 2) 0 h)

pub nibble_right : (x i : ℕ) → (i % 2 ≡ 0 → ⊥) → nibble_of x i ≡ x % 16
unfolding nibble_of
nibble_right x i h = rw (nibble_of, ne_eqb (i % 2) 0 h)

nibble_skip : (x i : ℕ) → nibble_of x (suc (suc i)) ≡ nibble_of x i
unfolding nibble_of
nibble_skip x i =
    let m : suc (suc i) % 2 ≡ i % 2 = omega arith in
    ap (λ (k : ℕ). elim (eqb k 0) [ true ↦ x / 16 | false ↦ x % 16 ]) m

-- the value at a place of the label
pub nibble_at : (xs : List ℕ) (i : ℕ) → i < 2 * length xs → get_or (nibbles xs) i 0 ≡ nibble_of (get_or xs (i / 2) 0) i
unfolding nibbles nibble_of
nibble_at [] i h = let z : ⊥ = omega arith in absurd z
nibble_at (x ∷ xs) zero h = refl
nibble_at (x ∷ xs) (suc zero) h = refl
nibble_at (x ∷ xs) (suc (suc i)) h =
    let d : suc (suc i) / 2 ≡ suc (i / 2) = omega arith in
    nibble_at xs i (omega arith) ∙ sym (nibble_skip (get_or xs (i / 2) 0) i) ∙ ap (λ (k : ℕ). nibble_of (get_or (x ∷ xs) k 0) (suc (suc i))) (sym d)

-- ordinary labels
pub octet_short : (x : ℕ) → length (octet_text x) ≤ 4
octet_short x = go (is_plain x) refl
  where
    go : (t : Bool) → is_plain x ≡ t → length (octet_text x) ≤ 4
    go true p = rw (octet_plain x p) (omega arith)
    go false p = rw (octet_escaped x p) (omega arith)

pub ordinary_short : (l : List ℕ) → length (ordinary_text l) ≤ 4 * length l
unfolding ordinary_text
ordinary_short [] = omega arith
ordinary_short (x ∷ l) =
    let ih = ordinary_short l in
    let a = length-append (octet_text x) (ordinary_text l) in
    let b = octet_short x in
    omega arith

ordinary_append : (l m : List ℕ) → ordinary_text (l ++ m) ≡ ordinary_text l ++ ordinary_text m
unfolding ordinary_text
ordinary_append [] m = refl
ordinary_append (x ∷ l) m = ap (λ (ys : List ℕ). octet_text x ++ ys) (ordinary_append l m) ∙ sym (append_assoc (octet_text x) (ordinary_text l) (ordinary_text m))

pub ordinary_more : (l : List ℕ) (i : ℕ) → i < length l → ordinary_text (take i l) ++ octet_text (get_or l i 0) ≡ ordinary_text (take (i + 1) l)
unfolding ordinary_text
ordinary_more l i h =
    rw (add-one i, take-suc l i 0 h, ordinary_append (take i l) (get_or l i 0 ∷ [])) (ap (λ (ys : List ℕ). ordinary_text (take i l) ++ ys) (sym (append-nil (octet_text (get_or l i 0)))))

-- a turn of the loop over an ordinary label's octets
module _ (xs old mid : List ℕ) (to t i : ℕ) (h : i < length xs) (r : to + 4 * length xs ≤ length old) (p : Put old mid to t (ordinary_text (take i xs))) where
  pub octets_room : t + 4 ≤ length old
  octets_room =
      let l = length-take-le i xs (omega arith) in
      let a = ordinary_short (take i xs) in
      omega (arith, p.0)

  pub octets_turn : (new : List ℕ) (end : ℕ) → Put mid new t end (octet_text (get_or xs i 0)) → Put old new to end (ordinary_text (take (i + 1) xs))
  octets_turn new end q =
      let l = length-take-le i xs (omega arith) in
      let a = ordinary_short (take i xs) in
      put_as old new to end _ _ (ordinary_more xs i h) (put_then old mid new to t end (ordinary_text (take i xs)) (octet_text (get_or xs i 0)) (omega arith) p q)

-- a turn of the loop over hex digits
pub hex_more : (l : List ℕ) (i : ℕ) → i < length l → map hex_digit (take i l) ++ (hex_digit (get_or l i 0) ∷ []) ≡ map hex_digit (take (i + 1) l)
hex_more l i h = rw (add-one i, take-suc l i 0 h) (sym (map-append hex_digit (take i l) (get_or l i 0 ∷ [])))

pub digits_turn : (xs old mid : List ℕ) (n to i v : ℕ) → (n + 1) / 2 ≤ length xs → i < n → to + n ≤ length old → length mid ≡ length old
    → v ≡ hex_digit (nibble_of (get_or xs (i / 2) 0) i) → Put old mid to (to + i) (map hex_digit (take i (nibbles xs)))
    → Put old (set mid (to + i) v) to (to + (i + 1)) (map hex_digit (take (i + 1) (nibbles xs)))
digits_turn xs old mid n to i v f h r m e p =
    let k = nibbles_length xs in
    let w : v ≡ hex_digit (get_or (nibbles xs) i 0) = e ∙ ap hex_digit (sym (nibble_at xs i (omega arith))) in
    let a : to + i + 1 ≡ to + (i + 1) = omega arith in
    let l = length-map (take i (nibbles xs)) hex_digit in
    let t = length-take-le i (nibbles xs) (omega arith) in
    let D = map hex_digit (take i (nibbles xs)) in
    rw (← a) (put_as old (set mid (to + i) v) to (to + i + 1) (D ++ (v ∷ [])) _ (ap (λ (y : ℕ). D ++ (y ∷ [])) w ∙ hex_more (nibbles xs) i (omega arith))
    (put_then old mid (set mid (to + i) v) to (to + i) (to + i + 1) D (v ∷ []) (omega arith) p (put_one mid (to + i) v (omega arith))))

-- a bit label put together
pub digits_length : (n : ℕ) (xs : List ℕ) → octets_for n ≤ length xs → length (map hex_digit (take (digits_for n) (nibbles xs))) ≡ digits_for n
digits_length n xs h =
    length-map (take (digits_for n) (nibbles xs)) hex_digit ∙ length-take-le (digits_for n) (nibbles xs) (omega (arith, nibbles_length xs))

abbrev pub begun : List ℕ → ℕ → List ℕ
begun out to = set (set (set out to 92) (to + 1) 91) (to + 2) 120

pub begun_length : (out : List ℕ) (to : ℕ) → length (begun out to) ≡ length out
begun_length out to = simp length-set

count_short : (n : ℕ) → n ≤ 256 → length (write_decimal n) ≤ 3
count_short n h = decimal_few n 2 (omega arith)

pub raw_length : (n : ℕ) (xs : List ℕ) → n ≤ 256 → octets_for n ≤ length xs → length (raw_bits n xs) ≤ digits_for n + 8
unfolding raw_bits
raw_length n xs m h =
    let D = map hex_digit (take (digits_for n) (nibbles xs)) in
    let a = digits_length n xs h in
    let b = length-append D (47 ∷ (write_decimal n ++ (93 ∷ []))) in
    let c = length-append (write_decimal n) (93 ∷ []) in
    let d = count_short n m in
    omega arith

module _ (xs old d : List ℕ) (n to a : ℕ) (m : n ≤ 256) (f : octets_for n ≤ length xs) (r : to + digits_for n + 8 ≤ length old) (k : length d ≡ length old)
    (p : Put (begun old to) d (to + 3) a (map hex_digit (take (digits_for n) (nibbles xs)))) where
  digits_end : a ≡ to + 3 + digits_for n
  digits_end = p.0 ∙ ap (λ (i : ℕ). to + 3 + i) (digits_length n xs f)

  -- where the count is put there is room for it and for the bracket
  pub count_room : a + 1 + length (write_decimal n) < length old
  count_room = let g = digits_end in let s = count_short n m in omega arith

  pub bits_put : (e : List ℕ) (b : ℕ) → length e ≡ length (set d a 47) → Put (set d a 47) e (a + 1) b (write_decimal n)
      → (b < length e) × (length (set e b 93) ≡ length old) × (b < length old) × Put old (set e b 93) to (b + 1) (raw_bits n xs)
  unfolding raw_bits
  bits_put e b j q =
      let l : length e ≡ length old = j ∙ length-set d a 47 ∙ k in
      let D = map hex_digit (take (digits_for n) (nibbles xs)) in
      let c = count_room in
      let g = digits_end in
      let w = digits_length n xs f in
      let B = (92 ∷ 91 ∷ 120 ∷ []) ++ D in
      let u : length B ≡ 3 + length D = length-append (92 ∷ 91 ∷ 120 ∷ []) D in
      let v = length-append B (47 ∷ []) in
      let y = length-append (B ++ (47 ∷ [])) (write_decimal n) in
      let z : b < length e = omega (arith, q.0) in
      let p1 = put_then old (begun old to) d to (to + 3) a (92 ∷ 91 ∷ 120 ∷ []) D (omega arith) (put_three old to 92 91 120 (omega arith)) p in
      let p2 = put_then old d (set d a 47) to a (a + 1) B (47 ∷ []) (omega arith) p1 (put_one d a 47 (omega arith)) in
      let p3 = put_then old (set d a 47) e to (a + 1) b (B ++ (47 ∷ [])) (write_decimal n) (omega arith) p2 q in
      let p4 = put_then old e (set e b 93) to b (b + 1) ((B ++ (47 ∷ [])) ++ write_decimal n) (93 ∷ []) (omega arith) p3 (put_one e b 93 z) in
      (z, length-set e b 93 ∙ l, omega arith, put_as old (set e b 93) to (b + 1) _ (raw_bits n xs) (simp append_assoc) p4)
