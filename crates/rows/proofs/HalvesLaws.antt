-- Addresses in two halves: they are the octets that were read, their order is that of the numbers, and joining them is joining addresses.
use Rattle.std.proofs.Common.{◌≡◌, ℕ, zero, suc, ◌+◌, ◌-◌, ◌*◌, ◌/◌, ◌%◌, ◌^◌, ◌<◌, ◌≤◌, Bool, true, false, ◌&&◌, eqb, leb, List, [], ◌++◌, length, take, drop, sym, refl, ap, ◌∙◌, append_assoc, append-nil, mod-lt, mod-eq_of_lt, arith, length-append, length-drop, length-take, drop-drop, take_at, take-add, drop_at, pow_pos, pow-add, shr_lt, eqb-true, le-leb, leb-false, leb-true}
use lib.Arith.{digits_lt}
use lib.Pow.{high, low}
use lib.Seq.{take-append-add, drop-append-add}
use borrow.Author.Tests.{lt-leb, eqb-false}
use Rattle.octets.specs.Octets.{Small}
use Rattle.bits.specs.Bits.{bits_of, pack_from, pack}
use Rattle.bits.specs.Packing.{Bits}
use Rattle.octets.proofs.BoolLaws.{refuted}
use Rattle.octets.proofs.OctetLaws.{small_take, small_drop}
use Rattle.bits.proofs.BitLaws.{bits_length, bits_split, pack_full}
use Rattle.bits.proofs.PackingLaws.{unpack_pack, bits_append, bits_bits, bits_mod}
use Rattle.std.specs.declared.cmp.Ordering.TheVariants.{Less}
use Rattle.address.specs.Address.{bits, join_of}
use Rattle.address.specs.Picture.{mix, join_octets}
use Rattle.address.specs.Order.{order_of}
use Rattle.octets.specs.Numbers.{value_of, octets_of}
use Rattle.octets.proofs.NumberLaws.{value_append, octets_length, octets_small, value_octets_lem, octets_value}
use Rattle.octets.proofs.SmallLaws.{small_append}
use Rattle.address.proofs.JoinLaws.{picture}
use Rattle.address.proofs.OrderLaws.{value_precedes, precedes_value, same_equal, equal_same}
use Rattle.rows.specs.declared.inside.Halves.{Halves}
use Rattle.rows.specs.Halves.{address_of, whole, join_halves}
use Rattle.rows.specs.Rows.{is_same}
use Rattle.rows.proofs.RowsLaws.{is_same_lem}

-- ---- bits of numbers
-- only the lowest k bits count
bits_low : (k x y : ℕ) → x % 2 ^ k ≡ y % 2 ^ k → bits_of k x ≡ bits_of k y
bits_low k x y h = bits_mod k k x (omega arith) ∙ ap (bits_of k) h ∙ sym (bits_mod k k y (omega arith))

module _ (j k : ℕ) where
  take_bits : (x : ℕ) → take j (bits_of (j + k) x) ≡ bits_of j (x / 2 ^ k)
  take_bits x = ap (take j) (bits_split j k x) ∙ take_at (bits_of j (x / 2 ^ k)) (bits_of k x) j (bits_length j (x / 2 ^ k))

  drop_bits : (x : ℕ) → drop j (bits_of (j + k) x) ≡ bits_of k x
  drop_bits x = ap (drop j) (bits_split j k x) ∙ drop_at (bits_of j (x / 2 ^ k)) (bits_of k x) j (bits_length j (x / 2 ^ k))

  -- the first j bits of one number and the last k of another
  mixed_bits : (x y : ℕ) → bits_of (j + k) (x / 2 ^ k * 2 ^ k + y % 2 ^ k) ≡ bits_of j (x / 2 ^ k) ++ bits_of k y
  mixed_bits x y =
      let l : y % 2 ^ k < 2 ^ k = mod-lt y (pow_pos k) in
      bits_split j k (x / 2 ^ k * 2 ^ k + y % 2 ^ k)
      ∙ rw (high (x / 2 ^ k) k l, bits_low k (x / 2 ^ k * 2 ^ k + y % 2 ^ k) y (low (x / 2 ^ k) k l))

-- ---- the bits of octets
octets_pack : (n v : ℕ) (rest : List ℕ) → pack_from 0 0 (bits_of (8 * n) v ++ rest) ≡ octets_of n v ++ pack_from 0 0 rest
unfolding octets_of bits_of
octets_pack zero v rest = refl
octets_pack (suc n) v rest =
    let e : 8 * suc n ≡ 8 + 8 * n = omega arith in
    let x = v / 2 ^ (8 * n) in
    let z : 0 * 2 ^ 8 + x % 2 ^ 8 ≡ x % 256 = omega arith in
    rw (e, bits_split 8 (8 * n) v, append_assoc (bits_of 8 x) (bits_of (8 * n) v) rest)
    (pack_full 7 0 0 x (bits_of (8 * n) v ++ rest) refl ∙ rw (z, octets_pack n v rest))

address_pack : (h l : ℕ) → address_of h l ≡ pack (bits_of 64 h ++ bits_of 64 l)
unfolding address_of pack pack_from
address_pack h l =
    sym (octets_pack 8 h (bits_of 64 l) ∙ ap (λ (ys : List ℕ). octets_of 8 h ++ pack_from 0 0 ys) (sym (append-nil (bits_of 64 l)))
    ∙ ap (λ (ys : List ℕ). octets_of 8 h ++ ys) (octets_pack 8 l [] ∙ append-nil (octets_of 8 l)))

bits_pack : (bs : List ℕ) → length bs ≡ 128 → Bits bs → bits (pack bs) ≡ bs
unfolding bits pack
bits_pack bs n b = let u = unpack_pack 128 bs (omega arith) b [] in rw (n, append-nil (pack_from 0 0 bs)) at u

address_bits : (h l : ℕ) → bits (address_of h l) ≡ bits_of 64 h ++ bits_of 64 l
address_bits h l =
    ap bits (address_pack h l)
    ∙ bits_pack (bits_of 64 h ++ bits_of 64 l) (omega (arith, length-append (bits_of 64 h) (bits_of 64 l), bits_length 64 h, bits_length 64 l))
    (bits_append (bits_of 64 h) (bits_of 64 l) (bits_bits 64 h) (bits_bits 64 l))

-- ---- joining halves is joining addresses
join_is : (x y : List ℕ) (at : ℕ) → join_of x y at ≡ pack (take at (bits x) ++ drop at (bits y))
unfolding join_of
join_is x y at = refl

module _ (a b h l at : ℕ) where
  join_first : at ≤ 64 → join_of (address_of a b) (address_of h l) at ≡ address_of (mix 64 at a h) l
  join_first p =
      let k = 64 - at in
      let e : 64 ≡ at + k = omega arith in
      let t : take at (bits_of 64 a ++ bits_of 64 b) ≡ bits_of at (a / 2 ^ k) =
      ap (λ (n : ℕ). take at (bits_of n a ++ bits_of 64 b)) e
      ∙ ap (λ (xs : List ℕ). take at (xs ++ bits_of 64 b)) (bits_split at k a)
      ∙ ap (take at) (append_assoc (bits_of at (a / 2 ^ k)) (bits_of k a) (bits_of 64 b))
      ∙ take_at (bits_of at (a / 2 ^ k)) (bits_of k a ++ bits_of 64 b) at (bits_length at (a / 2 ^ k)) in
      let d : drop at (bits_of 64 h ++ bits_of 64 l) ≡ bits_of k h ++ bits_of 64 l =
      ap (λ (n : ℕ). drop at (bits_of n h ++ bits_of 64 l)) e
      ∙ ap (λ (xs : List ℕ). drop at (xs ++ bits_of 64 l)) (bits_split at k h)
      ∙ ap (drop at) (append_assoc (bits_of at (h / 2 ^ k)) (bits_of k h) (bits_of 64 l))
      ∙ drop_at (bits_of at (h / 2 ^ k)) (bits_of k h ++ bits_of 64 l) at (bits_length at (h / 2 ^ k)) in
      join_is (address_of a b) (address_of h l) at
      ∙ (λ i. pack ((ap (take at) (address_bits a b) ∙ t) i ++ (ap (drop at) (address_bits h l) ∙ d) i))
      ∙ ap pack (sym (append_assoc (bits_of at (a / 2 ^ k)) (bits_of k h) (bits_of 64 l)) ∙ ap (λ (xs : List ℕ). xs ++ bits_of 64 l) (sym (mixed_bits at k a h)))
      ∙ ap (λ (n : ℕ). pack (bits_of n (mix 64 at a h) ++ bits_of 64 l)) (sym e)
      ∙ sym (address_pack (mix 64 at a h) l)

  join_last : 64 ≤ at → at ≤ 128 → join_of (address_of a b) (address_of h l) at ≡ address_of a (mix 64 (at - 64) b l)
  join_last p q =
      let j = at - 64 in
      let k = 64 - j in
      let e : 64 ≡ j + k = omega arith in
      let m : at ≡ 64 + j = omega arith in
      let t : take at (bits_of 64 a ++ bits_of 64 b) ≡ bits_of 64 a ++ bits_of j (b / 2 ^ k) =
      ap (λ (n : ℕ). take n (bits_of 64 a ++ bits_of 64 b)) (m ∙ ap (λ (n : ℕ). n + j) (sym (bits_length 64 a)))
      ∙ take-append-add (bits_of 64 a) (bits_of 64 b) j
      ∙ ap (λ (n : ℕ). bits_of 64 a ++ take j (bits_of n b)) e
      ∙ ap (λ (xs : List ℕ). bits_of 64 a ++ xs) (take_bits j k b) in
      let d : drop at (bits_of 64 h ++ bits_of 64 l) ≡ bits_of k l =
      ap (λ (n : ℕ). drop n (bits_of 64 h ++ bits_of 64 l)) (m ∙ ap (λ (n : ℕ). n + j) (sym (bits_length 64 h)))
      ∙ drop-append-add (bits_of 64 h) (bits_of 64 l) j
      ∙ ap (λ (n : ℕ). drop j (bits_of n l)) e
      ∙ drop_bits j k l in
      join_is (address_of a b) (address_of h l) at
      ∙ (λ i. pack ((ap (take at) (address_bits a b) ∙ t) i ++ (ap (drop at) (address_bits h l) ∙ d) i))
      ∙ ap pack (append_assoc (bits_of 64 a) (bits_of j (b / 2 ^ k)) (bits_of k l) ∙ ap (λ (xs : List ℕ). bits_of 64 a ++ xs) (sym (mixed_bits j k b l)))
      ∙ ap (λ (n : ℕ). pack (bits_of 64 a ++ bits_of n (mix 64 j b l))) (sym e)
      ∙ sym (address_pack a (mix 64 j b l))

-- the joined halves of two addresses, up to 64 and past it
module _ (at : ℕ) (x y : ℕ × ℕ) where
  pub halves_first : at ≤ 64 → join_halves at x y ≡ (mix 64 at x.0 y.0, y.1)
  unfolding join_halves
  halves_first p = rw (join_halves, le-leb at 64 p)

  pub halves_last : 64 < at → join_halves at x y ≡ (x.0, mix 64 (at - 64) x.1 y.1)
  unfolding join_halves
  halves_last p = rw (join_halves, lt-leb at 64 p)

  -- Theorem: the search's join of halves is the one join: its octets are those of `join_of`, at each position from 0 to 128
  pub halves_join : at ≤ 128 → address_of (join_halves at x y).0 (join_halves at x y).1 ≡ join_of (address_of x.0 x.1) (address_of y.0 y.1) at
  halves_join p = go (leb at 64) refl
    where
      go : (t : Bool) → leb at 64 ≡ t → address_of (join_halves at x y).0 (join_halves at x y).1 ≡ join_of (address_of x.0 x.1) (address_of y.0 y.1) at
      go true e = let q = leb-true at 64 e in rw (halves_first q) (sym (join_first x.0 x.1 y.0 y.1 at q))
      go false e =
          let q = leb-false at 64 e in
          rw (halves_last q) (sym (join_last x.0 x.1 y.0 y.1 at (omega arith) p))

-- ---- an address in memory, and its halves
pub address_length : (h l : ℕ) → length (address_of h l) ≡ 16
unfolding address_of
address_length h l = length-append (octets_of 8 h) (octets_of 8 l) ∙ omega (arith, octets_length 8 h, octets_length 8 l)

pub address_small : (h l : ℕ) → Small (address_of h l)
unfolding address_of
address_small h l = small_append (octets_of 8 h) (octets_of 8 l) (octets_small 8 h) (octets_small 8 l)

-- Theorem: both joins that run are one: the octets of joined halves are the picture, which `address::join` gives
pub halves_picture : (at : ℕ) (x y : ℕ × ℕ) → at ≤ 128 → address_of (join_halves at x y).0 (join_halves at x y).1 ≡ join_octets at (address_of x.0 x.1) (address_of y.0 y.1)
halves_picture at x y p =
    halves_join at x y p
    ∙ sym (picture (address_of x.0 x.1) (address_of y.0 y.1) at (address_length x.0 x.1) (address_length y.0 y.1) (address_small x.0 x.1) p (address_small y.0 y.1))

module _ (o : List ℕ) (at : ℕ) (n : at + 16 ≤ length o) (s : Small o) where
  abbrev first : List ℕ
  first = take 8 (drop at o)

  abbrev last : List ℕ
  last = take 8 (drop (at + 8) o)

  first_length : length first ≡ 8
  first_length = omega (arith, length-take 8 (drop at o), length-drop at o)

  last_length_lem : length last ≡ 8
  last_length_lem = omega (arith, length-take 8 (drop (at + 8) o), length-drop (at + 8) o)

  first_small : Small first
  first_small = small_take 8 (drop at o) (small_drop at o s)

  last_small : Small last
  last_small = small_take 8 (drop (at + 8) o) (small_drop (at + 8) o s)

  two : take 16 (drop at o) ≡ first ++ last
  two = take-add 8 8 (drop at o) ∙ ap (λ (xs : List ℕ). first ++ take 8 xs) (drop-drop 8 at o)

  pub halves : address_of (value_of first) (value_of last) ≡ take 16 (drop at o)
  unfolding address_of
  halves =
      sym (two ∙ λ i. (sym (octets_value first first_small) ∙ ap (λ (n : ℕ). octets_of n (value_of first)) first_length) i
      ++ (sym (octets_value last last_small) ∙ ap (λ (n : ℕ). octets_of n (value_of last)) last_length_lem) i)

-- ---- the order is that of the numbers
abbrev Fits64 : Halves → Type 0
Fits64 x = (x.high < 2 ^ 64) × (x.low < 2 ^ 64)

whole_value : (x : Halves) → Fits64 x → value_of (whole x) ≡ x.high * 2 ^ 64 + x.low
unfolding address_of
whole_value x f =
    value_append (octets_of 8 x.high) (octets_of 8 x.low)
    ∙ rw (octets_length 8 x.low, value_octets_lem 8 x.high, value_octets_lem 8 x.low, mod-eq_of_lt f.0, mod-eq_of_lt f.1)

module _ (x y : Halves) (f : Fits64 x) (g : Fits64 y) where
  lengths : length (whole x) ≡ length (whole y)
  lengths = address_length x.high x.low ∙ sym (address_length y.high y.low)

  pub whole_before : x.high * 2 ^ 64 + x.low < y.high * 2 ^ 64 + y.low → order_of (whole x) (whole y) ≡ Less
  whole_before p =
      value_precedes (whole x) (whole y) lengths (address_small x.high x.low) (address_small y.high y.low) (omega (arith, whole_value x f, whole_value y g))

  pub before_whole : order_of (whole x) (whole y) ≡ Less → x.high * 2 ^ 64 + x.low < y.high * 2 ^ 64 + y.low
  before_whole p =
      let v = precedes_value (whole x) (whole y) lengths (address_small x.high x.low) (address_small y.high y.low) p in
      omega (arith, v, whole_value x f, whole_value y g)

  -- two addresses are the same where both halves are, and only there
  pub whole_same : is_same (order_of (whole x) (whole y)) ≡ true → (x.high ≡ y.high) × (x.low ≡ y.low)
  whole_same e =
      let v = ap value_of (same_equal (whole x) (whole y) (is_same_lem (order_of (whole x) (whole y)) e)) in
      let p : x.high ≡ y.high = omega (arith, v, whole_value x f, whole_value y g) in
      (p, omega (arith, v, p, whole_value x f, whole_value y g))

  pub whole_tells : (eqb x.high y.high && eqb x.low y.low) ≡ is_same (order_of (whole x) (whole y))
  whole_tells = go (eqb x.high y.high) (eqb x.low y.low) refl refl
    where
      go : (a b : Bool) → eqb x.high y.high ≡ a → eqb x.low y.low ≡ b → (a && b) ≡ is_same (order_of (whole x) (whole y))
      go true true p q = sym (ap is_same (equal_same (whole x) (whole y) (λ i. address_of (eqb-true x.high y.high p i) (eqb-true x.low y.low q i))))
      go true false p q = sym (refuted _ (λ e. eqb-false x.low y.low q (whole_same e).1))
      go false b p q = sym (refuted _ (λ e. eqb-false x.high y.high p (whole_same e).0))

-- ---- bits of one number above k, and of another below
pub mixed_lt : (x y k : ℕ) → k < 64 → x < 2 ^ 64 → x / 2 ^ k * 2 ^ k + y % 2 ^ k < 2 ^ 64
mixed_lt x y k h l =
    let e : 64 - k + k ≡ 64 = omega arith in
    let p : 2 ^ 64 ≡ 2 ^ (64 - k) * 2 ^ k = ap (λ (n : ℕ). 2 ^ n) (sym e) ∙ pow-add 2 (64 - k) k in
    let q : x < 2 ^ (64 - k + k) = rw e l in
    rw p (digits_lt (shr_lt (64 - k) k q) (mod-lt y (pow_pos k)))
