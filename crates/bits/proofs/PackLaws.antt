-- Laws of bits packed into a lent output.
use Prim.Native.Nat.{ℕ, suc, ◌+◌, ◌-◌, ◌*◌, ◌/◌, ◌%◌, ◌^◌, ◌≤◌, ◌<◌, min}
use mathlib.Core.Path.{◌≡◌, ap, ◌∙◌, sym}
use mathlib.Core.List.{List, [], ◌∷◌, ◌++◌, append_assoc, append-nil}
use lib.ListN.{length, get_or, take, drop, set, length-set, length-append}
use lib.Seq.{drop-set-lt, take-suc-set, drop-drop, drop-cons, append_snoc}
use lib.Pow.{pow_pos, pow-add, pow_mono, shr_lt, shl_exact}
use lib.Arith.{digits_lt}
use native.Mathlib.Omega.{arith}
use native.Mathlib.Nat.{mod-lt}
use native.Mathlib.Numerals.{add-one}
use borrow.Author.Tests.{ne_eqb, eq-eqb}
use Rattle.octets.specs.Octets.{blank}
use Rattle.bits.specs.Bits.{bits_of, octets_for, unpack, pack_from}
use Rattle.octets.proofs.OctetLaws.{drop_blank}
use Rattle.bits.specs.Packing.{Clean, Ready, Pushed, Flushed}
use Rattle.bits.specs.declared.inside.Packer.{Packer}
use Rattle.bits.proofs.BitLaws.{bits_length, push_part, push_full, unpack_zero, unpack_octet, unpack_length}

pub clean_drop : (out : List ℕ) (to k : ℕ) → Clean out to → drop (to + k) out ≡ blank (length out - (to + k))
clean_drop out to k c =
    let e : length out - to - k ≡ length out - (to + k) = omega arith in
    sym (drop-drop k to out) ∙ ap (drop k) c ∙ drop_blank k (length out - to) ∙ ap blank e

pub clean_more : (out : List ℕ) (to v : ℕ) → Clean out to → Clean (set out to v) (to + 1)
clean_more out to v c = rw (length-set out to v) (drop-set-lt (to + 1) out to v (omega arith) ∙ clean_drop out to 1 c)

pub take_more : (out : List ℕ) (to v : ℕ) → to < length out → take (to + 1) (set out to v) ≡ take to out ++ (v ∷ [])
take_more out to v h = rw add-one (take-suc-set out to v h)

abbrev pub packer : ℕ → ℕ → ℕ → Packer
packer to have value = record { to = to; have = have; value = value }

pub part_value : (h m v x : ℕ) → v < 2 ^ h → x < 2 ^ m → v * 2 ^ m + x < 2 ^ (h + m)
part_value h m v x a b = rw (pow-add 2 h m) (digits_lt a b)

pub full_value : (h m v x : ℕ) → h < 8 → m ≤ 8 → 8 ≤ h + m → v < 2 ^ h → x < 2 ^ m → v * 2 ^ (8 - h) + x / 2 ^ (h + m - 8) < 256
full_value h m v x p q r a b =
    let e : m ≡ (8 - h) + (h + m - 8) = omega arith in
    let w : x < 2 ^ ((8 - h) + (h + m - 8)) = rw (← e) b in
    let z : x / 2 ^ (h + m - 8) < 2 ^ (8 - h) = shr_lt (8 - h) (h + m - 8) w in
    let g : h + (8 - h) ≡ 8 = omega arith in
    rw g at (part_value h (8 - h) v (x / 2 ^ (h + m - 8)) a z)

pub pushed_part : (out : List ℕ) (p : Packer) (m x : ℕ) → Ready out p m → p.have + m < 8 → x < 2 ^ m
    → Pushed out out p (packer p.to (p.have + m) (p.value * 2 ^ m + x)) (bits_of m x)
pushed_part out p m x r h l =
    let n = bits_length m x in
    record {
      adds = λ rest. ap (λ (ys : List ℕ). take p.to out ++ ys) (sym (push_part m p.have p.value x rest h l));
      clean = r.clean;
      have = h;
      value = part_value p.have m p.value x r.value l;
      place = omega arith;
    }

pub pushed_full : (out : List ℕ) (p : Packer) (m x w : ℕ) → Ready out p m → m ≤ 8 → 8 ≤ p.have + m → x < 2 ^ m
    → w ≡ p.value * 2 ^ (8 - p.have) + x / 2 ^ (p.have + m - 8)
    → Pushed out (set out p.to w) p (packer (p.to + 1) (p.have + m - 8) (x % 2 ^ (p.have + m - 8))) (bits_of m x)
pushed_full out p m x w r q h l e =
    let n = bits_length m x in
    let k = p.have + m - 8 in
    let i : p.to < length out = omega (arith, r.room, r.have) in
    record {
      adds = λ rest. ap (λ (ys : List ℕ). ys ++ pack_from k (x % 2 ^ k) rest) (take_more out p.to w i)
          ∙ append_snoc (take p.to out) w (pack_from k (x % 2 ^ k) rest)
          ∙ ap (λ (y : ℕ). take p.to out ++ (y ∷ pack_from k (x % 2 ^ k) rest)) e
          ∙ ap (λ (ys : List ℕ). take p.to out ++ ys) (sym (push_full m p.have p.value x rest r.have q h l));
      clean = clean_more out p.to w r.clean;
      have = omega (arith, r.have);
      value = mod-lt x (pow_pos k);
      place = omega (arith, r.have);
    }

pub pushed_then : (a b c : List ℕ) (p q r : Packer) (xs ys : List ℕ) → Pushed a b p q xs → Pushed b c q r ys → Pushed a c p r (xs ++ ys)
pushed_then a b c p q r xs ys f g =
    let n = length-append xs ys in
    record {
      adds = λ rest. g.adds rest ∙ f.adds (ys ++ rest) ∙ ap (λ (zs : List ℕ). take p.to a ++ pack_from p.have p.value zs) (sym (append_assoc xs ys rest));
      clean = g.clean;
      have = g.have;
      value = g.value;
      place = omega (arith, f.place, g.place);
    }

-- a turn of the loop over a label's octets, and its last octet
pub unpack_turn : (name : List ℕ) (i n : ℕ) → i < length name → 8 ≤ n → unpack n (drop i name) ≡ bits_of 8 (get_or name i 0) ++ unpack (n - 8) (drop (i + 1) name)
unpack_turn name i n h k =
    rw (drop-cons name i 0 h, add-one i) (unpack_octet n (get_or name i 0) (drop (suc i) name) k)

pub unpack_last : (name : List ℕ) (i n : ℕ) → i < length name → n < 8 → unpack n (drop i name) ≡ bits_of n (get_or name i 0 / 2 ^ (8 - n))
unfolding unpack
unpack_last name i n h k =
    let m : min 8 n ≡ n = omega arith in
    let z : n - 8 ≡ 0 = omega arith in
    rw (drop-cons name i 0 h, unpack, m, z, unpack_zero (drop (suc i) name)) (append-nil (bits_of n (get_or name i 0 / 2 ^ (8 - n))))

pub last_small : (x n : ℕ) → x < 256 → n < 8 → x / 2 ^ (8 - n) < 2 ^ n
last_small x n h k =
    let e : n + (8 - n) ≡ 8 = omega arith in
    shr_lt n (8 - n) (rw e h)

pub flushed_none : (out : List ℕ) (p : Packer) → Ready out p 0 → p.have ≡ 0 → Flushed out out p p.to
unfolding pack_from
flushed_none out p r e =
    record {
      whole = rw (pack_from, eq-eqb p.have 0 e) (sym (append-nil (take p.to out)));
      clean = r.clean;
      place = omega arith;
    }

pub flushed_some : (out : List ℕ) (p : Packer) (w : ℕ) → Ready out p 0 → (p.have ≡ 0 → ⊥) → w ≡ p.value * 2 ^ (8 - p.have) → Flushed out (set out p.to w) p (p.to + 1)
unfolding pack_from
flushed_some out p w r e v =
    let i : p.to < length out = omega (arith, r.room, r.have, e) in
    record {
      whole = take_more out p.to w i ∙ rw (pack_from, ne_eqb p.have 0 e, v);
      clean = clean_more out p.to w r.clean;
      place = omega (arith, r.have, e);
    }

-- the same in the figures of the code
pub shifted : (h m v : ℕ) → h < 8 → m ≤ 8 → v < 2 ^ h → (v * 2 ^ m) % 18446744073709551616 ≡ v * 2 ^ m
shifted h m v p q l = shl_exact h m 64 l (omega arith)

pub part_small : (h m v x : ℕ) → h + m ≤ 8 → v < 2 ^ h → x < 2 ^ m → v * 2 ^ m + x < 256
part_small h m v x p a b = let k : 2 ^ (h + m) ≤ 2 ^ 8 = pow_mono p in omega (arith, part_value h m v x a b)

pub flush_small : (h v : ℕ) → h < 8 → v < 2 ^ h → v * 2 ^ (8 - h) < 256
flush_small h v p a = let b = part_small h (8 - h) v 0 (omega arith) a (pow_pos (8 - h)) in omega arith

pub part_done : (out : List ℕ) (p : Packer) (m x v : ℕ) → Ready out p m → p.have + m < 8 → x < 2 ^ m → v ≡ p.value * 2 ^ m + x
    → Pushed out out p (packer p.to (p.have + m) v) (bits_of m x)
part_done out p m x v r h l e = rw e (pushed_part out p m x r h l)

pub full_done : (out : List ℕ) (p : Packer) (m x w v : ℕ) → Ready out p m → m ≤ 8 → 8 ≤ p.have + m → x < 2 ^ m
    → w ≡ p.value * 2 ^ (8 - p.have) + x / 2 ^ (p.have + m - 8) → v ≡ x % 2 ^ (p.have + m - 8)
    → Pushed out (set out p.to w) p (packer (p.to + 1) (p.have + m - 8) v) (bits_of m x)
full_done out p m x w v r q h l e f = rw f (pushed_full out p m x w r q h l e)

-- what is left of a label's bits, whatever comes after them, gives what the whole would give
abbrev pub Level : List ℕ → List ℕ → Packer → Packer → List ℕ → List ℕ → Type 0
Level old new p q xs ys = (rest : List ℕ) → take q.to new ++ pack_from q.have q.value (ys ++ rest) ≡ take p.to old ++ pack_from p.have p.value (xs ++ rest)

pub level_push : (old new next : List ℕ) (p q r : Packer) (xs ys zs bs : List ℕ) → Level old new p q xs ys → Pushed new next q r bs → ys ≡ bs ++ zs → Level old next p r xs zs
level_push old new next p q r xs ys zs bs l h e rest =
    h.adds (zs ++ rest)
    ∙ ap (λ (ws : List ℕ). take q.to new ++ pack_from q.have q.value ws) (sym (append_assoc bs zs rest) ∙ ap (λ (ws : List ℕ). ws ++ rest) (sym e))
    ∙ l rest

level_done : (old new : List ℕ) (p q : Packer) (xs : List ℕ) (n : ℕ) → Level old new p q xs [] → Ready new q n → q.to * 8 + q.have ≡ p.to * 8 + p.have + length xs → Pushed old new p q xs
level_done old new p q xs n l r e = record { adds = l; clean = r.clean; have = r.have; value = r.value; place = e }

pub ready_after : (old new : List ℕ) (p q : Packer) (bs : List ℕ) (n : ℕ) → Pushed old new p q bs → length new ≡ length old → Ready old p (length bs + n) → Ready new q n
ready_after old new p q bs n h e r = record { clean = h.clean; have = h.have; value = h.value; room = omega (arith, h.place, r.room) }

pub ready_less : (out : List ℕ) (p : Packer) (m n : ℕ) → m ≤ n → Ready out p n → Ready out p m
ready_less out p m n h r = record { clean = r.clean; have = r.have; value = r.value; room = omega (arith, r.room) }

-- the loop over octets that bits are packed from: what it keeps after i of them
pub record Appending (src old new : List ℕ) (n : ℕ) (p q : Packer) (i : ℕ) : Type 0 where
  pub level : Level old new p q (unpack n src) (unpack (n - 8 * i) (drop i src))
  pub ready : Ready new q (n - 8 * i)
  pub place : q.to * 8 + q.have + (n - 8 * i) ≡ p.to * 8 + p.have + n
  pub same : length new ≡ length old

module _ (src old new : List ℕ) (n : ℕ) (p q : Packer) (i : ℕ) (long : octets_for n ≤ length src) (a : Appending src old new n p q i) where
  pub appending_turn : (next : List ℕ) (r : Packer) → i < n / 8 → Pushed new next q r (bits_of 8 (get_or src i 0)) → length next ≡ length new → Appending src old next n p r (i + 1)
  appending_turn next r h s l =
      let b = bits_length 8 (get_or src i 0) in
      let e : n - 8 * i - 8 ≡ n - 8 * (i + 1) = omega arith in
      record {
        level = level_push old new next p q r (unpack n src) (unpack (n - 8 * i) (drop i src)) (unpack (n - 8 * (i + 1)) (drop (i + 1) src)) (bits_of 8 (get_or src i 0)) a.level s
            (unpack_turn src i (n - 8 * i) (omega arith) (omega arith) ∙ rw e);
        ready = ready_after new next q r (bits_of 8 (get_or src i 0)) (n - 8 * (i + 1)) s l
            (ready_less new q (length (bits_of 8 (get_or src i 0)) + (n - 8 * (i + 1))) (n - 8 * i) (omega arith) a.ready);
        place = omega (arith, a.place, s.place);
        same = l ∙ a.same;
      }

  pub appending_none : i ≡ n / 8 → n % 8 ≡ 0 → Pushed old new p q (unpack n src)
  appending_none h k =
      let b = unpack_length n src (omega arith) in
      let z : n - 8 * i ≡ 0 = omega arith in
      let l : Level old new p q (unpack n src) [] = rw (z, unpack_zero (drop i src)) at a.level in
      level_done old new p q (unpack n src) (n - 8 * i) l a.ready (omega (arith, a.place))

  pub appending_last : (next : List ℕ) (r : Packer) → i ≡ n / 8 → (n % 8 ≡ 0 → ⊥) → Pushed new next q r (bits_of (n % 8) (get_or src (n / 8) 0 / 2 ^ (8 - n % 8)))
      → Pushed old next p r (unpack n src)
  appending_last next r h k f =
      let s = rw (← h) at f in
      let b = unpack_length n src (omega arith) in
      let m = n % 8 in
      let d = bits_length m (get_or src i 0 / 2 ^ (8 - m)) in
      let z : n - 8 * i ≡ m = omega arith in
      let v = level_push old new next p q r (unpack n src) (unpack (n - 8 * i) (drop i src)) [] (bits_of m (get_or src i 0 / 2 ^ (8 - m))) a.level s
      (rw z (unpack_last src i m (omega arith) (omega arith)) ∙ sym (append-nil (bits_of m (get_or src i 0 / 2 ^ (8 - m))))) in
      record { adds = v; clean = s.clean; have = s.have; value = s.value; place = omega (arith, a.place, s.place) }
