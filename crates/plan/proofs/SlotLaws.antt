-- Laws of slots.
use Prim.Native.Nat.{ℕ, zero, suc, ◌+◌, ◌-◌, ◌≤◌, ◌<◌}
use mathlib.Core.Path.{◌≡◌, refl, ap, ap₂, ◌∙◌, sym}
use mathlib.Core.Bool.{Bool, true, false}
use mathlib.Core.List.{List, [], ◌∷◌, ◌++◌, append-nil, map, map-append}
use lib.ListN.{length, get_or, take, drop, length-append, length-drop, length-map, take-append-drop}
use lib.Seq.{paste, length-take-le, take-length, take_all, take-take, take-append_seam, drop-drop, drop-cons, drop_at}
use native.Mathlib.Omega.{arith}
use native.Mathlib.Nat.{zero-add}
use Rattle.octets.proofs.BoolLaws.{and_false, and_true, refuted}
use Rattle.octets.specs.Octets.{blank, same, Small}
use Rattle.octets.specs.Zeros.{is_blank}
use Rattle.octets.proofs.OctetLaws.{length_blank, drop_blank, small_take, small_drop}
use Rattle.octets.proofs.SameLaws.{same_eq, same_refl}
use Rattle.octets.proofs.ZeroLaws.{blank_eq}
use Rattle.names.specs.Standard.{lower, same_name, in_standard_form}
use Rattle.names.specs.Keys.{key_octets, walked}
use Rattle.names.specs.Name.{name_of}
use Rattle.names.specs.declared.Name.{Name}
use Rattle.names.proofs.KeyLaws.{same_keys_lem, same_lowered}
use Rattle.names.proofs.SameKeyLaws.{map_take, walk_found}
use Rattle.plan.specs.Layout.{name_room, slot_size, name_in, slot_of}
use Rattle.plan.specs.Check.{slot_good, slot_empty}
use Rattle.plan.specs.Good.{Holds}

-- two tests that imply each other
pub bool_iff : (a b : Bool) → (a ≡ true → b ≡ true) → (b ≡ true → a ≡ true) → a ≡ b
bool_iff true b f g = sym (f refl)
bool_iff false true f g = g refl
bool_iff false false f g = refl

-- the octets of a slot after the name
abbrev fill_in : List ℕ → List ℕ
fill_in s = drop (1 + get_or s 0 0) s

module _ (s : List ℕ) (l : length s ≡ slot_size) (o : get_or s 0 0 < 256) where
  pub name_length : length (name_in s) ≡ get_or s 0 0
  unfolding name_in
  name_length = length-take-le (get_or s 0 0) (drop 1 s) (rw (length-drop 1 s) (omega arith))

  fill_length : length (fill_in s) ≡ name_room - get_or s 0 0
  fill_length = length-drop (1 + get_or s 0 0) s ∙ omega arith

  -- a slot is its length, its name and its fill
  slot_parts : s ≡ get_or s 0 0 ∷ (name_in s ++ fill_in s)
  unfolding name_in
  slot_parts =
      drop-cons s 0 0 (omega arith)
      ∙ ap (λ (xs : List ℕ). get_or s 0 0 ∷ xs)
      (sym (take-append-drop (get_or s 0 0) (drop 1 s)) ∙ ap (λ (xs : List ℕ). take (get_or s 0 0) (drop 1 s) ++ xs) (drop-drop (get_or s 0 0) 1 s))

  fill_slot : is_blank (fill_in s) ≡ true → s ≡ slot_of (name_in s)
  unfolding slot_of
  fill_slot b =
      let e : fill_in s ≡ blank (name_room - get_or s 0 0) = blank_eq (fill_in s) b ∙ ap blank fill_length in
      slot_parts ∙ rw (e, name_length)

  slot_fill : s ≡ slot_of (name_in s) → is_blank (fill_in s) ≡ true
  unfolding slot_of is_blank
  slot_fill e =
      let p : fill_in s ≡ drop (1 + get_or s 0 0) (slot_of (name_in s)) = ap (drop (1 + get_or s 0 0)) e in
      let q : drop (1 + get_or s 0 0) (slot_of (name_in s)) ≡ blank (name_room - length (name_in s)) =
      drop_at (length (name_in s) ∷ name_in s) (blank (name_room - length (name_in s))) (1 + get_or s 0 0) (omega (arith, name_length)) in
      rw (p ∙ q, length_blank (name_room - length (name_in s))) (same_refl (blank (name_room - length (name_in s))))

  filled_same : same s (slot_of (name_in s)) ≡ is_blank (fill_in s)
  filled_same = bool_iff (same s (slot_of (name_in s))) (is_blank (fill_in s)) (λ h. slot_fill (same_eq s (slot_of (name_in s)) h)) (λ h. go (fill_slot h))
    where
      go : s ≡ slot_of (name_in s) → same s (slot_of (name_in s)) ≡ true
      go e = ap (same s) (sym e) ∙ same_refl s

  -- a slot holds a good name when its fill is zero and its name is in standard form
  pub slot_loose : is_blank (fill_in s) ≡ false → slot_good s ≡ false
  unfolding slot_good
  slot_loose b = rw (filled_same, b) (and_false (in_standard_form (name_in s)))

  pub slot_filled : is_blank (fill_in s) ≡ true → slot_good s ≡ in_standard_form (name_in s)
  unfolding slot_good
  slot_filled b = rw (filled_same, b) (and_true (in_standard_form (name_in s)))

pub name_small : (s : List ℕ) → Small s → Small (name_in s)
unfolding name_in
name_small s m = small_take (get_or s 0 0) (drop 1 s) (small_drop 1 s m)

pub slot_empty_lem : (s : List ℕ) → length s ≡ slot_size → is_blank s ≡ slot_empty s
unfolding is_blank slot_empty
slot_empty_lem s l = rw l

-- the slot that is made of a name
module _ (name : List ℕ) (h : length name ≤ name_room) where
  pub slot_size_lem : length (slot_of name) ≡ slot_size
  unfolding slot_of
  slot_size_lem = omega (arith, length-append name (blank (name_room - length name)), length_blank (name_room - length name))

  pub slot_written : paste (length name ∷ blank name_room) 1 (drop 0 name) (length name) ≡ slot_of name
  unfolding slot_of
  slot_written =
      let d : drop (1 + length name) (length name ∷ blank name_room) ≡ blank (name_room - length name) =
      sym (drop-drop (length name) 1 (length name ∷ blank name_room)) ∙ drop_blank (length name) name_room in
      rw (d, take-length name)

  name_written : paste (blank name_room) 0 (drop 0 name) (length name) ≡ name ++ blank (name_room - length name)
  name_written = rw (zero-add (length name), drop_blank (length name) name_room, take-length name)

-- the value that holds the name in a slot
pub name_held_lem : (s name octets : List ℕ) → length s ≡ slot_size → get_or s 0 0 < 256 → name ≡ name_in s → octets ≡ paste (blank name_room) 0 (drop 0 name) (length name)
    → ◌≡◌ {A = Name} (record { octets = octets; length = get_or s 0 0 }) (name_of (name_in s))
unfolding name_of
name_held_lem s name octets l o e h =
    let n = name_length s l o in
    let w : octets ≡ name_in s ++ blank (name_room - length (name_in s)) = h ∙ ap (λ (m : List ℕ). paste (blank name_room) 0 (drop 0 m) (length m)) e ∙ name_written (name_in s) (omega arith) in
    λ i. record { octets = w i; length = sym n i }

-- the slot of a name that is held by value
pub slot_copied : (x : ℕ) (xs : List ℕ) → length xs ≡ name_room → paste (x ∷ blank name_room) 1 (drop 0 xs) name_room ≡ x ∷ xs
unfolding blank
slot_copied x xs l = ap (λ (ys : List ℕ). x ∷ ys) (append-nil (take name_room xs) ∙ take_all name_room xs (omega arith))

pub name_made : (name : List ℕ) → name_in (slot_of name) ≡ name
unfolding name_in slot_of
name_made name = take-append_seam name (blank (name_room - length name))

pub holds_made : (name : List ℕ) → in_standard_form name ≡ true → Holds (slot_of name)
holds_made name h = let e = name_made name in record { name = rw e h; whole = rw e }

-- names that are the same in lower case: so are their lengths, and their slots
module _ (m n : List ℕ) (h : map lower m ≡ map lower n) where
  pub lowered_length : length m ≡ length n
  lowered_length = sym (length-map m lower) ∙ ap length h ∙ length-map n lower

  pub lowered_slot : map lower (slot_of m) ≡ map lower (slot_of n)
  unfolding slot_of
  lowered_slot = rw (map-append lower m (blank (name_room - length m)), map-append lower n (blank (name_room - length n)), h, lowered_length)

-- the name in a slot, found in its first octets, of which there are enough
drop_first : (n : ℕ) (xs : List ℕ) → drop 1 (take (suc n) xs) ≡ take n (drop 1 xs)
drop_first zero [] = refl
drop_first (suc n) [] = refl
drop_first n (x ∷ xs) = refl

name_within : (s : List ℕ) (k n : ℕ) → 1 + n ≤ k → drop 1 (take (1 + n) (take k s)) ≡ take n (drop 1 s)
name_within s k n h = let e : 1 + n ≡ suc n = omega arith in rw e (ap (drop 1) (take-take (suc n) k s (omega arith)) ∙ drop_first n s)

-- two slots whose names have one length: a walk over the labels of so many of their octets tells whether the names are the same
module _ (a b : List ℕ) (p : Holds a) (q : Holds b) (e : get_or a 0 0 ≡ get_or b 0 0) (k : ℕ) (h : 1 + get_or a 0 0 ≤ k) where
  slots_alike : same_name (name_in a) (name_in b) ≡ true → map lower (take k a) ≡ map lower (take k b)
  slots_alike s =
      let m : map lower a ≡ map lower b = ap (map lower) p.whole ∙ lowered_slot (name_in a) (name_in b) (same_lowered (name_in a) (name_in b) p.name q.name s) ∙ ap (map lower) (sym q.whole) in
      map_take k a ∙ ap (take k) m ∙ sym (map_take k b)

  -- the parts that are compared are the names
  part_a : drop 1 (take (1 + get_or a 0 0) (take k a)) ≡ name_in a
  unfolding name_in
  part_a = name_within a k (get_or a 0 0) h

  part_b : drop 1 (take (1 + get_or a 0 0) (take k b)) ≡ name_in b
  unfolding name_in
  part_b = name_within b k (get_or a 0 0) h ∙ ap (λ (n : ℕ). take n (drop 1 b)) e

  part_keys : same (key_octets (drop 1 (take (1 + get_or a 0 0) (take k a)))) (key_octets (drop 1 (take (1 + get_or a 0 0) (take k b)))) ≡ same_name (name_in a) (name_in b)
  part_keys = ap₂ (λ (x y : List ℕ). same (key_octets x) (key_octets y)) part_a part_b ∙ same_keys_lem (name_in a) (name_in b) p.name q.name

  pub slots_walked : walked (take k a) (take k b) (1 + get_or a 0 0) 1 ≡ same_name (name_in a) (name_in b)
  slots_walked = walk_found (take k a) (take k b) (1 + get_or a 0 0) 1 (λ s. slots_alike (sym part_keys ∙ s)) ∙ part_keys

-- slots whose names have other lengths hold other names
pub slots_unlike : (a b : List ℕ) → length a ≡ slot_size → length b ≡ slot_size → get_or a 0 0 < 256 → get_or b 0 0 < 256 → Holds a → Holds b → (get_or a 0 0 ≡ get_or b 0 0 → ⊥)
    → same_name (name_in a) (name_in b) ≡ false
slots_unlike a b m n o u p q h =
    refuted (same_name (name_in a) (name_in b)) (λ s. h (sym (name_length a m o) ∙ lowered_length (name_in a) (name_in b) (same_lowered (name_in a) (name_in b) p.name q.name s) ∙ name_length b n u))
