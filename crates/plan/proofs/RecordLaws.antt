-- Laws of a record's fields: how long they are, and a record made of them.
use Prim.Native.Nat.{ℕ, ◌+◌, ◌-◌, ◌*◌, ◌/◌, ◌%◌, ◌^◌, ◌≤◌, ◌<◌}
use mathlib.Core.Path.{◌≡◌, refl, ap, ◌∙◌, sym}
use mathlib.Core.List.{List, ◌∷◌, ◌++◌, append_assoc}
use lib.ListN.{length, get_or, take, drop, length-append, length-take, length-drop, take-append-drop}
use lib.Seq.{length-take-le, get_or-take, take_at, drop_at, take_all, drop-cons, drop-drop}
use native.Mathlib.Omega.{arith}
use Rattle.octets.specs.Octets.{Small}
use Rattle.octets.specs.Numbers.{value_of, octets_of}
use Rattle.octets.proofs.NumberLaws.{octets_length, value_octets_all, octets_value}
use Rattle.octets.proofs.OctetLaws.{small_take, small_drop, take_drop_take}
use Rattle.plan.specs.Layout.{
  record_size,
  address_size,
  name_room,
  slot_size,
  ttl_size,
  address_place,
  owner_place,
  target_place,
  ttl_place,
  type_of,
  prefix_of,
  zero_of,
  address_of,
  owner_slot,
  target_slot,
  ttl_of,
  name_in,
  owner_of,
  record_of,
}

field_length : (r : List ℕ) (place size : ℕ) → place + size ≤ length r → length (take size (drop place r)) ≡ size
field_length r place size h = length-take-le size (drop place r) (rw (length-drop place r) (omega arith))

module _ (r : List ℕ) (l : length r ≡ record_size) where
  pub address_length : length (address_of r) ≡ address_size
  unfolding address_of
  address_length = field_length r address_place address_size (omega arith)

  pub owner_length : length (owner_slot r) ≡ slot_size
  unfolding owner_slot
  owner_length = field_length r owner_place slot_size (omega arith)

  pub target_length : length (target_slot r) ≡ slot_size
  unfolding target_slot
  target_length = field_length r target_place slot_size (omega arith)

module _ (r : List ℕ) (s : Small r) where
  pub address_small : Small (address_of r)
  unfolding address_of
  address_small = small_take address_size (drop address_place r) (small_drop address_place r s)

  pub owner_small : Small (owner_slot r)
  unfolding owner_slot
  owner_small = small_take slot_size (drop owner_place r) (small_drop owner_place r s)

  pub target_small : Small (target_slot r)
  unfolding target_slot
  target_small = small_take slot_size (drop target_place r) (small_drop target_place r s)

-- a name in a slot has no more octets than the slot has room for
pub owner_short : (r : List ℕ) → length (owner_of r) ≤ name_room
unfolding name_in owner_slot
owner_short r =
    let s = owner_slot r in
    let a = length-take (get_or s 0 0) (drop 1 s) in
    let b = length-drop 1 s in
    let d = length-take slot_size (drop owner_place r) in
    omega arith

-- all fields but the TTL stand before it
module _ (r s : List ℕ) (e : take ttl_place r ≡ take ttl_place s) where
  octet_front : (i : ℕ) → i < ttl_place → get_or r i 0 ≡ get_or s i 0
  octet_front i h = sym (get_or-take ttl_place r i 0 h) ∙ ap (λ (l : List ℕ). get_or l i 0) e ∙ get_or-take ttl_place s i 0 h

  part_front : (n k : ℕ) → k + n ≤ ttl_place → take n (drop k r) ≡ take n (drop k s)
  part_front n k h = sym (take_drop_take n k ttl_place r h) ∙ ap (λ (l : List ℕ). take n (drop k l)) e ∙ take_drop_take n k ttl_place s h

  pub type_front : type_of r ≡ type_of s
  unfolding type_of
  type_front = let a = octet_front 0 (omega arith) in let b = octet_front 1 (omega arith) in λ i. a i * 256 + b i

  pub prefix_front : prefix_of r ≡ prefix_of s
  unfolding prefix_of
  prefix_front = octet_front 2 (omega arith)

  pub address_front : address_of r ≡ address_of s
  unfolding address_of
  address_front = part_front address_size address_place (omega arith)

  pub owner_front : owner_slot r ≡ owner_slot s
  unfolding owner_slot
  owner_front = part_front slot_size owner_place (omega arith)

  pub target_front : target_slot r ≡ target_slot s
  unfolding target_slot
  target_front = part_front slot_size target_place (omega arith)

-- the fields of a record that was made of fields
module _ (type prefix : ℕ) (address owner target : List ℕ) (ttl : ℕ) where
  pub type_made : type_of (record_of type prefix address owner target ttl) ≡ type
  unfolding type_of record_of
  type_made = omega arith

  pub prefix_made : prefix_of (record_of type prefix address owner target ttl) ≡ prefix
  unfolding prefix_of record_of
  prefix_made = refl

  pub zero_made : zero_of (record_of type prefix address owner target ttl) ≡ 0
  unfolding zero_of record_of
  zero_made = refl

  module _ (a : length address ≡ address_size) (o : length owner ≡ slot_size) (t : length target ≡ slot_size) where
    -- the octets of the TTL, and how many come between the head and them, and between the head and the target
    abbrev life : List ℕ
    life = octets_of ttl_size ttl

    before_target : length (address ++ owner) ≡ target_place - address_place
    before_target = length-append address owner ∙ omega arith

    before_ttl : length (address ++ owner ++ target) ≡ ttl_place - address_place
    before_ttl = length-append (address ++ owner) target ∙ omega (arith, before_target)

    pub record_made : length (record_of type prefix address owner target ttl) ≡ record_size
    unfolding record_of
    record_made = omega (arith, length-append (address ++ owner ++ target) life, before_ttl, octets_length ttl_size ttl)

    pub address_made : address_of (record_of type prefix address owner target ttl) ≡ address
    unfolding address_of record_of
    address_made = rw (append_assoc (address ++ owner) target life, append_assoc address owner (target ++ life)) (take_at address (owner ++ (target ++ life)) address_size a)

    pub owner_made : owner_slot (record_of type prefix address owner target ttl) ≡ owner
    unfolding owner_slot record_of
    owner_made =
        rw (append_assoc (address ++ owner) target life, append_assoc address owner (target ++ life), drop_at address (owner ++ (target ++ life)) address_size a)
        (take_at owner (target ++ life) slot_size o)

    pub target_made : target_slot (record_of type prefix address owner target ttl) ≡ target
    unfolding target_slot record_of
    target_made =
        rw (append_assoc (address ++ owner) target life, drop_at (address ++ owner) (target ++ life) (target_place - address_place) before_target)
        (take_at target life slot_size t)

    pub ttl_made : ttl < 2 ^ 32 → ttl_of (record_of type prefix address owner target ttl) ≡ ttl
    unfolding ttl_of record_of
    ttl_made h =
        ap (λ (xs : List ℕ). value_of (take ttl_size xs)) (drop_at (address ++ owner ++ target) life (ttl_place - address_place) before_ttl)
        ∙ ap value_of (take_all ttl_size life (omega (arith, octets_length ttl_size ttl)))
        ∙ value_octets_all ttl_size ttl h

-- what follows a place is a field there and what follows the field
split_field : (r : List ℕ) (place size : ℕ) → drop place r ≡ take size (drop place r) ++ drop (place + size) r
split_field r place size = sym (take-append-drop size (drop place r)) ∙ ap (λ (xs : List ℕ). take size (drop place r) ++ xs) (drop-drop size place r)

-- the octets of a TTL are those that write it
ttl_octets : (r : List ℕ) → length r ≡ record_size → Small r → octets_of ttl_size (ttl_of r) ≡ drop ttl_place r
unfolding ttl_of
ttl_octets r l s =
    let f = take ttl_size (drop ttl_place r) in
    let n : length f ≡ ttl_size = field_length r ttl_place ttl_size (omega arith) in
    ap (λ (k : ℕ). octets_of k (value_of f)) (sym n) ∙ octets_value f (small_take ttl_size (drop ttl_place r) (small_drop ttl_place r s))
    ∙ take_all ttl_size (drop ttl_place r) (omega (arith, length-drop ttl_place r))

-- a record is made of its fields
pub record_again : (r : List ℕ) → length r ≡ record_size → Small r → zero_of r ≡ 0
    → r ≡ record_of (type_of r) (prefix_of r) (address_of r) (owner_slot r) (target_slot r) (ttl_of r)
unfolding type_of prefix_of zero_of address_of owner_slot target_slot record_of
record_again r l s z =
    let h : (get_or r 0 0 * 256 + get_or r 1 0) / 256 ≡ get_or r 0 0 = omega (arith, s 1) in
    let k : (get_or r 0 0 * 256 + get_or r 1 0) % 256 ≡ get_or r 1 0 = omega (arith, s 1) in
    let a = take address_size (drop address_place r) in
    let o = take slot_size (drop owner_place r) in
    let t = take slot_size (drop target_place r) in
    let b : drop address_place r ≡ a ++ o ++ t ++ octets_of ttl_size (ttl_of r) =
    split_field r address_place address_size
    ∙ ap (λ (xs : List ℕ). a ++ xs) (split_field r owner_place slot_size)
    ∙ ap (λ (xs : List ℕ). a ++ (o ++ xs)) (split_field r target_place slot_size)
    ∙ sym (append_assoc a o (t ++ drop ttl_place r)) ∙ sym (append_assoc (a ++ o) t (drop ttl_place r))
    ∙ ap (λ (xs : List ℕ). a ++ o ++ t ++ xs) (sym (ttl_octets r l s)) in
    drop-cons r 0 0 (omega arith)
    ∙ ap (λ (xs : List ℕ). get_or r 0 0 ∷ xs)
    (drop-cons r 1 0 (omega arith)
    ∙ ap (λ (xs : List ℕ). get_or r 1 0 ∷ xs)
    (drop-cons r 2 0 (omega arith) ∙ ap (λ (xs : List ℕ). get_or r 2 0 ∷ xs) (drop-cons r 3 0 (omega arith) ∙ ap (λ (x : ℕ). x ∷ drop address_place r) z)))
    ∙ rw (h, k, ← b)
