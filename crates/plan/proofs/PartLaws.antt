-- Laws of the part of a table that an owner takes.
use Prim.Native.Nat.{ℕ, zero, suc, ◌+◌, ◌*◌, ◌≤◌, ◌<◌}
use mathlib.Core.Path.{◌≡◌, refl, ap, ◌∙◌}
use mathlib.Core.Bool.{Bool, true, false}
use mathlib.Core.List.{List, [], ◌∷◌}
use lib.Dec.{ltb, eqb}
use lib.ListN.{length, get_or, take, drop, length-drop}
use lib.Seq.{drop-drop, length-take-le}
use native.Mathlib.Omega.{arith}
use borrow.Author.Tests.{eq-eqb, ne_eqb, eqb-true, eqb-false, lt-ltb, le-ltb, ltb-true, ltb-false}
use Rattle.octets.specs.Octets.{Small}
use Rattle.octets.proofs.BoolLaws.{clash}
use Rattle.octets.proofs.OctetLaws.{take_drop_take}
use Rattle.labels.specs.Scan.{scan_from, scan_of, fills, well_formed}
use Rattle.names.specs.Standard.{in_standard_form}
use Rattle.names.proofs.StandardLaws.{in_standard}
use Rattle.chains.specs.Lists.{pick}
use Rattle.plan.specs.declared.Part.{Part}
use Rattle.plan.specs.Layout.{record_size, max_records, slot_size, owner_place, name_in, owner_slot, count_of, record_at, owner_at}
use Rattle.plan.specs.Check.{check_of, InOrder}
use Rattle.plan.proofs.OrderLaws.{order_length, order_count, order_good}
use Rattle.plan.specs.Part.{owner_within, empty_part, owner_part}
use Rattle.plan.proofs.LayoutLaws.{record_fits, record_small}
use Rattle.plan.proofs.RecordLaws.{owner_small, owner_short}

take_length_take : (n : ℕ) (l : List ℕ) → take (length (take n l)) l ≡ take n l
take_length_take zero l = refl
take_length_take (suc n) [] = refl
take_length_take (suc n) (x ∷ l) = ap (λ (xs : List ℕ). x ∷ xs) (take_length_take n l)

-- the owner's octets, as the table has them
owner_octets : (t : List ℕ) (i : ℕ) → get_or (owner_slot (record_at t i)) 0 0 < 256 → owner_at t i ≡ take (get_or (owner_slot (record_at t i)) 0 0) (drop (i * record_size + (owner_place + 1)) t)
unfolding name_in owner_slot record_at
owner_octets t i h =
    let n = get_or (owner_slot (record_at t i)) 0 0 in
    let d = drop (i * record_size) t in
    take_drop_take n 1 slot_size (drop owner_place (take record_size d)) (omega arith)
    ∙ ap (take n) (drop-drop 1 owner_place (take record_size d))
    ∙ take_drop_take n (owner_place + 1) record_size d (omega arith)
    ∙ ap (take n) (drop-drop (owner_place + 1) (i * record_size) t)

pub owner_within_lem : (t : List ℕ) (i : ℕ) → Small t → take (owner_within t i).length (drop (owner_within t i).offset t) ≡ owner_at t i
unfolding owner_within
owner_within_lem t i s =
    let h : get_or (owner_slot (record_at t i)) 0 0 < 256 = owner_small (record_at t i) (record_small t i s) 0 in
    let e = owner_octets t i h in
    rw e (take_length_take (get_or (owner_slot (record_at t i)) 0 0) (drop (i * record_size + (owner_place + 1)) t))

-- what is shown
module _ (t : List ℕ) (i : ℕ) where
  pub part_in : check_of t ≡ 0 → i < count_of t → owner_part t i ≡ owner_within t i
  unfolding owner_part
  part_in o h = rw (owner_part, eq-eqb (check_of t) 0 o, lt-ltb i (count_of t) h)

  pub part_refused : (check_of t ≡ 0 → ⊥) → owner_part t i ≡ empty_part
  unfolding owner_part
  part_refused o = rw (owner_part, ne_eqb (check_of t) 0 o)

  pub part_past : check_of t ≡ 0 → count_of t ≤ i → owner_part t i ≡ empty_part
  unfolding owner_part
  part_past o h = rw (owner_part, eq-eqb (check_of t) 0 o, le-ltb i (count_of t) h)

  pub within_fits : i < count_of t → (owner_within t i).offset + (owner_within t i).length ≤ length t
  unfolding owner_within
  within_fits h = omega (arith, record_fits t i h, owner_short (record_at t i))

  pub part_fits : (owner_part t i).offset + (owner_part t i).length ≤ length t
  part_fits = go (eqb (check_of t) 0) (ltb i (count_of t)) refl refl
    where
      fits : {p : Part} → owner_part t i ≡ p → p.offset + p.length ≤ length t → (owner_part t i).offset + (owner_part t i).length ≤ length t
      fits e h = rw e h

      go : (v w : Bool) → eqb (check_of t) 0 ≡ v → ltb i (count_of t) ≡ w → (owner_part t i).offset + (owner_part t i).length ≤ length t
      go true true e f = fits (part_in (eqb-true (check_of t) 0 e) (ltb-true i (count_of t) f)) (within_fits (ltb-true i (count_of t) f))
      go true false e f = fits (part_past (eqb-true (check_of t) 0 e) (ltb-false i (count_of t) f)) (omega arith)
      go false w e f = fits (part_refused (eqb-false (check_of t) 0 e)) (omega arith)

-- and it ends within the longest table in order
pub part_small : (t : List ℕ) (i : ℕ) → (owner_part t i).offset + (owner_part t i).length ≤ max_records * record_size
part_small t i = go (eqb (check_of t) 0) refl
  where
    go : (v : Bool) → eqb (check_of t) 0 ≡ v → (owner_part t i).offset + (owner_part t i).length ≤ max_records * record_size
    go true e = let o : InOrder t = eqb-true (check_of t) 0 e in omega (arith, part_fits t i, order_length t o, order_count t o)
    go false e = rw (part_refused t i (eqb-false (check_of t) 0 e)) (omega arith)

-- a part is as long as it says
pub part_long : (t : List ℕ) (i : ℕ) → length (take (owner_part t i).length (drop (owner_part t i).offset t)) ≡ (owner_part t i).length
part_long t i =
    length-take-le (owner_part t i).length (drop (owner_part t i).offset t) (omega (arith, part_fits t i, length-drop (owner_part t i).offset t))

-- the empty part begins at 0, and any other where its record's owner does
name_some : (xs : List ℕ) → in_standard_form xs ≡ true → length xs ≡ 0 → ⊥
unfolding well_formed fills scan_of scan_from
name_some [] h e = clash (in_standard [] h).0 refl
name_some (x ∷ xs) h e = omega arith

module _ (t : List ℕ) (i : ℕ) where
  abbrev placed : Part → ℕ
  placed p = pick (eqb p.length 0) 0 (i * record_size + (owner_place + 1))

  pub part_place : ((owner_part t i).offset ≡ placed (owner_part t i)) × (((owner_part t i).length ≡ 0 → ⊥) → i < max_records)
  unfolding owner_within
  part_place = go (eqb (check_of t) 0) (ltb i (count_of t)) refl refl
    where
      by : {p : Part} → owner_part t i ≡ p → (p.offset ≡ placed p) × ((p.length ≡ 0 → ⊥) → i < max_records)
          → ((owner_part t i).offset ≡ placed (owner_part t i)) × (((owner_part t i).length ≡ 0 → ⊥) → i < max_records)
      by e h = rw e h

      go : (v w : Bool) → eqb (check_of t) 0 ≡ v → ltb i (count_of t) ≡ w
          → ((owner_part t i).offset ≡ placed (owner_part t i)) × (((owner_part t i).length ≡ 0 → ⊥) → i < max_records)
      go true true e f =
          let o : InOrder t = eqb-true (check_of t) 0 e in
          let h = ltb-true i (count_of t) f in
          by (part_in t i o h) (rw (ne_eqb (length (owner_at t i)) 0 (name_some (owner_at t i) (order_good t o i h).owner.name)), λ n. omega (arith, order_count t o, h))
      go true false e f = by (part_past t i (eqb-true (check_of t) 0 e) (ltb-false i (count_of t) f)) (refl, λ n. absurd (n refl))
      go false w e f = by (part_refused t i (eqb-false (check_of t) 0 e)) (refl, λ n. absurd (n refl))

-- Theorem: the part that is shown of a table in order is the record's owner
pub part_owner : (t : List ℕ) (i : ℕ) → Small t → InOrder t → i < count_of t → take (owner_part t i).length (drop (owner_part t i).offset t) ≡ owner_at t i
part_owner t i s o h = rw (part_in t i o h) (owner_within_lem t i s)
