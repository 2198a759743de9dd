-- What is read can be written, and what can be written is read again: the parts that every layout shares.
use Prim.Native.Nat.{ℕ, ◌-◌, ◌≤◌}
use mathlib.Core.Path.{◌≡◌, refl, ap, ◌∙◌, sym}
use mathlib.Core.Bool.{Bool, true, false}
use mathlib.Core.List.{List, []}
use lib.Dec.{eqb}
use lib.ListN.{length, take, drop, length-append, length-drop, take-append-drop}
use lib.Seq.{length-take-le}
use native.Mathlib.Omega.{arith}
use borrow.Author.Tests.{eqb-true, eqb-false}
use Rattle.octets.specs.Octets.{blank, Small}
use Rattle.octets.proofs.OctetLaws.{length_blank, small_take, nil_of_length}
use Rattle.octets.proofs.SmallLaws.{small_append, small_blank}
use Rattle.octets.proofs.ZeroLaws.{blank_eq}
use Rattle.octets.specs.Refusals.{number_of}
use Rattle.labels.specs.Answers.{used_by}
use Rattle.names.specs.Name.{name_of, held_of}
use Rattle.names.specs.declared.Name.{Name}
use Rattle.names.proofs.FrontLaws.{formed_scan}
use Rattle.names.proofs.NameLaws.{held_formed, held_standard, standard_short}
use Rattle.names.proofs.StandardSmall.{standard_small}
use Rattle.names.proofs.StandardLaws.{in_standard}
use Rattle.address.specs.Address.{join_of}
use Rattle.address.proofs.AddressLaws.{join_length, join_small}
use Rattle.address.proofs.ClearLaws.{clear_join, clear_blank}
use Rattle.a6.specs.Data.{octets_of, Shaped}
use Rattle.a6.specs.Ending.{name_found, name_number, name_in, value_from}
use Rattle.a6.specs.Accepted.{name_fits, zero_filled}
use Rattle.a6.specs.Standard.{standard_name}
use Rattle.a6.specs.declared.Value.{Value}
use Rattle.a6.proofs.EndingLaws.{found_none, found_some, ending_done, name_none, name_rest, name_formed, name_standard}
use Rattle.a6.proofs.AcceptedLaws.{Writable, fits_none, fits_some, held_octets_lem, held_filled}

-- ---- a value whose parts were read
module _ (l : ℕ) (rest : List ℕ) (small : Small rest) (e : name_number l rest ≡ 0) where
  -- the name is held in standard form
  name_held_lem : name_in l rest ≡ name_of (standard_name l rest)
  name_held_lem = go (eqb l 0) refl
    where
      go : (t : Bool) → eqb l 0 ≡ t → name_in l rest ≡ name_of (standard_name l rest)
      go true z = name_none l rest (eqb-true l 0 z) ∙ rw (standard_name, z)
      go false z = let n = eqb-false l 0 z in name_standard l rest e small n ∙ rw (standard_name, z, name_rest l rest e)

  pub read_name : octets_of (name_in l rest) ≡ standard_name l rest
  read_name = ap octets_of name_held_lem ∙ held_octets_lem (standard_name l rest)

  name_fits_lem : name_fits l (octets_of (name_in l rest)) ≡ true
  name_fits_lem = rw read_name (go (eqb l 0) refl)
    where
      go : (t : Bool) → eqb l 0 ≡ t → name_fits l (standard_name l rest) ≡ true
      go true z = fits_none l (standard_name l rest) (eqb-true l 0 z) ∙ rw (standard_name, z)
      go false z =
          let n = eqb-false l 0 z in
          fits_some l (standard_name l rest) n ∙ rw (standard_name, z, name_rest l rest e) (held_standard rest small (name_formed l rest e small n))

  name_short : length (standard_name l rest) ≤ 255
  name_short = go (eqb l 0) refl
    where
      go : (t : Bool) → eqb l 0 ≡ t → length (standard_name l rest) ≤ 255
      go true z = rw (standard_name, z) (omega arith)
      go false z = rw (standard_name, z, name_rest l rest e) (standard_short rest small (name_formed l rest e small (eqb-false l 0 z)))

  name_small : Small (standard_name l rest)
  name_small = go (eqb l 0) refl
    where
      go : (t : Bool) → eqb l 0 ≡ t → Small (standard_name l rest)
      go true z = rw (standard_name, z) (small_take 0 rest small)
      go false z = rw (standard_name, z, name_rest l rest e) (standard_small rest small)

  module _ (sixteen : List ℕ) (long : length sixteen ≡ 16) where
    pub read_long : length (value_from l sixteen rest).address ≡ 16
    unfolding value_from
    read_long = join_length (blank 16) sixteen l (length_blank 16) long

    pub read_shaped : l ≤ 128 → Shaped (value_from l sixteen rest)
    unfolding value_from name_of
    read_shaped low =
        let xs = standard_name l rest in
        let n = ap (λ (m : Name). m.octets) name_held_lem in
        let k = ap (λ (m : Name). m.length) name_held_lem in
        record {
          prefix_small = omega arith;
          address_long = read_long;
          address_small = join_small (blank 16) sixteen l (length_blank 16) long;
          octets_long = ap length n ∙ length-append xs (blank (255 - length xs)) ∙ omega (arith, length_blank (255 - length xs), name_short);
          octets_small = rw n (small_append xs (blank (255 - length xs)) name_small (small_blank (255 - length xs)));
          length_small = omega (arith, k, name_short);
        }

    pub read_writable : l ≤ 128 → Writable (value_from l sixteen rest)
    unfolding value_from
    read_writable low =
        record {
          low = low;
          fits = name_fits_lem;
          filled = rw name_held_lem (held_filled (standard_name l rest));
          clear = clear_join (blank 16) sixteen l l (length_blank 16) long (clear_blank l 16) (omega arith);
        }

-- ---- a value that can be written
-- a zero-filled name is the value that holds its octets
name_again : (n : Name) → length n.octets ≡ 255 → n.length ≤ 255 → zero_filled n ≡ true → name_of (octets_of n) ≡ n
unfolding octets_of name_of
name_again n e k z =
    let m : length (drop n.length n.octets) ≡ 255 - n.length = length-drop n.length n.octets ∙ rw e in
    let d : drop n.length n.octets ≡ blank (255 - n.length) = rw m at (blank_eq (drop n.length n.octets) z) in
    let l : length (take n.length n.octets) ≡ n.length = length-take-le n.length n.octets (omega arith) in
    rw (l, ← d, take-append-drop n.length n.octets)

-- the name that a writer asks for, as a reader finds it
pub record Again (v : Value) : Type 0 where
  pub number : name_number v.prefix (octets_of v.name) ≡ 0
  pub name : name_in v.prefix (octets_of v.name) ≡ name_of (octets_of v.name)

module _ (v : Value) (w : Writable v) where
  abbrev l : ℕ
  l = v.prefix

  abbrev xs : List ℕ
  xs = octets_of v.name

  again_none : l ≡ 0 → Again v
  again_none z =
      let e : xs ≡ [] = nil_of_length xs (eqb-true (length xs) 0 (sym (fits_none l xs z) ∙ w.fits)) in
      let f = found_none l xs z in
      record { number = ending_done l xs (rw f) (rw (f, e) (omega arith)); name = name_none l xs z ∙ rw e }

  again_some : (l ≡ 0 → ⊥) → Again v
  again_some z =
      let g = in_standard xs (sym (fits_some l xs z) ∙ w.fits) in
      let k = formed_scan xs g.0 in
      let f = found_some l xs z in
      let u : used_by (name_found l xs) ≡ length xs = ap used_by f ∙ k.1 in
      let e = ending_done l xs (ap number_of f ∙ k.0) (omega arith) in
      let r = name_rest l xs e in
      record { number = e; name = ap held_of r ∙ held_formed xs g.0 ∙ ap name_of g.1 }

  pub again : Again v
  again = go (eqb l 0) refl
    where
      go : (t : Bool) → eqb l 0 ≡ t → Again v
      go true e = again_none (eqb-true l 0 e)
      go false e = again_some (eqb-false l 0 e)

  -- the value of its own parts, however the sixteen octets stand before the prefix's end
  pub own_value : Shaped v → (sixteen : List ℕ) → join_of (blank 16) sixteen l ≡ v.address → value_from l sixteen xs ≡ v
  unfolding value_from
  own_value s sixteen a =
      let n : name_in l xs ≡ v.name = again.name ∙ name_again v.name s.octets_long (omega (arith, s.length_small)) w.filled in
      λ i. record { prefix = l; address = a i; name = n i }
