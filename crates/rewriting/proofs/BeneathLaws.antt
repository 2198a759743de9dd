-- Laws of a name beneath an owner: what is left of the name where the owner would begin, and when it is the owner.
use Rattle.std.specs.Prelude.{Option, Some, None}
use Rattle.std.specs.Bool.{then_some}
use Prim.Native.Nat.{ℕ, zero, suc, ◌+◌, ◌-◌, ◌≤◌, ◌<◌}
use mathlib.Core.Path.{◌≡◌, refl, ap, ◌∙◌, sym}
use mathlib.Core.Bool.{Bool, true, false}
use mathlib.Core.List.{List, [], ◌∷◌, ◌++◌, append-nil}
use lib.Dec.{eqb}
use lib.ListN.{length, get_or, take, drop, length-append, length-drop, take-append-drop}
use Rattle.std.proofs.lemmas.List.{take_rest}
use lib.Seq.{drop-append-add, drop_at, length-take-le}
use native.Mathlib.Omega.{arith}
use borrow.Author.Tests.{eqb-true, eqb-false}
use Rattle.bits.specs.Bits.{octets_for, unpack}
use Rattle.octets.specs.Octets.{same, Small}
use Rattle.labels.specs.Labels.{bits, count_for}
use Rattle.labels.specs.Scan.{apart}
use Rattle.names.specs.Standard.{Unit, label, bit, before, units, units_of, encode, key_unit, keys}
use Rattle.names.specs.Keys.{key_octets}
use Rattle.names.proofs.Written.{written}
use Rattle.names.specs.Merge.{Begins, labels_at}
use Rattle.octets.proofs.OctetLaws.{small_drop, nil_of_length}
use Rattle.bits.proofs.BitLaws.{unpack_zero, unpack_length, unpack_take}
use Rattle.octets.proofs.SameLaws.{same_eq, same_refl}
use Rattle.names.proofs.WriteLaws.{written_back, encode_written}
use Rattle.names.proofs.MergeLaws.{AtBits, at_bits, at_ordinary, begins_inside}
use Rattle.names.proofs.RoundLaws.{before_append, fit_labels}
use Rattle.names.proofs.KeyLaws.{key_before, keys_encode, keys_read}
use Rattle.rewriting.specs.Spots.{units_at, NoBit, Parted, Found, Standing, Fronted}
use Rattle.rewriting.specs.declared.inside.Spot.{Spot}
use Rattle.rewriting.proofs.BitLaws.{unpack_first}
use Rattle.rewriting.proofs.SpotLaws.{before_front, before_length, none_left, apart_next, apart_bits}
use Rattle.rewriting.specs.Rewrite.{below_of}
use Rattle.rewriting.specs.Splice.{over_zero}
use Rattle.rewriting.proofs.ApplyLaws.{below_yes, below_no}

-- the labels from a place on, written out, are the octets from there on
octets_written : (name : List ℕ) (at : ℕ) → Begins name at → Small name → drop at name ≡ written (labels_at name at)
octets_written name at b s =
    let w = written_back b.reads (small_drop at name s) in
    let ls = labels_at name at in
    let l = length-drop at name in
    let n : length (drop at name) ≡ length (written ls) + length w.rest = ap length w.all ∙ length-append (written ls) w.rest in
    let i = begins_inside name at b in
    let z : w.rest ≡ [] = nil_of_length w.rest (omega (arith, w.used_is)) in
    w.all ∙ ap (λ (ys : List ℕ). written ls ++ ys) z ∙ append-nil (written ls)

-- and so are the units
pub octets_back : (name : List ℕ) (at : ℕ) → Begins name at → Small name → Parted name at → drop at name ≡ encode (units_at name at)
unfolding units_at
octets_back name at b s a = octets_written name at b s ∙ sym (encode_written (labels_at name at) a)

-- the keys of the octets from a place on are those of the units, written out and read back
module _ (name : List ℕ) (at : ℕ) (b : Begins name at) (s : Small name) (a : Parted name at) where
  tail_keys : key_octets (drop at name) ≡ encode (keys (units_at name at))
  unfolding units_at
  tail_keys = ap key_octets (octets_written name at b s) ∙ keys_encode (labels_at name at) (fit_labels b.reads) a

  tail_read : units_of (key_octets (drop at name)) ≡ keys (units_at name at)
  unfolding units_at
  tail_read =
      let w = octets_written name at b s in
      let l : length (written (labels_at name at)) ≤ 255 = omega (arith, ap length w, length-drop at name, b.short) in
      ap (λ (xs : List ℕ). units_of (key_octets xs)) w ∙ keys_read (labels_at name at) (fit_labels b.reads) a l

clash : true ≡ false → ⊥
clash z = let y : ◌≡◌ {A = ℕ} 0 1 = cc in omega arith

-- two names from a place on: their keys are the same exactly when those of their units are
module _ (name owner : List ℕ) (at from : ℕ) (b : Begins name at) (c : Begins owner from) (s : Small name) (t : Small owner) (p : Parted name at) (q : Parted owner from) where
  edge_yes : same (key_octets (drop at name)) (key_octets (drop from owner)) ≡ true → keys (units_at name at) ≡ keys (units_at owner from)
  edge_yes h = sym (tail_read name at b s p) ∙ ap units_of (same_eq (key_octets (drop at name)) (key_octets (drop from owner)) h) ∙ tail_read owner from c t q

  edge_no : same (key_octets (drop at name)) (key_octets (drop from owner)) ≡ false → keys (units_at name at) ≡ keys (units_at owner from) → ⊥
  edge_no h e =
      let d : key_octets (drop at name) ≡ key_octets (drop from owner) = tail_keys name at b s p ∙ ap encode e ∙ sym (tail_keys owner from c t q) in
      let r : same (key_octets (drop at name)) (key_octets (drop from owner)) ≡ true = ap (λ (ys : List ℕ). same ys (key_octets (drop from owner))) d ∙ same_refl (key_octets (drop from owner)) in
      let z : ◌≡◌ {A = Bool} true false = sym r ∙ h in
      clash z

-- what is left after unit j
found_left : (name : List ℕ) (j : ℕ) (r : Spot) → Found name j r → drop (j + 1) (units_at name 0) ≡ drop (r.left + 1) (units_at name r.at)
found_left name j r f =
    let e : j + 1 ≡ length f.passed + (r.left + 1) = omega (arith, f.place) in
    ap (λ (k : ℕ). drop k (units_at name 0)) e ∙ ap (drop (length f.passed + (r.left + 1))) f.parts ∙ drop-append-add f.passed (units_at name r.at) (r.left + 1)

found_edge : (name : List ℕ) (j : ℕ) (r : Spot) → Found name j r → r.left + 1 ≡ r.units → drop (j + 1) (units_at name 0) ≡ units_at name r.end
found_edge name j r f e =
    found_left name j r f ∙ ap (drop (r.left + 1)) f.turned.parts ∙ drop_at f.turned.front (units_at name r.end) (r.left + 1) (f.turned.sized ∙ sym e)

drop_before : (s : List ℕ) (us : List Unit) (k : ℕ) → k ≡ length s → drop k (before s us) ≡ us
drop_before s us k e =
    let l : length (before s []) ≡ k = before_length s [] ∙ omega arith in
    ap (drop k) (before_front s [] us) ∙ drop_at (before s []) us k l

-- a cut inside a bit label: its first bits, nearest the root, are left
found_bits : (name : List ℕ) (j : ℕ) (r : Spot) → Found name j r → (r.left + 1 ≡ r.units → ⊥)
    → AtBits name r.at r.units × (r.end ≡ r.at + 2 + octets_for r.units) × (get_or name r.at 0 ≡ 65)
found_bits name j r f e = go (eqb (get_or name r.at 0) 65) refl
  where
    go : (t : Bool) → eqb (get_or name r.at 0) 65 ≡ t → AtBits name r.at r.units × (r.end ≡ r.at + 2 + octets_for r.units) × (get_or name r.at 0 ≡ 65)
    go true h =
        let g = eqb-true (get_or name r.at 0) 65 h in
        let k = f.turned.counted g in
        (at_bits name r.at r.units f.begins g k.0, k.1, g)
    go false h =
        let o = f.turned.single (eqb-false (get_or name r.at 0) 65 h) in
        let w = f.within in
        let z : ⊥ = e (omega arith) in
        absurd z

found_inside : (name : List ℕ) (j q : ℕ) (r : Spot) → Found name j r → (r.left + 1 ≡ r.units → ⊥) → q ≡ r.units - (r.left + 1)
    → drop (j + 1) (units_at name 0) ≡ before (unpack q (drop (r.at + 2) name)) (units_at name r.end)
unfolding units_at units
found_inside name j q r f e h =
    let a = found_bits name j r f e in
    let xs = drop (r.at + 2) name in
    let b = unpack r.units xs in
    let us = units_at name r.end in
    let g : units_at name r.at ≡ before b us = ap units a.0.labels ∙ ap (λ (i : ℕ). before b (units_at name i)) (sym a.1) in
    let t : take q b ≡ unpack q xs = unpack_first q r.units xs (omega arith) in
    let l = length-drop q b in
    let n = a.0.size in
    let k : r.left + 1 ≡ length (drop q b) = omega (arith, f.within) in
    found_left name j r f ∙ ap (drop (r.left + 1)) (g ∙ ap (λ (c : List ℕ). before c us) (sym (take-append-drop q b)) ∙ before_append (take q b) (drop q b) us)
    ∙ drop_before (drop q b) (before (take q b) us) (r.left + 1) k ∙ ap (λ (c : List ℕ). before c us) t

-- the bits that units begin with, the one nearest the root first, and the units after them
lead_bits : List ℕ → List Unit → List ℕ
lead_bits run [] = run
lead_bits run (label l ∷ us) = run
lead_bits run (bit b ∷ us) = lead_bits (b ∷ run) us

lead_rest : List Unit → List Unit
lead_rest [] = []
lead_rest (label l ∷ us) = label l ∷ us
lead_rest (bit b ∷ us) = lead_rest us

lead_bits_lem : (b run : List ℕ) (us : List Unit) → NoBit us → lead_bits run (before b us) ≡ b ++ run
unfolding lead_bits before
lead_bits_lem b run us n = all b run us ∙ none (b ++ run) us n
  where
    all : (b run : List ℕ) (us : List Unit) → lead_bits run (before b us) ≡ lead_bits (b ++ run) us
    all [] run us = refl
    all (x ∷ b) run us = all b run (bit x ∷ us)

    none : (run : List ℕ) (us : List Unit) → NoBit us → lead_bits run us ≡ run
    none run [] n = refl
    none run (label l ∷ us) n = refl
    none run (bit b ∷ us) n = absurd n

lead_rest_lem : (b : List ℕ) (us : List Unit) → NoBit us → lead_rest (before b us) ≡ us
unfolding lead_rest before
lead_rest_lem b us n = all b us ∙ none us n
  where
    all : (b : List ℕ) (us : List Unit) → lead_rest (before b us) ≡ lead_rest us
    all [] us = refl
    all (x ∷ b) us = all b (bit x ∷ us)

    none : (us : List Unit) → NoBit us → lead_rest us ≡ us
    none [] n = refl
    none (label l ∷ us) n = refl
    none (bit b ∷ us) n = absurd n

run_same : (b c : List ℕ) (us vs : List Unit) → NoBit us → NoBit vs → before b us ≡ before c vs → (b ≡ c) × (us ≡ vs)
run_same b c us vs n m e = (
  sym (append-nil b) ∙ sym (lead_bits_lem b [] us n) ∙ ap (lead_bits []) e ∙ lead_bits_lem c [] vs m ∙ append-nil c,
  sym (lead_rest_lem b us n) ∙ ap lead_rest e ∙ lead_rest_lem c vs m,
)

-- a bit is its own key
no_bit_keys : (us : List Unit) → NoBit us → NoBit (keys us)
unfolding key_unit
no_bit_keys [] n = n
no_bit_keys (label l ∷ us) n = n
no_bit_keys (bit b ∷ us) n = absurd n

-- after the bit label that is cut no bit follows
found_ends : (name : List ℕ) (j : ℕ) (r : Spot) → Found name j r → Standing name → (r.left + 1 ≡ r.units → ⊥) → NoBit (units_at name r.end)
unfolding units_at
found_ends name j r f s e =
    let a = found_bits name j r f e in
    let p = f.still s.parted in
    rw a.1 (apart_bits (unpack r.units (drop (r.at + 2) name)) (labels_at name (r.at + 2 + octets_for r.units)) (sym (ap (apart false) a.0.labels) ∙ p))

pub found_parted : (name : List ℕ) (j : ℕ) (r : Spot) → Found name j r → Standing name → Parted name r.end
found_parted name j r f s = apart_next f.turned.first (labels_at name r.end) (sym (ap (apart false) f.turned.labels) ∙ f.still s.parted)

-- the leading bits of a name
pub fronted_bits : (name octets rest : List ℕ) (n end : ℕ) → Standing name → get_or name 0 0 ≡ 65 → n ≡ count_for (get_or name 1 0) → n ≤ 256 → end ≡ 2 + octets_for n
    → octets ≡ take (end - 2) (drop 2 name) → rest ≡ take (length name - end) (drop end name) → Fronted name octets n rest
unfolding units_at units
fronted_bits name octets rest n end s f e h at_end o r =
    let a = at_bits name 0 n s.begins f e in
    let u = unpack n (drop 2 name) in
    let p : apart false (bits u ∷ labels_at name (2 + octets_for n)) ≡ true = sym (ap (apart false) a.labels) ∙ s.parted in
    let t : octets ≡ take (octets_for n) (drop 2 name) = o ∙ ap (λ (k : ℕ). take k (drop 2 name)) (omega arith) in
    let d = length-drop 2 name in
    let g : u ≡ unpack n octets = unpack_take n (drop 2 name) ∙ ap (unpack n) (sym t) in
    record {
      end = 2 + octets_for n;
      begins = a.begins;
      left = r ∙ take_rest name end ∙ ap (λ (k : ℕ). drop k name) at_end;
      parts = ap units a.labels ∙ ap (λ (c : List ℕ). before c (units_at name (2 + octets_for n))) g;
      sized = ap length (sym g) ∙ a.size;
      inside = omega (arith, ap length t, length-take-le (octets_for n) (drop 2 name) (omega (arith, a.inside)));
      few = h;
      parted = apart_next (bits u) (labels_at name (2 + octets_for n)) p;
      ends = apart_bits u (labels_at name (2 + octets_for n)) p;
    }

pub fronted_none : (name : List ℕ) → Standing name → (get_or name 0 0 ≡ 65 → ⊥) → Fronted name [] 0 name
unfolding units_at units before
fronted_none name s f =
    let z = unpack_zero [] in
    record {
      end = 0;
      begins = s.begins;
      left = refl;
      parts = ap (λ (c : List ℕ). before c (units_at name 0)) (sym z);
      sized = ap length z;
      inside = omega arith;
      few = omega arith;
      parted = s.parted;
      ends = go (eqb (get_or name 0 0) 0) refl;
    }
  where
    go : (t : Bool) → eqb (get_or name 0 0) 0 ≡ t → NoBit (units_at name 0)
    go true e = let l = none_left name 0 (eqb-true (get_or name 0 0) 0 e) in rw l (record {})
    go false e =
        let a = at_ordinary name 0 (get_or name 0 0 + 1) s.begins (eqb-false (get_or name 0 0) 0 e) f refl in
        let l : units_at name 0 ≡ label a.content ∷ units_at name (0 + (get_or name 0 0 + 1)) = ap units a.labels in
        rw l (record {})

-- what is at hand when the unit before the owner's place is found, in a name of n units and an owner of m
pub record Meeting (name owner : List ℕ) (n m : ℕ) (r : Spot) : Type 0 where
  pub found : Found name (n - m - 1) r
  pub standing : Standing name × Standing owner
  pub small : Small name × Small owner
  pub counts : (n ≡ length (units_at name 0)) × (m ≡ length (units_at owner 0)) × (m < n)

-- how many units of the name are below the owner
abbrev under : List ℕ → List ℕ → Option ℕ
under name owner = over_zero (below_of (units_at owner 0) (units_at name 0))

over_some : (k : ℕ) → 0 < k → over_zero k ≡ Some k
unfolding over_zero
over_some zero h = let z : ⊥ = omega arith in absurd z
over_some (suc k) h = refl

pub over_none : (k : ℕ) → k ≡ 0 → None ≡ over_zero k
unfolding over_zero
over_none k e = rw e

-- the answers
module _ {name owner : List ℕ} {n m : ℕ} {r : Spot} (q : Meeting name owner n m r) where
  -- places that lie within the name
  pub met_within : (r.at < length name) × (r.end < length name) × (length name ≤ 255)
  met_within = (begins_inside name r.at q.found.begins, begins_inside name r.end q.found.turned.begins, q.found.begins.short)

  place : n - m - 1 + 1 ≡ length (units_at name 0) - length (units_at owner 0)
  place = let c = q.counts in omega arith

  yes : keys (drop (n - m - 1 + 1) (units_at name 0)) ≡ keys (units_at owner 0) → Some (n - m) ≡ under name owner
  yes d =
      let c = q.counts in
      let e : n - m ≡ length (units_at name 0) - length (units_at owner 0) = omega arith in
      sym (ap over_zero (below_yes (units_at owner 0) (units_at name 0) (rw (← place) d) ∙ sym e) ∙ over_some (n - m) (omega arith))

  no : (keys (drop (n - m - 1 + 1) (units_at name 0)) ≡ keys (units_at owner 0) → ⊥) → None ≡ under name owner
  no d = over_none (below_of (units_at owner 0) (units_at name 0)) (below_no (units_at owner 0) (units_at name 0) (λ h. d (rw place h)))

  tail : Parted name r.end
  tail = found_parted name (n - m - 1) r q.found q.standing.0

  -- the owner's place is where a label ends: what is left of the name is compared
  abbrev left : List ℕ
  left = take (length name - r.end) (drop r.end name)

  pub edge : r.left + 1 ≡ r.units → (b : Bool) → same (key_octets left) (key_octets owner) ≡ b → then_some b (n - m) ≡ under name owner
  edge e true h =
      yes (ap keys (found_edge name (n - m - 1) r q.found e)
      ∙ edge_yes name owner r.end 0 q.found.turned.begins q.standing.1.begins q.small.0 q.small.1 tail q.standing.1.parted (rw (take_rest name r.end) at h))
  edge e false h =
      no (λ d. edge_no name owner r.end 0 q.found.turned.begins q.standing.1.begins q.small.0 q.small.1 tail q.standing.1.parted
      (rw (take_rest name r.end) at h) (ap keys (sym (found_edge name (n - m - 1) r q.found e)) ∙ d))

-- the owner's place is inside a label, and the bits that the owner begins with are known
pub record Inside (name owner : List ℕ) (n m : ℕ) (r : Spot) (octets : List ℕ) (count : ℕ) (rest : List ℕ) : Type 0 where
  pub met : Meeting name owner n m r
  pub fronted : Fronted owner octets count rest
  pub inner : r.left + 1 ≡ r.units → ⊥

pub inside : {name owner : List ℕ} {n m : ℕ} {r : Spot} {octets : List ℕ} {count : ℕ} {rest : List ℕ} → Meeting name owner n m r → Fronted owner octets count rest
    → (r.left + 1 ≡ r.units → ⊥) → Inside name owner n m r octets count rest
inside m f i = record { met = m; fronted = f; inner = i }

module _ {name owner : List ℕ} {n m : ℕ} {r : Spot} {octets : List ℕ} {count : ℕ} {rest : List ℕ} (k : Inside name owner n m r octets count rest) where
  -- the bits left of the label, and the owner's
  abbrev mine : List ℕ
  mine = unpack (r.units - (r.left + 1)) (drop (r.at + 2) name)

  abbrev theirs : List ℕ
  theirs = unpack count octets

  -- what is left of the name is the owner: then the bits are the same, and the rest
  matched : keys (drop (n - m - 1 + 1) (units_at name 0)) ≡ keys (units_at owner 0) → (mine ≡ theirs) × (keys (units_at name r.end) ≡ keys (units_at owner k.fronted.end))
  matched d =
      let f = k.met.found in
      let e = k.fronted.end in
      run_same mine theirs (keys (units_at name r.end)) (keys (units_at owner e))
      (no_bit_keys (units_at name r.end) (found_ends name (n - m - 1) r f k.met.standing.0 k.inner)) (no_bit_keys (units_at owner e) k.fronted.ends)
      (sym (key_before mine (units_at name r.end)) ∙ ap keys (sym (found_inside name (n - m - 1) (r.units - (r.left + 1)) r f k.inner refl)) ∙ d
      ∙ ap keys k.fronted.parts ∙ key_before theirs (units_at owner e))

  -- the bits that are left of the label lie within the name
  pub bits_within : r.at + 2 + octets_for r.units ≤ length name
  bits_within = (found_bits name (n - m - 1) r k.met.found k.inner).0.inside

  pub inside_count : (r.left + 1 + count ≡ r.units → ⊥) → None ≡ under name owner
  inside_count h = no k.met (λ d. h (go d))
    where
      go : keys (drop (n - m - 1 + 1) (units_at name 0)) ≡ keys (units_at owner 0) → r.left + 1 + count ≡ r.units
      go d =
          let l = length-drop (r.at + 2) name in
          let b : length mine ≡ r.units - (r.left + 1) = unpack_length (r.units - (r.left + 1)) (drop (r.at + 2) name) (omega (arith, bits_within)) in
          let e = ap length (matched d).0 in
          omega (arith, k.fronted.sized, k.met.found.within, b, e)

  module _ (t : r.left + 1 + count ≡ r.units) where
    size : r.units - (r.left + 1) ≡ count
    size = omega arith

    pub inside_bits : same (unpack count (drop (r.at + 2) name)) theirs ≡ false → None ≡ under name owner
    inside_bits h =
        no k.met (λ d.
        let e : unpack count (drop (r.at + 2) name) ≡ theirs = ap (λ (i : ℕ). unpack i (drop (r.at + 2) name)) (sym size) ∙ (matched d).0 in
        clash (sym (ap (λ (ys : List ℕ). same ys theirs) e ∙ same_refl theirs) ∙ h))

    -- what is left of the name and of the owner after the bits
    ends_same : (b : Bool) → same (key_octets (left k.met)) (key_octets rest) ≡ b → same (key_octets (drop r.end name)) (key_octets (drop k.fronted.end owner)) ≡ b
    ends_same b h = rw (take_rest name r.end, k.fronted.left) at h

    pub inside_rest : same (unpack count (drop (r.at + 2) name)) theirs ≡ true → (b : Bool) → same (key_octets (left k.met)) (key_octets rest) ≡ b → then_some b (n - m) ≡ under name owner
    inside_rest h true e =
        let q = k.met in
        let w = k.fronted in
        let v = edge_yes name owner r.end w.end q.found.turned.begins w.begins q.small.0 q.small.1 (tail q) w.parted (ends_same true e) in
        let b = same_eq (unpack count (drop (r.at + 2) name)) theirs h in
        yes q
        (ap keys (found_inside name (n - m - 1) count r q.found k.inner (sym size) ∙ ap (λ (c : List ℕ). before c (units_at name r.end)) b)
        ∙ key_before theirs (units_at name r.end) ∙ ap (before theirs) v ∙ sym (key_before theirs (units_at owner w.end)) ∙ ap keys (sym w.parts))
    inside_rest h false e =
        let q = k.met in
        let w = k.fronted in
        no q (λ d. edge_no name owner r.end w.end q.found.turned.begins w.begins q.small.0 q.small.1 (tail q) w.parted (ends_same false e) (matched d).1)
