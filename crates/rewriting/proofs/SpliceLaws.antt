-- A name cut at a unit and a target put after it: the octets before the cut, one run, and the rest of the target.
use Rattle.std.specs.Prelude.{Option, Some, None, MatchOption, unwrap_or}
use Prim.Native.Nat.{ℕ, ◌+◌, ◌-◌, ◌/◌, ◌%◌, ◌≤◌, ◌<◌}
use mathlib.Core.Path.{◌≡◌, refl, ap, ◌∙◌, sym}
use mathlib.Core.Bool.{Bool, true, false, ◌||◌}
use mathlib.Core.List.{List, [], ◌++◌, append_assoc, append-nil}
use lib.Dec.{ltb}
use lib.ListN.{length, get_or, set, take, drop, length-append, length-drop, take-append-drop}
use lib.Seq.{take_at, take-append-add, length-take-le}
use native.Mathlib.Omega.{arith}
use borrow.Author.Tests.{lt-ltb, le-ltb}
use Rattle.octets.specs.Octets.{blank, Small}
use Rattle.bits.specs.Bits.{octets_for, unpack}
use Rattle.bits.specs.Packing.{Ready, Flushed}
use Rattle.bits.specs.declared.inside.Packer.{Packer}
use Rattle.bits.proofs.PackLaws.{packer}
use Rattle.bits.proofs.PackingLaws.{pack_length}
use Rattle.names.specs.Standard.{Unit, before, units, bit_label, encode_from, encode}
use Rattle.names.specs.Merge.{Begins, labels_at}
use Rattle.names.proofs.WriteLaws.{encode_before, bit_label_some}
use Rattle.names.proofs.RoundLaws.{before_append, fit_labels}
use Rattle.names.proofs.MergeLaws.{AtBits, at_bits, begins_inside}
use Rattle.rewriting.specs.Rewrite.{long_run, too_large, rewrite_of}
use Rattle.rewriting.specs.Spots.{units_at, last_run, Parted, Found, Standing, Fronted}
use Rattle.rewriting.specs.Splice.{fit_length, fit_octets, joined_of, overlong, joined_length, joined_out, spliced_length, spliced_out}
use Rattle.rewriting.specs.declared.inside.Spot.{Spot}
use Rattle.rewriting.specs.declared.inside.Front.{Front}
use Rattle.rewriting.proofs.SpotLaws.{before_front, before_length, last_append}
use Rattle.rewriting.proofs.BeneathLaws.{octets_back, found_parted}
use Rattle.rewriting.proofs.SkipLaws.{kept_length}
use Rattle.rewriting.proofs.FillLaws.{Filled, filled_first, filled_next, filled_header, filled_done, Packed, packed_none, packed_ready, packed_place, packed_done}
use Rattle.rewriting.proofs.RunLaws.{stem, encode_append, encode_run, last_before, stem_before, stem_append, stem_take}
use Rattle.rewriting.proofs.LargeLaws.{long_before, long_append, long_front, long_ends, fit_short}

-- a length and an output are the answer for octets, a run and a target
abbrev pub JoinAnswer : List ℕ → List ℕ → List Unit → Option ℕ → List ℕ → Type 0
JoinAnswer front run target size out = (size ≡ joined_length front run target) × (out ≡ joined_out front run target)

-- and for the units of a rewritten name
abbrev pub SpliceAnswer : List Unit → Option ℕ → List ℕ → Type 0
SpliceAnswer us size out = (size ≡ spliced_length us) × (out ≡ spliced_out us)

-- the answer, by whether the rewrite is too large
answer_large : (large : Bool) (name : List ℕ) → large ≡ true → (None ≡ fit_length large name) × (blank 255 ≡ fit_octets large name)
unfolding fit_length fit_octets
answer_large true name e = (refl, refl)
answer_large false name e = let z : ◌≡◌ {A = ℕ} 0 1 = cc in let y : ⊥ = omega arith in absurd y

answer_fits : (large : Bool) (name : List ℕ) → large ≡ false → (Some (length name) ≡ fit_length large name) × (name ++ blank (255 - length name) ≡ fit_octets large name)
unfolding fit_length fit_octets
answer_fits true name e = let z : ◌≡◌ {A = ℕ} 0 1 = cc in let y : ⊥ = omega arith in absurd y
answer_fits false name e = (refl, refl)

-- a name that was read has no run that is too long
short_at : (name : List ℕ) (at : ℕ) → Begins name at → Parted name at → long_run 0 (units_at name at) ≡ false
unfolding units_at
short_at name at b p = fit_short false [] (labels_at name at) (fit_labels b.reads) p (λ e. refl) (omega arith)

bits_few : (name : List ℕ) (at n : ℕ) → Begins name at → AtBits name at n → n ≤ 256
bits_few name at n b a = let f = rw a.labels at (fit_labels b.reads) in omega (arith, f.0.1, a.size)

-- the bits that a name begins with, or none
pub front_of : (name : List ℕ) (o : Option Front) (none f : Front) → MatchOption o (Fronted name [] 0 name) (λ (g : Front). Fronted name g.octets.now g.bits g.rest.now)
    → f ≡ unwrap_or o none → none.octets.now ≡ [] → none.bits ≡ 0 → none.rest.now ≡ name → Fronted name f.octets.now f.bits f.rest.now
front_of name None none f h e p q r = rw (e, p, q, r) h
front_of name (Some g) none f h e p q r = rw e h

-- what is at hand when the last `kept` bits of a label and a target make a run
pub record Joint (name : List ℕ) (at skip kept : ℕ) (target octets : List ℕ) (count : ℕ) (rest : List ℕ) : Type 0 where
  pub fronted : Fronted target octets count rest
  pub small : Small target
  pub within : at + 2 + (skip + kept + 7) / 8 ≤ length name
  pub short : (length name ≤ 255) × (length target ≤ 255)
  pub few : skip + kept ≤ 256
  pub some : 0 < kept

pub joint : {name : List ℕ} {at skip kept : ℕ} {target : List ℕ} (o : Option Front) (none f : Front) → Standing target → Small target
    → (length name ≤ 255) × (at + 2 + (skip + kept + 7) / 8 ≤ length name) × (skip + kept ≤ 256) × (0 < kept)
    → MatchOption o (Fronted target [] 0 target) (λ (g : Front). Fronted target g.octets.now g.bits g.rest.now) → f ≡ unwrap_or o none
    → none.octets.now ≡ [] → none.bits ≡ 0 → none.rest.now ≡ target → Joint name at skip kept target f.octets.now f.bits f.rest.now
joint {target = target} o none f s m b h e x y z =
    record { fronted = front_of target o none f h e x y z; small = m; within = b.1; short = (b.0, s.begins.short); few = b.2; some = b.3 }

module _ {name : List ℕ} {at skip kept : ℕ} {target octets : List ℕ} {count : ℕ} {rest : List ℕ} (q : Joint name at skip kept target octets count rest) where
  abbrev front : List ℕ
  front = take at name

  abbrev run : List ℕ
  run = drop skip (unpack (skip + kept) (drop (at + 2) name))

  abbrev whole : List ℕ
  whole = unpack count octets ++ run

  abbrev vs : List Unit
  vs = units_at target 0

  pub whole_length : length whole ≡ count + kept
  whole_length =
      let k = kept_length name (at + 2) skip kept q.within in
      let n = length-append (unpack count octets) run in
      omega (arith, q.fronted.sized)

  -- where the run ends
  abbrev turn : ℕ
  turn = at + 2 + (count + kept + 7) / 8

  pub front_length : length front ≡ at
  front_length = length-take-le at name (omega (arith, q.within))

  -- the octets before the label and the header of the run are written, and then its bits
  abbrev Holds : List ℕ → Packer → List ℕ → Type 0
  Holds out p bs = Packed front at ((count + kept) % 256) out p bs

  pub begun : (out src : List ℕ) → out ≡ blank 255 → src ≡ front → turn + length rest ≤ 255 → Filled (src ++ drop at out) at front
  begun out src e f h = filled_first out src front at e f front_length (omega arith)

  pub opened : (out src : List ℕ) (p : Packer) → out ≡ blank 255 → src ≡ front → turn + length rest ≤ 255 → p ≡ packer (at + 2) 0 0
      → Holds (set (set (src ++ drop at out) at 65) (at + 1) ((count + kept) % 256)) p []
  opened out src p e f h g =
      rw g (packed_none (set (set (src ++ drop at out) at 65) (at + 1) ((count + kept) % 256)) front at ((count + kept) % 256)
      (filled_header (src ++ drop at out) front at 65 ((count + kept) % 256) (begun out src e f h) (omega arith)))

  module _ (h : turn + length rest ≤ 255) where
    -- there is room for the target's bits, and then for those kept
    pub ready_first : {out : List ℕ} {p : Packer} → Holds out p [] → Ready out p count
    ready_first g = packed_ready g count (omega arith)

    pub ready_next : {out : List ℕ} {p : Packer} → Holds out p (unpack count octets) → Ready out p kept
    ready_next g = packed_ready g kept (omega (arith, q.fronted.sized))

    pub ready_last : {out : List ℕ} {p : Packer} → Holds out p whole → Ready out p 0
    ready_last g = packed_ready g 0 (omega (arith, whole_length))

    -- the run is a label
    pub ends : {out last : List ℕ} {p : Packer} {t : ℕ} → Holds out p whole → Flushed out last p t → t ≡ turn
    ends {last = last} {t = t} g d = omega (arith, packed_place g last t d, whole_length)

    -- there is room for the rest of the target
    pub rest_fits : {out last : List ℕ} {p : Packer} {t : ℕ} (full : ℕ) → full ≡ turn + length rest → Holds out p whole → Flushed out last p t → length last ≡ length out
        → length (take (full - t) (drop t last)) ≡ length rest
    rest_fits {last = last} {t = t} full f g d l =
        let e = ends g d in
        let r = g.room in
        let z = length-drop t last in
        length-take-le (full - t) (drop t last) (omega arith) ∙ omega arith

    labelled : {out last : List ℕ} {p : Packer} {t : ℕ} → Holds out p whole → Flushed out last p t → length last ≡ length out → Filled last t (front ++ bit_label whole)
    labelled {last = last} {t = t} g d l =
        let n = whole_length in
        let e = ends g d in
        packed_done g last t d l (ap (λ (i : ℕ). i % 256) (sym n)) (omega (arith, q.some)) (omega arith)

  joined_octets : joined_of front run vs ≡ front ++ (bit_label whole ++ rest)
  unfolding joined_of encode
  joined_octets =
      let w = q.fronted in
      let tb = unpack count octets in
      let us = units_at target w.end in
      ap (λ (ys : List ℕ). front ++ ys)
      (ap (encode_from run) w.parts ∙ encode_before tb run us ∙ encode_run (tb ++ run) us w.ends
      ∙ ap (λ (ys : List ℕ). bit_label (tb ++ run) ++ ys) (sym (w.left ∙ octets_back target w.end w.begins q.small w.parted)))

  joined_long : long_run (length run) vs ≡ ltb 256 (count + kept)
  joined_long =
      let w = q.fronted in
      let tb = unpack count octets in
      let us = units_at target w.end in
      ap (long_run (length run)) w.parts ∙ long_before tb run us ∙ long_ends (length (tb ++ run)) us w.ends (short_at target w.end w.begins w.parted) ∙ ap (ltb 256) whole_length

  abbrev size : ℕ
  size = at + 2 + (count + kept + 7) / 8 + length rest

  joined_length_lem : length (joined_of front run vs) ≡ size
  joined_length_lem =
      let x = whole_length in
      let y = length-take-le at name (omega (arith, q.within)) in
      let a = ap length (bit_label_some whole (omega (arith, q.some))) in
      let p = pack_length whole in
      let l = length-append front (bit_label whole ++ rest) in
      let n = length-append (bit_label whole) rest in
      ap length joined_octets ∙ omega arith

  pub over_run : 256 < count + kept → JoinAnswer front run vs None (blank 255)
  unfolding joined_length joined_out overlong
  over_run h = answer_large (overlong front run vs) (joined_of front run vs) (rw (joined_long, lt-ltb 256 (count + kept) h))

  pub over_size : count + kept ≤ 256 → 255 < size → JoinAnswer front run vs None (blank 255)
  unfolding joined_length joined_out overlong
  over_size h k = answer_large (overlong front run vs) (joined_of front run vs) (rw (joined_long, le-ltb 256 (count + kept) h, joined_length_lem) (lt-ltb 255 size k))

  -- the output filled with the front, the run and the rest of the target
  pub over_none : {out last src : List ℕ} {p : Packer} {t : ℕ} (full : ℕ) → full ≡ size → count + kept ≤ 256 → size ≤ 255 → Holds out p whole → Flushed out last p t → length last ≡ length out
      → src ≡ rest → JoinAnswer front run vs (Some full) (take t last ++ (src ++ drop (full - t) (drop t last)))
  unfolding joined_length joined_out overlong
  over_none {last = last} {src = src} {t = t} full z h k g d l s =
      let x = ends k g d in
      let f = filled_next last (front ++ bit_label whole) src rest t (full - t) (length rest) full (labelled k g d l) s refl (omega arith) (omega arith) (omega arith) in
      let e : (front ++ bit_label whole) ++ rest ≡ joined_of front run vs = append_assoc front (bit_label whole) rest ∙ sym joined_octets in
      let r = answer_fits (overlong front run vs) (joined_of front run vs) (rw (joined_long, le-ltb 256 (count + kept) h, joined_length_lem) (le-ltb 255 size k)) in
      let w = filled_done _ ((front ++ bit_label whole) ++ rest) full f in
      (ap Some (w.0 ∙ ap length e) ∙ r.0, w.1 ∙ ap (λ (ys : List ℕ). ys ++ blank (255 - length ys)) e ∙ r.1)

-- no run, and a target
module _ (front target : List ℕ) (s : Standing target) (m : Small target) where
  plain_octets : joined_of front [] (units_at target 0) ≡ front ++ target
  unfolding joined_of encode
  plain_octets = ap (λ (ys : List ℕ). front ++ ys) (sym (octets_back target 0 s.begins m s.parted))

  plain_length : length (joined_of front [] (units_at target 0)) ≡ length front + length target
  plain_length = ap length plain_octets ∙ length-append front target

  plain_over : 255 < length front + length target → JoinAnswer front [] (units_at target 0) None (blank 255)
  unfolding joined_length joined_out overlong
  plain_over h =
      answer_large (overlong front [] (units_at target 0)) (joined_of front [] (units_at target 0))
      (rw (short_at target 0 s.begins s.parted, plain_length) (lt-ltb 255 (length front + length target) h))

  plain_none : (out : List ℕ) (size : ℕ) → length front + length target ≤ 255 → Filled out size (front ++ target)
      → JoinAnswer front [] (units_at target 0) (Some size) out
  unfolding joined_length joined_out overlong
  plain_none out size h f =
      let e : front ++ target ≡ joined_of front [] (units_at target 0) = sym plain_octets in
      let r = answer_fits (overlong front [] (units_at target 0)) (joined_of front [] (units_at target 0))
      (rw (short_at target 0 s.begins s.parted, plain_length) (le-ltb 255 (length front + length target) h)) in
      let w = filled_done out (front ++ target) size f in
      (ap Some (w.0 ∙ ap length e) ∙ r.0, w.1 ∙ ap (λ (ys : List ℕ). ys ++ blank (255 - length ys)) e ∙ r.1)

-- the first k units of a name: they are the octets before a place, and a run
pub record Cut (name : List ℕ) (k e : ℕ) (run : List ℕ) : Type 0 where
  pub text : stem [] (take k (units_at name 0)) ≡ take e name
  pub ends : last_run [] (take k (units_at name 0)) ≡ run
  pub short : long_run 0 (take k (units_at name 0)) ≡ false

module _ {name : List ℕ} {k e : ℕ} {run : List ℕ} (c : Cut name k e run) (target : List Unit) where
  abbrev next : List Unit
  next = rewrite_of k (units_at name 0) target

  cut_octets : encode next ≡ joined_of (take e name) run target
  unfolding encode rewrite_of joined_of
  cut_octets =
      let us = take k (units_at name 0) in
      encode_append [] us target ∙ ap (λ (ys : List ℕ). ys ++ encode_from (last_run [] us) target) c.text ∙ ap (λ (r : List ℕ). take e name ++ encode_from r target) c.ends

  cut_large : too_large next ≡ overlong (take e name) run target
  unfolding too_large overlong rewrite_of
  cut_large =
      let us = take k (units_at name 0) in
      let l : long_run 0 next ≡ long_run (length run) target = long_append [] us target c.short ∙ ap (λ (r : List ℕ). long_run (length r) target) c.ends in
      ap (λ (b : Bool). b || ltb 255 (length (encode next))) l ∙ ap (λ (ys : List ℕ). long_run (length run) target || ltb 255 (length ys)) cut_octets

  cut_answers : (size : Option ℕ) (out : List ℕ) → JoinAnswer (take e name) run target size out → SpliceAnswer next size out
  unfolding spliced_length joined_length spliced_out joined_out
  cut_answers size out y = (rw (cut_large, cut_octets) y.0, rw (cut_large, cut_octets) y.1)

-- the cut after unit j
module _ {name : List ℕ} {j : ℕ} {r : Spot} (f : Found name j r) (s : Standing name) (m : Small name) where
  found_take : take (j + 1) (units_at name 0) ≡ f.passed ++ take (r.left + 1) (units_at name r.at)
  found_take =
      let e : j + 1 ≡ length f.passed + (r.left + 1) = omega (arith, f.place) in
      ap (λ (k : ℕ). take k (units_at name 0)) e ∙ ap (take (length f.passed + (r.left + 1))) f.parts ∙ take-append-add f.passed (units_at name r.at) (r.left + 1)

  found_short : long_run 0 (take (j + 1) (units_at name 0)) ≡ false
  found_short =
      let us = units_at name 0 in
      long_front 0 (take (j + 1) us) (drop (j + 1) us) (ap (long_run 0) (take-append-drop (j + 1) us) ∙ short_at name 0 s.begins s.parted)

  cut_ordinary : (get_or name r.at 0 ≡ 65 → ⊥) → Parted name r.end → Cut name (j + 1) r.end []
  cut_ordinary g p =
      let t = f.turned in
      let o = t.single g in
      let h = f.within in
      let n : length t.front ≡ r.left + 1 = omega (arith, t.sized) in
      let q : take (j + 1) (units_at name 0) ≡ f.passed ++ t.front =
      found_take ∙ ap (λ (us : List Unit). f.passed ++ take (r.left + 1) us) t.parts
      ∙ ap (λ (us : List Unit). f.passed ++ us) (take_at t.front (units_at name r.end) (r.left + 1) n) in
      let l : last_run [] (f.passed ++ t.front) ≡ [] = last_append [] f.passed t.front ∙ t.plain g (last_run [] f.passed) in
      let w : units_at name 0 ≡ (f.passed ++ t.front) ++ units_at name r.end =
      f.parts ∙ ap (λ (us : List Unit). f.passed ++ us) t.parts ∙ sym (append_assoc f.passed t.front (units_at name r.end)) in
      record {
        text = ap (stem []) q ∙ stem_take name (f.passed ++ t.front) r.end s m t.begins p w l;
        ends = ap (last_run []) q ∙ l;
        short = found_short;
      }

  cut_bits : (skip kept : ℕ) → get_or name r.at 0 ≡ 65 → kept ≡ r.left + 1 → skip + kept ≡ r.units → Cut name (j + 1) r.at (drop skip (unpack (skip + kept) (drop (r.at + 2) name)))
  unfolding units_at units stem last_run
  cut_bits skip kept g e h =
      let t = f.turned in
      let k = t.counted g in
      let a = at_bits name r.at r.units f.begins g k.0 in
      let b = unpack (skip + kept) (drop (r.at + 2) name) in
      let us = units_at name (r.at + 2 + octets_for r.units) in
      let z : length b ≡ r.units = ap (λ (i : ℕ). length (unpack i (drop (r.at + 2) name))) h ∙ a.size in
      let kb = drop skip b in
      let v : units_at name r.at ≡ before b us = ap units a.labels ∙ ap (λ (i : ℕ). before (unpack i (drop (r.at + 2) name)) us) (sym h) in
      let u : before b us ≡ before kb [] ++ before (take skip b) us =
      ap (λ (c : List ℕ). before c us) (sym (take-append-drop skip b)) ∙ before_append (take skip b) kb us ∙ before_front kb [] (before (take skip b) us) in
      let d = length-drop skip b in
      let n : length (before kb []) ≡ r.left + 1 = before_length kb [] ∙ omega arith in
      let q : take (j + 1) (units_at name 0) ≡ f.passed ++ before kb [] =
      found_take ∙ ap (λ (ws : List Unit). f.passed ++ take (r.left + 1) ws) (v ∙ u)
      ∙ ap (λ (ws : List Unit). f.passed ++ ws) (take_at (before kb []) (before (take skip b) us) (r.left + 1) n) in
      let c : last_run [] f.passed ≡ [] = f.closed s.parted g in
      record {
        text = ap (stem []) q ∙ stem_append [] f.passed (before kb [])
            ∙ ap (λ (ys : List ℕ). stem [] f.passed ++ ys) (stem_before kb (last_run [] f.passed) []) ∙ append-nil (stem [] f.passed)
            ∙ stem_take name f.passed r.at s m f.begins (f.still s.parted) f.parts c;
        ends = ap (last_run []) q ∙ last_append [] f.passed (before kb []) ∙ ap (λ (ys : List ℕ). last_run ys (before kb [])) c ∙ last_before kb [] [] ∙ append-nil kb;
        short = found_short;
      }

-- what is at hand when the last of the k units kept is found
pub record Splicing (name : List ℕ) (k : ℕ) (target : List ℕ) (r : Spot) : Type 0 where
  pub found : Found name (k - 1) r
  pub standing : Standing name × Standing target
  pub small : Small name × Small target
  pub some : 0 < k

module _ {name : List ℕ} {k : ℕ} {target : List ℕ} {r : Spot} (q : Splicing name k target r) where
  -- places that lie within the name, and lengths
  pub found_within : (r.at < length name) × (r.end < length name) × (length name ≤ 255) × (length target ≤ 255)
  found_within = (begins_inside name r.at q.found.begins, begins_inside name r.end q.found.turned.begins, q.found.begins.short, q.standing.1.begins.short)

  abbrev rewritten : List Unit
  rewritten = rewrite_of k (units_at name 0) (units_at target 0)

  all_kept : k - 1 + 1 ≡ k
  all_kept = omega (arith, q.some)

  -- the bits kept of the label, and those left out
  abbrev kept : ℕ
  kept = r.left + 1

  abbrev skip : ℕ
  skip = r.units - (r.left + 1)

  skipped : skip + kept ≡ r.units
  skipped = omega (arith, q.found.within)

  -- the unit is a bit: what its label has, and the answer by its octets and bits
  module _ (h : get_or name r.at 0 ≡ 65) where
    pub bits_inside : (r.at + 2 + (skip + kept + 7) / 8 ≤ length name) × (skip + kept ≤ 256)
    bits_inside =
        let f = q.found in
        let d = at_bits name r.at r.units f.begins h (f.turned.counted h).0 in
        rw skipped (d.inside, bits_few name r.at r.units f.begins d)

    pub bits_spliced : (size : Option ℕ) (out : List ℕ) → JoinAnswer (take r.at name) (drop skip (unpack (skip + kept) (drop (r.at + 2) name))) (units_at target 0) size out
        → SpliceAnswer rewritten size out
    bits_spliced =
        let w = rw all_kept at (cut_bits q.found q.standing.0 q.small.0 skip kept h refl skipped) in
        cut_answers w (units_at target 0)

  -- the unit is a label: its end and the target are the name
  module _ (h : get_or name r.at 0 ≡ 65 → ⊥) where
    label_spliced : (size : Option ℕ) (out : List ℕ) → JoinAnswer (take r.end name) [] (units_at target 0) size out
        → SpliceAnswer rewritten size out
    label_spliced =
        let w = rw all_kept at (cut_ordinary q.found q.standing.0 q.small.0 h (found_parted name (k - 1) r q.found q.standing.0)) in
        cut_answers w (units_at target 0)

    pub end_length : length (take r.end name) ≡ r.end
    end_length = let w = found_within in length-take-le r.end name (omega arith)

    pub label_over : 255 < r.end + length target → SpliceAnswer rewritten None (blank 255)
    label_over e = label_spliced None (blank 255) (plain_over (take r.end name) target q.standing.1 q.small.1 (omega (arith, end_length)))

    label_filled : (out : List ℕ) (size : ℕ) → r.end + length target ≤ 255 → Filled out size (take r.end name ++ target)
        → SpliceAnswer rewritten (Some size) out
    label_filled out size e f = label_spliced (Some size) out (plain_none (take r.end name) target q.standing.1 q.small.1 out size (omega (arith, end_length)) f)

    -- the end of the label and the target are written
    pub label_fits : (out src last : List ℕ) → out ≡ blank 255 → src ≡ take r.end name → last ≡ target → r.end + length target ≤ 255
        → SpliceAnswer rewritten (Some (r.end + length target)) (take r.end (src ++ drop r.end out) ++ (last ++ drop (r.end + length target - r.end) (drop r.end (src ++ drop r.end out))))
    label_fits out src last e f g h =
        label_filled _ (r.end + length target) h
        (filled_next (src ++ drop r.end out) (take r.end name) last target r.end (r.end + length target - r.end) (length target) (r.end + length target)
        (filled_first out src (take r.end name) r.end e f end_length (omega arith)) g refl refl h (omega arith))
