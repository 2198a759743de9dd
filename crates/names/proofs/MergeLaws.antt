-- Laws of merging: where labels begin, what a run's bits are, and that each step keeps the standard form.
use Prim.Native.Nat.{◌*◌, ℕ, zero, suc, ◌+◌, ◌-◌, ◌%◌, ◌≤◌, ◌<◌}
use mathlib.Core.Path.{◌≡◌, refl, ap, ◌∙◌, sym}
use mathlib.Core.Bool.{Bool, true, false}
use mathlib.Core.List.{List, [], ◌∷◌, ◌++◌, append_assoc, append-nil}
use lib.Dec.{ltb, eqb}
use lib.ListN.{length, get_or, take, drop, set, length-set, length-drop, length-append, take-append-drop}
use lib.Seq.{drop-drop, paste, take-paste, drop-paste, length-paste, append_snoc, length-take-le}
use native.Mathlib.Omega.{arith}
use native.Mathlib.Numerals.{add-one}
use borrow.Author.Tests.{eq-eqb, ne_eqb, eqb-true, eqb-false, ltb-true}
use Rattle.octets.specs.Octets.{blank}
use Rattle.bits.specs.Bits.{octets_for, unpack, pack_from, pack}
use Rattle.labels.specs.Labels.{Label, ordinary, bits, first_of, count_for, count_of, size_of, run_of, label_of}
use Rattle.labels.specs.Scan.{well_formed}
use Rattle.labels.specs.Reads.{Sound, Reads, root, more}
use Rattle.names.specs.Standard.{units, units_of, bit_label, encode_from, encode, standard_of}
use Rattle.bits.specs.Packing.{Clean, Ready, Pushed, Flushed}
use Rattle.names.specs.Merge.{labels_from, labels_at, Begins, run_bits, after_run, Ran, encode_at, Moved}
use Rattle.bits.specs.declared.inside.Packer.{Packer}
use Rattle.names.specs.declared.Run.{Run}
use Rattle.names.specs.declared.Place.{Place}
use Rattle.bits.proofs.BitLaws.{unpack_length}
use Rattle.labels.proofs.LabelLaws.{first_at, count_at, count_least, size_bits, size_ordinary}
use Rattle.labels.proofs.ScanLaws.{size_least, label_bits, label_ordinary, size_drop}
use Rattle.names.proofs.WriteLaws.{or_left, encode_before, well_reads, bit_label_some}
use Rattle.bits.proofs.PackLaws.{packer, clean_drop, clean_more, take_more}
use Rattle.octets.proofs.OctetLaws.{length_blank}

labels_skip : (k : ℕ) (xs : List ℕ) → labels_from k xs ≡ labels_from 0 (drop k xs)
unfolding labels_from
labels_skip zero xs = refl
labels_skip (suc k) [] = refl
labels_skip (suc k) (x ∷ xs) = labels_skip k xs

pub labels_end : (xs : List ℕ) → first_of xs ≡ 0 → labels_from 0 xs ≡ []
unfolding labels_from
labels_end [] e = refl
labels_end (x ∷ xs) e = rw (labels_from, eq-eqb x 0 e)

labels_more : (xs : List ℕ) → (first_of xs ≡ 0 → ⊥) → labels_from 0 xs ≡ label_of xs ∷ labels_from 0 (drop (size_of xs) xs)
unfolding labels_from
labels_more [] e = absurd (e refl)
labels_more (x ∷ xs) e =
    rw (labels_from, ne_eqb x 0 e) (ap (λ (ls : List Label). label_of (x ∷ xs) ∷ ls) (labels_skip (size_of (x ∷ xs) - 1) xs ∙ ap (labels_from 0) (size_drop x xs)))

pub reads_labels : {used run : ℕ} {xs : List ℕ} {ls : List Label} {end : ℕ} → Reads used run xs ls end → ls ≡ labels_from 0 xs
reads_labels (root {xs = xs} o f e) = sym (labels_end xs f)
reads_labels (more {xs = xs} {ls = ls} o f e r) = ap (λ (l : Label). l ∷ ls) e ∙ ap (λ (ms : List Label). label_of xs ∷ ms) (reads_labels r) ∙ sym (labels_more xs f)

pub reads_sound : {used run : ℕ} {xs : List ℕ} {ls : List Label} {end : ℕ} → Reads used run xs ls end → Sound used run xs
reads_sound (root o f e) = o
reads_sound (more o f e r) = o

reads_next : {used run : ℕ} {xs : List ℕ} {ls : List Label} {end : ℕ} → Reads used run xs ls end → (first_of xs ≡ 0 → ⊥)
    → Reads (used + size_of xs) (run_of run xs) (drop (size_of xs) xs) (labels_from 0 (drop (size_of xs) xs)) end
reads_next (root o f e) h = absurd (h f)
reads_next (more o f e r) h = rw (reads_labels r) at r

pub reads_end : {used run : ℕ} {xs : List ℕ} {ls : List Label} {end : ℕ} → Reads used run xs ls end → (used < end) × (end ≤ 255)
reads_end (root {used = used} {xs = xs} o f e) = let z = size_least xs in (omega arith, omega (arith, o.total))
reads_end (more {xs = xs} o f e r) = let z = size_least xs in let ih = reads_end r in (omega arith, ih.1)

-- where labels begin
pub begins_start : (name : List ℕ) → well_formed name ≡ true → Begins name 0
begins_start name w =
    let r = well_reads name w in
    record { run = 0; reads = rw (reads_labels r) at r; short = (reads_end r).1 }

pub begins_inside : (name : List ℕ) (at : ℕ) → Begins name at → at < length name
begins_inside name at b = (reads_end b.reads).0

pub begins_next : (name : List ℕ) (at next : ℕ) → Begins name at → (first_of (drop at name) ≡ 0 → ⊥) → next ≡ at + size_of (drop at name) → Begins name next
begins_next name at next b f e =
    let r = reads_next b.reads f in
    rw e (record { run = run_of b.run (drop at name); reads = rw (drop-drop (size_of (drop at name)) at name) at r; short = b.short })

pub labels_at_lem : (name : List ℕ) (at : ℕ) → (first_of (drop at name) ≡ 0 → ⊥) → labels_at name at ≡ label_of (drop at name) ∷ labels_at name (at + size_of (drop at name))
labels_at_lem name at f = labels_more (drop at name) f ∙ ap (λ (ys : List ℕ). label_of (drop at name) ∷ labels_from 0 ys) (drop-drop (size_of (drop at name)) at name)

-- a bit label of n bits begins at a place
pub record AtBits (name : List ℕ) (at n : ℕ) : Type 0 where
  pub begins : Begins name (at + 2 + octets_for n)
  pub labels : labels_at name at ≡ bits (unpack n (drop (at + 2) name)) ∷ labels_at name (at + 2 + octets_for n)
  pub inside : at + 2 + octets_for n ≤ length name
  pub some : 0 < n
  pub size : length (unpack n (drop (at + 2) name)) ≡ n

pub at_bits : (name : List ℕ) (at n : ℕ) → Begins name at → get_or name at 0 ≡ 65 → n ≡ count_for (get_or name (at + 1) 0) → AtBits name at n
at_bits name at n b f e =
    let xs = drop at name in
    let g : first_of xs ≡ 65 = first_at name at ∙ f in
    let q : count_of xs ≡ n = count_at name at ∙ sym e in
    let o = reads_sound b.reads in
    let z : size_of xs ≡ 2 + octets_for (count_of xs) = size_bits xs g in
    let y : at + 2 + octets_for n ≡ at + size_of xs = omega arith in
    let d = drop-drop 2 at name in
    let k : first_of xs ≡ 0 → ⊥ = λ h. omega arith in
    let l = length-drop at name in
    let m = length-drop (at + 2) name in
    let p : 0 < count_of xs = count_least xs in
    let i : at + 2 + octets_for n ≤ length name = omega (arith, o.fits, begins_inside name at b) in
    record {
      begins = begins_next name at (at + 2 + octets_for n) b k y;
      labels = labels_at_lem name at k ∙ rw (label_bits xs g, d, q, ← y);
      inside = i;
      some = omega arith;
      size = unpack_length n (drop (at + 2) name) (omega arith);
    }

-- no bit label begins here: the run has ended
run_none : (xs : List ℕ) → (first_of xs ≡ 65 → ⊥) → (run_bits (labels_from 0 xs) ≡ []) × (after_run (labels_from 0 xs) ≡ labels_from 0 xs)
unfolding run_bits after_run
run_none xs f = go (eqb (first_of xs) 0) refl
  where
    go : (t : Bool) → eqb (first_of xs) 0 ≡ t → (run_bits (labels_from 0 xs) ≡ []) × (after_run (labels_from 0 xs) ≡ labels_from 0 xs)
    go true e = let l = labels_end xs (eqb-true (first_of xs) 0 e) in (rw l, rw l)
    go false e =
        let l = labels_more xs (eqb-false (first_of xs) 0 e) ∙ ap (λ (y : Label). y ∷ labels_from 0 (drop (size_of xs) xs)) (label_ordinary xs f) in
        (rw l, rw l)

abbrev pub run_to : ℕ → Packer → Run
run_to end p = record { end = end; packer = p }

-- the header of a run whose labels have all been passed
pub header : (out : List ℕ) (to v w : ℕ) → to + 2 ≤ length out → take (to + 2) (set (set out to v) (to + 1) w) ≡ take to out ++ (v ∷ w ∷ [])
header out to v w h =
    let e : to + 2 ≡ to + 1 + 1 = omega arith in
    let l = length-set out to v in
    rw e (take_more (set out to v) (to + 1) w (omega arith) ∙ ap (λ (ys : List ℕ). ys ++ (w ∷ [])) (take_more out to v (omega arith)) ∙ append_assoc (take to out) (v ∷ []) (w ∷ []))

pub ran_none : (name out : List ℕ) (at sum to w : ℕ) → Begins name at → (get_or name at 0 ≡ 65 → ⊥) → to + 2 ≤ length out → Clean out to → w ≡ sum % 256
    → Ran name out (set (set out to 65) (to + 1) w) at sum to (run_to at (packer (to + 2) 0 0))
ran_none name out at sum to w b f h c e =
    let n = run_none (drop at name) (λ g. f (sym (first_at name at) ∙ g)) in
    let z : to + 2 ≡ to + 1 + 1 = omega arith in
    let l : length (run_bits (labels_at name at)) ≡ 0 = ap length n.0 in
    let v : w ≡ (sum + length (run_bits (labels_at name at))) % 256 = e ∙ ap (λ (k : ℕ). k % 256) (omega arith) in
    record {
      adds = λ rest. ap (λ (ys : List ℕ). ys ++ pack_from 0 0 rest) (header out to 65 w h) ∙ rw (v, n.0);
      clean = rw z (clean_more (set out to 65) (to + 1) w (clean_more out to 65 c));
      have = omega arith;
      value = omega arith;
      place = omega arith;
      begins = b;
      after = sym n.1;
      far = omega arith;
      fits = omega arith;
    }

-- one label more of a run, to the left of what is packed
pub ran_more : (name old mid new : List ℕ) (at n sum s to : ℕ) (r : Run) (q : Packer) → AtBits name at n → s ≡ sum + n
    → Ran name old mid (at + 2 + octets_for n) s to r → Pushed mid new r.packer q (unpack n (drop (at + 2) name)) → Ran name old new at sum to (run_to r.end q)
unfolding run_bits after_run
ran_more name old mid new at n sum s to r q b e f g =
    let R = run_bits (labels_at name (at + 2 + octets_for n)) in
    let bs = unpack n (drop (at + 2) name) in
    let w : run_bits (labels_at name at) ≡ R ++ bs = ap run_bits b.labels in
    let l : length (run_bits (labels_at name at)) ≡ length R + length bs = ap length w ∙ length-append R bs in
    let k = b.size in
    let v : s + length R ≡ sum + length (run_bits (labels_at name at)) = omega arith in
    record {
      adds = λ rest. g.adds rest ∙ f.adds (bs ++ rest) ∙ rw (v, w, append_assoc R bs rest);
      clean = g.clean;
      have = g.have;
      value = g.value;
      place = omega (arith, g.place, f.place);
      begins = f.begins;
      after = f.after ∙ sym (ap after_run b.labels);
      far = omega (arith, f.far);
      fits = omega (arith, f.fits, f.far);
    }

-- room for a label's bits after those of the labels to its right
pub ran_ready : (name old mid : List ℕ) (at n s to : ℕ) (r : Run) → AtBits name at n → Ran name old mid (at + 2 + octets_for n) s to r → length mid ≡ length old
    → to + (length name - at) ≤ length old → Ready mid r.packer n
ran_ready name old mid at n s to r b f l h =
    let i = begins_inside name r.end f.begins in
    record { clean = f.clean; have = f.have; value = f.value; room = omega (arith, f.place, f.fits, f.far, b.inside) }

-- the standard form begins with the run's one label
pub encode_run : (run : List ℕ) (ls : List Label) → encode_from run (units ls) ≡ bit_label (run_bits ls ++ run) ++ encode_from [] (units (after_run ls))
unfolding encode_from units run_bits after_run bit_label
encode_run run [] = refl
encode_run run (ordinary l ∷ ls) = refl
encode_run run (bits b ∷ ls) =
    encode_before b run (units ls) ∙ encode_run (b ++ run) ls ∙ ap (λ (ys : List ℕ). bit_label ys ++ encode_from [] (units (after_run ls))) (sym (append_assoc (run_bits ls) b run))

abbrev pub placed : ℕ → ℕ → Place
placed at to = record { at = at; to = to }

pub run_length : (name : List ℕ) (at n : ℕ) → AtBits name at n → length (run_bits (labels_at name at)) ≡ length (run_bits (labels_at name (at + 2 + octets_for n))) + n
unfolding run_bits
run_length name at n b =
    let R = run_bits (labels_at name (at + 2 + octets_for n)) in
    let bs = unpack n (drop (at + 2) name) in
    ap length (ap run_bits b.labels) ∙ length-append R bs ∙ ap (λ (k : ℕ). length R + k) b.size

-- a run that begins here has bits
pub run_some : (name : List ℕ) (at : ℕ) → Begins name at → get_or name at 0 ≡ 65 → 0 < length (run_bits (labels_at name at))
run_some name at b f =
    let n = count_for (get_or name (at + 1) 0) in
    let k = at_bits name at n b f refl in
    omega (arith, run_length name at n k, k.some)

pub run_written : (X A T : List ℕ) (c : ℕ) → 0 < length X → c ≡ length X % 256 → T ≡ (A ++ (65 ∷ c ∷ [])) ++ pack_from 0 0 (X ++ []) → T ≡ A ++ bit_label X
unfolding pack
run_written X A T c h e t =
    t ∙ append_assoc A (65 ∷ c ∷ []) (pack_from 0 0 (X ++ [])) ∙ rw (append-nil X, e, bit_label_some X h)

pub moved_run : (name old mid last : List ℕ) (at to t : ℕ) (r : Run) → 0 < length (run_bits (labels_at name at)) → to ≤ at → length (run_bits (labels_at name at)) + 16 ≤ 8 * (r.end - at)
    → Ran name old mid at 0 to r → Flushed mid last r.packer t → Moved name old last at to (placed r.end t)
unfolding encode_at
moved_run name old mid last at to t r some h short w d =
    let X = run_bits (labels_at name at) in
    let s : encode_at name at ≡ bit_label X ++ encode_at name r.end =
    encode_run [] (labels_at name at) ∙ ap (λ (ys : List ℕ). bit_label ys ++ encode_from [] (units (after_run (labels_at name at)))) (append-nil X)
    ∙ ap (λ (ms : List Label). bit_label X ++ encode_from [] (units ms)) (sym w.after) in
    let c : (0 + length X) % 256 ≡ length X % 256 = ap (λ (k : ℕ). k % 256) (omega arith) in
    let u : take t last ≡ take to old ++ bit_label X = run_written X (take to old) (take t last) ((0 + length X) % 256) some c (d.whole ∙ w.adds []) in
    record {
      same = ap (λ (ys : List ℕ). ys ++ encode_at name r.end) u ∙ append_assoc (take to old) (bit_label X) (encode_at name r.end) ∙ ap (λ (ys : List ℕ). take to old ++ ys) (sym s);
      clean = d.clean;
      begins = w.begins;
      low = omega (arith, d.place, w.place, w.far);
      on = omega (arith, w.far);
    }

-- an ordinary label
first_cons : (xs : List ℕ) → 0 < length xs → first_of xs ∷ take (first_of xs) (drop 1 xs) ≡ take (first_of xs + 1) xs
first_cons [] h = let z : ⊥ = omega arith in absurd z
first_cons (x ∷ xs) h = rw add-one

pub record AtOrdinary (name : List ℕ) (at n : ℕ) : Type 0 where
  pub content : List ℕ
  pub labels : labels_at name at ≡ ordinary content ∷ labels_at name (at + n)
  pub begins : Begins name (at + n)
  pub inside : at + n ≤ length name
  pub encoded : encode_at name at ≡ take n (drop at name) ++ encode_at name (at + n)

pub at_ordinary : (name : List ℕ) (at n : ℕ) → Begins name at → (get_or name at 0 ≡ 0 → ⊥) → (get_or name at 0 ≡ 65 → ⊥) → n ≡ get_or name at 0 + 1 → AtOrdinary name at n
unfolding encode_at units encode_from bit_label
at_ordinary name at n b f g e =
    let xs = drop at name in
    let i : first_of xs ≡ get_or name at 0 = first_at name at in
    let o = reads_sound b.reads in
    let k : first_of xs ≡ 0 → ⊥ = λ h. f (sym i ∙ h) in
    let j : first_of xs ≡ 65 → ⊥ = λ h. g (sym i ∙ h) in
    let u : first_of xs < 64 = ltb-true (first_of xs) 64 (or_left (ltb (first_of xs) 64) (eqb (first_of xs) 65) o.kind (ne_eqb (first_of xs) 65 j)) in
    let z : size_of xs ≡ 1 + first_of xs = size_ordinary xs u in
    let y : at + n ≡ at + size_of xs = omega arith in
    let m : n ≡ first_of xs + 1 = omega arith in
    let l = length-drop at name in
    let d = length-drop 1 xs in
    let t = length-take-le (first_of xs) (drop 1 xs) (omega (arith, o.fits)) in
    let w : labels_at name at ≡ ordinary (take (first_of xs) (drop 1 xs)) ∷ labels_at name (at + n) = labels_at_lem name at k ∙ rw (label_ordinary xs j, ← y) in
    record {
      content = take (first_of xs) (drop 1 xs);
      labels = w;
      begins = begins_next name at (at + n) b k y;
      inside = omega (arith, o.fits, begins_inside name at b);
      encoded = ap (λ (ms : List Label). encode_from [] (units ms)) w ∙ ap (λ (v : ℕ). (v ∷ take (first_of xs) (drop 1 xs)) ++ encode_from [] (units (labels_at name (at + n)))) t
          ∙ ap (λ (ys : List ℕ). ys ++ encode_from [] (units (labels_at name (at + n)))) (first_cons xs o.some ∙ ap (λ (v : ℕ). take v xs) (sym m));
    }

pub moved_ordinary : (name old new : List ℕ) (at n to : ℕ) → AtOrdinary name at n → to ≤ at → 0 < n → length name ≤ length old → Clean old to → new ≡ paste old to (drop at name) n
    → Moved name old new at to (placed (at + n) (to + n))
moved_ordinary name old new at n to b h p f c e =
    let l = length-drop at name in
    let i : n ≤ length (drop at name) = omega (arith, b.inside) in
    let j : to ≤ length old = omega (arith, b.inside) in
    let k : length new ≡ length old = ap length e ∙ length-paste old to (drop at name) n (omega (arith, b.inside)) i in
    let t : take (to + n) new ≡ take to old ++ take n (drop at name) = ap (take (to + n)) e ∙ take-paste old to (drop at name) n j i in
    record {
      same = ap (λ (ys : List ℕ). ys ++ encode_at name (at + n)) t ∙ append_assoc (take to old) (take n (drop at name)) (encode_at name (at + n)) ∙ ap (λ (ys : List ℕ). take to old ++ ys) (sym b.encoded);
      clean = ap (drop (to + n)) e ∙ drop-paste old to (drop at name) n j i ∙ clean_drop old to n c ∙ ap (λ (v : ℕ). blank (v - (to + n))) (sym k);
      begins = b.begins;
      low = omega arith;
      on = omega arith;
    }

-- the loop over a name: what it keeps
pub record Merging (name out : List ℕ) (at to : ℕ) : Type 0 where
  pub same : take to out ++ encode_at name at ≡ standard_of name
  pub clean : Clean out to
  pub begins : Begins name at
  pub low : to ≤ at
  pub room : length out ≡ 255

pub merging_start : (name out : List ℕ) → well_formed name ≡ true → out ≡ blank 255 → Merging name out 0 0
unfolding encode_at standard_of units_of encode
merging_start name out w e =
    let r = well_reads name w in
    let l : length out ≡ 255 = ap length e ∙ length_blank 255 in
    record {
      same = ap (λ (ls : List Label). encode_from [] (units ls)) (sym (reads_labels r));
      clean = e ∙ ap blank (sym (ap (λ (k : ℕ). k - 0) l));
      begins = begins_start name w;
      low = omega arith;
      room = l;
    }

pub merging_turn : (name old new : List ℕ) (at to : ℕ) (r : Place) → Merging name old at to → Moved name old new at to r → length new ≡ length old → Merging name new r.at r.to
merging_turn name old new at to r m v l = record { same = v.same ∙ m.same; clean = v.clean; begins = v.begins; low = v.low; room = l ∙ m.room }

pub merging_end : (name out : List ℕ) (at to : ℕ) → Merging name out at to → get_or name at 0 ≡ 0
    → (out ≡ standard_of name ++ blank (255 - length (standard_of name))) × (to + 1 ≡ length (standard_of name)) × (to + 1 ≤ 255)
unfolding encode_at encode_from units blank bit_label
merging_end name out at to m f =
    let e : labels_at name at ≡ [] = labels_end (drop at name) (first_at name at ∙ f) in
    let s : standard_of name ≡ take to out ++ (0 ∷ []) = sym m.same ∙ ap (λ (ls : List Label). take to out ++ encode_from [] (units ls)) e in
    let i = begins_inside name at m.begins in
    let k = m.begins.short in
    let t : length (take to out) ≡ to = length-take-le to out (omega (arith, m.low, m.room)) in
    let l : length (standard_of name) ≡ to + 1 = ap length s ∙ length-append (take to out) (0 ∷ []) ∙ ap (λ (v : ℕ). v + 1) t in
    let q : length out - to ≡ suc (255 - (to + 1)) = omega (arith, m.low, m.room) in
    let b : blank (length out - to) ≡ 0 ∷ blank (255 - (to + 1)) = ap blank q in (
      sym (take-append-drop to out) ∙ ap (λ (ys : List ℕ). take to out ++ ys) (m.clean ∙ b) ∙ sym (append_snoc (take to out) 0 (blank (255 - (to + 1))))
          ∙ rw (l) (ap (λ (ys : List ℕ). ys ++ blank (255 - (to + 1))) (sym s)),
      sym l,
      omega (arith, m.low),
    )
