-- The round trip: a standard form scans to the same units, and is never longer.
use Prim.Native.Nat.{ℕ, suc, ◌+◌, ◌-◌, ◌*◌, ◌%◌, ◌^◌, ◌≤◌, ◌<◌}
use mathlib.Core.Path.{◌≡◌, refl, ap, ◌∙◌, sym}
use mathlib.Core.Bool.{Bool, true, false}
use mathlib.Core.List.{List, [], ◌∷◌, ◌++◌, append-nil}
use lib.Dec.{ltb, eqb}
use lib.ListN.{length, get_or, take, drop, length-append, length-drop, get_or-append}
use lib.Seq.{length-take-le, take-append_seam, drop-append_seam}
use native.Mathlib.Omega.{arith}
use borrow.Author.Tests.{eq-eqb, eqb-true, eqb-false, ltb-true}
use Rattle.bits.specs.Bits.{octets_for, unpack, pack_from, pack}
use Rattle.bits.specs.Packing.{Bits}
use Rattle.labels.specs.Labels.{Label, ordinary, bits, first_of, count_for, count_of, size_of, run_of, label_of, unused_clear, fault_of}
use Rattle.labels.specs.Scan.{Reading, done, with, scan_from, scan_of, apart, labels_of, fills, well_formed}
use Rattle.labels.specs.Reads.{Reads, root, more}
use Rattle.names.specs.Standard.{Unit, label, bit, before, units, units_of, bit_label, encode_from, encode, standard_of, keys, key_of, Same}
use Rattle.names.proofs.Written.{write_label, written}
use Rattle.names.proofs.Merged.{one_label, merged, Fit, AllFit}
use Rattle.octets.specs.Octets.{Small}
use Rattle.bits.proofs.BitLaws.{unpack_length}
use Rattle.bits.proofs.PackingLaws.{pack_length, bits_append, unpack_bits, unpack_pack, pack_clear}
use Rattle.labels.proofs.LabelLaws.{count_least, is_ordinary, is_bits, size_bits, size_ordinary, run_bits_lem, run_ordinary, plain_clear, bits_clear, fault_none}
use Rattle.labels.proofs.ScanLaws.{scan_end, scan_more, label_bits, label_ordinary}
use Rattle.names.proofs.MergeLaws.{reads_end}
use Rattle.names.proofs.WriteLaws.{or_left, encode_before, bit_label_some, well_reads, written_back}

-- written labels, and their lengths
bit_label_merge : (b run : List ℕ) → length (bit_label (b ++ run)) ≤ length (bit_label b) + length (bit_label run)
unfolding bit_label
bit_label_merge [] run = omega arith
bit_label_merge (x ∷ b) [] = rw (append-nil b) (omega arith)
bit_label_merge (x ∷ b) (y ∷ run) =
    let l = pack_length ((x ∷ b) ++ (y ∷ run)) in
    let m = pack_length (x ∷ b) in
    let n = pack_length (y ∷ run) in
    let k = length-append b (y ∷ run) in
    omega arith

pub one_label_written : (run : List ℕ) (ls : List Label) → written (one_label run ls) ≡ bit_label run ++ written ls
unfolding one_label written write_label bit_label
one_label_written [] ls = refl
one_label_written (b ∷ bs) ls = refl

pub merged_written : (run : List ℕ) (ls : List Label) → written (merged run ls) ≡ encode_from run (units ls)
unfolding merged units encode_from written write_label
merged_written run [] = one_label_written run []
merged_written run (ordinary l ∷ ls) = one_label_written run (ordinary l ∷ merged [] ls) ∙ ap (λ (ys : List ℕ). bit_label run ++ (length l ∷ (l ++ ys))) (merged_written [] ls)
merged_written run (bits b ∷ ls) = merged_written (b ++ run) ls ∙ sym (encode_before b run (units ls))

-- encoding is never longer than what was written
pub encode_shorter : (run : List ℕ) (ls : List Label) → length (encode_from run (units ls)) ≤ length (bit_label run) + length (written ls)
unfolding units encode_from written write_label
encode_shorter run [] = let a = length-append (bit_label run) (0 ∷ []) in omega arith
encode_shorter run (ordinary l ∷ ls) =
    let ih = encode_shorter [] ls in
    let a = length-append (bit_label run) (length l ∷ (l ++ encode_from [] (units ls))) in
    let b = length-append l (encode_from [] (units ls)) in
    let c = length-append l (written ls) in
    omega arith
encode_shorter run (bits b ∷ ls) =
    let ih = encode_shorter (b ++ run) ls in
    let a = length-append (bit_label b) (written ls) in
    let c = bit_label_merge b run in
    rw (encode_before b run (units ls)) (omega arith)

-- the units are those of the labels
pub before_append : (b run : List ℕ) (us : List Unit) → before (b ++ run) us ≡ before run (before b us)
unfolding before
before_append [] run us = refl
before_append (x ∷ b) run us = before_append b run (bit x ∷ us)

pub one_label_units : (run : List ℕ) (ls : List Label) → units (one_label run ls) ≡ before run (units ls)
unfolding one_label units before
one_label_units [] ls = refl
one_label_units (b ∷ bs) ls = refl

pub merged_units : (run : List ℕ) (ls : List Label) → units (merged run ls) ≡ before run (units ls)
unfolding merged units before
merged_units run [] = one_label_units run []
merged_units run (ordinary l ∷ ls) = one_label_units run (ordinary l ∷ merged [] ls) ∙ ap (λ (us : List Unit). before run (label l ∷ us)) (merged_units [] ls)
merged_units run (bits b ∷ ls) = merged_units (b ++ run) ls ∙ before_append b run (units ls)

-- and no two bit labels are adjacent
pub one_label_apart : (run : List ℕ) (l : List ℕ) (ls : List Label) → apart false ls ≡ true → apart false (one_label run (ordinary l ∷ ls)) ≡ true
unfolding one_label apart
one_label_apart [] l ls h = h
one_label_apart (b ∷ bs) l ls h = h

pub merged_apart : (run : List ℕ) (ls : List Label) → apart false (merged run ls) ≡ true
unfolding merged one_label apart
merged_apart [] [] = refl
merged_apart (b ∷ bs) [] = refl
merged_apart run (ordinary l ∷ ls) = one_label_apart run l (merged [] ls) (merged_apart [] ls)
merged_apart run (bits b ∷ ls) = merged_apart (b ++ run) ls

-- a label that fits, at the front of octets: its figures, and that it earns no number
record Front (used run : ℕ) (l : Label) (xs : List ℕ) (next : ℕ) : Type 0 where
  some : 0 < length xs
  fault : fault_of used run xs ≡ 0
  first : first_of xs ≡ 0 → ⊥
  size : size_of xs ≡ length (write_label l)
  run_is : run_of run xs ≡ next
  label_is : label_of xs ≡ l

front_ordinary : (used run : ℕ) (l rest : List ℕ) → Fit (ordinary l) → used + suc (length l) ≤ 255 → Front used run (ordinary l) (length l ∷ (l ++ rest)) 0
unfolding write_label
front_ordinary used run l rest h k =
    let xs = length l ∷ (l ++ rest) in
    let f : first_of xs < 64 = h.1 in
    let n : first_of xs ≡ 65 → ⊥ = λ e. omega arith in
    let z : size_of xs ≡ 1 + length l = size_ordinary xs f in
    let a = length-append l rest in
    let r : run_of run xs ≡ 0 = run_ordinary run xs f in
    record {
      some = omega arith;
      fault = fault_none used run xs (omega arith) (is_ordinary (length l) f) (omega arith) (omega arith) (plain_clear xs f) (omega arith);
      first = λ e. omega (arith, h.0);
      size = omega arith;
      run_is = r;
      label_is = label_ordinary xs n ∙ ap ordinary (take-append_seam l rest);
    }

pub count_again : (n : ℕ) → 0 < n → n ≤ 256 → count_for (n % 256) ≡ n
unfolding count_for
count_again n p q = go (eqb (n % 256) 0) refl
  where
    go : (t : Bool) → eqb (n % 256) 0 ≡ t → count_for (n % 256) ≡ n
    go true e = let z = eqb-true (n % 256) 0 e in rw (count_for, e) (omega arith)
    go false e = let z : n % 256 ≡ 0 → ⊥ = eqb-false (n % 256) 0 e in rw (count_for, e) (omega (arith, z))

front_octets : (used run : ℕ) (b rest : List ℕ) → Fit (bits b) → used + 2 + octets_for (length b) ≤ 255 → run + length b ≤ 256
    → Front used run (bits b) (65 ∷ length b % 256 ∷ (pack_from 0 0 b ++ rest)) (run + length b)
unfolding count_of unused_clear write_label pack
front_octets used run b rest h k m =
    let n = length b in
    let xs : List ℕ = 65 ∷ n % 256 ∷ (pack_from 0 0 b ++ rest) in
    let c : count_for (n % 256) ≡ n = count_again n h.0 h.1 in
    let z : size_of xs ≡ 2 + octets_for (count_for (n % 256)) = size_bits xs refl in
    let y : size_of xs ≡ 2 + octets_for n = rw c at z in
    let p = pack_length b in
    let a = length-append (pack_from 0 0 b) rest in
    let r : run_of run xs ≡ run + n = run_bits_lem run xs refl ∙ ap (λ (j : ℕ). run + j) c in
    let w = bit_label_some b h.0 in
    let i : 1 + octets_for n ≡ suc (suc (octets_for n - 1)) = omega (arith, h.0) in
    let j : get_or (pack_from 0 0 b ++ rest) (octets_for n - 1) 0 ≡ get_or (pack_from 0 0 b) (octets_for n - 1) 0 = get_or-append (pack_from 0 0 b) rest 0 (octets_for n - 1) (omega (arith, h.0)) in
    let u : get_or xs (1 + octets_for n) 0 % 2 ^ (octets_for n * 8 - n) ≡ 0 = rw (i, j) (pack_clear n b (omega arith) h.2 h.0) in
    let v : get_or xs (1 + octets_for (count_for (n % 256))) 0 % 2 ^ (octets_for (count_for (n % 256)) * 8 - count_for (n % 256)) ≡ 0 = rw c u in
    let t : unused_clear xs ≡ true = eq-eqb (get_or xs (1 + octets_for (count_for (n % 256))) 0 % 2 ^ (octets_for (count_for (n % 256)) * 8 - count_for (n % 256))) 0 v in
    record {
      some = omega arith;
      fault = fault_none used run xs (omega arith) (is_bits 65 refl) (omega arith) (omega arith) (bits_clear xs t) (omega arith);
      first = λ e. omega arith;
      size = omega (arith, ap length w);
      run_is = r;
      label_is = label_bits xs refl ∙ ap bits (ap (λ (q : ℕ). unpack q (pack_from 0 0 b ++ rest)) c ∙ unpack_pack n b (omega arith) h.2 rest);
    }

front_bits : (used run : ℕ) (b rest : List ℕ) → Fit (bits b) → used + length (bit_label b) ≤ 255 → run + length b ≤ 256 → Front used run (bits b) (bit_label b ++ rest) (run + length b)
unfolding pack
front_bits used run b rest h k m =
    let w = bit_label_some b h.0 in
    let p = ap length w in
    let q = pack_length b in
    rw w (front_octets used run b rest h (omega arith) m)

-- scanning labels that fit gives them back
scan_front : (used run : ℕ) (l : Label) (xs rest : List ℕ) (next : ℕ) (ms : List Label) (end : ℕ) → Front used run l xs next → drop (length (write_label l)) xs ≡ rest
    → scan_from (used + length (write_label l)) next 0 rest ≡ done ms end → scan_from used run 0 xs ≡ done (l ∷ ms) end
unfolding with
scan_front used run l xs rest next ms end f d e =
    scan_more used run xs f.some f.fault f.first
    ∙ ap (λ (k : ℕ). with (label_of xs) (scan_from (used + k) (run_of run xs) 0 (drop k xs))) f.size
    ∙ ap (λ (k : ℕ). with (label_of xs) (scan_from (used + length (write_label l)) k 0 (drop (length (write_label l)) xs))) f.run_is
    ∙ ap (λ (ys : List ℕ). with (label_of xs) (scan_from (used + length (write_label l)) next 0 ys)) d
    ∙ ap (with (label_of xs)) e ∙ ap (λ (k : Label). done (k ∷ ms) end) f.label_is

pub scan_written : (after : Bool) (used run : ℕ) (ms : List Label) → AllFit ms → apart after ms ≡ true → (after ≡ false → run ≡ 0) → used + length (written ms) ≤ 255
    → scan_from used run 0 (written ms) ≡ done ms (used + length (written ms))
unfolding written apart write_label
scan_written after used run [] h a r k =
    let xs : List ℕ = 0 ∷ [] in
    scan_end used run xs (omega arith) (fault_none used run xs (omega arith) (is_ordinary 0 (omega arith)) (omega (arith, size_ordinary xs (omega arith))) (omega (arith, size_ordinary xs (omega arith)))
    (plain_clear xs (omega arith)) (omega (arith, run_ordinary run xs (omega arith)))) refl
scan_written after used run (ordinary l ∷ ms) h a r k =
    let p = length-append l (written ms) in
    let e : used + suc (length l) + length (written ms) ≡ used + suc (length (l ++ written ms)) = omega arith in
    let ih = scan_written false (used + suc (length l)) 0 ms h.1 a (λ q. refl) (omega arith) in
    scan_front used run (ordinary l) (length l ∷ (l ++ written ms)) (written ms) 0 ms (used + suc (length (l ++ written ms)))
    (front_ordinary used run l (written ms) h.0 (omega arith)) (drop-append_seam l (written ms)) (ih ∙ ap (done ms) e)
scan_written true used run (bits b ∷ ms) h a r k = let z : ◌≡◌ {A = ℕ} 0 1 = cc in let y : ⊥ = omega arith in absurd y
scan_written false used run (bits b ∷ ms) h a r k =
    let z : run ≡ 0 = r refl in
    let p = length-append (bit_label b) (written ms) in
    let e : used + length (bit_label b) + length (written ms) ≡ used + length (bit_label b ++ written ms) = omega arith in
    let ih = scan_written true (used + length (bit_label b)) (run + length b) ms h.1 a (λ q. cc) (omega arith) in
    scan_front used run (bits b) (bit_label b ++ written ms) (written ms) (run + length b) ms (used + length (bit_label b ++ written ms))
    (front_bits used run b (written ms) h.0 (omega arith) (omega (arith, h.0.1))) (drop-append_seam (bit_label b) (written ms)) (ih ∙ ap (done ms) e)

-- what a scan has read fits, merged
pub fit_one : (run : List ℕ) (ms : List Label) → Bits run → length run ≤ 256 → AllFit ms → AllFit (one_label run ms)
unfolding one_label
fit_one [] ms b l h = h
fit_one (x ∷ run) ms b l h = ((omega arith, l, b), h)

pub fit_merged : {used r : ℕ} {xs : List ℕ} {ls : List Label} {end : ℕ} → Reads used r xs ls end → (run : List ℕ) → Bits run → length run ≡ r → r ≤ 256 → AllFit (merged run ls)
unfolding merged
fit_merged (root o f e) run b l k = fit_one run [] b (omega arith) (record {})
fit_merged (more {used = used} {run = r} {xs = xs} {l = l} {ls = ls} {end = end} o f e q) run b m k =
    go (eqb (first_of xs) 65) refl (λ run' b' m' k'. fit_merged q run' b' m' k')
  where
    go : (t : Bool) → eqb (first_of xs) 65 ≡ t → ((run' : List ℕ) → Bits run' → length run' ≡ run_of r xs → run_of r xs ≤ 256 → AllFit (merged run' ls)) → AllFit (merged run (l ∷ ls))
    go true t ih =
        let g : first_of xs ≡ 65 = eqb-true (first_of xs) 65 t in
        let n = count_of xs in
        let w : l ≡ bits (unpack n (drop 2 xs)) = e ∙ label_bits xs g in
        let d = length-drop 2 xs in
        let z = size_bits xs g in
        let u = unpack_length n (drop 2 xs) (omega (arith, o.fits)) in
        let a = length-append (unpack n (drop 2 xs)) run in
        let y = run_bits_lem r xs g in
        rw w (ih (unpack n (drop 2 xs) ++ run) (bits_append (unpack n (drop 2 xs)) run (unpack_bits n (drop 2 xs)) b) (omega arith) o.short)
    go false t ih =
        let g : first_of xs ≡ 65 → ⊥ = eqb-false (first_of xs) 65 t in
        let h : first_of xs < 64 = ltb-true (first_of xs) 64 (or_left (ltb (first_of xs) 64) (eqb (first_of xs) 65) o.kind t) in
        let w : l ≡ ordinary (take (first_of xs) (drop 1 xs)) = e ∙ label_ordinary xs g in
        let z = size_ordinary xs h in
        let d = length-drop 1 xs in
        let u = length-take-le (first_of xs) (drop 1 xs) (omega (arith, o.fits)) in
        let y = run_ordinary r xs h in
        rw w (fit_one run (ordinary (take (first_of xs) (drop 1 xs)) ∷ merged [] ls) b (omega arith)
        ((omega (arith, f), omega arith), ih [] (λ i. omega arith) (omega arith) (omega arith)))

-- each label that a scan has read fits
pub fit_labels : {used r : ℕ} {xs : List ℕ} {ls : List Label} {end : ℕ} → Reads used r xs ls end → AllFit ls
fit_labels (root o f e) = record {}
fit_labels (more {run = r} {xs = xs} {l = l} {ls = ls} o f e q) = go (eqb (first_of xs) 65) refl (fit_labels q)
  where
    go : (t : Bool) → eqb (first_of xs) 65 ≡ t → AllFit ls → AllFit (l ∷ ls)
    go true t ih =
        let g : first_of xs ≡ 65 = eqb-true (first_of xs) 65 t in
        let n = count_of xs in
        let d = length-drop 2 xs in
        let z = size_bits xs g in
        let u = unpack_length n (drop 2 xs) (omega (arith, o.fits)) in
        let y = run_bits_lem r xs g in
        rw (e ∙ label_bits xs g) ((omega (arith, count_least xs), omega (arith, o.short), unpack_bits n (drop 2 xs)), ih)
    go false t ih =
        let g : first_of xs ≡ 65 → ⊥ = eqb-false (first_of xs) 65 t in
        let h : first_of xs < 64 = ltb-true (first_of xs) 64 (or_left (ltb (first_of xs) 64) (eqb (first_of xs) 65) o.kind t) in
        let z = size_ordinary xs h in
        let d = length-drop 1 xs in
        let u = length-take-le (first_of xs) (drop 1 xs) (omega (arith, o.fits)) in
        rw (e ∙ label_ordinary xs g) ((omega (arith, f), omega arith), ih)

module _ (xs : List ℕ) (s : Small xs) (w : well_formed xs ≡ true) where
  -- Theorem: a standard form is never longer than the name
  pub standard_shorter : length (standard_of xs) ≤ length xs
  unfolding standard_of units_of encode bit_label
  standard_shorter =
      let b = written_back (well_reads xs w) s in
      omega (arith, encode_shorter [] (labels_of (scan_of xs)), b.used_is)

  pub standard_scan : scan_of (standard_of xs) ≡ done (merged [] (labels_of (scan_of xs))) (length (standard_of xs))
  unfolding standard_of units_of encode scan_of
  standard_scan =
      let ms = merged [] (labels_of (scan_of xs)) in
      let e : standard_of xs ≡ written ms = sym (merged_written [] (labels_of (scan_of xs))) in
      let r = well_reads xs w in
      let l : length (standard_of xs) ≡ length (written ms) = ap length e in
      ap scan_of e ∙ scan_written false 0 0 ms (fit_merged r [] (λ i. omega arith) refl (omega arith)) (merged_apart [] (labels_of (scan_of xs))) (λ q. refl)
      (omega (arith, standard_shorter, (reads_end r).1)) ∙ ap (done ms) (omega arith)

  -- Theorem: a standard form is well formed
  pub standard_formed : well_formed (standard_of xs) ≡ true
  unfolding well_formed fills
  standard_formed = rw standard_scan (eq-eqb (length (standard_of xs)) (length (standard_of xs)) refl)

  -- Theorem: scanning a standard form gives the units of the name that it came from
  pub standard_units : units_of (standard_of xs) ≡ units_of xs
  unfolding units_of labels_of before
  standard_units = ap (λ (r : Reading). units (labels_of r)) standard_scan ∙ merged_units [] (labels_of (scan_of xs))

  -- Theorem: a standard form is its own standard form
  pub standard_again : standard_of (standard_of xs) ≡ standard_of xs
  unfolding standard_of
  standard_again = ap encode standard_units

-- Theorem: names with equal units are the same
pub units_same : (m n : List ℕ) → units_of m ≡ units_of n → Same m n
unfolding key_of
units_same m n h = ap (λ (us : List Unit). encode (keys us)) h

-- Theorem: the standard form of a name is the same name
pub same_standard : (m : List ℕ) → Small m → well_formed m ≡ true → Same (standard_of m) m
same_standard m s w = units_same (standard_of m) m (standard_units m s w)

-- Theorem: `Same` is reflexive
pub same_reflexive : (m : List ℕ) → Same m m
same_reflexive m = refl

-- Theorem: `Same` is symmetric
pub same_symmetric : (m n : List ℕ) → Same m n → Same n m
same_symmetric m n h = sym h

-- Theorem: `Same` is transitive
pub same_transitive : (l m n : List ℕ) → Same l m → Same m n → Same l n
same_transitive l m n h k = h ∙ k
