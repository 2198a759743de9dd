-- A scan read backwards: labels written out again are what was read.
use Prim.Native.Nat.{ℕ, zero, suc, ◌+◌, ◌-◌, ◌*◌, ◌%◌, ◌^◌, ◌≤◌, ◌<◌}
use mathlib.Core.Path.{◌≡◌, refl, ap, ◌∙◌, sym}
use mathlib.Core.Bool.{Bool, true, false, ◌||◌}
use mathlib.Core.List.{List, [], ◌∷◌, ◌++◌, append_assoc, append-nil}
use lib.Dec.{ltb, eqb}
use lib.ListN.{length, get_or, take, drop, length-drop, take-append-drop, length-append}
use lib.Seq.{length-take-le, get_or-take}
use native.Mathlib.Omega.{arith}
use borrow.Author.Tests.{eq-eqb, eqb-true, eqb-false, ltb-true, not-false}
use Rattle.bits.specs.Bits.{octets_for, unpack, pack}
use Rattle.labels.specs.Labels.{Label, ordinary, bits, first_of, count_for, count_of, size_of, run_of, label_of, unused_clear, fault_of}
use Rattle.labels.specs.Scan.{Reading, refused, done, with, scan_from, scan_of, apart, labels_of, fills, well_formed}
use Rattle.names.specs.Standard.{Unit, bit, before, units, units_of, bit_label, encode_from, encode, standard_of}
use Rattle.labels.specs.Reads.{Sound, Reads, root, more}
use Rattle.names.proofs.Written.{write_label, written}
use Rattle.octets.specs.Octets.{Small}
use Rattle.bits.proofs.BitLaws.{unpack_take, unpack_length, pack_unpack}
use Rattle.octets.proofs.OctetLaws.{nil_of_length, small_drop, small_take}
use Rattle.labels.proofs.LabelLaws.{fault_sound, count_least, size_bits, size_ordinary}
use Rattle.labels.proofs.ScanLaws.{scan_missing, scan_fault, scan_end, scan_more, size_least, label_bits, label_ordinary}

done_labels : {ls ms : List Label} {u v : ℕ} → done ls u ≡ done ms v → ls ≡ ms
done_labels h = cc

done_used : {ls ms : List Label} {u v : ℕ} → done ls u ≡ done ms v → u ≡ v
done_used h = cc

never_done : {n : ℕ} {ls : List Label} {u : ℕ} → refused n ≡ done ls u → ⊥
never_done h = let z : ◌≡◌ {A = ℕ} 0 1 = cc in omega arith

-- a label in front of a reading: the reading ended well, and with the others
with_done : (l : Label) (r : Reading) (ls : List Label) (u : ℕ) → with l r ≡ done ls u → (ms : List Label) × (r ≡ done ms u) × (ls ≡ l ∷ ms)
unfolding with
with_done l (refused n) ls u h = absurd (never_done h)
with_done l (done ms v) ls u h = (ms, cc, cc)

pub scan_reads : (fuel used run : ℕ) (xs : List ℕ) (ls : List Label) (end : ℕ) → length xs ≤ fuel → scan_from used run 0 xs ≡ done ls end → Reads used run xs ls end
scan_reads zero used run xs ls end h e = absurd (never_done (sym (scan_missing used run xs (omega arith)) ∙ e))
scan_reads (suc fuel) used run [] ls end h e = absurd (never_done (sym (scan_missing used run [] refl) ∙ e))
scan_reads (suc fuel) used run (x ∷ xs) ls end h e = go (fault_of used run (x ∷ xs)) refl (λ ms p q. scan_reads fuel (used + size_of (x ∷ xs)) (run_of run (x ∷ xs)) (drop (size_of (x ∷ xs)) (x ∷ xs)) ms end p q)
  where
    go : (n : ℕ) → fault_of used run (x ∷ xs) ≡ n
        → ((ms : List Label) → length (drop (size_of (x ∷ xs)) (x ∷ xs)) ≤ fuel → scan_from (used + size_of (x ∷ xs)) (run_of run (x ∷ xs)) 0 (drop (size_of (x ∷ xs)) (x ∷ xs)) ≡ done ms end
        → Reads (used + size_of (x ∷ xs)) (run_of run (x ∷ xs)) (drop (size_of (x ∷ xs)) (x ∷ xs)) ms end)
        → Reads used run (x ∷ xs) ls end
    go (suc n) f ih = absurd (never_done (sym (scan_fault used run (x ∷ xs) n (omega arith) f) ∙ e))
    go zero f ih = split (eqb x 0) refl
      where
        split : (t : Bool) → eqb x 0 ≡ t → Reads used run (x ∷ xs) ls end
        split true t =
            let z : x ≡ 0 = eqb-true x 0 t in
            let d = sym (scan_end used run (x ∷ xs) (omega arith) f z) ∙ e in
            rw (← done_labels d) (root (fault_sound used run (x ∷ xs) f) z (sym (done_used d)))
        split false t =
            let z : x ≡ 0 → ⊥ = eqb-false x 0 t in
            let d = with_done (label_of (x ∷ xs)) (scan_from (used + size_of (x ∷ xs)) (run_of run (x ∷ xs)) 0 (drop (size_of (x ∷ xs)) (x ∷ xs))) ls end
            (sym (scan_more used run (x ∷ xs) (omega arith) f z) ∙ e) in
            let k = length-drop (size_of (x ∷ xs)) (x ∷ xs) in
            let g = size_least (x ∷ xs) in
            rw d.2 (more (fault_sound used run (x ∷ xs) f) z refl (ih d.0 (omega arith) d.1))

-- an ordinary label's octets
write_ordinary : (x : ℕ) (xs : List ℕ) → x ≤ length xs → write_label (ordinary (take x xs)) ≡ x ∷ take x xs
unfolding write_label
write_ordinary x xs h = rw (length-take-le x xs h)

-- a bit label's octets
pub bit_label_some : (b : List ℕ) → 0 < length b → bit_label b ≡ 65 ∷ length b % 256 ∷ pack b
unfolding bit_label
bit_label_some [] h = let z : ⊥ = omega arith in absurd z
bit_label_some (x ∷ b) h = refl

count_octet : (c : ℕ) → c < 256 → count_for c % 256 ≡ c
unfolding count_for
count_octet c h = go (eqb c 0) refl
  where
    go : (t : Bool) → eqb c 0 ≡ t → count_for c % 256 ≡ c
    go true e = let z = eqb-true c 0 e in rw z
    go false e = rw (count_for, e) (omega arith)

count_most : (c : ℕ) → c < 256 → count_for c ≤ 256
unfolding count_for
count_most c h = go (eqb c 0) refl
  where
    go : (t : Bool) → eqb c 0 ≡ t → count_for c ≤ 256
    go true e = rw (count_for, e) (omega arith)
    go false e = rw (count_for, e) (omega arith)

write_bits : (c : ℕ) (ys : List ℕ) → c < 256 → Small ys → 0 < count_for c → octets_for (count_for c) ≤ length ys
    → get_or ys (octets_for (count_for c) - 1) 0 % 2 ^ (octets_for (count_for c) * 8 - count_for c) ≡ 0
    → write_label (bits (unpack (count_for c) ys)) ≡ 65 ∷ c ∷ take (octets_for (count_for c)) ys
unfolding write_label pack
write_bits c ys h s p f u =
    let n = count_for c in
    let zs = take (octets_for n) ys in
    let l : length zs ≡ octets_for n = length-take-le (octets_for n) ys f in
    let k : length (unpack n zs) ≡ n = unpack_length n zs (omega arith) in
    let g : get_or zs (octets_for n - 1) 0 ≡ get_or ys (octets_for n - 1) 0 = get_or-take (octets_for n) ys (octets_for n - 1) 0 (omega arith) in
    let v : get_or zs (octets_for n - 1) 0 % 2 ^ (octets_for n * 8 - n) ≡ 0 = rw g u in
    ap (λ (bs : List ℕ). bit_label bs) (unpack_take n ys) ∙ bit_label_some (unpack n zs) (omega arith)
    ∙ rw (k, count_octet c h, pack_unpack n zs (small_take (octets_for n) ys s) l v)

-- the label that a sound place begins, written out, is what stands there
pub or_left : (a b : Bool) → (a || b) ≡ true → b ≡ false → a ≡ true
or_left true b h e = refl
or_left false b h e = let z : ◌≡◌ {A = ℕ} 0 1 = cc in absurd_z z
  where
    absurd_z : ◌≡◌ {A = ℕ} 0 1 → false ≡ true
    absurd_z z = cc

sound_clear : (used run : ℕ) (xs : List ℕ) → first_of xs ≡ 65 → Sound used run xs → unused_clear xs ≡ true
sound_clear used run xs f o = not-false (unused_clear xs) (rw (eq-eqb (first_of xs) 65 f) at o.clear)

bits_back : (used run x c : ℕ) (ys : List ℕ) → Small (x ∷ c ∷ ys) → x ≡ 65 → Sound used run (x ∷ c ∷ ys)
    → write_label (label_of (x ∷ c ∷ ys)) ≡ take (size_of (x ∷ c ∷ ys)) (x ∷ c ∷ ys)
unfolding count_of unused_clear
bits_back used run x c ys s f o =
    let n = count_for c in
    let z : size_of (x ∷ c ∷ ys) ≡ 2 + octets_for n = size_bits (x ∷ c ∷ ys) f in
    let p : 0 < count_for c = count_least (x ∷ c ∷ ys) in
    let i : 1 + octets_for n ≡ suc (suc (octets_for n - 1)) = omega arith in
    let u = eqb-true (get_or (x ∷ c ∷ ys) (1 + octets_for n) 0 % 2 ^ (octets_for n * 8 - n)) 0 (sound_clear used run (x ∷ c ∷ ys) f o) in
    let v : get_or ys (octets_for n - 1) 0 % 2 ^ (octets_for n * 8 - n) ≡ 0 = rw i at u in
    let w : 2 + octets_for n ≡ suc (suc (octets_for n)) = omega arith in
    rw (label_bits (x ∷ c ∷ ys) f, write_bits c ys (s 1) (λ j. s (suc (suc j))) p (omega (arith, o.fits)) v, z, w, f)

pub label_back : (used run : ℕ) (xs : List ℕ) → Small xs → Sound used run xs → write_label (label_of xs) ≡ take (size_of xs) xs
label_back used run [] s o = let z : ⊥ = omega (arith, o.some) in absurd z
label_back used run (x ∷ xs) s o = go (eqb x 65) refl
  where
    go : (t : Bool) → eqb x 65 ≡ t → write_label (label_of (x ∷ xs)) ≡ take (size_of (x ∷ xs)) (x ∷ xs)
    go true e = bit_case xs s (eqb-true x 65 e) o
      where
        bit_case : (ys : List ℕ) → Small (x ∷ ys) → x ≡ 65 → Sound used run (x ∷ ys) → write_label (label_of (x ∷ ys)) ≡ take (size_of (x ∷ ys)) (x ∷ ys)
        bit_case [] s f o = let z = size_bits (x ∷ []) f in let y : ⊥ = omega (arith, o.fits) in absurd y
        bit_case (c ∷ ys) s f o = bits_back used run x c ys s f o
    go false e =
        let f : x ≡ 65 → ⊥ = eqb-false x 65 e in
        let k : x < 64 = ltb-true x 64 (or_left (ltb x 64) (eqb x 65) o.kind e) in
        let z : size_of (x ∷ xs) ≡ 1 + x = size_ordinary (x ∷ xs) k in
        let w : 1 + x ≡ suc x = omega arith in
        rw (label_ordinary (x ∷ xs) f, write_ordinary x xs (omega (arith, o.fits)), z, w)

-- all the labels of a scan, written out, are the octets used
pub record Back (used : ℕ) (xs : List ℕ) (ls : List Label) (end : ℕ) : Type 0 where
  pub rest : List ℕ
  pub all : xs ≡ written ls ++ rest
  pub used_is : end ≡ used + length (written ls)

front_zero : (xs : List ℕ) → 0 < length xs → first_of xs ≡ 0 → xs ≡ (0 ∷ []) ++ drop 1 xs
front_zero [] h e = let z : ⊥ = omega arith in absurd z
front_zero (x ∷ xs) h e = rw e

pub written_back : {used run : ℕ} {xs : List ℕ} {ls : List Label} {end : ℕ} → Reads used run xs ls end → Small xs → Back used xs ls end
unfolding written
written_back (root {xs = xs} o f e) s = record { rest = drop 1 xs; all = front_zero xs o.some f; used_is = e }
written_back (more {used = used} {run = run} {xs = xs} {l = l} {ls = ls} {end = end} o f e r) s =
    let ih = written_back r (small_drop (size_of xs) xs s) in
    let b : write_label l ≡ take (size_of xs) xs = ap write_label e ∙ label_back used run xs s o in
    let n : length (write_label l) ≡ size_of xs = ap length b ∙ length-take-le (size_of xs) xs o.fits in
    let g : end ≡ used + size_of xs + length (written ls) = ih.used_is in
    let a = length-append (write_label l) (written ls) in
    let q : xs ≡ (write_label l ++ written ls) ++ ih.rest =
    sym (take-append-drop (size_of xs) xs) ∙ ap (λ (ys : List ℕ). take (size_of xs) xs ++ ys) ih.all ∙ ap (λ (ys : List ℕ). ys ++ (written ls ++ ih.rest)) (sym b)
    ∙ sym (append_assoc (write_label l) (written ls) ih.rest) in
    record { rest = ih.rest; all = q; used_is = omega arith }

-- the bits of a label go in front of the run that was begun
pub encode_before : (b run : List ℕ) (us : List Unit) → encode_from run (before b us) ≡ encode_from (b ++ run) us
unfolding encode_from before
encode_before [] run us = refl
encode_before (x ∷ b) run us = encode_before b run (bit x ∷ us)

-- where no two bit labels are adjacent, the standard form is what was written
encode_apart : (after : Bool) (run : List ℕ) (ls : List Label) → apart after ls ≡ true → (after ≡ false → run ≡ []) → encode_from run (units ls) ≡ bit_label run ++ written ls
unfolding encode_from units apart written write_label
encode_apart after run [] h k = refl
encode_apart after run (ordinary l ∷ ls) h k = ap (λ (ys : List ℕ). bit_label run ++ (length l ∷ (l ++ ys))) (encode_apart false [] ls h (λ e. refl))
encode_apart true run (bits b ∷ ls) h k = let z : ◌≡◌ {A = ℕ} 0 1 = cc in let y : ⊥ = omega arith in absurd y
encode_apart false run (bits b ∷ ls) h k =
    rw (k refl) (encode_before b [] (units ls) ∙ ap (λ (ys : List ℕ). encode_from ys (units ls)) (append-nil b) ∙ encode_apart true b ls h (λ e. cc))

pub encode_written : (ls : List Label) → apart false ls ≡ true → encode (units ls) ≡ written ls
unfolding encode written bit_label
encode_written ls h = encode_apart false [] ls h (λ e. refl)

-- the reading of a well-formed name
pub well_reads : (xs : List ℕ) → well_formed xs ≡ true → Reads 0 0 xs (labels_of (scan_of xs)) (length xs)
unfolding well_formed scan_of fills labels_of
well_reads xs h = go (scan_from 0 0 0 xs) refl
  where
    go : (r : Reading) → scan_from 0 0 0 xs ≡ r → Reads 0 0 xs (labels_of (scan_from 0 0 0 xs)) (length xs)
    go (refused n) e = let f : fills (length xs) (refused n) ≡ true = rw e at h in let z : ◌≡◌ {A = ℕ} 0 1 = cc in let y : ⊥ = omega arith in absurd y
    go (done ls u) e =
        let f : fills (length xs) (done ls u) ≡ true = rw e at h in
        let g : u ≡ length xs = eqb-true u (length xs) f in
        rw e (scan_reads (length xs) 0 0 xs ls (length xs) (omega arith) (e ∙ ap (done ls) g))

-- Theorem: a well-formed name with no two adjacent bit labels is its own standard form
pub standard_apart : (xs : List ℕ) → Small xs → well_formed xs ≡ true → apart false (labels_of (scan_of xs)) ≡ true → standard_of xs ≡ xs
unfolding standard_of units_of
standard_apart xs s w a =
    let b = written_back (well_reads xs w) s in
    let n : length xs ≡ length (written (labels_of (scan_of xs))) + length b.rest = ap length b.all ∙ length-append (written (labels_of (scan_of xs))) b.rest in
    let z : b.rest ≡ [] = nil_of_length b.rest (omega (arith, b.used_is)) in
    encode_written (labels_of (scan_of xs)) a ∙ sym (append-nil (written (labels_of (scan_of xs)))) ∙ ap (λ (ys : List ℕ). written (labels_of (scan_of xs)) ++ ys) (sym z) ∙ sym b.all
