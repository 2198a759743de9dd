-- A label of a name in wire form, put as text.
use Prim.Native.Nat.{ℕ, zero, suc, ◌+◌, ◌-◌, ◌*◌, ◌≤◌, ◌<◌}
use mathlib.Core.Path.{◌≡◌, refl, ap, ◌∙◌, sym}
use mathlib.Core.List.{List, [], ◌∷◌}
use lib.ListN.{length, get_or, take, drop, set, length-drop}
use lib.Seq.{length-take-le, drop-drop, take-take}
use native.Mathlib.Omega.{arith}
use Rattle.octets.specs.Octets.{Small}
use Rattle.octets.proofs.OctetLaws.{small_drop}
use Rattle.bits.specs.Bits.{octets_for, unpack, pack}
use Rattle.labels.specs.Labels.{Label, ordinary, bits, first_of, count_for, count_of, size_of, label_of}
use Rattle.labels.proofs.LabelLaws.{first_at, count_at, size_bits}
use Rattle.labels.proofs.ScanLaws.{label_bits, label_ordinary}
use Rattle.names.specs.Standard.{bit_label}
use Rattle.names.specs.Merge.{Begins, labels_at}
use Rattle.names.proofs.Written.{write_label}
use Rattle.names.proofs.WriteLaws.{label_back, bit_label_some}
use Rattle.names.proofs.MergeLaws.{reads_sound, labels_at_lem, at_bits, at_ordinary, placed}
use Rattle.text.specs.Written.{Put}
use Rattle.text.proofs.WrittenLaws.{put_then, put_one, put_as}
use Rattle.nametext.specs.Writing.{nibbles, digits_for, hex_text, bits_text, label_text, ordinary_text}
use Rattle.nametext.specs.Put.{raw_bits, Labelled}
use Rattle.nametext.proofs.WriterLaws.{raw_length, ordinary_short}

-- the values of the first octets
nibbles_take : (m : ℕ) (xs : List ℕ) → nibbles (take m xs) ≡ take (2 * m) (nibbles xs)
unfolding nibbles
nibbles_take zero xs = refl
nibbles_take (suc m) [] = let e : 2 * suc m ≡ suc (suc (2 * m)) = omega arith in rw e
nibbles_take (suc m) (x ∷ xs) = let e : 2 * suc m ≡ suc (suc (2 * m)) = omega arith in rw (e, nibbles_take m xs)

middle : (m : ℕ) (xs : List ℕ) → drop 2 (take (suc (suc m)) xs) ≡ take m (drop 2 xs)
middle zero [] = refl
middle (suc m) [] = refl
middle zero (x ∷ []) = refl
middle (suc m) (x ∷ []) = refl
middle m (x ∷ y ∷ zs) = refl

-- the octets of a bit label are its bits packed
bits_octets : (name : List ℕ) (at n : ℕ) → Small name → Begins name at → get_or name at 0 ≡ 65 → n ≡ count_for (get_or name (at + 1) 0)
    → pack (unpack n (drop (at + 2) name)) ≡ take (octets_for n) (drop (at + 2) name)
unfolding write_label
bits_octets name at n s b f e =
    let xs = drop at name in
    let g : first_of xs ≡ 65 = first_at name at ∙ f in
    let q : count_of xs ≡ n = count_at name at ∙ sym e in
    let w = at_bits name at n b f e in
    let B = unpack n (drop (at + 2) name) in
    let d = drop-drop 2 at name in
    let l : label_of xs ≡ bits B = label_bits xs g ∙ ap (λ (k : ℕ). bits (unpack k (drop 2 xs))) q ∙ ap (λ (ys : List ℕ). bits (unpack n ys)) d in
    let z : size_of xs ≡ suc (suc (octets_for n)) = size_bits xs g ∙ ap (λ (k : ℕ). 2 + octets_for k) q ∙ omega_two (octets_for n) in
    let k : bit_label B ≡ take (size_of xs) xs = ap write_label (sym l) ∙ label_back at b.run xs (small_drop at name s) (reads_sound b.reads) in
    let m = bit_label_some B (omega (arith, w.some, w.size)) in
    ap (drop 2) (sym m ∙ k ∙ ap (λ (i : ℕ). take i xs) z) ∙ middle (octets_for n) xs ∙ ap (take (octets_for n)) d
  where
    omega_two : (i : ℕ) → 2 + i ≡ suc (suc i)
    omega_two i = omega arith

bits_raw : (name : List ℕ) (at n : ℕ) → Small name → Begins name at → get_or name at 0 ≡ 65 → n ≡ count_for (get_or name (at + 1) 0)
    → raw_bits n (drop (at + 2) name) ≡ bits_text (unpack n (drop (at + 2) name))
unfolding raw_bits bits_text hex_text
bits_raw name at n s b f e =
    let ys = drop (at + 2) name in
    let w = at_bits name at n b f e in
    let p = bits_octets name at n s b f e in
    let t : take (digits_for n) (nibbles (take (octets_for n) ys)) ≡ take (digits_for n) (nibbles ys) =
    ap (take (digits_for n)) (nibbles_take (octets_for n) ys) ∙ take-take (digits_for n) (2 * octets_for n) (nibbles ys) (omega arith) in
    rw (w.size, p, t)

-- a bit label and its dot
module _ (name old mid : List ℕ) (at n to e : ℕ) (s : Small name) (b : Begins name at) (r : to + 4 * (length name - at) ≤ length old) where
  pub bits_inside : get_or name at 0 ≡ 65 → n ≡ count_for (get_or name (at + 1) 0) → (at + 2 + octets_for n ≤ length name) × (to + digits_for n + 8 < length old)
  bits_inside f c =
      let w = at_bits name at n b f c in
      (w.inside, omega (arith, w.inside, w.some))

  pub bits_labelled : get_or name at 0 ≡ 65 → n ≡ count_for (get_or name (at + 1) 0) → n ≤ 256 → length mid ≡ length old → Put old mid to e (raw_bits n (drop (at + 2) name))
      → (e < length mid) × Labelled name old (set mid e 46) at to (placed (at + 2 + octets_for n) (e + 1))
  unfolding label_text
  bits_labelled f c y m p =
      let w = at_bits name at n b f c in
      let i = bits_inside f c in
      let ys = drop (at + 2) name in
      let d = length-drop (at + 2) name in
      let l = raw_length n ys y (omega (arith, w.inside)) in
      let t = bits_raw name at n s b f c in
      let u : length (bits_text (unpack n ys)) ≡ length (raw_bits n ys) = ap length (sym t) in
      let h : e < length mid = omega (arith, p.0) in (
        h,
        record {
          label = bits (unpack n ys);
          put = put_then old mid (set mid e 46) to e (e + 1) (bits_text (unpack n ys)) (46 ∷ []) (omega arith) (put_as old mid to e (raw_bits n ys) (bits_text (unpack n ys)) t p) (put_one mid e 46 h);
          labels = w.labels;
          begins = w.begins;
          on = omega arith;
          short = omega (arith, w.some);
        },
      )

  -- an ordinary label and its dot
  pub ordinary_inside : (get_or name at 0 ≡ 0 → ⊥) → (get_or name at 0 ≡ 65 → ⊥) → n ≡ get_or name at 0 → (at + 1 + n ≤ length name) × (to + 4 * n < length old)
  ordinary_inside f g c =
      let w = at_ordinary name at (n + 1) b f g (omega arith) in
      (omega (arith, w.inside), omega (arith, w.inside))

  ordinary_is : (get_or name at 0 ≡ 0 → ⊥) → (get_or name at 0 ≡ 65 → ⊥) → n ≡ get_or name at 0 → labels_at name at ≡ ordinary (take n (drop (at + 1) name)) ∷ labels_at name (at + 1 + n)
  ordinary_is f g c =
      let xs = drop at name in
      let w = at_ordinary name at (n + 1) b f g (omega arith) in
      let i : first_of xs ≡ get_or name at 0 = first_at name at in
      let q = labels_at_lem name at (λ h. f (sym i ∙ h)) in
      let l : label_of xs ≡ ordinary (take (first_of xs) (drop 1 xs)) = label_ordinary xs (λ h. g (sym i ∙ h)) in
      let d : drop 1 xs ≡ drop (at + 1) name = drop-drop 1 at name in
      let k : first_of xs ≡ n = i ∙ sym c in
      let o : ordinary (take (first_of xs) (drop 1 xs)) ≡ ordinary (take n (drop (at + 1) name)) = ap (λ (j : ℕ). ordinary (take j (drop 1 xs))) k ∙ ap (λ (ys : List ℕ). ordinary (take n ys)) d in
      let z : ordinary w.content ≡ label_of xs = heads (sym w.labels ∙ q) in
      let y : at + (n + 1) ≡ at + 1 + n = omega arith in
      w.labels ∙ ap (λ (x : Label). x ∷ labels_at name (at + (n + 1))) (z ∙ l ∙ o) ∙ ap (λ (j : ℕ). ordinary (take n (drop (at + 1) name)) ∷ labels_at name j) y
    where
      heads : {x y : Label} {ls ms : List Label} → x ∷ ls ≡ y ∷ ms → x ≡ y
      heads h = cc

  pub ordinary_labelled : (get_or name at 0 ≡ 0 → ⊥) → (get_or name at 0 ≡ 65 → ⊥) → n ≡ get_or name at 0 → length mid ≡ length old → Put old mid to e (ordinary_text (take n (drop (at + 1) name)))
      → (e < length mid) × Labelled name old (set mid e 46) at to (placed (at + 1 + n) (e + 1))
  unfolding label_text
  ordinary_labelled f g c m p =
      let w = at_ordinary name at (n + 1) b f g (omega arith) in
      let i = ordinary_inside f g c in
      let L = take n (drop (at + 1) name) in
      let d = length-drop (at + 1) name in
      let k = length-take-le n (drop (at + 1) name) (omega arith) in
      let l = ordinary_short L in
      let h : e < length mid = omega (arith, p.0) in
      let y : at + (n + 1) ≡ at + 1 + n = omega arith in (
        h,
        record {
          label = ordinary L;
          put = put_then old mid (set mid e 46) to e (e + 1) (ordinary_text L) (46 ∷ []) (omega arith) p (put_one mid e 46 h);
          labels = ordinary_is f g c;
          begins = rw y at w.begins;
          on = omega arith;
          short = omega arith;
        },
      )
