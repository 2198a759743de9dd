-- A run of bit labels, or an ordinary label, read from a text and written.
use Prim.Native.Nat.{ℕ, ◌+◌, ◌-◌, ◌*◌, ◌%◌, ◌≤◌, ◌<◌}
use mathlib.Core.Path.{◌≡◌, refl, ap, ◌∙◌, sym}
use mathlib.Core.Bool.{Bool, true, false, not}
use mathlib.Core.List.{List, [], ◌∷◌, ◌++◌, map, append_assoc, append-nil}
use lib.Dec.{ltb, eqb}
use lib.ListN.{length, take, drop, set, length-append}
use native.Mathlib.Omega.{arith}
use borrow.Author.Tests.{ltb-true, ltb-false}
use Rattle.bits.specs.Bits.{octets_for, unpack, pack_from}
use Rattle.bits.specs.Packing.{Clean, Ready, Pushed, Flushed}
use Rattle.bits.specs.declared.inside.Packer.{Packer}
use Rattle.bits.proofs.PackLaws.{packer, clean_more}
use Rattle.labels.specs.Labels.{Label}
use Rattle.names.specs.Standard.{units, bit_label, encode_from}
use Rattle.names.specs.Merge.{run_bits, after_run}
use Rattle.names.specs.declared.Run.{Run}
use Rattle.names.proofs.MergeLaws.{run_to, placed, header, run_written, encode_run}
use Rattle.nametext.specs.Reading.{octets_in, is_bits_text, bit_octets, label_in}
use Rattle.nametext.specs.Places.{rest_of, encode_rest, Standing, Filled, Ran, Moved}
use Rattle.nametext.proofs.JudgeLaws.{label_size, run_some}
use Rattle.nametext.proofs.DotLaws.{parts_end}
use Rattle.text.specs.Digits.{leading}
use Rattle.nametext.proofs.PlaceLaws.{dot_passed}
use Rattle.nametext.proofs.RestLaws.{AtBits, at_bits, AtWord, at_word}

-- no bit label stands at a place: the run has ended
run_ended : (text : List ℕ) (at : ℕ) → Standing text at → is_bits_text (drop at text) ≡ false → (run_bits (rest_of text at) ≡ []) × (after_run (rest_of text at) ≡ rest_of text at)
unfolding run_bits after_run
run_ended text at s b = go (ltb at (length text)) refl
  where
    go : (t : Bool) → ltb at (length text) ≡ t → (run_bits (rest_of text at) ≡ []) × (after_run (rest_of text at) ≡ rest_of text at)
    go true e = let r = at + leading (λ x. not (eqb x 46)) (drop at text) in let w = (at_word text at r s (dot_passed text at r s.inside refl) (ltb-true at (length text) e) b).labels in (ap run_bits w, ap after_run w ∙ sym w)
    go false e = let w : rest_of text at ≡ [] = ap (map label_in) (parts_end text at (ltb-false at (length text) e)) in (ap run_bits w, ap after_run w ∙ sym w)

pub ran_none : (text out : List ℕ) (at sum to w : ℕ) → Standing text at → is_bits_text (drop at text) ≡ false → to + 2 ≤ length out → Clean out to → w ≡ sum % 256
    → Ran text out (set (set out to 65) (to + 1) w) at sum to (run_to at (packer (to + 2) 0 0))
ran_none text out at sum to w s b h c e =
    let n = run_ended text at s b in
    let z : to + 2 ≡ to + 1 + 1 = omega arith in
    let l : length (run_bits (rest_of text at)) ≡ 0 = ap length n.0 in
    let v : w ≡ (sum + length (run_bits (rest_of text at))) % 256 = e ∙ ap (λ (k : ℕ). k % 256) (omega arith) in
    record {
      adds = λ rest. ap (λ (ys : List ℕ). ys ++ pack_from 0 0 rest) (header out to 65 w h) ∙ rw (v, n.0);
      clean = rw z (clean_more (set out to 65) (to + 1) w (clean_more out to 65 c));
      have = omega arith;
      value = omega arith;
      place = omega arith;
      standing = s;
      after = sym n.1;
      far = omega arith;
      on = λ k. let y : ⊥ = omega arith in absurd y;
    }

-- one label more of a run, to the left of what is packed
module _ (text : List ℕ) (at e n : ℕ) (b : AtBits text at e n) where
  pub run_more : run_bits (rest_of text at) ≡ run_bits (rest_of text (e + 1)) ++ unpack n (bit_octets (take (e - at) (drop at text)))
  unfolding run_bits
  run_more = ap run_bits b.labels

  pub run_length : length (run_bits (rest_of text at)) ≡ length (run_bits (rest_of text (e + 1))) + n
  run_length = ap length run_more ∙ length-append (run_bits (rest_of text (e + 1))) (unpack n (bit_octets (take (e - at) (drop at text)))) ∙ ap (λ (k : ℕ). length (run_bits (rest_of text (e + 1))) + k) b.size

  pub ran_more : (old mid new : List ℕ) (sum s to : ℕ) (r : Run) (q : Packer) → s ≡ sum + n → Ran text old mid (e + 1) s to r
      → Pushed mid new r.packer q (unpack n (bit_octets (take (e - at) (drop at text)))) → Ran text old new at sum to (run_to r.end q)
  unfolding after_run
  ran_more old mid new sum s to r q k f g =
      let R = run_bits (rest_of text (e + 1)) in
      let l = run_length in
      let m = b.size in
      let v : s + length R ≡ sum + length (run_bits (rest_of text at)) = omega arith in
      record {
        adds = λ rest. g.adds rest ∙ f.adds (unpack n (bit_octets (take (e - at) (drop at text))) ++ rest)
            ∙ rw (v, run_more, append_assoc R (unpack n (bit_octets (take (e - at) (drop at text)))) rest);
        clean = g.clean;
        have = g.have;
        value = g.value;
        place = omega (arith, g.place, f.place);
        standing = f.standing;
        after = f.after ∙ sym (ap after_run b.labels);
        far = omega (arith, f.far, b.inside);
        on = λ j. omega (arith, f.far, b.inside);
      }

  pub ran_ready : (old mid : List ℕ) (s to : ℕ) (r : Run) → Ran text old mid (e + 1) s to r → length mid ≡ length old → (to + 2) * 8 + length (run_bits (rest_of text at)) ≤ length old * 8
      → Ready mid r.packer n
  ran_ready old mid s to r f l h =
      let k = run_length in
      record { clean = f.clean; have = f.have; value = f.value; room = omega (arith, f.place) }

-- what is left of the name begins with the run's one label
rest_run : (text : List ℕ) (at : ℕ) → encode_rest text at ≡ bit_label (run_bits (rest_of text at)) ++ encode_from [] (units (after_run (rest_of text at)))
unfolding encode_rest
rest_run text at =
    encode_run [] (rest_of text at) ∙ ap (λ (ys : List ℕ). bit_label ys ++ encode_from [] (units (after_run (rest_of text at)))) (append-nil (run_bits (rest_of text at)))

pub run_room : (text : List ℕ) (at : ℕ) → 0 < length (run_bits (rest_of text at)) → 2 + octets_for (length (run_bits (rest_of text at))) ≤ length (encode_rest text at)
run_room text at h =
    let a = ap length (rest_run text at) ∙ length-append (bit_label (run_bits (rest_of text at))) (encode_from [] (units (after_run (rest_of text at)))) in
    let b = label_size (run_bits (rest_of text at)) ∙ run_some (length (run_bits (rest_of text at))) (λ z. omega arith) in
    omega arith

pub moved_run : (text old mid last : List ℕ) (at to t : ℕ) (r : Run) → 0 < length (run_bits (rest_of text at)) → to + length (encode_rest text at) ≤ length old → length last ≡ length old
    → Ran text old mid at 0 to r → Flushed mid last r.packer t → Moved text old last at to (placed r.end t)
unfolding encode_rest
moved_run text old mid last at to t r p h l f d =
    let X = run_bits (rest_of text at) in
    let k = run_room text at p in
    let s : encode_rest text at ≡ bit_label X ++ encode_rest text r.end = rest_run text at ∙ ap (λ (ms : List Label). bit_label X ++ encode_from [] (units ms)) (sym f.after) in
    let c : (0 + length X) % 256 ≡ length X % 256 = ap (λ (j : ℕ). j % 256) (omega arith) in
    let u : take t last ≡ take to old ++ bit_label X = run_written X (take to old) (take t last) ((0 + length X) % 256) p c (d.whole ∙ f.adds []) in
    record {
      same = ap (λ (ys : List ℕ). ys ++ encode_rest text r.end) u ∙ append_assoc (take to old) (bit_label X) (encode_rest text r.end) ∙ ap (λ (ys : List ℕ). take to old ++ ys) (sym s);
      clean = d.clean;
      low = omega (arith, d.place, f.place, f.have);
      standing = f.standing;
      on = f.on p;
    }

-- an ordinary label
module _ (text : List ℕ) (at e : ℕ) (w : AtWord text at e) where
  rest_word : encode_rest text at ≡ (length (octets_in 0 (take (e - at) (drop at text))) ∷ octets_in 0 (take (e - at) (drop at text))) ++ encode_rest text (e + 1)
  unfolding encode_rest encode_from units bit_label
  rest_word = ap (λ (ms : List Label). encode_from [] (units ms)) w.labels

  pub word_room : 1 + length (octets_in 0 (take (e - at) (drop at text))) ≤ length (encode_rest text at)
  word_room =
      let l = octets_in 0 (take (e - at) (drop at text)) in
      let a = ap length rest_word ∙ length-append (length (octets_in 0 (take (e - at) (drop at text))) ∷ octets_in 0 (take (e - at) (drop at text))) (encode_rest text (e + 1)) in
      omega arith

  pub moved_word : (old new : List ℕ) (to t : ℕ) → to + length (encode_rest text at) ≤ length old → length new ≡ length old
      → Filled old new to t (length (octets_in 0 (take (e - at) (drop at text))) ∷ octets_in 0 (take (e - at) (drop at text))) → Moved text old new at to (placed (e + 1) t)
  moved_word old new to t h l f =
      let xs = octets_in 0 (take (e - at) (drop at text)) in
      let k = word_room in
      record {
        same = ap (λ (ys : List ℕ). ys ++ encode_rest text (e + 1)) f.whole ∙ append_assoc (take to old) (length xs ∷ xs) (encode_rest text (e + 1)) ∙ ap (λ (ys : List ℕ). take to old ++ ys) (sym rest_word);
        clean = f.clean;
        low = omega (arith, f.place);
        standing = w.standing;
        on = omega (arith, w.inside);
      }

-- a run begins at a place
pub run_begins : (text : List ℕ) (at : ℕ) → Standing text at → is_bits_text (drop at text) ≡ true → 0 < length (run_bits (rest_of text at))
run_begins text at s b =
    let r = at + leading (λ x. not (eqb x 46)) (drop at text) in
    let w = at_bits text at r _ s (dot_passed text at r s.inside refl) b refl in
    omega (arith, w.some, run_length text at r _ w)

pub run_ready : (text old mid : List ℕ) (at s to : ℕ) (r : Run) → Ran text old mid at s to r → length mid ≡ length old → (to + 2) * 8 + length (run_bits (rest_of text at)) ≤ length old * 8 → Ready mid r.packer 0
run_ready text old mid at s to r f l h = record { clean = f.clean; have = f.have; value = f.value; room = omega (arith, f.place) }
