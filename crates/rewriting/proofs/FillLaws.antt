-- An output as it is filled from the left: the octets so far, and zeros after them.
use Prim.Native.Nat.{ℕ, ◌+◌, ◌-◌, ◌*◌, ◌%◌, ◌≤◌, ◌<◌}
use mathlib.Core.Path.{◌≡◌, refl, ap, ◌∙◌, sym}
use mathlib.Core.List.{List, [], ◌∷◌, ◌++◌, append_assoc}
use lib.ListN.{length, set, take, drop, length-set, length-append, length-drop, take-append-drop}
use lib.Seq.{take_at, drop_at, drop-drop, length-take-le}
use native.Mathlib.Omega.{arith}
use Rattle.octets.specs.Octets.{blank}
use Rattle.bits.specs.Bits.{octets_for, pack_from}
use Rattle.bits.specs.Packing.{Clean, Ready, Pushed, Flushed}
use Rattle.bits.specs.declared.inside.Packer.{Packer}
use Rattle.octets.proofs.OctetLaws.{length_blank, drop_blank}
use Rattle.bits.proofs.PackLaws.{packer, clean_drop, clean_more, pushed_then}
use Rattle.names.specs.Standard.{bit_label}
use Rattle.names.proofs.MergeLaws.{header, run_written}

pub record Filled (out : List ℕ) (to : ℕ) (text : List ℕ) : Type 0 where
  pub front : take to out ≡ text
  pub clean : Clean out to
  pub room : length out ≡ 255
  pub within : to ≤ 255

-- the first octets written, and the next
pub filled_first : (out src text : List ℕ) (n : ℕ) → out ≡ blank 255 → src ≡ text → length text ≡ n → n ≤ 255 → Filled (src ++ drop n out) n text
filled_first out src text n e f l h =
    let r : length out ≡ 255 = ap length e ∙ length_blank 255 in
    let a = length-append text (drop n out) in
    let d = length-drop n out in
    let m : length (text ++ drop n out) ≡ 255 = omega arith in
    rw f (record {
      front = take_at text (drop n out) n l;
      clean = drop_at text (drop n out) n l ∙ ap (drop n) e ∙ drop_blank n 255 ∙ ap (λ (k : ℕ). blank (k - n)) (sym m);
      room = m;
      within = h;
    })

pub filled_next : (out text src new : List ℕ) (to k n end : ℕ) → Filled out to text → src ≡ new → length new ≡ n → end ≡ to + n → end ≤ 255 → k ≡ n
    → Filled (take to out ++ (src ++ drop k (drop to out))) end (text ++ new)
filled_next out text src new to k n end f s l e h i =
    let r = f.room in
    let t : length text ≡ to = ap length (sym f.front) ∙ length-take-le to out (omega arith) in
    let c : drop k (drop to out) ≡ blank (255 - end) = ap (λ (m : ℕ). drop m (drop to out)) i ∙ drop-drop n to out ∙ clean_drop out to n f.clean ∙ ap blank (omega arith) in
    let m : length (text ++ new) ≡ end = length-append text new ∙ omega arith in
    let w : take to out ++ (src ++ drop k (drop to out)) ≡ (text ++ new) ++ blank (255 - end) =
    ap (λ (ys : List ℕ). ys ++ (src ++ drop k (drop to out))) f.front ∙ ap (λ (ys : List ℕ). text ++ (ys ++ drop k (drop to out))) s
    ∙ ap (λ (ys : List ℕ). text ++ (new ++ ys)) c ∙ sym (append_assoc text new (blank (255 - end))) in
    let z : length ((text ++ new) ++ blank (255 - end)) ≡ 255 = length-append (text ++ new) (blank (255 - end)) ∙ omega (arith, length_blank (255 - end)) in
    rw w (record {
      front = take_at (text ++ new) (blank (255 - end)) end m;
      clean = drop_at (text ++ new) (blank (255 - end)) end m ∙ ap (λ (j : ℕ). blank (j - end)) (sym z);
      room = z;
      within = h;
    })

pub filled_header : (out text : List ℕ) (to v w : ℕ) → Filled out to text → to + 2 ≤ 255 → Filled (set (set out to v) (to + 1) w) (to + 2) (text ++ (v ∷ w ∷ []))
filled_header out text to v w f h =
    let r = f.room in
    let z : to + 2 ≡ to + 1 + 1 = omega arith in
    record {
      front = header out to v w (omega arith) ∙ ap (λ (ys : List ℕ). ys ++ (v ∷ w ∷ [])) f.front;
      clean = rw z (clean_more (set out to v) (to + 1) w (clean_more out to v f.clean));
      room = length-set (set out to v) (to + 1) w ∙ length-set out to v ∙ r;
      within = h;
    }

-- a run on its way after a header with the octet c: the bits `bs` are packed, and `headed` is the output as it was with the header alone
pub record Packed (text : List ℕ) (to c : ℕ) (out : List ℕ) (p : Packer) (bs : List ℕ) : Type 0 where
  pub headed : List ℕ
  pub filled : Filled headed (to + 2) (text ++ (65 ∷ c ∷ []))
  pub pushed : Pushed headed out (packer (to + 2) 0 0) p bs
  pub room : length out ≡ 255

pub packed_none : (out text : List ℕ) (to c : ℕ) → Filled out (to + 2) (text ++ (65 ∷ c ∷ [])) → Packed text to c out (packer (to + 2) 0 0) []
packed_none out text to c f =
    record {
      headed = out;
      filled = f;
      pushed = record { adds = λ rest. refl; clean = f.clean; have = omega arith; value = omega arith; place = omega arith };
      room = f.room;
    }

module _ {text : List ℕ} {to c : ℕ} {out : List ℕ} {p : Packer} {bs : List ℕ} (g : Packed text to c out p bs) where
  -- there is room for n bits more
  pub packed_ready : (n : ℕ) → (to + 2) * 8 + (length bs + n) ≤ 2040 → Ready out p n
  packed_ready n h =
      let d = g.pushed in
      let r = g.room in
      record { clean = d.clean; have = d.have; value = d.value; room = omega (arith, d.place) }

  pub packed_on : (new : List ℕ) (q : Packer) (cs : List ℕ) → Pushed out new p q cs → length new ≡ length out → Packed text to c new q (bs ++ cs)
  packed_on new q cs d l =
      record {
        headed = g.headed;
        filled = g.filled;
        pushed = pushed_then g.headed out new (packer (to + 2) 0 0) p q bs cs g.pushed d;
        room = l ∙ g.room;
      }

  -- the run is whole: where it ends, and the label that it is
  pub packed_place : (last : List ℕ) (t : ℕ) → Flushed out last p t → t ≡ to + 2 + octets_for (length bs)
  packed_place last t d = let b = g.pushed in omega (arith, d.place, b.place, b.have)

  pub packed_done : (last : List ℕ) (t : ℕ) → Flushed out last p t → length last ≡ length out → c ≡ length bs % 256 → 0 < length bs → t ≤ 255 → Filled last t (text ++ bit_label bs)
  packed_done last t d l e h k =
      let w : take t last ≡ (text ++ (65 ∷ c ∷ [])) ++ pack_from 0 0 (bs ++ []) = d.whole ∙ g.pushed.adds [] ∙ ap (λ (ys : List ℕ). ys ++ pack_from 0 0 (bs ++ [])) g.filled.front in
      record { front = run_written bs text (take t last) c h e w; clean = d.clean; room = l ∙ g.room; within = k }

pub filled_done : (out text : List ℕ) (to : ℕ) → Filled out to text → (to ≡ length text) × (out ≡ text ++ blank (255 - length text))
filled_done out text to f =
    let r = f.room in
    let w = f.within in
    let n : length text ≡ to = ap length (sym f.front) ∙ length-take-le to out (omega arith) in
    (sym n, sym (take-append-drop to out) ∙ ap (λ (ys : List ℕ). ys ++ drop to out) f.front ∙ ap (λ (ys : List ℕ). text ++ ys) f.clean ∙ rw (r, n))
