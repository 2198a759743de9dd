-- The whole name, written label by label, and what is read from a place on.
use Prim.Native.Nat.{ℕ, suc, ◌+◌, ◌-◌, ◌≤◌, ◌<◌}
use mathlib.Core.Path.{◌≡◌, refl, ap, ◌∙◌, sym}
use mathlib.Core.List.{List, [], ◌∷◌, ◌++◌, map}
use lib.ListN.{length, take, drop, length-drop, length-append, take-append-drop}
use lib.Seq.{length-take-le, append_snoc, take-nil}
use native.Mathlib.Omega.{arith}
use Rattle.octets.specs.Octets.{blank, same_by}
use Rattle.octets.proofs.OctetLaws.{length_blank}
use Rattle.bits.specs.Packing.{Clean}
use Rattle.labels.specs.Labels.{Label}
use Rattle.names.specs.Standard.{units, bit_label, encode_from, encode}
use Rattle.std.specs.Prelude.{Result, Err}
use Rattle.octets.specs.declared.Refusal.{Refusal}
use Rattle.octets.specs.declared.Refusal.TheVariants.{Form}
use Rattle.nametext.proofs.NumberLaws.{told_refused}
use Rattle.names.specs.Name.{name_of}
use Rattle.names.specs.declared.Name.{Name}
use Rattle.names.specs.declared.Place.{Place}
use Rattle.text.specs.Digits.{leading}
use Rattle.text.proofs.PlaceLaws.{past}
use Rattle.nametext.specs.Characters.{may_name}
use Rattle.nametext.specs.Reading.{label_in, parts_of, labels_in, name_read, text_number, name_part, name_told, name_at}
use Rattle.nametext.specs.Places.{rest_of, encode_rest, Standing, Moved}
use Rattle.text.proofs.LeadingLaws.{leading_few}
use Rattle.nametext.proofs.DotLaws.{parts_whole, alone, number_empty, parts_end, number_zero}
use Rattle.nametext.proofs.RestLaws.{standing_start}

-- the loop over the labels: what it keeps
pub record Merging (text out : List ℕ) (at to : ℕ) : Type 0 where
  pub same : take to out ++ encode_rest text at ≡ name_read text
  pub clean : Clean out to
  pub low : to ≤ length out
  pub standing : Standing text at
  pub room : length out ≡ 255
  pub short : length (name_read text) ≤ 255

pub merging_start : (text out : List ℕ) → text_number text ≡ 0 → (length text ≡ 1 → ⊥) → out ≡ blank 255 → Merging text out 0 0
unfolding encode_rest name_read encode labels_in
merging_start text out n h e =
    let r = number_zero text n in
    let l : length out ≡ 255 = ap length e ∙ length_blank 255 in
    record {
      same = ap (λ (ps : List (List ℕ)). encode_from [] (units (map label_in ps))) (sym (parts_whole text h));
      clean = e ∙ ap blank (sym (ap (λ (k : ℕ). k - 0) l));
      low = omega arith;
      standing = standing_start text r h;
      room = l;
      short = r.short;
    }

pub merging_turn : (text old new : List ℕ) (at to : ℕ) (r : Place) → Merging text old at to → Moved text old new at to r → length new ≡ length old → Merging text new r.at r.to
merging_turn text old new at to r m v l = record { same = v.same ∙ m.same; clean = v.clean; low = v.low; standing = v.standing; room = l ∙ m.room; short = m.short }

pub merging_room : (text out : List ℕ) (at to : ℕ) → Merging text out at to → to + length (encode_rest text at) ≤ length out
merging_room text out at to m =
    let t = length-take-le to out m.low in
    let a = sym (length-append (take to out) (encode_rest text at)) ∙ ap length m.same in
    omega (arith, m.room, m.short)

-- a name over zeros
abbrev pub Written : List ℕ → List ℕ → ℕ → Type 0
Written name out r = (out ≡ name ++ blank (255 - length name)) × (r ≡ length name) × (r ≤ 255)

pub merging_end : (text out : List ℕ) (at to : ℕ) → Merging text out at to → length text ≤ at → Written (name_read text) out (to + 1)
unfolding encode_rest encode_from units blank bit_label
merging_end text out at to m f =
    let e : rest_of text at ≡ [] = ap (map label_in) (parts_end text at f) in
    let s : name_read text ≡ take to out ++ (0 ∷ []) = sym m.same ∙ ap (λ (ls : List Label). take to out ++ encode_from [] (units ls)) e in
    let t : length (take to out) ≡ to = length-take-le to out m.low in
    let l : length (name_read text) ≡ to + 1 = ap length s ∙ length-append (take to out) (0 ∷ []) ∙ ap (λ (v : ℕ). v + 1) t in
    let k = m.short in
    let q : length out - to ≡ suc (255 - (to + 1)) = omega (arith, m.low, m.room) in
    let b : blank (length out - to) ≡ 0 ∷ blank (255 - (to + 1)) = ap blank q in (
      sym (take-append-drop to out) ∙ ap (λ (ys : List ℕ). take to out ++ ys) (m.clean ∙ b) ∙ sym (append_snoc (take to out) 0 (blank (255 - (to + 1))))
          ∙ rw (l) (ap (λ (ys : List ℕ). ys ++ blank (255 - (to + 1))) (sym s)),
      sym l,
      omega arith,
    )

pub root_written : (text out : List ℕ) → text_number text ≡ 0 → length text ≡ 1 → out ≡ blank 255 → Written (name_read text) out 1
unfolding name_read encode labels_in parts_of same_by units encode_from bit_label blank
root_written text out n h e =
    let r = number_zero text n in
    let s : name_read text ≡ 0 ∷ [] = ap name_read (alone text h r.ended) in
    (e ∙ rw s, ap length (sym s), omega arith)

-- what is read from a place on
module _ (s : List ℕ) (from next : ℕ) (e : next ≡ from + leading may_name (drop from s)) where
  pub named_at : (name : Result Name Refusal) → name ≡ name_told (take (next - from) (drop from s)) → record { name = name; next = next } ≡ name_at s from
  unfolding name_at name_part
  named_at name n =
      let d : next - from ≡ leading may_name (drop from s) = omega arith in
      let m : name ≡ name_told (take (leading may_name (drop from s)) (drop from s)) = n ∙ ap (λ (k : ℕ). name_told (take k (drop from s))) d in
      λ i. record { name = m i; next = e i }

  -- a place after the end
  pub name_beyond : length s < from → record { name = Err Form; next = next } ≡ name_at s from
  name_beyond h =
      let d : take (next - from) (drop from s) ≡ [] = ap (take (next - from)) (past s from (omega arith)) ∙ take-nil (next - from) in
      named_at (Err Form) (sym (ap name_told d ∙ told_refused [] Form (sym (number_empty [] refl))))

-- the value that holds a name
pub name_held_lem : (name out : List ℕ) (r : ℕ) → Written name out r → ◌≡◌ {A = Name} (record { octets = out; length = r }) (name_of name)
unfolding name_of
name_held_lem name out r w = rw (w.0, w.1)

pub next_after : (s : List ℕ) (from next : ℕ) → next ≡ from + leading may_name (drop from s) → from ≤ length s → (from ≤ next) × (next ≤ length s)
next_after s from next e h = let l = leading_few may_name (drop from s) in let d = length-drop from s in (omega arith, omega arith)
