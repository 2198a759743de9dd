-- The loop over the labels of a name: what it keeps.
use Prim.Native.Nat.{ℕ, ◌+◌, ◌-◌, ◌*◌, ◌≤◌}
use mathlib.Core.Path.{◌≡◌, refl, ap, ◌∙◌, sym}
use mathlib.Core.Bool.{true}
use mathlib.Core.List.{List, [], ◌∷◌, ◌++◌, append-nil, append_assoc}
use lib.ListN.{length, get_or, drop, length-append}
use native.Mathlib.Omega.{arith}
use Rattle.labels.specs.Labels.{Label}
use Rattle.labels.specs.Scan.{scan_of, labels_of, well_formed}
use Rattle.labels.proofs.LabelLaws.{first_at}
use Rattle.names.specs.Merge.{Begins, labels_at, labels_from}
use Rattle.names.specs.declared.Place.{Place}
use Rattle.names.proofs.WriteLaws.{well_reads}
use Rattle.names.proofs.MergeLaws.{reads_labels, labels_at_lem, labels_end, begins_start, begins_inside}
use Rattle.text.specs.Written.{Put}
use Rattle.text.proofs.WrittenLaws.{put_none, put_then, put_as}
use Rattle.nametext.specs.Writing.{label_text, dotted, labels_text, text_of}
use Rattle.nametext.specs.Put.{Labelled}

pub record Writing (name old out : List ℕ) (at to t : ℕ) : Type 0 where
  pub done : List ℕ
  pub put : Put old out to t done
  pub rest : done ++ dotted (labels_at name at) ≡ text_of name
  pub begins : Begins name at
  pub same : length out ≡ length old
  pub short : length done ≤ 4 * at

-- the root
pub root_text : (name : List ℕ) → well_formed name ≡ true → get_or name 0 0 ≡ 0 → 46 ∷ [] ≡ text_of name
unfolding text_of labels_text
root_text name w f = sym (ap labels_text (reads_labels (well_reads name w) ∙ labels_end name f))

pub writing_start : (name old : List ℕ) (to : ℕ) → well_formed name ≡ true → (get_or name 0 0 ≡ 0 → ⊥) → Writing name old old 0 to to
unfolding text_of labels_text
writing_start name old to w f =
    let r = well_reads name w in
    let e : labels_of (scan_of name) ≡ labels_from 0 name = reads_labels r in
    let q = labels_at_lem name 0 f in
    record {
      done = [];
      put = put_none old to [] refl;
      rest = ap dotted q ∙ ap labels_text (sym (e ∙ q));
      begins = begins_start name w;
      same = refl;
      short = omega arith;
    }

module _ (name old out : List ℕ) (at to t : ℕ) (w : Writing name old out at to t) (h : to + 4 * length name ≤ length old) where
  pub writing_room : t + 4 * (length name - at) ≤ length out
  writing_room = let i = begins_inside name at w.begins in omega (arith, w.put.0, w.same, w.short)

  pub writing_turn : (new : List ℕ) (r : Place) → Labelled name out new at t r → length new ≡ length out → Writing name old new r.at to r.to
  unfolding dotted
  writing_turn new r l k =
      let T = label_text l.label in
      let a = length-append T (46 ∷ []) in
      let b = length-append w.done (T ++ (46 ∷ [])) in
      let i = begins_inside name r.at l.begins in
      record {
        done = w.done ++ (T ++ (46 ∷ []));
        put = put_then old out new to t r.to w.done (T ++ (46 ∷ [])) (omega (arith, w.short)) w.put l.put;
        rest = append_assoc w.done (T ++ (46 ∷ [])) (dotted (labels_at name r.at))
            ∙ ap (λ (ys : List ℕ). w.done ++ ys) (append_assoc T (46 ∷ []) (dotted (labels_at name r.at)) ∙ ap dotted (sym l.labels)) ∙ w.rest;
        begins = l.begins;
        same = k ∙ w.same;
        short = omega (arith, w.short, l.short, l.on);
      }

  pub writing_end : get_or name at 0 ≡ 0 → Put old out to t (text_of name)
  unfolding dotted
  writing_end f =
      let e : labels_at name at ≡ [] = labels_end (drop at name) (first_at name at ∙ f) in
      put_as old out to t w.done (text_of name) (sym (append-nil w.done) ∙ ap (λ (ls : List Label). w.done ++ dotted ls) (sym e) ∙ w.rest) w.put
