-- Units written after others: the run between them is one label, and what stands before it is unchanged.
use Prim.Native.Nat.{ℕ}
use mathlib.Core.Path.{◌≡◌, refl, ap, ◌∙◌, sym}
use mathlib.Core.List.{List, [], ◌∷◌, ◌++◌, append_assoc}
use lib.ListN.{length, take, drop, length-append, length-drop}
use lib.Seq.{take_at}
use native.Mathlib.Omega.{arith}
use Rattle.octets.specs.Octets.{Small}
use Rattle.names.specs.Standard.{Unit, label, bit, before, bit_label, encode_from, encode}
use Rattle.names.specs.Merge.{Begins}
use Rattle.names.proofs.MergeLaws.{begins_inside}
use Rattle.rewriting.specs.Spots.{units_at, NoBit, last_run, Parted, Standing}
use Rattle.rewriting.proofs.BeneathLaws.{octets_back}

-- units in wire form without the run that they end with; `run` came before them
unfoldable pub stem : List ℕ → List Unit → List ℕ
unfolding bit_label
stem run [] = []
stem run (label l ∷ us) = bit_label run ++ (length l ∷ (l ++ stem [] us))
stem run (bit b ∷ us) = stem (b ∷ run) us

pub encode_append : (run : List ℕ) (us vs : List Unit) → encode_from run (us ++ vs) ≡ stem run us ++ encode_from (last_run run us) vs
unfolding stem last_run encode_from
encode_append run [] vs = refl
encode_append run (label l ∷ us) vs =
    ap (λ (ys : List ℕ). bit_label run ++ (length l ∷ (l ++ ys))) (encode_append [] us vs) ∙ simp append_assoc
encode_append run (bit b ∷ us) vs = encode_append (b ∷ run) us vs

-- a run before units that begin with no bit is a label of its own
pub encode_run : (run : List ℕ) (us : List Unit) → NoBit us → encode_from run us ≡ bit_label run ++ encode_from [] us
unfolding encode_from bit_label
encode_run run [] n = refl
encode_run run (label l ∷ us) n = refl
encode_run run (bit b ∷ us) n = absurd n

pub last_before : (b run : List ℕ) (us : List Unit) → last_run run (before b us) ≡ last_run (b ++ run) us
unfolding before last_run
last_before [] run us = refl
last_before (x ∷ b) run us = last_before b run (bit x ∷ us)

pub stem_before : (b run : List ℕ) (us : List Unit) → stem run (before b us) ≡ stem (b ++ run) us
unfolding before stem
stem_before [] run us = refl
stem_before (x ∷ b) run us = stem_before b run (bit x ∷ us)

pub stem_append : (run : List ℕ) (us vs : List Unit) → stem run (us ++ vs) ≡ stem run us ++ stem (last_run run us) vs
unfolding stem last_run
stem_append run [] vs = refl
stem_append run (label l ∷ us) vs =
    ap (λ (ys : List ℕ). bit_label run ++ (length l ∷ (l ++ ys))) (stem_append [] us vs) ∙ simp append_assoc
stem_append run (bit b ∷ us) vs = stem_append (b ∷ run) us vs

-- the units before a place, if they end with no bit, are written in the octets before it
pub stem_take : (name : List ℕ) (us : List Unit) (e : ℕ) → Standing name → Small name → Begins name e → Parted name e
    → units_at name 0 ≡ us ++ units_at name e → last_run [] us ≡ [] → stem [] us ≡ take e name
unfolding encode
stem_take name us e s m b p q l =
    let w : name ≡ stem [] us ++ drop e name =
    octets_back name 0 s.begins m s.parted ∙ ap encode q ∙ encode_append [] us (units_at name e) ∙ ap (λ (run : List ℕ). stem [] us ++ encode_from run (units_at name e)) l
    ∙ ap (λ (ys : List ℕ). stem [] us ++ ys) (sym (octets_back name e b m p)) in
    let n = ap length w ∙ length-append (stem [] us) (drop e name) in
    let d = length-drop e name in
    let i = begins_inside name e b in
    sym (take_at (stem [] us) (drop e name) e (omega arith)) ∙ sym (ap (take e) w)
