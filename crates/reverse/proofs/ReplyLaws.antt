-- What the walk answers, one law for each way on, and what a call answers before it.
use Rattle.std.specs.Prelude.{Option, Some, None}
use Prim.Native.Nat.{ℕ, zero, suc, ◌+◌, ◌-◌, ◌≤◌}
use mathlib.Core.Path.{◌≡◌, refl, ap, ◌∙◌, sym}
use mathlib.Core.Bool.{Bool, true, false, not}
use mathlib.Core.List.{List, ◌++◌}
use lib.Dec.{ltb, eqb}
use lib.ListN.{length, take, drop}
use lib.Seq.{take_at}
use native.Mathlib.Omega.{arith}
use borrow.Author.Tests.{eq-eqb, ne_eqb, eqb-true, ltb-false, not-false}
use Rattle.octets.specs.Octets.{blank, Small}
use Rattle.octets.specs.Answers.{or_else, answering, refusal, answer_by, out_by}
use Rattle.octets.proofs.AnswerLaws.{earns_zero, else_zero, else_kept, else_later}
use Rattle.names.specs.Standard.{Unit, encode}
use Rattle.names.specs.Merge.{Begins, labels_at}
use Rattle.names.proofs.RoundLaws.{fit_labels}
use Rattle.plan.specs.Layout.{name_room, target_at, count_of}
use Rattle.plan.specs.Check.{check_of, InOrder}
use Rattle.rewriting.specs.Rewrite.{long_run, too_large, rewrite_of}
use Rattle.reverse.specs.Walk.{start_of, due, due_of, End, refused, ended, walk_of}
use Rattle.rewriting.specs.Spots.{units_at, Standing}
use Rattle.rewriting.specs.Splice.{fit_length, fit_octets, spliced_length, spliced_out}
use Rattle.reverse.specs.Answers.{rules_of, early_number, end_of, end_number, answer_for, out_for, reverse_answer, reverse_out}
use Rattle.reverse.specs.Choice.{Chosen}
use Rattle.reverse.specs.declared.Best.{Best}
use Rattle.rewriting.proofs.BeneathLaws.{octets_back}
use Rattle.rewriting.proofs.FillLaws.{filled_first, filled_done}
use Rattle.rewriting.proofs.LargeLaws.{or_false}
use Rattle.rewriting.proofs.LinkLaws.{form_units}
use Rattle.rewriting.proofs.FormLaws.{FitUnits, fit_append, fit_take, fit_units, encode_standing, encode_at_lem}
use Rattle.octets.specs.declared.Answer.{Answer}
use Rattle.reverse.proofs.StartLaws.{start_units}
use Rattle.reverse.proofs.TableLaws.{target_form, target_standing}
use Rattle.reverse.proofs.WalkLaws.{walk_ended, walk_out, walk_large, walk_on}

-- no length says that a rewrite is too large
spliced_large : (us : List Unit) → None ≡ spliced_length us → too_large us ≡ true
unfolding spliced_length fit_length
spliced_large us h = go (too_large us) refl
  where
    go : (b : Bool) → too_large us ≡ b → too_large us ≡ true
    go true e = e
    go false e = let z : None ≡ Some (length (encode us)) = rw (spliced_length, e) at h in cc

record Fits (us : List Unit) (n : ℕ) (out : List ℕ) : Type 0 where
  small : too_large us ≡ false
  name : take n out ≡ encode us
  size : n ≡ length (encode us)
  runs : long_run 0 us ≡ false
  short : length (encode us) ≤ 255

spliced_fits : (us : List Unit) (n : ℕ) (out : List ℕ) → Some n ≡ spliced_length us → out ≡ spliced_out us → Fits us n out
unfolding spliced_length spliced_out fit_length fit_octets too_large
spliced_fits us n out p q = go (too_large us) refl
  where
    go : (b : Bool) → too_large us ≡ b → Fits us n out
    go true e = let z : Some n ≡ None = rw (spliced_length, e) at p in cc
    go false e =
        let z : Some n ≡ Some (length (encode us)) = rw (spliced_length, e) at p in
        let m : n ≡ length (encode us) = cc in
        let w : out ≡ encode us ++ blank (255 - length (encode us)) = rw (spliced_out, e) at q in
        let o = or_false (long_run 0 us) (ltb 255 (length (encode us))) e in
        record { small = e; name = ap (take n) w ∙ take_at (encode us) (blank (255 - length (encode us))) n (sym m); size = m; runs = o.0; short = ltb-false 255 (length (encode us)) o.1 }

fit_at : (name : List ℕ) (at : ℕ) → Begins name at → FitUnits (units_at name at)
unfolding units_at
fit_at name at b = fit_units (labels_at name at) (fit_labels b.reads)

-- a name copied to an output of zeros
pub name_copied : (out src name : List ℕ) → out ≡ blank 255 → src ≡ name → length name ≤ 255 → src ++ drop (length name) out ≡ name ++ blank (255 - length name)
name_copied out src name e f h = (filled_done _ _ _ (filled_first out src name (length name) e f refl h)).1

-- the units of a name after one rewrite
abbrev pub next_of : List ℕ → List ℕ → Best → List Unit
next_of t name b = rewrite_of b.below (units_at name 0) (units_at (target_at t b.index) 0)

-- the first n octets of `out` are a name, and the walk goes on from it with one rewrite less
pub record Onward (t name : List ℕ) (limit done n : ℕ) (out : List ℕ) : Type 0 where
  pub size : n ≡ length (take n out)
  pub short : n ≤ 255
  pub standing : Standing (take n out)
  pub walk : walk_of (limit - 1) (done + 1) (rules_of t) (units_at (take n out) 0) ≡ walk_of limit done (rules_of t) (units_at name 0)

-- the refusals and the answers
ended_reply : (e : End) (us : List Unit) (n : ℕ) (name : List ℕ) → e ≡ ended us n → encode us ≡ name → (answering (length name) n ≡ answer_for e) × (name ++ blank (255 - length name) ≡ out_for e 255)
unfolding answer_by out_by
ended_reply e us n name h k = (rw (h, k), rw (h, k))

refused_reply : (e : End) (n room : ℕ) → e ≡ refused (suc n) → (refusal (suc n) ≡ answer_for e) × (blank room ≡ out_for e room)
unfolding answer_by out_by
refused_reply e n room h = (rw h, rw h)

-- what the walk knows where it has looked at a name: the best DNAME for it, if there is one
pub record Walking (t name : List ℕ) (best : Option Best) : Type 0 where
  pub order : InOrder t
  pub standing : Standing name
  pub chosen : Chosen t name (count_of t) best

pub walking : {t name : List ℕ} {best : Option Best} → InOrder t → Standing name → Chosen t name (count_of t) best → Walking t name best
walking o s c = record { order = o; standing = s; chosen = c }

-- the walk ends
module _ {t name : List ℕ} (w : Walking t name None) (limit done : ℕ) where
  pub reply_ended : Small name → (answering (length name) done ≡ answer_for (walk_of limit done (rules_of t) (units_at name 0)))
      × (name ++ blank (255 - length name) ≡ out_for (walk_of limit done (rules_of t) (units_at name 0)) 255)
  unfolding rules_of
  reply_ended m =
      ended_reply (walk_of limit done (rules_of t) (units_at name 0)) (units_at name 0) done name (walk_ended limit done (rules_of t) (units_at name 0) (sym w.chosen.due))
      (sym (octets_back name 0 w.standing.begins m w.standing.parted))

-- or a rewrite is due
module _ {t name : List ℕ} {b : Best} (w : Walking t name (Some b)) (limit done : ℕ) where
  abbrev us : List Unit
  us = units_at name 0

  abbrev end : End
  end = walk_of limit done (rules_of t) us

  abbrev next : List Unit
  next = next_of t name b

  pub target_stands : Small t → Standing (target_at t b.index)
  target_stands m = target_standing t w.order b.index w.chosen.listed.there m w.chosen.listed.dname

  some_due : due_of (rules_of t) us ≡ due b.below (units_at (target_at t b.index) 0)
  unfolding rules_of
  some_due = sym w.chosen.due ∙ ap (due b.below) (sym (form_units (target_at t b.index) (target_form t w.order b.index w.chosen.listed.there w.chosen.listed.dname)))

  pub reply_out : limit ≡ 0 → (refusal 6 ≡ answer_for end) × (blank 255 ≡ out_for end 255)
  reply_out e = refused_reply end 5 255 (ap (λ (j : ℕ). walk_of j done (rules_of t) us) e ∙ walk_out done b.below (rules_of t) us (units_at (target_at t b.index) 0) some_due)

  module _ (g : limit ≡ 0 → ⊥) where
    one_less : limit ≡ suc (limit - 1)
    one_less = omega (arith, g)

    pub reply_large : None ≡ spliced_length next → (refusal 8 ≡ answer_for end) × (blank 255 ≡ out_for end 255)
    reply_large p =
        refused_reply end 7 255 (ap (λ (j : ℕ). walk_of j done (rules_of t) us) one_less
        ∙ walk_large (limit - 1) done b.below (rules_of t) us (units_at (target_at t b.index) 0) some_due (spliced_large next p))

    module _ (m : Small t) (n : ℕ) (out : List ℕ) (p : Some n ≡ spliced_length next) (q : out ≡ spliced_out next) where
      fits : Fits next n out
      fits = spliced_fits next n out p q

      fit_next : FitUnits next
      unfolding rewrite_of
      fit_next = fit_append (take b.below us) (units_at (target_at t b.index) 0) (fit_take b.below us (fit_at name 0 w.standing.begins)) (fit_at (target_at t b.index) 0 (target_stands m).begins)

      pub onward : Onward t name limit done n out
      onward = record {
        size = fits.size ∙ ap length (sym fits.name);
        short = omega (arith, fits.size, fits.short);
        standing = rw fits.name (encode_standing next fit_next fits.runs fits.short);
        walk =
            ap (λ (xs : List ℕ). walk_of (limit - 1) (done + 1) (rules_of t) (units_at xs 0)) fits.name ∙ ap (walk_of (limit - 1) (done + 1) (rules_of t)) (encode_at_lem next fit_next fits.runs fits.short)
            ∙ sym (walk_on (limit - 1) done b.below (rules_of t) us (units_at (target_at t b.index) 0) some_due fits.small) ∙ ap (λ (j : ℕ). walk_of j done (rules_of t) us) (sym one_less);
      }

-- before the walk
module _ (t address : List ℕ) (room : ℕ) where
  pub early_table : (check_of t ≡ 0 → ⊥) → early_number t address room ≡ check_of t
  unfolding early_number
  early_table h = else_kept (check_of t) _ h

  module _ (o : check_of t ≡ 0) where
    pub early_address : (length address ≡ 16 → ⊥) → early_number t address room ≡ 4
    unfolding early_number
    early_address h = else_later (check_of t) _ o ∙ rw (ne_eqb (length address) 16 h)

    module _ (l : length address ≡ 16) where
      pub early_room : (room ≡ 255 → ⊥) → early_number t address room ≡ 5
      unfolding early_number
      early_room h = else_later (check_of t) _ o ∙ rw (eq-eqb (length address) 16 l, ne_eqb room 255 h)

      pub early_none : room ≡ 255 → early_number t address room ≡ 0
      unfolding early_number
      early_none h = else_later (check_of t) _ o ∙ rw (eq-eqb (length address) 16 l, eq-eqb room 255 h)

  -- 0 is earned by a table, an address and an output in order alone
  pub early_zero : early_number t address room ≡ 0 → (check_of t ≡ 0) × (length address ≡ 16) × (room ≡ 255)
  unfolding early_number
  early_zero e =
      let z = else_zero (check_of t) _ e in
      let a = earns_zero (not (eqb (length address) 16)) 3 _ z.1 in
      let b = earns_zero (not (eqb room 255)) 4 _ a.1 in
      (z.0, eqb-true (length address) 16 (not-false _ a.0), eqb-true room 255 (not-false _ b.0))

module _ (t address : List ℕ) (limit room : ℕ) where
  abbrev whole : End
  whole = end_of t address limit room

  pub early : (n : ℕ) → n ≡ early_number t address room → (n ≡ 0 → ⊥) → (refusal n ≡ reverse_answer t address limit room) × (blank room ≡ reverse_out t address limit room)
  unfolding end_of
  early zero e h = absurd (h refl)
  early (suc n) e h = refused_reply whole n room (rw (end_of, ← e))

  pub late : check_of t ≡ 0 → length address ≡ 16 → room ≡ 255 → whole ≡ walk_of limit 0 (rules_of t) (start_of address)
  unfolding end_of
  late o l h = rw (end_of, early_none t address room o l h)

  -- what the walk gives from the starting name is what the call does
  pub walked : (check_of t ≡ 0) × (length address ≡ 16) × (room ≡ 255) → Small address → (name : List ℕ) → name ≡ encode (start_of address) → (a : Answer) (out : List ℕ)
      → a ≡ answer_for (walk_of limit 0 (rules_of t) (units_at name 0)) → out ≡ out_for (walk_of limit 0 (rules_of t) (units_at name 0)) name_room
      → (a ≡ reverse_answer t address limit room) × (out ≡ reverse_out t address limit room)
  walked s m name e a out p q = (p ∙ ap answer_for f, q ∙ λ i. out_for (f i) (sym s.2 i))
    where
      f : walk_of limit 0 (rules_of t) (units_at name 0) ≡ whole
      f =
          ap (λ (ys : List ℕ). walk_of limit 0 (rules_of t) (units_at ys 0)) e ∙ ap (walk_of limit 0 (rules_of t)) (start_units address m s.1)
          ∙ sym (late s.0 s.1 s.2)

  -- the number is the early one, or else the walk's
  pub end_number_lem : end_number whole ≡ or_else (early_number t address room) (end_number (walk_of limit 0 (rules_of t) (start_of address)))
  unfolding end_of
  end_number_lem = go (early_number t address room) refl
    where
      go : (n : ℕ) → early_number t address room ≡ n → end_number whole ≡ or_else (early_number t address room) (end_number (walk_of limit 0 (rules_of t) (start_of address)))
      go zero e = rw (end_of, e)
      go (suc n) e = rw (end_of, e)
