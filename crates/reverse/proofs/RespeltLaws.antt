-- Walks do not see spelling: by tables that differ in it alone the walk from an address comes to one number after as many rewrites, and to names that are
-- the same. Each step of a walk, taken by keys, is the step taken by units and then their keys.
use Prim.Native.Nat.{ℕ, zero, suc, ◌+◌, ◌-◌, ◌≤◌, ◌<◌}
use mathlib.Core.Path.{◌≡◌, refl, ap, ap₂, ◌∙◌, sym}
use mathlib.Core.Bool.{Bool, true, false, ◌||◌}
use mathlib.Core.List.{List, [], ◌∷◌, ◌++◌, map, map-append}
use lib.Dec.{ltb, eqb}
use lib.ListN.{length, take, drop, length-append, length-map}
use native.Mathlib.Omega.{arith}
use borrow.Author.Tests.{ltb-false}
use Rattle.octets.specs.Octets.{Small}
use Rattle.octets.specs.Answers.{answer_by}
use Rattle.names.specs.Standard.{Unit, label, bit, units_of, bit_label, encode_from, encode, lower, key_unit, keys, Same}
use Rattle.names.proofs.KeyLaws.{key_twice, same_units_lem, keys_same}
use Rattle.names.proofs.WriteLaws.{well_reads}
use Rattle.names.proofs.RoundLaws.{fit_labels}
use Rattle.names.proofs.StandardLaws.{in_standard}
use Rattle.labels.specs.Scan.{scan_of, labels_of}
use Rattle.chains.specs.Lists.{In, pick, up_to}
use Rattle.plan.specs.Layout.{address_size, dname, owner_slot, target_slot, is_dname, count_of, record_at, owner_at, target_at, is_type}
use Rattle.plan.specs.Check.{InOrder}
use Rattle.plan.specs.Respelt.{Respelt}
use Rattle.plan.proofs.LayoutLaws.{record_small}
use Rattle.plan.proofs.RecordLaws.{owner_small, target_small}
use Rattle.plan.proofs.SlotLaws.{name_small}
use Rattle.rewriting.specs.Rewrite.{same_units, below_of, rewrite_of, long_run, too_large}
use Rattle.reverse.specs.Walk.{start_of, Rule, Due, none, due, better, due_from, due_of, End, refused, ended, walk_of}
use Rattle.reverse.specs.Answers.{rule_of, rules_of, early_number, end_of, end_name, answer_for, reverse_answer}
use Rattle.rewriting.proofs.FormLaws.{FitUnits, fit_append, fit_units, encode_units}
use Rattle.rewriting.proofs.LargeLaws.{or_false}
use Rattle.reverse.specs.Relation.{Rewrites, Path, here, then}
use Rattle.reverse.proofs.Demand.{walk_is}
use Rattle.reverse.proofs.StartLaws.{length_start, short_start, fit_start}
use Rattle.reverse.proofs.TableLaws.{owner_form, target_form, rule_source, rules_one}
use Rattle.reverse.proofs.WalkLaws.{walk_ended, walk_out, walk_large, walk_on}

-- rules, rewrites and ends with keys for units
abbrev pub key_rule : Rule → Rule
key_rule r = record { owner = keys r.owner; target = keys r.target }

abbrev key_due : Due → Due
key_due none = none
key_due (due k t) = due k (keys t)

abbrev pub key_end : End → End
key_end (refused n) = refused n
key_end (ended name rewrites) = ended (keys name) rewrites

-- ---- units
keys_drop : (k : ℕ) (us : List Unit) → keys (drop k us) ≡ drop k (keys us)
keys_drop zero us = refl
keys_drop (suc k) [] = refl
keys_drop (suc k) (u ∷ us) = keys_drop k us

keys_take : (k : ℕ) (us : List Unit) → keys (take k us) ≡ take k (keys us)
keys_take zero us = refl
keys_take (suc k) [] = refl
keys_take (suc k) (u ∷ us) = ap (λ (vs : List Unit). key_unit u ∷ vs) (keys_take k us)

keys_twice : (us : List Unit) → keys (keys us) ≡ keys us
keys_twice [] = refl
keys_twice (u ∷ us) = ap₂ (λ (v : Unit) (vs : List Unit). v ∷ vs) (key_twice u) (keys_twice us)

below_keys : (owner name : List Unit) → below_of owner name ≡ below_of (keys owner) (keys name)
unfolding below_of
below_keys owner name =
    let o = length-map owner key_unit in
    let n = length-map name key_unit in
    let k : length (keys name) - length (keys owner) ≡ length name - length owner = omega arith in
    let d : keys (drop (length (keys name) - length (keys owner)) (keys name)) ≡ keys (drop (length name - length owner) name) =
    ap (λ (i : ℕ). keys (drop i (keys name))) k ∙ ap keys (sym (keys_drop (length name - length owner) name)) ∙ keys_twice (drop (length name - length owner) name) in
    go d k (same_units (keys (drop (length name - length owner) name)) (keys owner)) refl
  where
    go : keys (drop (length (keys name) - length (keys owner)) (keys name)) ≡ keys (drop (length name - length owner) name) → length (keys name) - length (keys owner) ≡ length name - length owner
        → (b : Bool) → same_units (keys (drop (length name - length owner) name)) (keys owner) ≡ b → below_of owner name ≡ below_of (keys owner) (keys name)
    go d k true e =
        let f : same_units (keys (drop (length (keys name) - length (keys owner)) (keys name))) (keys (keys owner)) ≡ true = ap₂ same_units d (keys_twice owner) ∙ e in
        rw (below_of, e, f) (sym k)
    go d k false e =
        let f : same_units (keys (drop (length (keys name) - length (keys owner)) (keys name))) (keys (keys owner)) ≡ false = ap₂ same_units d (keys_twice owner) ∙ e in
        rw (below_of, e, f)

rewrite_keys : (k : ℕ) (name target : List Unit) → keys (rewrite_of k name target) ≡ rewrite_of k (keys name) (keys target)
unfolding rewrite_of
rewrite_keys k name target = map-append key_unit (take k name) target ∙ ap (λ (us : List Unit). us ++ keys target) (keys_take k name)

run_keys : (run : ℕ) (us : List Unit) → long_run run us ≡ long_run run (keys us)
unfolding long_run key_unit
run_keys run [] = refl
run_keys run (label l ∷ us) = ap (λ (b : Bool). ltb 256 run || b) (run_keys 0 us)
run_keys run (bit b ∷ us) = run_keys (suc run) us

length_keys : (run : List ℕ) (us : List Unit) → length (encode_from run us) ≡ length (encode_from run (keys us))
unfolding encode_from key_unit
length_keys run [] = refl
length_keys run (label l ∷ us) =
    let ih = length_keys [] us in
    let m = length-map l lower in
    let a = length-append (bit_label run) (length l ∷ (l ++ encode_from [] us)) in
    let b = length-append (bit_label run) (length (map lower l) ∷ (map lower l ++ encode_from [] (keys us))) in
    let c = length-append l (encode_from [] us) in
    let d = length-append (map lower l) (encode_from [] (keys us)) in
    omega arith
length_keys run (bit b ∷ us) = length_keys (b ∷ run) us

encode_keys : (us : List Unit) → length (encode us) ≡ length (encode (keys us))
unfolding encode
encode_keys us = length_keys [] us

large_keys : (us : List Unit) → too_large us ≡ too_large (keys us)
unfolding too_large
large_keys us = ap₂ (λ (b : Bool) (k : ℕ). b || ltb 255 k) (run_keys 0 us) (encode_keys us)

-- ---- the walk
better_keys : (d : Due) (k : ℕ) (t : List Unit) → key_due (better d k t) ≡ better (key_due d) k (keys t)
unfolding better
better_keys d zero t = refl
better_keys none (suc k) t = refl
better_keys (due j s) (suc k) t = go (ltb (suc k) j) refl
  where
    go : (b : Bool) → ltb (suc k) j ≡ b → key_due (better (due j s) (suc k) t) ≡ better (due j (keys s)) (suc k) (keys t)
    go true e = rw (better, e)
    go false e = rw (better, e)

due_keys : (d : Due) (rules : List Rule) (name : List Unit) → key_due (due_from d rules name) ≡ due_from (key_due d) (map key_rule rules) (keys name)
unfolding due_from
due_keys d [] name = refl
due_keys d (r ∷ rules) name =
    due_keys (better d (below_of r.owner name) r.target) rules name
    ∙ ap (λ (e : Due). due_from e (map key_rule rules) (keys name))
    (better_keys d (below_of r.owner name) r.target ∙ ap (λ (k : ℕ). better (key_due d) k (keys r.target)) (below_keys r.owner name))

module _ (rules : List Rule) (name : List Unit) where
  abbrev key_rules : List Rule
  key_rules = map key_rule rules

  due_key : (d : Due) → due_of rules name ≡ d → due_of key_rules (keys name) ≡ key_due d
  unfolding due_of
  due_key d e = sym (due_keys none rules name) ∙ ap key_due e

walk_keys : (limit done : ℕ) (rules : List Rule) (name : List Unit) → key_end (walk_of limit done rules name) ≡ walk_of limit done (map key_rule rules) (keys name)
walk_keys zero done rules name = go (due_of rules name) refl
  where
    go : (d : Due) → due_of rules name ≡ d → key_end (walk_of 0 done rules name) ≡ walk_of 0 done (map key_rule rules) (keys name)
    go none e = ap key_end (walk_ended 0 done rules name e) ∙ sym (walk_ended 0 done (map key_rule rules) (keys name) (due_key rules name none e))
    go (due k t) e = ap key_end (walk_out done k rules name t e) ∙ sym (walk_out done k (map key_rule rules) (keys name) (keys t) (due_key rules name (due k t) e))
walk_keys (suc limit) done rules name = go (due_of rules name) refl (λ us. walk_keys limit (done + 1) rules us)
  where
    go : (d : Due) → due_of rules name ≡ d → ((us : List Unit) → key_end (walk_of limit (done + 1) rules us) ≡ walk_of limit (done + 1) (map key_rule rules) (keys us))
        → key_end (walk_of (suc limit) done rules name) ≡ walk_of (suc limit) done (map key_rule rules) (keys name)
    go none e ih = ap key_end (walk_ended (suc limit) done rules name e) ∙ sym (walk_ended (suc limit) done (map key_rule rules) (keys name) (due_key rules name none e))
    go (due k t) e ih = size (too_large (rewrite_of k name t)) refl
      where
        f : due_of (map key_rule rules) (keys name) ≡ due k (keys t)
        f = due_key rules name (due k t) e

        -- the rewritten name by keys
        r : keys (rewrite_of k name t) ≡ rewrite_of k (keys name) (keys t)
        r = rewrite_keys k name t

        size : (b : Bool) → too_large (rewrite_of k name t) ≡ b → key_end (walk_of (suc limit) done rules name) ≡ walk_of (suc limit) done (map key_rule rules) (keys name)
        size true h =
            ap key_end (walk_large limit done k rules name t e h)
            ∙ sym (walk_large limit done k (map key_rule rules) (keys name) (keys t) f (sym (large_keys (rewrite_of k name t) ∙ ap too_large r) ∙ h))
        size false h =
            ap key_end (walk_on limit done k rules name t e h) ∙ ih (rewrite_of k name t) ∙ ap (walk_of limit (done + 1) (map key_rule rules)) r
            ∙ sym (walk_on limit done k (map key_rule rules) (keys name) (keys t) f (sym (large_keys (rewrite_of k name t) ∙ ap too_large r) ∙ h))

-- the answer is that of the end by keys
answer_keys : (x : End) → answer_for x ≡ answer_for (key_end x)
answer_keys (refused n) = refl
answer_keys (ended name rewrites) = ap (λ (k : ℕ). answer_by 0 k rewrites) (encode_keys name)

-- ---- the names that a walk comes to can be written, and are read back
record Whole (us : List Unit) : Type 0 where
  fit : FitUnits us
  runs : long_run 0 us ≡ false
  short : length (encode us) ≤ 255

front_fit : (us vs : List Unit) → FitUnits (us ++ vs) → FitUnits us
front_fit [] vs f = record {}
front_fit (label l ∷ us) vs f = (f.0, f.1, front_fit us vs f.2)
front_fit (bit b ∷ us) vs f = (f.0, front_fit us vs f.1)

rewritten_whole : (rules : List Rule) (name next : List Unit) → Rewrites rules name next → too_large next ≡ false → ((r : Rule) → In r rules → FitUnits r.target) → FitUnits name → Whole next
unfolding too_large
rewritten_whole rules name next r g f w =
    let o = or_false (long_run 0 next) (ltb 255 (length (encode next))) g in
    record {
      fit = rw r.result (fit_append r.below r.rule.target (front_fit r.below r.applies.rest (rw r.applies.whole at w)) (f r.rule r.listed));
      runs = o.0;
      short = ltb-false 255 (length (encode next)) o.1;
    }

path_whole : {rules : List Rule} {name last : List Unit} {n : ℕ} → Path rules name n last → ((r : Rule) → In r rules → FitUnits r.target) → Whole name → Whole last
path_whole (here {rules} {name}) f w = w
path_whole (then {rules} {name} {next} {last} {n} r g p) f w = path_whole p f (rewritten_whole rules name next r g f w.fit)

-- names whose keys are the same, written
written_same : (m n : List Unit) → Whole m → Whole n → keys m ≡ keys n → Same (encode m) (encode n)
written_same m n v w e = keys_same (encode m) (encode n) (ap keys (encode_units m v.fit v.runs v.short) ∙ e ∙ sym (ap keys (encode_units n w.fit w.runs w.short)))

-- of a table in order
module _ (t : List ℕ) (o : InOrder t) where
  targets_fit : (r : Rule) → In r (rules_of t) → FitUnits r.target
  unfolding rule_of rules_of units_of
  targets_fit r i =
      let f = rule_source t (count_of t) r i in
      let w = (in_standard (target_at t f.index) (target_form t o f.index f.below f.dname)).0 in
      rw f.is (fit_units (labels_of (scan_of (target_at t f.index))) (fit_labels (well_reads (target_at t f.index) w)))

  end_whole : (address : List ℕ) → Small address → length address ≡ address_size → (limit : ℕ) (last : List Unit) (n : ℕ) → walk_of limit 0 (rules_of t) (start_of address) ≡ ended last n → Whole last
  end_whole address s l limit last n e =
      let w = ((walk_is limit (rules_of t) (rules_one t o) (start_of address)).ends last n).0 e in
      path_whole w.path targets_fit (record { fit = fit_start address s l; runs = short_start address s l; short = length_start address s l })

-- a call ends early by its number, or where the walk does
end_early : (t address : List ℕ) (limit room n : ℕ) → early_number t address room ≡ suc n → end_of t address limit room ≡ refused (suc n)
unfolding end_of
end_early t address limit room n e = rw (end_of, e)

end_late : (t address : List ℕ) (limit room : ℕ) → early_number t address room ≡ 0 → end_of t address limit room ≡ walk_of limit 0 (rules_of t) (start_of address)
unfolding end_of
end_late t address limit room e = rw (end_of, e)

-- ---- two tables
module _ (t u : List ℕ) (r : Respelt t u) (o : InOrder t) (p : InOrder u) (s : Small t) (v : Small u) where
  -- the owner and the target of a DNAME have the same keys in both
  owner_keys : (i : ℕ) → i < count_of t → keys (units_of (owner_at t i)) ≡ keys (units_of (owner_at u i))
  owner_keys i h =
      let k : i < count_of u = rw (← r.counts) h in
      same_units_lem (owner_at t i) (owner_at u i) (name_small (owner_slot (record_at t i)) (owner_small (record_at t i) (record_small t i s))) (name_small (owner_slot (record_at u i)) (owner_small (record_at u i) (record_small u i v)))
      (in_standard (owner_at t i) (owner_form t o i h)).0 (in_standard (owner_at u i) (owner_form u p i k)).0 (r.owners i h)

  target_keys : (i : ℕ) → i < count_of t → is_dname (record_at t i) ≡ true → is_dname (record_at u i) ≡ true → keys (units_of (target_at t i)) ≡ keys (units_of (target_at u i))
  target_keys i h d e =
      let k : i < count_of u = rw (← r.counts) h in
      same_units_lem (target_at t i) (target_at u i) (name_small (target_slot (record_at t i)) (target_small (record_at t i) (record_small t i s))) (name_small (target_slot (record_at u i)) (target_small (record_at u i) (record_small u i v)))
      (in_standard (target_at t i) (target_form t o i h d)).0 (in_standard (target_at u i) (target_form u p i k e)).0 (r.targets i h)

  dname_same : (i : ℕ) → i < count_of t → is_dname (record_at t i) ≡ is_dname (record_at u i)
  unfolding is_type
  dname_same i h = ap (λ (k : ℕ). eqb k dname) (r.types i h)

  -- the rules of the first records
  abbrev rule_in : List ℕ → ℕ → List Rule
  rule_in w i = pick (is_dname (record_at w i)) (rule_of (record_at w i) ∷ []) []

  rule_keys : (i : ℕ) → i < count_of t → map key_rule (rule_in t i) ≡ map key_rule (rule_in u i)
  unfolding rule_of
  rule_keys i h = go (is_dname (record_at t i)) refl
    where
      go : (b : Bool) → is_dname (record_at t i) ≡ b → map key_rule (rule_in t i) ≡ map key_rule (rule_in u i)
      go false d = let e = sym (dname_same i h) ∙ d in rw (d, e)
      go true d =
          let e = sym (dname_same i h) ∙ d in
          let a = owner_keys i h in
          let b = target_keys i h d e in
          rw (d, e) (λ j. record { owner = a j; target = b j } ∷ [])

  rules_to_lem : (n : ℕ) → n ≤ count_of t → map key_rule (up_to n (rule_in t)) ≡ map key_rule (up_to n (rule_in u))
  unfolding up_to
  rules_to_lem zero h = refl
  rules_to_lem (suc n) h =
      map-append key_rule (up_to n (rule_in t)) (rule_in t n) ∙ ap₂ (λ (x y : List Rule). x ++ y) (rules_to_lem n (omega arith)) (rule_keys n (omega arith)) ∙ sym (map-append key_rule (up_to n (rule_in u)) (rule_in u n))

  rules_respelt : map key_rule (rules_of t) ≡ map key_rule (rules_of u)
  unfolding rules_of
  rules_respelt = rules_to_lem (count_of t) (omega arith) ∙ ap (λ (n : ℕ). map key_rule (up_to n (rule_in u))) r.counts

  module _ (address : List ℕ) (limit room : ℕ) where
    early_same : early_number t address room ≡ early_number u address room
    unfolding early_number
    early_same = rw (o, p)

    -- Theorem: a walk by either table is refused by the same number, or ends after as many rewrites at names that are the same, unit by unit
    pub ends_respelt : key_end (end_of t address limit room) ≡ key_end (end_of u address limit room)
    ends_respelt = go (early_number u address room) refl
      where
        go : (n : ℕ) → early_number u address room ≡ n → key_end (end_of t address limit room) ≡ key_end (end_of u address limit room)
        go (suc n) e = ap key_end (end_early t address limit room n (early_same ∙ e)) ∙ sym (ap key_end (end_early u address limit room n e))
        go zero e =
            ap key_end (end_late t address limit room (early_same ∙ e)) ∙ walk_keys limit 0 (rules_of t) (start_of address)
            ∙ ap (λ (rules : List Rule). walk_of limit 0 rules (keys (start_of address))) rules_respelt
            ∙ sym (ap key_end (end_late u address limit room e) ∙ walk_keys limit 0 (rules_of u) (start_of address))

    -- Theorem: number, length and rewrites are the same
    pub answer_respelt : reverse_answer t address limit room ≡ reverse_answer u address limit room
    answer_respelt = answer_keys (end_of t address limit room) ∙ ap answer_for ends_respelt ∙ sym (answer_keys (end_of u address limit room))

    -- Theorem: the names that are written are the same
    pub names_respelt : Small address → length address ≡ address_size → Same (end_name (end_of t address limit room)) (end_name (end_of u address limit room))
    names_respelt a l = go (early_number u address room) refl
      where
        ends : (x y : End) → walk_of limit 0 (rules_of t) (start_of address) ≡ x → walk_of limit 0 (rules_of u) (start_of address) ≡ y → key_end x ≡ key_end y → Same (end_name x) (end_name y)
        ends (refused j) (refused k) e f h = refl
        ends (refused j) (ended n k) e f h = let z : ◌≡◌ {A = ℕ} 0 1 = cc in let y : ⊥ = omega arith in absurd y
        ends (ended m j) (refused k) e f h = let z : ◌≡◌ {A = ℕ} 0 1 = cc in let y : ⊥ = omega arith in absurd y
        ends (ended m j) (ended n k) e f h = written_same m n (end_whole t o address a l limit m j e) (end_whole u p address a l limit n k f) cc

        go : (n : ℕ) → early_number u address room ≡ n → Same (end_name (end_of t address limit room)) (end_name (end_of u address limit room))
        go (suc n) e = rw (end_early t address limit room n (early_same ∙ e), end_early u address limit room n e) refl
        go zero e =
            let d = end_late t address limit room (early_same ∙ e) in
            let f = end_late u address limit room e in
            rw (d, f) (ends (walk_of limit 0 (rules_of t) (start_of address)) (walk_of limit 0 (rules_of u) (start_of address)) refl refl (ap key_end (sym d) ∙ ends_respelt ∙ ap key_end f))
