-- Demand 2 for reverse: the walk ends where the rewriting relation does, and is refused exactly when 01 says so.
use Prim.Native.Nat.{ℕ, zero, suc, ◌+◌, ◌-◌}
use mathlib.Core.Path.{◌≡◌, refl, ap, ◌∙◌, sym}
use mathlib.Core.Bool.{Bool, true, false}
use mathlib.Core.List.{List}
use mathlib.Core.Logic.{◌⊎◌, inl, inr, ⊎_elim, ◌↔◌}
use lib.ListN.{length}
use native.Mathlib.Nat.{add-zero}
use native.Mathlib.Omega.{arith}
use Rattle.names.specs.Standard.{Unit}
use Rattle.plan.specs.Layout.{address_size, name_room}
use Rattle.plan.specs.Check.{InOrder}
use Rattle.rewriting.specs.Rewrite.{rewrite_of, too_large}
use Rattle.reverse.specs.Walk.{start_of, Rule, Due, none, due, due_of, End, refused, ended, walk_of}
use Rattle.reverse.specs.Relation.{Path, here, then, Settles, Exhausts, Outgrows}
use Rattle.reverse.specs.Answers.{rules_of, end_of, answer_for, out_for, reverse_answer, reverse_out}
use Rattle.octets.specs.Answers.{answer_by, out_by}
use Rattle.reverse.specs.Demand.{ReverseIs}
use Rattle.reverse.proofs.TableLaws.{rules_one}
use Rattle.reverse.proofs.ReplyLaws.{late}
use Rattle.reverse.proofs.WalkLaws.{walk_ended, walk_out, walk_large, walk_on}
use Rattle.reverse.proofs.RelationLaws.{OneTarget, due_none, due_some, settled_none, rewrites_due}

-- of a walk from a name: its end is the relation's, 6 and 8 are given exactly when they are due, and no other number is
pub record WalkIs (limit : ℕ) (rules : List Rule) (name : List Unit) : Type 0 where
  pub ends : (last : List Unit) (n : ℕ) → walk_of limit 0 rules name ≡ ended last n ↔ Settles limit rules name last n
  pub six : walk_of limit 0 rules name ≡ refused 6 ↔ Exhausts limit rules name
  pub eight : walk_of limit 0 rules name ≡ refused 8 ↔ Outgrows limit rules name
  pub other : (k : ℕ) → walk_of limit 0 rules name ≡ refused k → (k ≡ 6) ⊎ (k ≡ 8)

-- what an end of the walk says, after `done` rewrites
abbrev Ending : ℕ → ℕ → List Rule → List Unit → End → Type 0
Ending limit done rules name (refused k) = ((k ≡ 6) × Exhausts limit rules name) ⊎ ((k ≡ 8) × Outgrows limit rules name)
Ending limit done rules name (ended last d) = (n : ℕ) × (d ≡ done + n) × Settles limit rules name last n

walk_ending : (limit done : ℕ) (rules : List Rule) (name : List Unit) → Ending limit done rules name (walk_of limit done rules name)
walk_ending zero done rules name = go (due_of rules name) refl
  where
    go : (d : Due) → due_of rules name ≡ d → Ending 0 done rules name (walk_of 0 done rules name)
    go none e = rw (walk_ended 0 done rules name e) (0, sym (add-zero done), record { path = here; settled = due_none rules name e; within = omega arith })
    go (due k t) e = rw (walk_out done k rules name t e) (inl (refl, record { last = name; next = rewrite_of k name t; path = here; due = due_some rules name k t e }))
walk_ending (suc limit) done rules name = go (due_of rules name) refl (λ next. walk_ending limit (done + 1) rules next)
  where
    go : (d : Due) → due_of rules name ≡ d → ((next : List Unit) → Ending limit (done + 1) rules next (walk_of limit (done + 1) rules next)) → Ending (suc limit) done rules name (walk_of (suc limit) done rules name)
    go none e ih = rw (walk_ended (suc limit) done rules name e) (0, sym (add-zero done), record { path = here; settled = due_none rules name e; within = omega arith })
    go (due k t) e ih = size (too_large (rewrite_of k name t)) refl
      where
        lift : (x : End) → too_large (rewrite_of k name t) ≡ false → Ending limit (done + 1) rules (rewrite_of k name t) x → Ending (suc limit) done rules name x
        lift (refused m) f (inl w) = inl (w.0, record { last = w.1.last; next = w.1.next; path = then (due_some rules name k t e) f w.1.path; due = w.1.due })
        lift (refused m) f (inr w) = let b = w.1.within in inr (w.0, record { last = w.1.last; next = w.1.next; n = suc w.1.n; path = then (due_some rules name k t e) f w.1.path; due = w.1.due; large = w.1.large; within = omega arith })
        lift (ended last d) f w = let p = w.1 in let b = w.2.within in (suc w.0, omega arith, record { path = then (due_some rules name k t e) f w.2.path; settled = w.2.settled; within = omega arith })

        size : (x : Bool) → too_large (rewrite_of k name t) ≡ x → Ending (suc limit) done rules name (walk_of (suc limit) done rules name)
        size true f = rw (walk_large limit done k rules name t e f) (inr (refl, record { last = name; next = rewrite_of k name t; n = 0; path = here; due = due_some rules name k t e; large = f; within = omega arith }))
        size false f = rw (walk_on limit done k rules name t e f) (lift (walk_of limit (done + 1) rules (rewrite_of k name t)) f (ih (rewrite_of k name t)))

-- a path of n rewrites takes n of the limit
path_walk : {rules : List Rule} {name last : List Unit} {n : ℕ} → Path rules name n last → OneTarget rules → (total limit done : ℕ) → total ≡ n + limit → walk_of total done rules name ≡ walk_of limit (done + n) rules last
path_walk (here {rules} {name}) one total limit done e =
    let z : total ≡ limit = omega arith in
    rw (z, add-zero done)
path_walk (then {rules} {name} {next} {last} {n} r f p) one zero limit done e = let z : ⊥ = omega arith in absurd z
path_walk (then {rules} {name} {next} {last} {n} r f p) one (suc total) limit done e =
    let c = rewrites_due rules one name next r in
    let d : done + 1 + n ≡ done + suc n = omega arith in
    walk_on total done c.keeps rules name c.target c.chosen (ap too_large c.gives ∙ f) ∙ ap (walk_of total (done + 1) rules) c.gives ∙ path_walk p one total limit (done + 1) (omega arith)
    ∙ ap (λ (i : ℕ). walk_of limit i rules last) d

module _ (limit : ℕ) (rules : List Rule) (one : OneTarget rules) (name : List Unit) where
  settles_walk : (last : List Unit) (n : ℕ) → Settles limit rules name last n → walk_of limit 0 rules name ≡ ended last n
  settles_walk last n s =
      let b = s.within in
      let d : 0 + n ≡ n = omega arith in
      path_walk s.path one limit (limit - n) 0 (omega arith) ∙ walk_ended (limit - n) (0 + n) rules last (settled_none rules last s.settled) ∙ ap (ended last) d

  exhausts_walk : Exhausts limit rules name → walk_of limit 0 rules name ≡ refused 6
  exhausts_walk s =
      let c = rewrites_due rules one s.last s.next s.due in
      path_walk s.path one limit 0 0 (omega arith) ∙ walk_out (0 + limit) c.keeps rules s.last c.target c.chosen

  outgrows_walk : Outgrows limit rules name → walk_of limit 0 rules name ≡ refused 8
  outgrows_walk s =
      let c = rewrites_due rules one s.last s.next s.due in
      let b = s.within in
      path_walk s.path one limit (suc (limit - s.n - 1)) 0 (omega arith) ∙ walk_large (limit - s.n - 1) (0 + s.n) c.keeps rules s.last c.target c.chosen (ap too_large c.gives ∙ s.large)

  -- the theorem
  pub walk_is : WalkIs limit rules name
  walk_is = record {
    ends = λ last n. (λ e. settled last n (rw e at (walk_ending limit 0 rules name)), settles_walk last n);
    six = (λ e. exhausted (rw e at (walk_ending limit 0 rules name)), exhausts_walk);
    eight = (λ e. outgrown (rw e at (walk_ending limit 0 rules name)), outgrows_walk);
    other = λ k e. either k (rw e at (walk_ending limit 0 rules name));
  }
    where
      settled : (last : List Unit) (n : ℕ) → Ending limit 0 rules name (ended last n) → Settles limit rules name last n
      settled last n w = let e : w.0 ≡ n = omega (arith, w.1) in rw (← e) w.2

      exhausted : Ending limit 0 rules name (refused 6) → Exhausts limit rules name
      exhausted (inl w) = w.1
      exhausted (inr w) = let z : ⊥ = omega (arith, w.0) in absurd z

      outgrown : Ending limit 0 rules name (refused 8) → Outgrows limit rules name
      outgrown (inl w) = let z : ⊥ = omega (arith, w.0) in absurd z
      outgrown (inr w) = w.1

      either : (k : ℕ) → Ending limit 0 rules name (refused k) → (k ≡ 6) ⊎ (k ≡ 8)
      either k (inl w) = inl w.0
      either k (inr w) = inr w.0

-- and said of a call
module _ (t address : List ℕ) (limit : ℕ) (o : InOrder t) (l : length address ≡ address_size) where
  walk : WalkIs limit (rules_of t) (start_of address)
  walk = walk_is limit (rules_of t) (rules_one t o) (start_of address)

  whole : (x : End) → walk_of limit 0 (rules_of t) (start_of address) ≡ x → end_of t address limit name_room ≡ x
  whole x e = late t address limit name_room o l refl ∙ e

  -- the answer and the output by the end of the walk
  left : (x : End) → walk_of limit 0 (rules_of t) (start_of address) ≡ x → (reverse_answer t address limit name_room ≡ answer_for x) × (reverse_out t address limit name_room ≡ out_for x name_room)
  left x e = (ap answer_for (whole x e), ap (λ (y : End). out_for y name_room) (whole x e))

  -- Theorem: on input in order the answer is where the rewriting relation ends, or 6 exactly when a rewrite is due with none left, or 8 exactly when
  -- one that is too large comes within the limit
  pub reverse_is : ReverseIs t address limit (reverse_answer t address limit name_room) (reverse_out t address limit name_room)
  unfolding answer_by out_by
  reverse_is = record {
    ways = go (walk_of limit 0 (rules_of t) (start_of address)) refl;
    done = λ last n s. left (ended last n) ((walk.ends last n).1 s);
    six = λ s. left (refused 6) (walk.six.1 s);
    eight = λ s. left (refused 8) (walk.eight.1 s);
  }
    where
      go : (x : End) → walk_of limit 0 (rules_of t) (start_of address) ≡ x
          → ((last : List Unit) × (n : ℕ) × Settles limit (rules_of t) (start_of address) last n) ⊎ (Exhausts limit (rules_of t) (start_of address) ⊎ Outgrows limit (rules_of t) (start_of address))
      go (ended last n) e = inl (last, n, (walk.ends last n).0 e)
      go (refused k) e = inr (⊎_elim (λ h. inl (walk.six.0 (e ∙ ap refused h))) (λ h. inr (walk.eight.0 (e ∙ ap refused h))) (walk.other k e))
