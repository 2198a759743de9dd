-- Laws of the number that a table and a given name earn together.
use Prim.Native.Nat.{ℕ, zero, suc, ◌≤◌, ◌<◌}
use mathlib.Core.Path.{◌≡◌, refl, sym, ◌∙◌, subst}
use mathlib.Core.Bool.{Bool, true, false, not}
use mathlib.Core.List.{List}
use lib.ListN.{length, take}
use native.Mathlib.Omega.{arith}
use borrow.Author.Tests.{not-false}
use Rattle.std.specs.Prelude.{⊤, Result, Ok, Err, MatchResult}
use Rattle.octets.specs.Octets.{Small}
use Rattle.octets.specs.declared.Done.{Done}
use Rattle.octets.specs.declared.Refusal.{Refusal}
use Rattle.octets.specs.Refusals.{code_of, answered}
use Rattle.octets.specs.Answers.{earns, or_else, refusal}
use Rattle.octets.proofs.AnswerLaws.{earns_zero, else_zero, else_kept, else_later}
use Rattle.labels.specs.Scan.{well_formed}
use Rattle.names.specs.Standard.{standard_of, in_standard_form}
use Rattle.names.specs.Name.{held_of}
use Rattle.names.specs.declared.Name.{Name}
use Rattle.names.proofs.NameLaws.{held_part, held_standard}
use Rattle.plan.specs.Check.{check_of, check_answer, entry_number, InOrder}
use Rattle.plan.specs.Faults.{no_place, fault_in, replying, placeless, replied, judged}
use Rattle.plan.specs.declared.Refused.{Refused}
use Rattle.plan.proofs.PlaceLaws.{fault_other, replies, judged_err}
use Rattle.plan.proofs.OrderLaws.{check_most}

module _ (t name : List ℕ) where
  -- refused by the check
  pub entry_refused : (e : Refused) → judged {A = ⊤} (Err e) ≡ replying t (check_answer t) → (code_of e.refusal ≡ entry_number t name) × (e.fault ≡ fault_in t)
  unfolding entry_number
  entry_refused e h = let w = judged_err t e h in (w.1 ∙ sym (else_kept (check_of t) _ w.0), w.2)

  pub entry_name : InOrder t → well_formed name ≡ false → entry_number t name ≡ 4
  unfolding entry_number
  entry_name o w = else_later (check_of t) _ o ∙ rw w

  pub entry_done : InOrder t → well_formed name ≡ true → entry_number t name ≡ 0
  unfolding entry_number
  entry_done o w = else_later (check_of t) _ o ∙ rw w

  -- no number but 0 to 4
  pub entry_most : entry_number t name ≤ 4
  unfolding entry_number
  entry_most = go (check_of t) (well_formed name) (check_most t)
    where
      go : (k : ℕ) (b : Bool) → k ≤ 3 → or_else k (earns (not b) 4 0) ≤ 4
      go zero true h = omega arith
      go zero false h = omega arith
      go (suc k) b h = omega arith

  -- 0 is earned by a table in order and a well-formed name alone
  pub entry_zero : entry_number t name ≡ 0 → InOrder t × (well_formed name ≡ true)
  unfolding entry_number
  entry_zero e =
      let z = else_zero (check_of t) _ e in
      (z.0, not-false (well_formed name) (earns_zero (not (well_formed name)) 3 0 z.1).0)

-- what a table and a name earn, by what came of it
module _ {A : Type 0} (t name : List ℕ) where
  entered_ok : (r : Result A Refused) (x : A) → r ≡ Ok x → MatchResult r (λ x. entry_number t name ≡ 0) (λ x. (code_of x.refusal ≡ entry_number t name) × (x.fault ≡ fault_in t)) → entry_number t name ≡ 0
  entered_ok r x e h = subst (λ (s : Result A Refused). MatchResult s (λ x. entry_number t name ≡ 0) (λ x. (code_of x.refusal ≡ entry_number t name) × (x.fault ≡ fault_in t))) e h

  pub entered_err : (r : Result A Refused) (x : Refused) → r ≡ Err x → MatchResult r (λ x. entry_number t name ≡ 0) (λ x. (code_of x.refusal ≡ entry_number t name) × (x.fault ≡ fault_in t)) → (code_of x.refusal ≡ entry_number t name) × (x.fault ≡ fault_in t)
  entered_err r x e h = subst (λ (s : Result A Refused). MatchResult s (λ x. entry_number t name ≡ 0) (λ x. (code_of x.refusal ≡ entry_number t name) × (x.fault ≡ fault_in t))) e h

-- what `enter` gives to one that takes n octets of the name that it holds: a table in order, and the name's standard form
pub record Enters (t name : List ℕ) (held : Name) (n : ℕ) : Type 0 where
  pub zero : entry_number t name ≡ 0
  pub order : InOrder t
  pub formed : well_formed name ≡ true
  pub fits : n ≤ length held.octets
  pub part : take n held.octets ≡ standard_of name
  pub standing : Small name → in_standard_form (take n held.octets) ≡ true

pub enters : (t name : List ℕ) (held : Name) (n : ℕ) → length held.octets ≡ 255 → (entry_number t name ≡ 0) × (held ≡ held_of name) → (n ≡ held.length) × (n < 256) → Enters t name held n
enters t name held n l h w = record { zero = h.0; order = sound.0; formed = sound.1; fits = omega (arith, w.1); part = part; standing = λ s. rw part (held_standard name s sound.1) }
  where
    sound : InOrder t × (well_formed name ≡ true)
    sound = entry_zero t name h.0

    part : take n held.octets ≡ standard_of name
    part = held_part name held n h.1 w.0 sound.1

-- the same of what `enter` gives, where nothing is refused
pub entered : {A : Type 0} (t name : List ℕ) (r : Result A Refused) (x : A) (held : Name) → r ≡ Ok x
    → MatchResult r (λ x. entry_number t name ≡ 0) (λ x. (code_of x.refusal ≡ entry_number t name) × (x.fault ≡ fault_in t))
    → held ≡ held_of name → length held.octets ≡ 255 → held.length < 256 → Enters t name held held.length
entered t name r x held e h n l m = enters t name held held.length l (entered_ok t name r x e h, n) (refl, m)

-- what an operation on a table replies: done, or refused, where the table is in order
module _ (t : List ℕ) (o : InOrder t) where
  pub order_place : fault_in t ≡ no_place
  order_place = fault_other t (λ e. omega arith) (λ e. omega arith)

  pub reply_done : (d : Done) → replied (Ok d) ≡ replying t (answered (Ok d))
  reply_done d = replies t refl (sym order_place)

  pub reply_refused : (r : Refusal) → replied (Err (placeless r)) ≡ replying t (answered (Err r))
  reply_refused r = replies t refl (sym order_place)

-- refused with the fault of the table
pub reply_fault : (t : List ℕ) (e : Refused) → e.fault ≡ fault_in t → replied (Err e) ≡ replying t (refusal (code_of e.refusal))
reply_fault t e h = replies t refl h
